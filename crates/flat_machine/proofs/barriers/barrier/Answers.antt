use Rattle.std.proofs.Common.{◌≡◌, ℕ, [], ◌∷◌, length, sym, ap, ◌∙◌, subst, arith}
use Rattle.ak_trace.specs.declared.entry.Entry.{Entry}
use Rattle.ak_trace.specs.Kinds as kind
use Rattle.flat_rules.specs.Entries.{barrier_entry}
use Rattle.flat_rules.specs.Lawful.{AreHome}
use Rattle.flat_machine.specs.Machine.{machine_of}
use Rattle.flat_machine.specs.Shares.{Shared}
use Rattle.flat_meaning.specs.Memory.{serving}
use Rattle.flat_machine.specs.inner.Dones.{with_memory}
use Rattle.flat_machine.specs.inner.Swept.{AreServed}
use Rattle.flat_machine.proofs.Slid.{barrier_home, barrier_shared}
use Rattle.flat_machine.proofs.barriers.barrier.Goals.{then-for_room, else-for_room}
use Rattle.flat_machine.proofs.barriers.barrier.Goals as goal

pub serve_all-requires-clause-home : goal.serve_all-requires-clause-home
serve_all-requires-clause-home c =
    subst (λ (v : Shared). AreHome (machine_of c.args.program.now) v c.args.home.now) (sym (c.begin_to_serve.ensures ∙ ap (λ (v : Shared). with_memory v (serving v.memory)) (c.tell.ensures ∙ ap (λ (v : Shared). record v { made = c.entry.result ∷ [] }) c.sweep.ensures))) c.requires.home

pub serve_all-requires-clause-few : goal.serve_all-requires-clause-few
serve_all-requires-clause-few c =
    let same : length c.begin_to_serve.new.self.memory.threads ≡ length c.args.shared.now.memory.threads = ap (λ (v : Shared). length v.memory.threads) (c.begin_to_serve.ensures ∙ ap (λ (v : Shared). with_memory v (serving v.memory)) (c.tell.ensures ∙ ap (λ (v : Shared). record v { made = c.entry.result ∷ [] }) c.sweep.ensures)) in
    omega (arith, same, c.requires.shared.few)

pub serve_all-requires-clause-one : goal.serve_all-requires-clause-one
serve_all-requires-clause-one c = ap (λ (v : Shared). length v.made) (c.begin_to_serve.ensures ∙ ap (λ (v : Shared). with_memory v (serving v.memory)) (c.tell.ensures ∙ ap (λ (v : Shared). record v { made = c.entry.result ∷ [] }) c.sweep.ensures))

pub serve_all-requires-clause-serves : goal.serve_all-requires-clause-serves
serve_all-requires-clause-serves c = ap (λ (v : Shared). v.memory.leaving) (c.begin_to_serve.ensures ∙ ap (λ (v : Shared). with_memory v (serving v.memory)) (c.tell.ensures ∙ ap (λ (v : Shared). record v { made = c.entry.result ∷ [] }) c.sweep.ensures))

-- a barrier's entry, by how it is told
abbrev entry_how : ℕ → Entry
entry_how h = record { kind = kind.barrier; worker = 0; thread = 0; how = h; local = 0; zero = 0; id = 0; place = 0 }

pub returns-clause-shared : goal.returns-clause-shared
returns-clause-shared c =
    let code = c.args.program.now in
    let served = subst (λ (v : Shared). AreServed code v c.serve_all.new.shared c.args.home.now c.serve_all.new.home) (c.begin_to_serve.ensures ∙ ap (λ (v : Shared). with_memory v (serving v.memory)) (c.tell.ensures ∙ ap (λ (v : Shared). record v { made = c.entry.result ∷ [] }) c.sweep.ensures)) c.serve_all.ensures in
    let entry : c.entry.result ≡ barrier_entry 0 c.wants_room-for_room.result =
    elim c.if-for_room.branch [
      | then-for_room w ↦ c.entry.ensures ∙ ap entry_how w.entry-is ∙ ap (barrier_entry 0) (sym w.if-for_room.true)
      | else-for_room w ↦ c.entry.ensures ∙ ap entry_how w.entry-is ∙ ap (barrier_entry 0) (sym w.if-for_room.false)
    ] in
    barrier_shared code c.args.shared.now c.args.home.now c.entry.result c.serve_all.new.shared c.leave.new.self c.serve_all.new.home c.wants_room-for_room.result served c.leave.ensures entry c.wants_room-for_room.ensures

pub returns-clause-home : goal.returns-clause-home
returns-clause-home c =
    let code = c.args.program.now in
    let served = subst (λ (v : Shared). AreServed code v c.serve_all.new.shared c.args.home.now c.serve_all.new.home) (c.begin_to_serve.ensures ∙ ap (λ (v : Shared). with_memory v (serving v.memory)) (c.tell.ensures ∙ ap (λ (v : Shared). record v { made = c.entry.result ∷ [] }) c.sweep.ensures)) c.serve_all.ensures in
    barrier_home code c.args.shared.now c.args.home.now c.entry.result c.serve_all.new.shared c.serve_all.new.home served
