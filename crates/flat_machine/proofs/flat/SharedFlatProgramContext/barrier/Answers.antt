use Rattle.std.proofs.Common.{◌≡◌, Bool, List, [], ◌∷◌, map, Option, Some, None, refl, ap, ◌∙◌}
use Rattle.std.specs.Prelude.{count_by, nat_lt}
use Rattle.ak_trace.specs.declared.entry.Entry.{Entry}
use Rattle.struct_ir.specs.Instrs.{LinearCode}
use Rattle.flat_meaning.specs.Events.{Serve}
use Rattle.flat_rules.specs.Entries.{barrier_entry, served_entry}
use Rattle.flat_rules.specs.Lawful as rules
use Rattle.flat_threads.specs.Contexts.{Context}
use Rattle.flat_machine.specs.Machine.{machine_of}
use Rattle.flat_machine.specs.Shares.{image_of}
use Rattle.flat_machine.specs.Sweeping.{at_home, served_of, sweep_serves, waits_at_home}
use Rattle.flat_machine.proofs.flat.SharedFlatProgramContext.barrier.Goals as goal

same_waits : (code : LinearCode) (p : Option Context) → waits_at_home p ≡ rules.waits_at_home (machine_of code) p
same_waits code None = refl
same_waits code (Some c) = refl

told_twice : (vs : List Serve) → map (λ v. served_entry 0 (served_of v)) vs ≡ map (served_entry 0) (map served_of vs)
told_twice [] = refl
told_twice (v ∷ vs) = ap (λ (es : List Entry). served_entry 0 (served_of v) ∷ es) (told_twice vs)

pub returns-clause-made : goal.returns-clause-made
returns-clause-made c =
    let code : LinearCode = c.args.code.now in
    let home : List (Option Context) = c.args.home.now in
    let vs = sweep_serves (image_of code c.args.self.now) (at_home c.args.self.now home) in
    let same : waits_at_home ≡ rules.waits_at_home (machine_of code) = λ i p. same_waits code p i in
    ap (λ (w : Option Context → Bool). barrier_entry 0 (nat_lt 0 (count_by w home)) ∷ map (λ v. served_entry 0 (served_of v)) vs) same
    ∙ ap (λ (es : List Entry). barrier_entry 0 (nat_lt 0 (count_by (rules.waits_at_home (machine_of code)) home)) ∷ es) (told_twice vs)
