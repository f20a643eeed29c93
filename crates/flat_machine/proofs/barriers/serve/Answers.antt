use Rattle.std.proofs.Common.{◌≡◌, ◌<◌, ◌++◌, None, [], ◌∷◌, length, map, true, sym, ap, ◌∙◌, subst, arith}
use Rattle.struct_ir.specs.Instrs.{acts}
use Rattle.struct_ir.specs.Nodes.{Step, step}
use Rattle.struct_ir.specs.Linear.{Spot}
use Rattle.struct_ir.specs.Machine.{Point}
use Rattle.struct_ir.specs.InstrViews.{instr_view, instr_kind_view}
use Rattle.struct_ir.specs.Views.{step_view}
use Rattle.flat_meaning.specs.Actions.{acted_on_memory}
use Rattle.flat_meaning.specs.Ready.{takes_room}
use Rattle.flat_meaning.specs.Words.{Words, target_of, word_at}
use Rattle.flat_threads.specs.Deeds.{landed_stage, top_of}
use Rattle.flat_threads.specs.Contexts.{Context, IsInCall, IsListFor, standing}
use Rattle.flat_rules.specs.Entries.{served_with}
use Rattle.flat_machine.specs.declared.done.Done.TheVariants as dones
use Rattle.flat_machine.specs.Choices.{action_choice, served_choice}
use Rattle.flat_machine.specs.Shares.{Shared, image_of}
use Rattle.flat_machine.specs.Turns.{malloc_turned}
use Rattle.flat_machine.specs.inner.Acted.{IsStepOf}
use Rattle.flat_machine.specs.inner.Dones.{Does}
use Rattle.flat_machine.specs.inner.Swept.{object_told}
use Rattle.flat_machine.specs.inner.Turneds.{turned_view}
use Rattle.flat_machine.specs.lemmas.Steps.{step_fits}
use Rattle.flat_machine.specs.lemmas.Waiting.{before_malloc, list_before, served_is}
use Rattle.flat_machine.specs.lemmas.Serving.{gives}
use Rattle.flat_machine.proofs.Doing.{went_only}
use Rattle.flat_machine.proofs.barriers.serve.Goals as goal

pub serve-requires-clause-call : goal.serve-requires-clause-call
serve-requires-clause-call c =
    let b = before_malloc c.args.program.now c.args.ctx.now (instr_view c.instr.result.now) c.requires.of c.requires.waits c.instr.ensures.is in
    let view : acts c.instr.result.now.place (step (step_view c.in-Step.node.value)) ≡ instr_view c.instr.result.now = ap (instr_kind_view c.instr.result.now.place) (sym c.in-Step.is) in
    let same : step_view c.deref.result.now ≡ b.at.node = let w = view ∙ b.at.is in let held : step_view c.in-Step.node.value ≡ b.at.node = cc in ap step_view c.deref.ensures ∙ held in
    subst IsInCall (sym b.is) tt

pub serve-requires-clause-step : goal.serve-requires-clause-step
serve-requires-clause-step c =
    let b = before_malloc c.args.program.now c.args.ctx.now (instr_view c.instr.result.now) c.requires.of c.requires.waits c.instr.ensures.is in
    let view : acts c.instr.result.now.place (step (step_view c.in-Step.node.value)) ≡ instr_view c.instr.result.now = ap (instr_kind_view c.instr.result.now.place) (sym c.in-Step.is) in
    let same : step_view c.deref.result.now ≡ b.at.node = let w = view ∙ b.at.is in let held : step_view c.in-Step.node.value ≡ b.at.node = cc in ap step_view c.deref.ensures ∙ held in
    let fits : IsStepOf b.thread.top.own b.at.node = step_fits b.at.scope b.thread.top.own b.at.node b.at.temps b.at.slots b.at.valid in
    subst (λ (s : Step). IsStepOf (top_of c.args.ctx.now).own s) (sym same) (subst (λ (q : Point Spot Words). IsStepOf q.own b.at.node) (sym b.top) fits)

pub tell_served-requires-clause-room : goal.tell_served-requires-clause-room
tell_served-requires-clause-room c =
    let b = before_malloc c.args.program.now c.args.ctx.now (instr_view c.instr.result.now) c.requires.of c.requires.waits c.instr.ensures.is in
    let view : acts c.instr.result.now.place (step (step_view c.in-Step.node.value)) ≡ instr_view c.instr.result.now = ap (instr_kind_view c.instr.result.now.place) (sym c.in-Step.is) in
    let same : step_view c.deref.result.now ≡ b.at.node = let w = view ∙ b.at.is in let held : step_view c.in-Step.node.value ≡ b.at.node = cc in ap step_view c.deref.ensures ∙ held in
    let takes : takes_room (step_view c.deref.result.now).action ≡ true = ap (λ (s : Step). takes_room s.action) same ∙ b.at.action in
    omega (arith, c.requires.room, ap (λ (v : Shared). length v.made) (c.in-Went.ensures.does c.args.program.now takes).left)

pub returns-in_default-serve : goal.returns-in_default-serve
returns-in_default-serve c =
    let b = before_malloc c.args.program.now c.args.ctx.now (instr_view c.instr.result.now) c.requires.of c.requires.waits c.instr.ensures.is in
    let view : acts c.instr.result.now.place (step (step_view c.in-Step.node.value)) ≡ instr_view c.instr.result.now = ap (instr_kind_view c.instr.result.now.place) (sym c.in-Step.is) in
    let same : step_view c.deref.result.now ≡ b.at.node = let w = view ∙ b.at.is in let held : step_view c.in-Step.node.value ≡ b.at.node = cc in ap step_view c.deref.ensures ∙ held in
    let code = c.args.program.now in
    let old = c.args.shared.now in
    let ctx = c.args.ctx.now in
    let takes : takes_room (step_view c.deref.result.now).action ≡ true = ap (λ (s : Step). takes_room s.action) same ∙ b.at.action in
    let given = gives (image_of code old).layout ctx.number b.thread.top.own (length b.thread.top.own.temps) b.at.node b.at.has old.memory c.requires.serves in
    let done_at = λ (q : Point Spot Words) (s : Step). acted_on_memory (image_of code old).layout ctx.number (action_choice (served_choice old.memory.storage) q.own s.action s.temps) s.action (map (target_of q.own) s.places) (map (word_at q.own) s.temps) old.memory in
    let did = (c.serve.ensures.does code takes).done_ ∙ ap (λ (s : Step). done_at (top_of ctx) s) same ∙ ap (λ (q : Point Spot Words). done_at q b.at.node) b.top ∙ given.is in
    let went = went_only c.serve.result c.serve.new.self.memory given.word given.after did in
    absurd (c.in_default-serve.not-Went went.0 went.1 went.2)

pub land-requires-clause-to : goal.land-requires-clause-to
land-requires-clause-to c = λ r e.
    let b = before_malloc c.args.program.now c.args.ctx.now (instr_view c.instr.result.now) c.requires.of c.requires.waits c.instr.ensures.is in
    let view : acts c.instr.result.now.place (step (step_view c.in-Step.node.value)) ≡ instr_view c.instr.result.now = ap (instr_kind_view c.instr.result.now.place) (sym c.in-Step.is) in
    let same : step_view c.deref-in-Went.result.now ≡ b.at.node = let w = view ∙ b.at.is in let held : step_view c.in-Step.node.value ≡ b.at.node = cc in ap step_view c.deref-in-Went.ensures ∙ held in
    let long : length b.thread.top.own.temps ≡ length (top_of c.args.ctx.now).own.temps = ap (λ (q : Point Spot Words). length q.own.temps) (sym b.top) in
    subst (λ n. r < n) long (b.at.has.to r (ap (λ (s : Step). s.to) (sym same) ∙ e))

pub land-requires-clause-index : goal.land-requires-clause-index
land-requires-clause-index c = c.instr.ensures.small

pub land-requires-clause-list : goal.land-requires-clause-list
land-requires-clause-list c =
    let b = before_malloc c.args.program.now c.args.ctx.now (instr_view c.instr.result.now) c.requires.of c.requires.waits c.instr.ensures.is in
    let view : acts c.instr.result.now.place (step (step_view c.in-Step.node.value)) ≡ instr_view c.instr.result.now = ap (instr_kind_view c.instr.result.now.place) (sym c.in-Step.is) in
    let same : step_view c.deref-in-Went.result.now ≡ b.at.node = let w = view ∙ b.at.is in let held : step_view c.in-Step.node.value ≡ b.at.node = cc in ap step_view c.deref-in-Went.ensures ∙ held in
    subst (λ (s : Step). IsListFor (top_of c.args.ctx.now).own s.slots) (sym same) (list_before c.args.program.now c.args.ctx.now (instr_view c.instr.result.now) c.requires.of b)

pub returns-in-Went : goal.returns-in-Went
returns-in-Went c =
    let b = before_malloc c.args.program.now c.args.ctx.now (instr_view c.instr.result.now) c.requires.of c.requires.waits c.instr.ensures.is in
    let view : acts c.instr.result.now.place (step (step_view c.in-Step.node.value)) ≡ instr_view c.instr.result.now = ap (instr_kind_view c.instr.result.now.place) (sym c.in-Step.is) in
    let same : step_view c.deref.result.now ≡ b.at.node = let w = view ∙ b.at.is in let held : step_view c.in-Step.node.value ≡ b.at.node = cc in ap step_view c.deref.ensures ∙ held in
    let landed : step_view c.deref-in-Went.result.now ≡ b.at.node = let w = view ∙ b.at.is in let held : step_view c.in-Step.node.value ≡ b.at.node = cc in ap step_view c.deref-in-Went.ensures ∙ held in
    let code = c.args.program.now in
    let old = c.args.shared.now in
    let mid = c.serve.new.self in
    let ctx = c.args.ctx.now in
    let word = c.in-Went.word in
    let turned = c.in-Went.turned in
    let takes : takes_room (step_view c.deref.result.now).action ≡ true = ap (λ (s : Step). takes_room s.action) same ∙ b.at.action in
    let does_at = λ (q : Point Spot Words) (s : Step). Does old mid (dones.Went word turned) (acted_on_memory (image_of code old).layout ctx.number (action_choice (served_choice old.memory.storage) q.own s.action s.temps) s.action (map (target_of q.own) s.places) (map (word_at q.own) s.temps) old.memory) in
    let told_at = λ (q : Point Spot Words) (s : Step). turned_view turned ≡ malloc_turned (action_choice (served_choice old.memory.storage) q.own s.action s.temps) in
    served_is code old mid c.tell_served.new.self ctx c.land.new.self (instr_view c.instr.result.now) b word turned
    (subst (λ (q : Point Spot Words). does_at q b.at.node) b.top (subst (λ (s : Step). does_at (top_of ctx) s) same (c.in-Went.ensures.does code takes)))
    (subst (λ (q : Point Spot Words). told_at q b.at.node) b.top (subst (λ (s : Step). told_at (top_of ctx) s) same (c.in-Went.ensures.told takes)))
    (c.land.ensures ∙ ap (λ s. standing ctx (landed_stage s ctx.stage word) None) landed)
    (c.tell_served.ensures ∙ ap (λ k. record mid { made = mid.made ++ served_with 0 k (object_told turned) ∷ [] }) (c.thread.ensures.number ∙ ap (λ (v : Context). v.number) c.land.ensures))
