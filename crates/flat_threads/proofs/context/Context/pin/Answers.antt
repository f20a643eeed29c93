use Rattle.std.proofs.Common.{◌≡◌, ◌⊎◌, Some, ap, sym, subst, ◌∙◌}
use Rattle.flat_meaning.specs.Allowed.{handles_here, handles_in}
use Rattle.struct_ir.specs.Linear.{linear}
use Rattle.flat_threads.specs.declared.call.Phase.TheVariants as phases
use Rattle.flat_threads.specs.declared.context.Parts.{Parts}
use Rattle.flat_threads.specs.Contexts.{IsListFor}
use Rattle.flat_threads.specs.inner.Arrays.{stage_of}
use Rattle.flat_threads.specs.inner.Parts.{listed_at}
use Rattle.flat_threads.proofs.Listed.{with_more}
use Rattle.flat_threads.proofs.Pinned.{handles_all, handles_listed, listed_is, pins_of, pins_landed, pins_both, thread_at}
use Rattle.flat_threads.proofs.context.Context.pin.Goals as goal
use Rattle.flat_threads.proofs.context.Context.pin.Goals.{in-Landed, in-Going}

pub pin_top-requires-in-Going-clause-list : goal.pin_top-requires-in-Going-clause-list
pin_top-requires-in-Going-clause-list c =
    let there = thread_at c.args.program.now c.deref-parts.result.now.phase c.deref-parts.result.now.list.items c.deref-parts.result.now.calls c.args.self.now.stage (ap (λ (q : Parts). stage_of q.phase q.list.items q.calls) c.deref-parts.ensures ∙ ap (λ k. k.stage) c.self.view_is) (subst (λ p. (p ≡ phases.Going) ⊎ (p ≡ phases.Waiting)) (ap (λ k. k.phase) c.parts.view_is) c.in-Going.is) c.requires.of.stage in
    subst (IsListFor c.deref-parts.result.now.calls.top.own) (sym (c.list_at-list.ensures ∙ ap (λ k. listed_at ((linear c.args.program.now.funcs).here k.calls.top.at)) c.parts.view_is)) (listed_is c.args.program.now c.requires.of.program c.deref-parts.result.now.calls there)

pub returns-clause-pinned : goal.returns-clause-pinned
returns-clause-pinned c = elim c.match-parts.branch [
  | in-Landed w ↦
      pins_both c.args.into.now c.match-parts.into c.pin_callers.new.into (handles_in c.deref-parts.result.now.calls.top.own (Some c.deref-parts.result.now.list.items)) (handles_all c.args.program.now c.deref-parts.result.now.calls.callers) _
      (w.into-is ∙ (w.pin_top.ensures.pinned ∙ ap (λ l. with_more c.args.into.now (handles_in c.deref-parts.result.now.calls.top.own (Some l))) (w.deref.ensures.value ∙ ap (λ k. k.list.items) c.parts.view_is))) c.pin_callers.ensures.pinned
      (pins_landed c.args.program.now c.deref-parts.result.now.phase c.deref-parts.result.now.list.items c.deref-parts.result.now.calls c.args.self.now.stage (ap (λ (q : Parts). stage_of q.phase q.list.items q.calls) c.deref-parts.ensures ∙ ap (λ k. k.stage) c.self.view_is) (subst (λ p. p ≡ phases.Landed) (ap (λ k. k.phase) c.parts.view_is) w.in-Landed.is))
  | in-Going w ↦
      pins_both c.args.into.now c.match-parts.into c.pin_callers.new.into (handles_here (linear c.args.program.now.funcs) c.deref-parts.result.now.calls.top) (handles_all c.args.program.now c.deref-parts.result.now.calls.callers) _
      (w.into-is ∙ (w.pin_top-in-Going.ensures.pinned
      ∙ (ap (λ l. with_more c.args.into.now (handles_in c.deref-parts.result.now.calls.top.own (Some l))) (w.list_at-list.ensures ∙ ap (λ k. listed_at ((linear c.args.program.now.funcs).here k.calls.top.at)) c.parts.view_is)
      ∙ ap (with_more c.args.into.now) (handles_listed c.deref-parts.result.now.calls.top.own ((linear c.args.program.now.funcs).here c.deref-parts.result.now.calls.top.at))))) c.pin_callers.ensures.pinned
      (pins_of c.args.program.now c.deref-parts.result.now.phase c.deref-parts.result.now.list.items c.deref-parts.result.now.calls c.args.self.now.stage (ap (λ (q : Parts). stage_of q.phase q.list.items q.calls) c.deref-parts.ensures ∙ ap (λ k. k.stage) c.self.view_is) (subst (λ p. (p ≡ phases.Going) ⊎ (p ≡ phases.Waiting)) (ap (λ k. k.phase) c.parts.view_is) w.in-Going.is))
]
