use Rattle.std.proofs.Common.{[], sym, subst, ◌∙◌}
use Rattle.move_plan.specs.inner.Spans.{AreSorted, origin}
use Rattle.move_plan.proofs.Spans.{AreSorted-spans}
use Rattle.move_plan.proofs.moves.Plan.origins.Goals as goal

pub returns-clause-sorted : goal.returns-clause-sorted
returns-clause-sorted c =
    subst (AreSorted 0) (sym (c.deref.ensures.value ∙ c.self.invariant.in_order_from)) (AreSorted-spans origin 0 [] c.self.inside.moves.items tt)
