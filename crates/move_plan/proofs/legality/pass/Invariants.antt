use Rattle.std.proofs.Common.{◌≤◌, ◌⊎◌, ◌↔◌, length}
use Rattle.std.specs.List.{All, AllByRecursion as Each}
use Rattle.sub_heaps.specs.ByPlace.{end_of}
use Rattle.move_plan.specs.inner.Spans.{IsClearOf}
use Rattle.move_plan.proofs.Rest.{rest_from}
use Rattle.move_plan.proofs.legality.pass.Given as goal

-- all objects are clear of the target where those that are left are, and those that the walk passed end no higher than it
abbrev pub invariant-loop-object : goal.invariant-loop-object
invariant-loop-object l = record {
  below : All (λ o. (l.from ≤ o.at) ⊎ (end_of o ≤ end_of l.target)) l.heaps.objects;
  clear : Each (IsClearOf l.origins l.target) (rest_from l.from l.heaps.objects) ↔ All (IsClearOf l.origins l.target) l.heaps.objects;
}

abbrev pub decreases-loop-object : goal.decreases-loop-object
decreases-loop-object l = length (rest_from l.from l.heaps.objects)
