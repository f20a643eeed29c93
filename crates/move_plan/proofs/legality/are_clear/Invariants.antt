use Rattle.std.proofs.Common.{ℕ, ◌≤◌, ◌⊎◌, ◌↔◌, drop}
use Rattle.std.specs.List.{All, AllByRecursion as Each}
use Rattle.sub_heaps.specs.ByPlace.{end_of}
use Rattle.move_plan.specs.inner.Spans.{AreInOrder, IsClearOf}
use Rattle.move_plan.proofs.legality.are_clear.Given as goal

-- the objects are clear of all targets where they are of those that are left, and those that the walk passed end below these
abbrev pub invariant-loop-target : goal.invariant-loop-target
invariant-loop-target l = record {
  below : (low : ℕ) × (AreInOrder low (drop l.target-index l.targets) × All (λ o. (l.from ≤ o.at) ⊎ (end_of o ≤ low)) l.heaps.objects);
  clear : Each (λ to. All (IsClearOf l.origins to) l.heaps.objects) (drop l.target-index l.targets) ↔ All (λ to. All (IsClearOf l.origins to) l.heaps.objects) l.targets;
}
