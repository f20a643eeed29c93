use Rattle.std.proofs.Common.{◌≡◌, ◌≤◌, drop, length, map}
use Rattle.std.specs.Prelude.{sum_by}
use Rattle.c_tree.specs.TypedForm.{taken}
use Rattle.c_tree.specs.TypedViews.{literal_view}
use Rattle.code_load.specs.inner.Rooms.{without}
use Rattle.code_load.proofs.plain.behind_literals.Given as goal

-- what is left decides
abbrev pub invariant-loop-literal : goal.invariant-loop-literal
invariant-loop-literal l = record {
  small : l.left ≤ 1048576;
  decides : without l.left (sum_by (λ bs. taken (length bs)) (map literal_view (drop l.literal-index l.literals))) ≡ without l.room (sum_by (λ bs. taken (length bs)) (map literal_view l.literals));
}
