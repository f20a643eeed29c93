use Rattle.std.proofs.Common.{◌≡◌, ◌≤◌, drop, map}
use Rattle.std.specs.Prelude.{sum_by}
use Rattle.c_tree.specs.TypedForm.{taken}
use Rattle.struct_ir.specs.Views.{global_view}
use Rattle.code_load.specs.inner.Rooms.{without}
use Rattle.code_load.proofs.plain.behind_globals.Given as goal

-- what is left decides
abbrev pub invariant-loop-global : goal.invariant-loop-global
invariant-loop-global l = record {
  small : l.left ≤ 1048576;
  decides : without l.left (sum_by (λ g. taken g.size) (map global_view (drop l.global-index l.globals))) ≡ without l.room (sum_by (λ g. taken g.size) (map global_view l.globals));
}
