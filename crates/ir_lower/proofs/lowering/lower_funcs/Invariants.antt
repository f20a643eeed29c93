use Rattle.std.proofs.Common.{◌≡◌, ◌++◌, map, drop}
use Rattle.std.specs.List.{AllByRecursion}
use Rattle.c_tree.specs.TypedViews.{layout_view, func_view as tree_func_view}
use Rattle.struct_ir.specs.Views.{func_view}
use Rattle.lower_forms.specs.Programs.{HasParams, funcs_lowered}
use Rattle.ir_lower.proofs.lowering.lower_funcs.Given as goal

-- so far; and the functions that are left have their parameters
pub record Left (same have : Type 0) : Type 0 where
  pub so_far : same
  pub left : have

abbrev pub invariant-loop-i : goal.invariant-loop-i
invariant-loop-i l = Left
    (map func_view l.all.items ++ funcs_lowered (map layout_view l.structs) l.main l.i (map tree_func_view (drop l.i l.funcs)) ≡ funcs_lowered (map layout_view l.structs) l.main 0 (map tree_func_view l.funcs))
    (AllByRecursion HasParams (map tree_func_view (drop l.i l.funcs)))
