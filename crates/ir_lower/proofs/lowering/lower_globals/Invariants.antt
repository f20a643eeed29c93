use Rattle.std.proofs.Common.{◌≡◌, ◌++◌, map, drop}
use Rattle.c_tree.specs.TypedViews.{layout_view, global_view}
use Rattle.struct_ir.specs.Views.{global_view as ir_global_view}
use Rattle.lower_forms.specs.Programs.{globals_lowered}
use Rattle.ir_lower.proofs.lowering.lower_globals.Given as goal

-- so far
abbrev pub invariant-loop-g : goal.invariant-loop-g
invariant-loop-g l = map ir_global_view l.all.items ++ globals_lowered (map layout_view l.structs) (map global_view (drop l.g-index l.globals)) ≡ globals_lowered (map layout_view l.structs) (map global_view l.globals)
