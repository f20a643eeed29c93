use Rattle.std.proofs.Common.{◌≡◌, ◌++◌, map, drop}
use Rattle.c_tree.specs.TypedViews.{layout_view, local_view}
use Rattle.struct_ir.specs.Views.{object_view}
use Rattle.lower_forms.specs.Programs.{objects_of}
use Rattle.ir_lower.proofs.lowering.objects.Given as goal

-- so far
abbrev pub invariant-loop-l : goal.invariant-loop-l
invariant-loop-l l = map object_view l.all.items ++ objects_of (map layout_view l.structs) (map local_view (drop l.l-index l.locals)) ≡ objects_of (map layout_view l.structs) (map local_view l.locals)
