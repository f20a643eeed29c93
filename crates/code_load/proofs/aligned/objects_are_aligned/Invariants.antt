use Rattle.std.proofs.Common.{◌≡◌, drop, map}
use Rattle.std.specs.List.{list_all}
use Rattle.struct_ir.specs.Views.{object_view}
use Rattle.code_file.specs.Conditions.{is_alignment}
use Rattle.code_load.proofs.aligned.objects_are_aligned.Given as goal

-- what is left decides
abbrev pub invariant-loop-object : goal.invariant-loop-object
invariant-loop-object l = list_all (λ o. is_alignment o.align) (map object_view (drop l.object-index l.objects)) ≡ list_all (λ o. is_alignment o.align) (map object_view l.objects)
