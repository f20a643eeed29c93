use Rattle.struct_ir.specs.Views.{object_view}
use Rattle.code_file.specs.Files.{object}
use Rattle.std.proofs.Common.{true}
use Rattle.std.proofs.Common.{drop}
use Rattle.code_save.proofs.Writing.{WritesAll}
use Rattle.code_save.proofs.files.put_objects.Given as goal

-- what is left makes the whole
abbrev pub invariant-loop-object : goal.invariant-loop-object
invariant-loop-object l = WritesAll (object) (object_view) (λ x. true) (drop l.object-index l.objects) l.objects l.fn.out l.out
