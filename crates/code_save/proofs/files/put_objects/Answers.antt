use Rattle.struct_ir.specs.Views.{object_view}
use Rattle.code_file.specs.Files.{object}
use Rattle.std.proofs.Common.{true}
use Rattle.code_save.proofs.Writing.{first_writes, next_writes, all_wrote, plain_wrote}
use Rattle.code_save.proofs.files.put_objects.Goals as goal

pub loop-object-init : goal.loop-object-init
loop-object-init c = first_writes (object) (object_view) (λ x. true) c.args.objects.now c.in_ok-put_count.ensures

pub loop-object-preserved : goal.loop-object-preserved
loop-object-preserved c = next_writes (object) (object_view) (λ x. true) c.args.objects.now c.loop-object.object-index _ c.loop-object-test.true (c.in_ok-put_object.ensures) c.loop-object.invariant

pub returns : goal.returns
returns c = plain_wrote object object_view c.args.objects.now (all_wrote (object) (object_view) (λ x. true) c.args.objects.now c.loop-object.object-index c.loop-object-test.false c.loop-object.invariant)
