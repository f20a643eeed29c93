use Rattle.struct_ir.specs.Views.{global_view}
use Rattle.code_file.specs.Files.{global}
use Rattle.std.proofs.Common.{true}
use Rattle.code_save.proofs.Writing.{first_writes, item_writes, all_wrote, plain_wrote}
use Rattle.code_save.proofs.files.put_globals.Goals as goal

pub loop-global-init : goal.loop-global-init
loop-global-init c = first_writes (global) (global_view) (λ x. true) c.args.globals.now c.in_ok-put_count.ensures

pub loop-global-preserved : goal.loop-global-preserved
loop-global-preserved c = item_writes (global) (global_view) (λ x. true) c.args.globals.now c.loop-global.global-index c.global-item.result c.loop-global-test.true c.global-item.is (c.in_ok-put_global.ensures) c.loop-global.invariant

pub returns : goal.returns
returns c = plain_wrote global global_view c.args.globals.now (all_wrote (global) (global_view) (λ x. true) c.args.globals.now c.loop-global.global-index c.loop-global-test.false c.loop-global.invariant)
