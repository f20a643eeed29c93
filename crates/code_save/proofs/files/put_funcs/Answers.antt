use Rattle.struct_ir.specs.Views.{func_view}
use Rattle.code_file.specs.Files.{func}
use Rattle.code_file.specs.Calls.{func_bare}
use Rattle.code_save.specs.inner.Fits.{func_fits}
use Rattle.code_save.proofs.Writing.{first_writes, item_writes, all_wrote, seen_list_wrote}
use Rattle.code_save.proofs.files.put_funcs.Goals as goal

pub loop-f-init : goal.loop-f-init
loop-f-init c = first_writes (func c.args.levels) (λ x. func_bare (func_view x)) (λ x. func_fits c.args.levels (func_view x)) c.args.funcs.now c.in_ok-put_count.ensures

pub loop-f-preserved : goal.loop-f-preserved
loop-f-preserved c = item_writes (func c.args.levels) (λ x. func_bare (func_view x)) (λ x. func_fits c.args.levels (func_view x)) c.args.funcs.now c.loop-f.f-index c.f-item.result c.loop-f-test.true c.f-item.is (c.in_ok-put_func.ensures) c.loop-f.invariant

pub returns : goal.returns
returns c = seen_list_wrote (func c.args.levels) func_view func_bare (func_fits c.args.levels) c.args.funcs.now (all_wrote (func c.args.levels) (λ x. func_bare (func_view x)) (λ x. func_fits c.args.levels (func_view x)) c.args.funcs.now c.loop-f.f-index c.loop-f-test.false c.loop-f.invariant)
