use Rattle.struct_ir.specs.Views.{calc_view}
use Rattle.code_save.proofs.Writing.{on_ok}
use Rattle.code_save.proofs.Parts.{calc_wrote}
use Rattle.code_save.proofs.calcs.put_calc.Goals as goal

pub returns : goal.returns
returns c = on_ok c.put_fields.result (calc_wrote (calc_view c.args.calc.now) c.tag_of.result c.tag_of.ensures c.in_ok-put.ensures) c.put_fields.ensures
