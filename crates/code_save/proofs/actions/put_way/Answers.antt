use Rattle.code_save.proofs.Writing.{on_ok}
use Rattle.code_save.proofs.Tags.{change_wrote}
use Rattle.code_save.proofs.actions.put_way.Goals as goal

pub returns : goal.returns
returns c = on_ok c.put.result (change_wrote c.args.how c.change_number.result c.change_number.ensures) c.put.ensures
