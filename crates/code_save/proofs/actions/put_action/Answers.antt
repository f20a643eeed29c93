use Rattle.struct_ir.specs.Views.{action_view}
use Rattle.code_save.proofs.Writing.{on_ok}
use Rattle.code_save.proofs.Parts.{action_wrote}
use Rattle.code_save.proofs.actions.put_action.Goals as goal

pub returns : goal.returns
returns c = on_ok c.put_action_fields.result (action_wrote (action_view c.args.action.now) c.action_tag.result c.action_tag.ensures c.in_ok-put.ensures) c.put_action_fields.ensures
