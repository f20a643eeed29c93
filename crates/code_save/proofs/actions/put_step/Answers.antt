use Rattle.code_save.proofs.Writing.{on_ok}
use Rattle.code_save.proofs.Parts.{step_wrote}
use Rattle.code_save.proofs.actions.put_step.Goals as goal

pub returns : goal.returns
returns c = on_ok c.put_numbers-2.result (step_wrote c.args.step.now c.deref.result.now c.deref-2.result.now c.deref-3.result.now c.deref.ensures c.deref-2.ensures c.deref-3.ensures c.in_ok-put_action.ensures c.in_ok-put_places.ensures c.in_ok-put_option.ensures c.in_ok-put_numbers.ensures) c.put_numbers-2.ensures
