use Rattle.struct_ir.proofs.Views.{loop_view}
use Rattle.pin_flow.proofs.copies.rounds.Goals as goal

pub returns : goal.returns
returns c = loop_view c.args.place c.args.body c.args.step
