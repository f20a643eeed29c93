use Rattle.struct_ir.proofs.Views.{if_view}
use Rattle.pin_flow.proofs.copies.branches.Goals as goal

pub returns : goal.returns
returns c = if_view c.args.place c.args.temp c.args.one c.args.other
