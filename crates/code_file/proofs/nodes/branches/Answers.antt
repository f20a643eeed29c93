use Rattle.code_file.proofs.Rows.{if_view}
use Rattle.code_file.proofs.nodes.branches.Goals as goal

pub returns : goal.returns
returns c = if_view c.args.place c.args.temp c.args.one c.args.other
