use Rattle.code_file.proofs.Rows.{loop_view}
use Rattle.code_file.proofs.nodes.rounds.Goals as goal

pub returns : goal.returns
returns c = loop_view c.args.place c.args.body c.args.latch
