use Rattle.source_tree.proofs.Views.{shared_switch}
use Rattle.source_tree.proofs.share_stmts.shared_switch.Goals as goal

pub returns : goal.returns
returns c = shared_switch c.args.place c.args.e c.args.labels c.args.body
