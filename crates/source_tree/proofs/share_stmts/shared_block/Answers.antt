use Rattle.source_tree.proofs.Views.{shared_block}
use Rattle.source_tree.proofs.share_stmts.shared_block.Goals as goal

pub returns : goal.returns
returns c = shared_block c.args.place c.args.body
