use Rattle.std.proofs.Common.{ap}
use Rattle.c_tree.specs.Typed.{at_stmt}
use Rattle.c_tree.proofs.ListedViews.{block_view}
use Rattle.c_types.proofs.makers.block.Goals as goal

pub returns : goal.returns
returns c = ap (at_stmt c.args.place) (block_view c.args.items)
