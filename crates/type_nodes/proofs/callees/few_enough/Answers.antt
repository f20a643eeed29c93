use Rattle.std.proofs.Common.{arith}
use Rattle.c_tree.specs.SyntaxViews.{expr_view}
use Rattle.type_nodes.proofs.Counting.{none_behind, one_behind, too_many}
use Rattle.type_nodes.proofs.callees.few_enough.Goals as goal

pub returns-then-rest-le16 : goal.returns-then-rest-le16
returns-then-rest-le16 c = none_behind expr_view 16 c.args.rest.now (omega arith)

pub returns : goal.returns
returns c = too_many _ _ _ c.node_place-place.ensures (one_behind expr_view 16 c.args.rest.now _ (omega arith) c.index-rest-16.is)
