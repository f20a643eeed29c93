use Rattle.std.proofs.Common.{rules}
use Rattle.source_tree.specs.SharedViews.{expr_of}
use Rattle.source_statements.proofs.Walking.{returned_exit}
use Rattle.source_statements.proofs.statements.return_some.Goals as goal

pub returns : goal.returns
returns c = λ function k. returned_exit _ function _ _ _ (expr_of c.args.e.now.value) _ _ _ c.in-Gives.v k c.in_ok-flow.ensures c.store.ensures (search rules) c.in-Gives.is (search rules)
