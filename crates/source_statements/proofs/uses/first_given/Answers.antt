use Rattle.std.proofs.Common.{rules}
use Rattle.std.proofs.lemmas.Result.{IfOk-weaker}
use Rattle.source_tree.specs.SharedViews.{expr_of}
use Rattle.source_state.specs.Operations.{binary_of}
use Rattle.source_statements.proofs.Resuming.{first_continues}
use Rattle.source_statements.proofs.uses.first_given.Goals as goal

pub returns : goal.returns
returns c =
    IfOk-weaker c.second.result _ _ (λ g e. first_continues _ _ _ _ c.args.place (binary_of c.args.op) c.args.v (expr_of c.args.right.now.value) _ _ _ e c.store.ensures (search rules))
    c.second.ensures
