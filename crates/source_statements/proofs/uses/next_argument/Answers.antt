use Rattle.std.proofs.Common.{◌++◌, ◌∷◌, [], rules}
use Rattle.std.proofs.lemmas.Result.{IfOk-weaker}
use Rattle.source_tree.specs.SharedViews.{args_of}
use Rattle.source_state.specs.Views.{callee_of, values_of, wait_of}
use Rattle.source_statements.proofs.Resuming.{next_call}
use Rattle.source_statements.proofs.uses.next_argument.Goals as goal

pub returns : goal.returns
returns c =
    IfOk-weaker c.arguments.result _ _ (λ g e. next_call _ _ _ _ c.args.place (callee_of c.args.callee.now.value) _ (args_of c.args.rest.now.value) _ (values_of c.args.before.now.value ++ c.args.v ∷ []) (wait_of c.args.wait.now) _
    e c.store-found.ensures (search rules) c.in_ok-all.ensures)
    c.arguments.ensures
