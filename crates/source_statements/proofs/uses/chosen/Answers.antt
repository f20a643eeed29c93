use Rattle.std.proofs.Common.{rules}
use Rattle.std.proofs.lemmas.Result.{IfOk-weaker}
use Rattle.source_tree.specs.SharedViews.{expr_of}
use Rattle.source_statements.proofs.Resuming.{choice_broke, choice_one, choice_other}
use Rattle.source_statements.proofs.uses.chosen.Goals as goal

pub returns-in-Err : goal.returns-in-Err
returns-in-Err c =
    choice_broke _ _ c.args.store.now.now c.args.place (expr_of c.args.one.now.value) (expr_of c.args.other.now.value) c.args.v _ c.in-Err.rule (search rules)

pub returns-then-holds : goal.returns-then-holds
returns-then-holds c =
    IfOk-weaker c.expr.result _ _ (λ g e. choice_one _ _ c.args.store.now.now _ c.args.place (expr_of c.args.one.now.value) (expr_of c.args.other.now.value) _ c.args.v _ c.in-Ok.holds _ (search rules) c.if-holds.true e c.store-then-holds.ensures (search rules))
    c.expr.ensures

pub returns-else-holds : goal.returns-else-holds
returns-else-holds c =
    IfOk-weaker c.expr-else-holds.result _ _ (λ g e. choice_other _ _ c.args.store.now.now _ c.args.place (expr_of c.args.one.now.value) (expr_of c.args.other.now.value) _ c.args.v _ c.in-Ok.holds _ (search rules) c.if-holds.false e c.store-else-holds.ensures (search rules))
    c.expr-else-holds.ensures
