use Rattle.std.proofs.Common.{subst}
use Rattle.c_tree.specs.SyntaxViews as source
use Rattle.c_tree.specs.TypedViews.{boxed_expr_view}
use Rattle.c_typing.specs.Faults.{Gives}
use Rattle.c_typing.specs.Judgement.{judged}
use Rattle.c_typing.specs.Scope.{Context}
use Rattle.reader_tests.proofs.judging.judged_at_start.Goals as goal

pub returns : goal.returns
returns c =
    subst (λ (d : Context). Gives boxed_expr_view c.expression.result (judged (source.expr_view c.args.e.now) d).0) c.at_start-context.ensures c.expression.ensures.gives
