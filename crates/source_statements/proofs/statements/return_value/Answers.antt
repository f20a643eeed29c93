use Rattle.std.proofs.Common.{ap, Option}
use Rattle.std.proofs.lemmas.Result.{IfOk-weaker}
use Rattle.std.specs.Global.{Global}
use Rattle.std.specs.declared.rc.Rc.{Rc}
use Rattle.c_meaning.specs.Turns.{returns, run, caller_way}
use Rattle.source_tree.specs.declared.tree.SharedExpr.{SharedExpr}
use Rattle.source_tree.specs.SharedViews.{expr_of, optional_expr_of}
use Rattle.source_statements.proofs.Walking.{as_like}
use Rattle.source_statements.proofs.statements.return_value.Goals as goal

pub returns-in-Some : goal.returns-in-Some
returns-in-Some c =
    IfOk-weaker c.return_some.result _ _ (λ g e. λ function k.
    as_like (λ h w. returns h (optional_expr_of c.args.value.now)) (λ h w. run h (expr_of c.in-Some.e.value) (caller_way h)) _ function k _ _ _ _ _
    (λ h w x. ap (λ (o : Option (Rc SharedExpr Global)). returns h (optional_expr_of o) x) c.in-Some.is)
    (e function k))
    c.return_some.ensures
