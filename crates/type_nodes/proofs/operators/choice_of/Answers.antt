use Rattle.std.proofs.Common.{◌≡◌, Result, Ok, Err, refl, ap, sym, subst, ◌∙◌}
use Rattle.std.specs.Prelude.{Box}
use Rattle.std.specs.declared.alloc.Global.{Global}
use Rattle.std.proofs.lemmas.Result.{err_from_is_err_and}
use Rattle.c_lex.specs.declared.refusal.CompileFault.{CompileFault}
use Rattle.c_tree.specs.declared.typed.Expr.{Expr as CodeExpr}
use Rattle.c_tree.specs.TypedViews.{boxed_expr_view}
use Rattle.c_typing.specs.Faults.{Judged, Gives}
use Rattle.c_typing.specs.Judgement.{choice}
use Rattle.type_context.specs.inner.Outcomes.{joined}
use Rattle.type_nodes.specs.Nodes.{Finishes}
use Rattle.type_nodes.proofs.operators.choice_of.Goals as goal

abbrev Held : Type 0
Held = Box CodeExpr Global

finishes_err : {A B D : Type 0} (view : B → D) (rule : A → Judged D) (q : Result A CompileFault) (e : CompileFault) → q ≡ Err e → Finishes view q rule (Err e)
finishes_err view rule q e is = subst (λ p. Finishes view p rule (Err e)) (sym is) refl

finishes_ok : {A B D : Type 0} (view : B → D) (rule : A → Judged D) (q : Result A CompileFault) (x : A) (r : Result B CompileFault) → q ≡ Ok x → Gives view r (rule x) → Finishes view q rule r
finishes_ok view rule q x r is h = subst (λ p. Finishes view p rule r) (sym is) h

pub returns-in_err-condition : goal.returns-in_err-condition
returns-in_err-condition c =
    let p = err_from_is_err_and c.from_residual.result c.from_residual.ensures.1 in
    let rule = λ (x : Held × (Held × Held)). choice c.args.place (boxed_expr_view x.0) (boxed_expr_view x.1.0) (boxed_expr_view x.1.1) in
    let joins = λ (q : Result (Held × Held) CompileFault). joined c.args.condition q in
    rw (p.1, p.2)
    (finishes_err boxed_expr_view rule (joined c.args.condition (joined c.args.then c.args.otherwise)) c.in_err-condition.field-0.0 (ap joins (sym c.both.ensures) ∙ sym c.in_err-condition.ensures))

pub returns : goal.returns
returns c =
    let rule = λ (x : Held × (Held × Held)). choice c.args.place (boxed_expr_view x.0) (boxed_expr_view x.1.0) (boxed_expr_view x.1.1) in
    let joins = λ (q : Result (Held × Held) CompileFault). joined c.args.condition q in
    finishes_ok boxed_expr_view rule (joined c.args.condition (joined c.args.then c.args.otherwise)) (c.in_ok-condition.condition, (c.in_ok-condition.then, c.in_ok-condition.otherwise)) c.choice.result
    (ap joins (sym c.both.ensures) ∙ sym c.in_ok-condition.ensures) c.choice.ensures
