use Rattle.std.proofs.Common.{◌∙◌, true, false, refl, ap, sym, subst, rules}
use Rattle.std.proofs.lemmas.Result.{IfOk-weaker}
use Rattle.c_tree.specs.Typed as tree
use Rattle.c_tree.specs.TypedViews.{type_view}
use Rattle.source_state.specs.Operations.{binary_of}
use Rattle.source_tree.specs.SharedViews.{expr_of, node_of}
use Rattle.source_tree.specs.declared.tree.SharedExpr.{SharedExpr}
use Rattle.source_state.specs.Views.{use_of}
use Rattle.source_expressions.proofs.AtOnce.{second_there}
use Rattle.source_expressions.specs.inner.Operations.{FlowsLeft, FlowsTested}
use Rattle.source_expressions.proofs.Parts.{flows_at, flows_two, left_given, flows_either, tested_given, flows_choice}
use Rattle.source_expressions.proofs.expressions.+eval.Goals as goal

pub second-returns-in-Some : goal.second-returns-in-Some
second-returns-in-Some t c =
    second_there c.args.program.now c.args.locals.now.now c.args.store.now c.args.place (binary_of c.args.op) c.args.left c.in-Some.v (expr_of c.args.b.now) (use_of c.args.k.now.value) _ _ c.in-Some.ensures c.in_ok-of_two.ensures c.done.ensures

-- ---- an operation

pub expr-returns-in-Two : goal.expr-returns-in-Two
expr-returns-in-Two t c =
    let p = c.args.program.now in
    let locals = c.args.locals.now.now in
    let blocks = c.args.store.now in
    let e = c.args.e.now in
    let a = expr_of c.in-Two.a.value in
    let b = expr_of c.in-Two.b.value in
    let op = binary_of c.in_ok-op-in-Two.op in
    let k = use_of c.args.k.now.value in
    let left = c.in_ok-left-in-Two.left in
    IfOk-weaker c.with_left.result _ _
    (λ g l. flows_two p locals blocks (expr_of e) a b e.place (type_view e.ty.value) c.in-Two.form op k left g
    (ap (λ n. tree.at e.place (type_view e.ty.value) (node_of n)) c.in-Two.is)
    (search (rules, c.in_ok-op-in-Two.ensures, c.deref-in-Two.ensures, c.deref-in-Two-2.ensures, c.deref-in-Two-3.ensures, c.deref-in-Two-4.ensures))
    (flows_at p locals blocks _ a _ _ left (ap expr_of c.deref-in-Two-5.ensures) refl c.in_ok-left-in-Two.ensures)
    (subst (λ d. FlowsLeft p locals blocks e.place op d left k g) (ap expr_of c.deref-in-Two-6.ensures) l))
    c.with_left.ensures

pub with_left-returns-in-Gives : goal.with_left-returns-in-Gives
with_left-returns-in-Gives t c =
    IfOk-weaker c.second.result _ _ (λ g f. left_given c.args.program.now _ _ c.args.place (binary_of c.args.op) (expr_of c.args.b.now) c.in-Gives.v (use_of c.args.k.now.value) _ g c.in-Gives.is f) c.second.ensures

-- ---- && and ||

pub expr-returns-in-Either : goal.expr-returns-in-Either
expr-returns-in-Either t c =
    let p = c.args.program.now in
    let locals = c.args.locals.now.now in
    let blocks = c.args.store.now in
    let e = c.args.e.now in
    let a = expr_of c.in-Either.a.value in
    let b = expr_of c.in-Either.b.value in
    let decides = c.in-Either.decides in
    let k = use_of c.args.k.now.value in
    let left = c.in_ok-left-in-Either.left in
    IfOk-weaker c.with_test.result _ _
    (λ g l. flows_either p locals blocks (expr_of e) a b e.place (type_view e.ty.value) decides k left g
    (ap (λ n. tree.at e.place (type_view e.ty.value) (node_of n)) c.in-Either.is)
    (flows_at p locals blocks _ a _ _ left (ap expr_of c.deref-in-Either-2.ensures) (search (rules, c.in_ok-after-in-Either.ensures, c.deref-in-Either.ensures)) c.in_ok-left-in-Either.ensures)
    (subst (λ at. FlowsTested p locals blocks at decides b left k g) (ap (λ (d : SharedExpr). d.place) c.deref-in-Either-4.ensures)
    (subst (λ d. FlowsTested p locals blocks c.deref-in-Either-4.result.now.place decides d left k g) (ap expr_of c.deref-in-Either-3.ensures) l)))
    c.with_test.ensures

pub with_test-returns-in-Ok : goal.with_test-returns-in-Ok
with_test-returns-in-Ok t c =
    IfOk-weaker c.either.result _ _
    (λ g f. tested_given c.args.program.now _ _ c.args.place c.args.decides c.in-Ok.holds (expr_of c.args.b.now) c.in-Gives.v (use_of c.args.k.now.value) _ g c.in-Gives.is (sym c.truth_of.ensures ∙ c.in-Ok.is) f)
    c.either.ensures

-- ---- the condition of ?:

pub expr-returns-in-Ok-true : goal.expr-returns-in-Ok-true
expr-returns-in-Ok-true t c =
    let p = c.args.program.now in
    let locals = c.args.locals.now.now in
    let blocks = c.args.store.now in
    let e = c.args.e.now in
    let k = use_of c.args.k.now.value in
    let test = c.in_ok-q-in-Choose.field-0 in
    let one = expr_of c.in-Choose.one.value in
    IfOk-weaker c.expr-in-Ok-true.result _ _
    (λ g f. flows_choice p locals blocks (expr_of e) (expr_of c.in-Choose.c.value) one (expr_of c.in-Choose.other.value) e.place (type_view e.ty.value) true c.in-Gives.v k test g
    (ap (λ n. tree.at e.place (type_view e.ty.value) (node_of n)) c.in-Choose.is) c.in-Gives.is
    (search (rules, c.truth_of.ensures, c.in-Ok-true.is, c.in-Ok-true.ensures))
    (flows_at p locals blocks _ _ _ _ test (ap expr_of c.deref-in-Choose-2.ensures) (search (rules, c.in_ok-after-in-Choose.ensures, c.deref-in-Choose.ensures)) c.in_ok-q-in-Choose.ensures)
    (flows_at p locals blocks _ one k k g (ap expr_of c.deref-in-Ok-true.ensures) refl f))
    c.expr-in-Ok-true.ensures

pub expr-returns-in-Choose : goal.expr-returns-in-Choose
expr-returns-in-Choose t c =
    let p = c.args.program.now in
    let locals = c.args.locals.now.now in
    let blocks = c.args.store.now in
    let e = c.args.e.now in
    let k = use_of c.args.k.now.value in
    let test = c.in_ok-q-in-Choose.field-0 in
    let other = expr_of c.in-Choose.other.value in
    IfOk-weaker c.expr-in-Ok-false.result _ _
    (λ g f. flows_choice p locals blocks (expr_of e) (expr_of c.in-Choose.c.value) (expr_of c.in-Choose.one.value) other e.place (type_view e.ty.value) false c.in-Gives.v k test g
    (ap (λ n. tree.at e.place (type_view e.ty.value) (node_of n)) c.in-Choose.is) c.in-Gives.is
    (search (rules, c.truth_of.ensures, c.in-Ok-false.is, c.in-Ok-false.ensures))
    (flows_at p locals blocks _ _ _ _ test (ap expr_of c.deref-in-Choose-2.ensures) (search (rules, c.in_ok-after-in-Choose.ensures, c.deref-in-Choose.ensures)) c.in_ok-q-in-Choose.ensures)
    (flows_at p locals blocks _ other k k g (ap expr_of c.deref-in-Ok-false.ensures) refl f))
    c.expr-in-Ok-false.ensures
