use Rattle.std.proofs.Common.{ℕ, ◌+◌, List, [], ◌∷◌, map, take, inl, inr, Option, refl, ap, sym, ◌∙◌, arith}
use Rattle.std.specs.Option.{option_map}
use Rattle.std.specs.Prelude.{Box, Vec}
use Rattle.std.specs.declared.alloc.Global.{Global}
use Rattle.c_tree.specs.declared.typed.Expr.{Expr as CodeExpr}
use Rattle.c_tree.specs.declared.syntax.Expr.{Expr as CodeSource}
use Rattle.c_tree.specs.declared.typed.Stmt.{Stmt as CodeStmt}
use Rattle.c_tree.specs.Syntax as trees
use Rattle.c_tree.specs.Syntax.{stmts_of}
use Rattle.c_tree.specs.SyntaxViews as source
use Rattle.c_tree.specs.Typed.{at_stmt, block, if_, if_else, while_, for_, do_while}
use Rattle.c_tree.specs.TypedForm.{in_loop}
use Rattle.c_tree.specs.TypedViews.{type_view, boxed_expr_view, stmt_view, boxed_stmt_view}
use Rattle.c_typing.specs.Faults.{typed}
use Rattle.c_typing.specs.Scope.{Frame}
use Rattle.c_typing.specs.Judgement.{in_turn}
use Rattle.c_tree.specs.Typed as typed_trees
use Rattle.c_typing.specs.Statements.{condition, scoped, only, one_of, headed, judged_first, judged_condition, judged_step, for_of, no_entries, judged_stmt, judged_stmts, judged_entries}
use Rattle.type_context.specs.ContextViews.{context_view}
use Rattle.type_context.specs.inner.Outcomes.{joined}
use Rattle.type_context.proofs.Walks.{ok_tells}
use Rattle.type_context.proofs.Rows.{starts}
use Rattle.type_declared.specs.Gathering.{each}
use Rattle.c_types.proofs.Steps.{err_passes, two_pass, two_rule, memory_passes, err_again, ok_again, scope_tells, three_told, four_told}
use Rattle.c_typing.proofs.Unmoved.{stmt_stays, stmts_stays, for_stays}
use Rattle.c_types.proofs.StatementRows.{several_more, at_end}
use Rattle.c_types.proofs.StatementViews.{case_is, default_is}
use Rattle.c_types.proofs.StatementNodes.{entered, looped}
use Rattle.c_types.proofs.SwitchRows.{walked_none, walked_typed, walked_faulty, walked_as, walked_all}
use Rattle.c_types.proofs.SwitchNodes.{switch_ok, switch_err, case_ok, case_err, default_told, other_ok, other_err, no_label}
use Rattle.c_types.proofs.Arms as arms
use Rattle.c_types.specs.inner.Switches.{jumps_view, entries_view}
use Rattle.c_types.proofs.statements.+statements.Goals as goal
use Rattle.c_types.proofs.statements.+statements.Goals.{entries-in-Ok, entries-in-Err}

-- one statement
pub one-returns-in_err-all : goal.one-returns-in_err-all
one-returns-in_err-all t c =
    err_passes (each stmt_view) boxed_stmt_view (judged_stmt (type_view c.args.t.now) (jumps_view c.args.jumps) (source.stmt_view c.args.s.now)) (λ d ss. typed (only ss)) (context_view c.args.context.now) c.stmt.new.context c.stmt.result c.in_err-all.field-0.0 c.from_residual.result
    c.stmt.ensures c.in_err-all.was c.from_residual.ensures.1

pub one-returns : goal.one-returns
one-returns t c =
    ok_tells (each stmt_view) boxed_stmt_view (judged_stmt (type_view c.args.t.now) (jumps_view c.args.jumps) (source.stmt_view c.args.s.now)) (λ d ss. typed (only ss)) (context_view c.args.context.now) c.stmt.new.context c.stmt.result c.in_ok-all.all _
    c.stmt.ensures c.in_ok-all.was (ap typed (sym (ap stmt_view c.in_ok-new.ensures.ok ∙ c.only.ensures)))

-- a block
pub block-returns-in_err-enter : goal.block-returns-in_err-enter
block-returns-in_err-enter t c =
    memory_passes (each stmt_view) c.from_residual.result c.in_err-enter.field-0.0 c.enter.new.self (judged_stmt (type_view c.args.t.now) (jumps_view c.args.jumps) (trees.block c.args.place (stmts_of (map source.stmt_view c.args.items.now))) (context_view c.args.context.now))
    c.in_err-enter.ensures.memory c.from_residual.ensures.1

pub block-returns-in_err-items : goal.block-returns-in_err-items
block-returns-in_err-items t c =
    let ss = stmts_of (map source.stmt_view c.args.items.now) in
    err_passes (each stmt_view) (each stmt_view) (scoped (judged_stmts (type_view c.args.t.now) (jumps_view c.args.jumps) ss)) (λ d xs. typed (at_stmt c.args.place (block (typed_trees.stmts_of xs)) ∷ [])) (context_view c.args.context.now)
    c.leave.new.self c.stmts-items.result c.in_err-items.field-0.0 c.from_residual-in_err-items.result
    (scope_tells (each stmt_view) (judged_stmts (type_view c.args.t.now) (jumps_view c.args.jumps) ss) (context_view c.args.context.now) c.enter.new.self c.stmts-items.new.context c.leave.new.self c.stmts-items.result
    (entered c.enter.new.self (context_view c.args.context.now) c.new.result.entries c.in_ok-enter.ensures.after c.new.ensures.empty) c.stmts-items.ensures (λ d. ap (λ (p : List ℕ × List Frame). p.1) (stmts_stays (type_view c.args.t.now) (jumps_view c.args.jumps) ss d)) c.leave.ensures.around)
    c.in_err-items.was c.from_residual-in_err-items.ensures.1

pub block-returns : goal.block-returns
block-returns t c =
    let ss = stmts_of (map source.stmt_view c.args.items.now) in
    ok_tells (each stmt_view) (each stmt_view) (scoped (judged_stmts (type_view c.args.t.now) (jumps_view c.args.jumps) ss)) (λ d xs. typed (at_stmt c.args.place (block (typed_trees.stmts_of xs)) ∷ [])) (context_view c.args.context.now)
    c.leave.new.self c.stmts-items.result c.in_ok-items.items c.block_made.result
    (scope_tells (each stmt_view) (judged_stmts (type_view c.args.t.now) (jumps_view c.args.jumps) ss) (context_view c.args.context.now) c.enter.new.self c.stmts-items.new.context c.leave.new.self c.stmts-items.result
    (entered c.enter.new.self (context_view c.args.context.now) c.new.result.entries c.in_ok-enter.ensures.after c.new.ensures.empty) c.stmts-items.ensures (λ d. ap (λ (p : List ℕ × List Frame). p.1) (stmts_stays (type_view c.args.t.now) (jumps_view c.args.jumps) ss d)) c.leave.ensures.around)
    c.in_ok-items.was c.block_made.ensures

-- an if
pub if_then-returns-in_err-test : goal.if_then-returns-in_err-test
if_then-returns-in_err-test t c =
    two_pass boxed_expr_view boxed_stmt_view (each stmt_view) (condition c.args.place (source.expr_view c.args.e.now)) (one_of (judged_stmt (type_view c.args.t.now) (jumps_view c.args.jumps) (source.stmt_view c.args.s.now))) (λ d p. typed (at_stmt c.args.place (if_ p.0 p.1) ∷ [])) (context_view c.args.context.now)
    c.condition-test.new.context c.one-then.new.context c.condition-test.result c.one-then.result c.both.result c.in_err-test.field-0.0 c.from_residual.result
    c.condition-test.ensures c.one-then.ensures c.both.ensures c.in_err-test.was c.from_residual.ensures.1

pub if_then-returns : goal.if_then-returns
if_then-returns t c =
    two_rule boxed_expr_view boxed_stmt_view (each stmt_view) (condition c.args.place (source.expr_view c.args.e.now)) (one_of (judged_stmt (type_view c.args.t.now) (jumps_view c.args.jumps) (source.stmt_view c.args.s.now))) (λ d p. typed (at_stmt c.args.place (if_ p.0 p.1) ∷ [])) (context_view c.args.context.now)
    c.condition-test.new.context c.one-then.new.context c.condition-test.result c.one-then.result c.both.result (c.in_ok-test.test, c.in_ok-test.then) c.if_made.result
    c.condition-test.ensures c.one-then.ensures c.both.ensures c.in_ok-test.was c.if_made.ensures

-- an if with an else
pub if_else-returns-in_err-test : goal.if_else-returns-in_err-test
if_else-returns-in_err-test t c =
    let j = condition c.args.place (source.expr_view c.args.e.now) in
    let s = one_of (judged_stmt (type_view c.args.t.now) (jumps_view c.args.jumps) (source.stmt_view c.args.s.now)) in
    let o = one_of (judged_stmt (type_view c.args.t.now) (jumps_view c.args.jumps) (source.stmt_view c.args.o.now)) in
    err_passes (λ (z : Box CodeExpr Global × (Box CodeStmt Global × Box CodeStmt Global)). (boxed_expr_view z.0, (boxed_stmt_view z.1.0, boxed_stmt_view z.1.1))) (each stmt_view) (in_turn j (in_turn s o)) (λ d p. typed (at_stmt c.args.place (if_else p.0 p.1.0 p.1.1) ∷ [])) (context_view c.args.context.now)
    c.one-otherwise.new.context (joined c.condition-test.result (joined c.one-then.result c.one-otherwise.result)) c.in_err-test.field-0.0 c.from_residual.result
    (three_told boxed_expr_view boxed_stmt_view boxed_stmt_view j s o (context_view c.args.context.now) c.condition-test.new.context c.one-then.new.context c.one-otherwise.new.context c.condition-test.result c.one-then.result c.one-otherwise.result
    c.condition-test.ensures c.one-then.ensures c.one-otherwise.ensures)
    (sym (c.both-2.ensures ∙ ap (joined c.condition-test.result) c.both.ensures) ∙ c.in_err-test.was) c.from_residual.ensures.1

pub if_else-returns : goal.if_else-returns
if_else-returns t c =
    let j = condition c.args.place (source.expr_view c.args.e.now) in
    let s = one_of (judged_stmt (type_view c.args.t.now) (jumps_view c.args.jumps) (source.stmt_view c.args.s.now)) in
    let o = one_of (judged_stmt (type_view c.args.t.now) (jumps_view c.args.jumps) (source.stmt_view c.args.o.now)) in
    ok_tells (λ (z : Box CodeExpr Global × (Box CodeStmt Global × Box CodeStmt Global)). (boxed_expr_view z.0, (boxed_stmt_view z.1.0, boxed_stmt_view z.1.1))) (each stmt_view) (in_turn j (in_turn s o)) (λ d p. typed (at_stmt c.args.place (if_else p.0 p.1.0 p.1.1) ∷ [])) (context_view c.args.context.now)
    c.one-otherwise.new.context (joined c.condition-test.result (joined c.one-then.result c.one-otherwise.result)) (c.in_ok-test.test, (c.in_ok-test.then, c.in_ok-test.otherwise)) c.if_else_made.result
    (three_told boxed_expr_view boxed_stmt_view boxed_stmt_view j s o (context_view c.args.context.now) c.condition-test.new.context c.one-then.new.context c.one-otherwise.new.context c.condition-test.result c.one-then.result c.one-otherwise.result
    c.condition-test.ensures c.one-then.ensures c.one-otherwise.ensures)
    (sym (c.both-2.ensures ∙ ap (joined c.condition-test.result) c.both.ensures) ∙ c.in_ok-test.was) c.if_else_made.ensures

-- a while
pub while_loop-returns-in_err-test : goal.while_loop-returns-in_err-test
while_loop-returns-in_err-test t c = λ l.
    two_pass boxed_expr_view boxed_stmt_view (each stmt_view) (condition c.args.place (source.expr_view c.args.e.now)) (one_of (judged_stmt (type_view c.args.t.now) in_loop (source.stmt_view c.args.s.now))) (λ d p. typed (at_stmt c.args.place (while_ p.0 p.1) ∷ [])) (context_view c.args.context.now)
    c.condition-test.new.context c.one-body.new.context c.condition-test.result c.one-body.result c.both.result c.in_err-test.field-0.0 c.from_residual.result
    c.condition-test.ensures (looped (type_view c.args.t.now) (jumps_view c.in_loop.result) in_loop (source.stmt_view c.args.s.now) (context_view c.condition-test.new.context) c.one-body.new.context c.one-body.result c.in_loop.ensures c.one-body.ensures) c.both.ensures c.in_err-test.was c.from_residual.ensures.1

pub while_loop-returns : goal.while_loop-returns
while_loop-returns t c = λ l.
    two_rule boxed_expr_view boxed_stmt_view (each stmt_view) (condition c.args.place (source.expr_view c.args.e.now)) (one_of (judged_stmt (type_view c.args.t.now) in_loop (source.stmt_view c.args.s.now))) (λ d p. typed (at_stmt c.args.place (while_ p.0 p.1) ∷ [])) (context_view c.args.context.now)
    c.condition-test.new.context c.one-body.new.context c.condition-test.result c.one-body.result c.both.result (c.in_ok-test.test, c.in_ok-test.body) c.while_made.result
    c.condition-test.ensures (looped (type_view c.args.t.now) (jumps_view c.in_loop.result) in_loop (source.stmt_view c.args.s.now) (context_view c.condition-test.new.context) c.one-body.new.context c.one-body.result c.in_loop.ensures c.one-body.ensures) c.both.ensures c.in_ok-test.was c.while_made.ensures

-- a for
pub for_inside-returns-in_err-header : goal.for_inside-returns-in_err-header
for_inside-returns-in_err-header t c =
    let place = c.args.place in
    let j = judged_first place (source.for_first_view c.args.head.now) in
    let k = judged_condition place (option_map source.expr_view c.args.e.now) in
    let l = judged_step place (option_map source.simple_view c.args.last.now) in
    let m = one_of (judged_stmt (type_view c.args.t.now) in_loop (source.stmt_view c.args.s.now)) in
    err_passes (λ (z : Vec CodeStmt Global × (Option (Box CodeExpr Global) × (Box CodeStmt Global × Box CodeStmt Global))). (each stmt_view z.0, (option_map boxed_expr_view z.1.0, (boxed_stmt_view z.1.1.0, boxed_stmt_view z.1.1.1)))) boxed_stmt_view (in_turn j (in_turn k (in_turn l m)))
    (λ d p. typed (headed place p.0 (λ f. at_stmt place (for_ f p.1.0 p.1.1.0 p.1.1.1)))) (context_view c.args.context.now)
    c.one-body.new.context (joined c.first-header.result (joined c.for_condition-test.result (joined c.for_step-step.result c.one-body.result))) c.in_err-header.field-0.0 c.from_residual.result
    (four_told (each stmt_view) (option_map boxed_expr_view) boxed_stmt_view boxed_stmt_view j k l m (context_view c.args.context.now) c.first-header.new.context c.for_condition-test.new.context c.for_step-step.new.context c.one-body.new.context
    c.first-header.result c.for_condition-test.result c.for_step-step.result c.one-body.result c.first-header.ensures c.for_condition-test.ensures c.for_step-step.ensures (looped (type_view c.args.t.now) (jumps_view c.in_loop.result) in_loop (source.stmt_view c.args.s.now) (context_view c.for_step-step.new.context) c.one-body.new.context c.one-body.result c.in_loop.ensures c.one-body.ensures))
    (sym (c.both-3.ensures ∙ ap (joined c.first-header.result) (c.both-2.ensures ∙ ap (joined c.for_condition-test.result) c.both.ensures)) ∙ c.in_err-header.was) c.from_residual.ensures.1

pub for_inside-returns : goal.for_inside-returns
for_inside-returns t c =
    let place = c.args.place in
    let j = judged_first place (source.for_first_view c.args.head.now) in
    let k = judged_condition place (option_map source.expr_view c.args.e.now) in
    let l = judged_step place (option_map source.simple_view c.args.last.now) in
    let m = one_of (judged_stmt (type_view c.args.t.now) in_loop (source.stmt_view c.args.s.now)) in
    ok_tells (λ (z : Vec CodeStmt Global × (Option (Box CodeExpr Global) × (Box CodeStmt Global × Box CodeStmt Global))). (each stmt_view z.0, (option_map boxed_expr_view z.1.0, (boxed_stmt_view z.1.1.0, boxed_stmt_view z.1.1.1)))) boxed_stmt_view (in_turn j (in_turn k (in_turn l m)))
    (λ d p. typed (headed place p.0 (λ f. at_stmt place (for_ f p.1.0 p.1.1.0 p.1.1.1)))) (context_view c.args.context.now)
    c.one-body.new.context (joined c.first-header.result (joined c.for_condition-test.result (joined c.for_step-step.result c.one-body.result)))
    (c.in_ok-header.header, (c.in_ok-header.test, (c.in_ok-header.step, c.in_ok-header.body))) c.for_made.result
    (four_told (each stmt_view) (option_map boxed_expr_view) boxed_stmt_view boxed_stmt_view j k l m (context_view c.args.context.now) c.first-header.new.context c.for_condition-test.new.context c.for_step-step.new.context c.one-body.new.context
    c.first-header.result c.for_condition-test.result c.for_step-step.result c.one-body.result c.first-header.ensures c.for_condition-test.ensures c.for_step-step.ensures (looped (type_view c.args.t.now) (jumps_view c.in_loop.result) in_loop (source.stmt_view c.args.s.now) (context_view c.for_step-step.new.context) c.one-body.new.context c.one-body.result c.in_loop.ensures c.one-body.ensures))
    (sym (c.both-3.ensures ∙ ap (joined c.first-header.result) (c.both-2.ensures ∙ ap (joined c.for_condition-test.result) c.both.ensures)) ∙ c.in_ok-header.was) c.for_made.ensures

pub for_loop-returns-in_err-enter : goal.for_loop-returns-in_err-enter
for_loop-returns-in_err-enter t c = λ l.
    memory_passes (each stmt_view) c.from_residual.result c.in_err-enter.field-0.0 c.enter.new.self
    (judged_stmt (type_view c.args.t.now) l (trees.for c.args.place (source.for_first_view c.args.head.now.first) (option_map source.expr_view c.args.head.now.condition) (option_map source.simple_view c.args.head.now.step) (source.stmt_view c.args.s.now)) (context_view c.args.context.now))
    c.in_err-enter.ensures.memory c.from_residual.ensures.1

pub for_loop-returns-in_err-whole : goal.for_loop-returns-in_err-whole
for_loop-returns-in_err-whole t c = λ l.
    let first = source.for_first_view c.args.head.now.first in
    let e = option_map source.expr_view c.args.head.now.condition in
    let last = option_map source.simple_view c.args.head.now.step in
    let s = source.stmt_view c.args.s.now in
    let r = type_view c.args.t.now in
    let inside = for_of c.args.place (judged_first c.args.place first) (judged_condition c.args.place e) (judged_step c.args.place last) (one_of (judged_stmt r in_loop s)) in
    err_passes boxed_stmt_view (each stmt_view) (scoped inside) (λ d x. typed (x ∷ [])) (context_view c.args.context.now)
    c.leave.new.self c.for_inside-whole.result c.in_err-whole.field-0.0 c.from_residual-in_err-whole.result
    (scope_tells boxed_stmt_view inside (context_view c.args.context.now) c.enter.new.self c.for_inside-whole.new.context c.leave.new.self c.for_inside-whole.result
    (entered c.enter.new.self (context_view c.args.context.now) c.new.result.entries c.in_ok-enter.ensures.after c.new.ensures.empty) c.for_inside-whole.ensures (λ d. ap (λ (p : List ℕ × List Frame). p.1) (for_stays r c.args.place first e last s (stmt_stays r in_loop s) d)) c.leave.ensures.around)
    c.in_err-whole.was c.from_residual-in_err-whole.ensures.1

pub for_loop-returns : goal.for_loop-returns
for_loop-returns t c = λ l.
    let first = source.for_first_view c.args.head.now.first in
    let e = option_map source.expr_view c.args.head.now.condition in
    let last = option_map source.simple_view c.args.head.now.step in
    let s = source.stmt_view c.args.s.now in
    let r = type_view c.args.t.now in
    let inside = for_of c.args.place (judged_first c.args.place first) (judged_condition c.args.place e) (judged_step c.args.place last) (one_of (judged_stmt r in_loop s)) in
    ok_tells boxed_stmt_view (each stmt_view) (scoped inside) (λ d x. typed (x ∷ [])) (context_view c.args.context.now)
    c.leave.new.self c.for_inside-whole.result c.in_ok-whole.whole c.alone.result
    (scope_tells boxed_stmt_view inside (context_view c.args.context.now) c.enter.new.self c.for_inside-whole.new.context c.leave.new.self c.for_inside-whole.result
    (entered c.enter.new.self (context_view c.args.context.now) c.new.result.entries c.in_ok-enter.ensures.after c.new.ensures.empty) c.for_inside-whole.ensures (λ d. ap (λ (p : List ℕ × List Frame). p.1) (for_stays r c.args.place first e last s (stmt_stays r in_loop s) d)) c.leave.ensures.around)
    c.in_ok-whole.was (rw c.into_inner.ensures at c.alone.ensures)

-- a do
pub do_loop-returns-in_err-body : goal.do_loop-returns-in_err-body
do_loop-returns-in_err-body t c = λ l.
    two_pass boxed_stmt_view boxed_expr_view (each stmt_view) (one_of (judged_stmt (type_view c.args.t.now) in_loop (source.stmt_view c.args.s.now))) (condition c.args.place (source.expr_view c.args.e.now)) (λ d p. typed (at_stmt c.args.place (do_while p.0 p.1) ∷ [])) (context_view c.args.context.now)
    c.one-body.new.context c.condition-test.new.context c.one-body.result c.condition-test.result c.both.result c.in_err-body.field-0.0 c.from_residual.result
    (looped (type_view c.args.t.now) (jumps_view c.in_loop.result) in_loop (source.stmt_view c.args.s.now) (context_view c.args.context.now) c.one-body.new.context c.one-body.result c.in_loop.ensures c.one-body.ensures) c.condition-test.ensures c.both.ensures c.in_err-body.was c.from_residual.ensures.1

pub do_loop-returns : goal.do_loop-returns
do_loop-returns t c = λ l.
    two_rule boxed_stmt_view boxed_expr_view (each stmt_view) (one_of (judged_stmt (type_view c.args.t.now) in_loop (source.stmt_view c.args.s.now))) (condition c.args.place (source.expr_view c.args.e.now)) (λ d p. typed (at_stmt c.args.place (do_while p.0 p.1) ∷ [])) (context_view c.args.context.now)
    c.one-body.new.context c.condition-test.new.context c.one-body.result c.condition-test.result c.both.result (c.in_ok-body.body, c.in_ok-body.test) c.do_made.result
    (looped (type_view c.args.t.now) (jumps_view c.in_loop.result) in_loop (source.stmt_view c.args.s.now) (context_view c.args.context.now) c.one-body.new.context c.one-body.result c.in_loop.ensures c.one-body.ensures) c.condition-test.ensures c.both.ensures c.in_ok-body.was c.do_made.ensures

-- a switch
pub switch-returns-in_err-e : goal.switch-returns-in_err-e
switch-returns-in_err-e t c =
    switch_err c.args.place (source.expr_view c.args.e.now) (stmts_of (map source.stmt_view c.args.all.now)) (type_view c.args.t.now) (jumps_view c.args.jumps) (jumps_view c.in_switch.result) (context_view c.args.context.now)
    c.switched-e.new.context c.entries-entries.new.context c.switched-e.result c.type_of_switch-of.result c.entries-entries.result c.both.result c.in_err-e.field-0.0 c.from_residual.result
    c.switched-e.ensures c.type_of_switch-of.ensures c.in_switch.ensures c.entries-entries.ensures c.both.ensures c.in_err-e.was c.from_residual.ensures.1

pub switch-returns : goal.switch-returns
switch-returns t c =
    switch_ok c.args.place (source.expr_view c.args.e.now) (stmts_of (map source.stmt_view c.args.all.now)) (type_view c.args.t.now) (jumps_view c.args.jumps) (jumps_view c.in_switch.result) (context_view c.args.context.now)
    c.switched-e.new.context c.entries-entries.new.context c.switched-e.result c.type_of_switch-of.result c.entries-entries.result c.both.result (c.in_ok-e.e, c.in_ok-e.entries) c.switch_made.result
    c.switched-e.ensures c.type_of_switch-of.ensures c.in_switch.ensures c.entries-entries.ensures c.both.ensures c.in_ok-e.was c.switch_made.ensures

-- the entries of a switch
pub entries-entries-init : goal.entries-entries-init
entries-entries-init t c = walked_none (type_view c.args.t.now) (jumps_view c.args.jumps) c.args.of c.none-so_far.result c.args.context.now c.none-so_far.ensures

pub entries-entries-preserved : goal.entries-entries-preserved
entries-entries-preserved t c =
    let r = type_view c.args.t.now in
    let l = jumps_view c.args.jumps in
    let ss = map source.stmt_view (take (c.entries.s-index + 1) c.args.all.now) in
    elim c.match-entry.branch [
      | entries-in-Ok w ↦
          walked_as r l c.args.of ss (context_view c.args.context.now) c.entries.fine c.match-entry.fine w.in-Ok.next c.match-entry.so_far c.entry.new.context w.fine-is w.so_far-is
          (walked_typed r l c.args.of c.args.all.now c.entries.s-index c.s-item.result (context_view c.args.context.now) c.entries.fine c.entries.so_far w.in-Ok.next c.entries.context c.entry.new.context c.entry.result
          (omega arith) c.s-item.is c.entries.invariant c.entry.ensures w.in-Ok.is)
      | entries-in-Err w ↦
          walked_as r l c.args.of ss (context_view c.args.context.now) w.one_fault_more-fine.result c.match-entry.fine w.none-so_far-in-Err.result c.match-entry.so_far c.entry.new.context w.fine-is w.so_far-is
          (walked_faulty r l c.args.of c.args.all.now c.entries.s-index c.s-item.result (context_view c.args.context.now) c.entries.fine w.one_fault_more-fine.result c.entries.so_far w.none-so_far-in-Err.result w.in-Err.fault
          c.entries.context c.entry.new.context c.entry.result
          (omega arith) c.s-item.is c.entries.invariant c.entry.ensures w.in-Err.is w.one_fault_more-fine.ensures w.none-so_far-in-Err.ensures)
    ]

pub entries-returns-in_err-fine : goal.entries-returns-in_err-fine
entries-returns-in_err-fine t c =
    err_again (λ (u : Unit {0}). entries_view c.entries.so_far) entries_view (judged_entries (type_view c.args.t.now) (jumps_view c.args.jumps) c.args.of no_entries (stmts_of (map source.stmt_view c.args.all.now)) (context_view c.args.context.now))
    c.entries.context c.entries.fine c.in_err-fine.field-0.0 c.from_residual.result
    (walked_all (type_view c.args.t.now) (jumps_view c.args.jumps) c.args.of c.args.all.now c.entries.s-index (context_view c.args.context.now) c.entries.fine c.entries.so_far c.entries.context (omega arith) c.entries.invariant)
    c.in_err-fine.was c.from_residual.ensures.1

pub entries-returns : goal.entries-returns
entries-returns t c =
    ok_again (λ (u : Unit {0}). entries_view c.entries.so_far) entries_view (judged_entries (type_view c.args.t.now) (jumps_view c.args.jumps) c.args.of no_entries (stmts_of (map source.stmt_view c.args.all.now)) (context_view c.args.context.now))
    c.entries.context c.entries.fine tt c.entries.so_far
    (walked_all (type_view c.args.t.now) (jumps_view c.args.jumps) c.args.of c.args.all.now c.entries.s-index (context_view c.args.context.now) c.entries.fine c.entries.so_far c.entries.context (omega arith) c.entries.invariant)
    c.in_ok-fine.was refl

-- an entry of a switch
pub entry-returns-in_err-value-in-Case : goal.entry-returns-in_err-value-in-Case
entry-returns-in_err-value-in-Case t c =
    case_err (source.stmt_view c.args.s.now) c.in-Case.place (source.expr_view c.deref.result.now) c.args.of (entries_view c.args.before) (judged_stmt (type_view c.args.t.now) (jumps_view c.args.jumps) (source.stmt_view c.args.s.now)) (context_view c.args.context.now)
    c.constant.new.context c.constant.result c.in_err-value-in-Case.field-0.0 c.from_residual.result
    (ap source.stmt_view c.in-Case.is ∙ case_is c.in-Case.place c.in-Case.value ∙ ap (λ (y : CodeSource). trees.case_label c.in-Case.place (source.expr_view y)) (sym c.deref.ensures)) c.constant.ensures c.in_err-value-in-Case.was c.from_residual.ensures.1

pub entry-returns-in_ok-value-in-Case : goal.entry-returns-in_ok-value-in-Case
entry-returns-in_ok-value-in-Case t c =
    case_ok (source.stmt_view c.args.s.now) c.in-Case.place (source.expr_view c.deref.result.now) c.args.of (entries_view c.args.before) (judged_stmt (type_view c.args.t.now) (jumps_view c.args.jumps) (source.stmt_view c.args.s.now)) (context_view c.args.context.now)
    c.constant.new.context c.constant.result c.in_ok-value-in-Case.value c.case.result
    (ap source.stmt_view c.in-Case.is ∙ case_is c.in-Case.place c.in-Case.value ∙ ap (λ (y : CodeSource). trees.case_label c.in-Case.place (source.expr_view y)) (sym c.deref.ensures)) c.constant.ensures c.in_ok-value-in-Case.was c.case.ensures

pub entry-returns-in-Default : goal.entry-returns-in-Default
entry-returns-in-Default t c =
    default_told (source.stmt_view c.args.s.now) c.in-Default.place c.args.of (entries_view c.args.before) (judged_stmt (type_view c.args.t.now) (jumps_view c.args.jumps) (source.stmt_view c.args.s.now)) c.args.context.now c.default.result
    (ap source.stmt_view c.in-Default.is ∙ default_is c.in-Default.place) c.default.ensures

pub entry-returns-in_err-s-in_default : goal.entry-returns-in_err-s-in_default
entry-returns-in_err-s-in_default t c =
    other_err (source.stmt_view c.args.s.now) c.args.of (entries_view c.args.before) (judged_stmt (type_view c.args.t.now) (jumps_view c.args.jumps) (source.stmt_view c.args.s.now)) (context_view c.args.context.now)
    c.one.new.context c.one.result c.in_err-s-in_default.field-0.0 c.from_residual-in_err-s-in_default.result
    (no_label c.args.s.now c.in_default.not-Case c.in_default.not-Default) c.one.ensures c.in_err-s-in_default.was c.from_residual-in_err-s-in_default.ensures.1

pub entry-returns-in_ok-s-in_default : goal.entry-returns-in_ok-s-in_default
entry-returns-in_ok-s-in_default t c =
    other_ok (source.stmt_view c.args.s.now) c.args.of (entries_view c.args.before) (judged_stmt (type_view c.args.t.now) (jumps_view c.args.jumps) (source.stmt_view c.args.s.now)) (context_view c.args.context.now)
    c.one.new.context c.one.result c.in_ok-s-in_default.s c.statement.result
    (no_label c.args.s.now c.in_default.not-Case c.in_default.not-Default) c.one.ensures c.in_ok-s-in_default.was (rw c.into_inner.ensures at c.statement.ensures)

-- a statement, by what it is
pub stmt-returns-in-Block : goal.stmt-returns-in-Block
stmt-returns-in-Block t c =
    arms.block_told c.args.s.now c.in-Block.place c.in-Block.items c.deref.result.now (type_view c.args.t.now) (jumps_view c.args.jumps) (context_view c.args.context.now) c.block.new.context c.block.result c.in-Block.is c.deref.ensures.value c.block.ensures

pub stmt-returns-in-Declare : goal.stmt-returns-in-Declare
stmt-returns-in-Declare t c =
    arms.declare_told c.args.s.now c.in-Declare.d c.deref-in-Declare.result.now (type_view c.args.t.now) (jumps_view c.args.jumps) (context_view c.args.context.now) c.declaration.new.context c.declaration.result c.in-Declare.is c.deref-in-Declare.ensures c.declaration.ensures

pub stmt-returns-in-Empty : goal.stmt-returns-in-Empty
stmt-returns-in-Empty t c =
    arms.empty_told c.args.s.now c.in-Empty.place (type_view c.args.t.now) (jumps_view c.args.jumps) c.args.context.now c.nothing.result c.alone.result c.in-Empty.is c.nothing.ensures c.alone.ensures

pub stmt-returns-in-None : goal.stmt-returns-in-None
stmt-returns-in-None t c =
    arms.if_then_told c.args.s.now c.in-If.place c.in-If.condition c.in-If.then c.in-If.otherwise c.deref-in-None.result.now c.deref-in-None-2.result.now (type_view c.args.t.now) (jumps_view c.args.jumps) (context_view c.args.context.now) c.if_then.new.context c.if_then.result
    c.in-If.is c.in-None.is c.deref-in-None.ensures c.deref-in-None-2.ensures c.if_then.ensures

pub stmt-returns-in-Some : goal.stmt-returns-in-Some
stmt-returns-in-Some t c =
    arms.if_else_told c.args.s.now c.in-If.place c.in-If.condition c.in-If.then c.in-If.otherwise c.in-Some.other c.deref-in-Some.result.now c.deref-in-Some-2.result.now c.deref-in-Some-3.result.now (type_view c.args.t.now) (jumps_view c.args.jumps) (context_view c.args.context.now) c.if_else.new.context c.if_else.result
    c.in-If.is c.in-Some.is c.deref-in-Some.ensures c.deref-in-Some-2.ensures c.deref-in-Some-3.ensures c.if_else.ensures

pub stmt-returns-in-While : goal.stmt-returns-in-While
stmt-returns-in-While t c =
    arms.while_told c.args.s.now c.in-While.place c.in-While.condition c.in-While.body c.deref-in-While.result.now c.deref-in-While-2.result.now (type_view c.args.t.now) (jumps_view c.args.jumps) (context_view c.args.context.now) c.while_loop.new.context c.while_loop.result
    c.in-While.is c.deref-in-While.ensures c.deref-in-While-2.ensures (c.while_loop.ensures (jumps_view c.args.jumps))

pub stmt-returns-in-For : goal.stmt-returns-in-For
stmt-returns-in-For t c =
    arms.for_told c.args.s.now c.in-For.place c.in-For.head c.in-For.body c.deref-in-For.result.now c.deref-in-For-2.result.now (type_view c.args.t.now) (jumps_view c.args.jumps) (context_view c.args.context.now) c.for_loop.new.context c.for_loop.result
    c.in-For.is c.deref-in-For.ensures c.deref-in-For-2.ensures (c.for_loop.ensures (jumps_view c.args.jumps))

pub stmt-returns-in-DoWhile : goal.stmt-returns-in-DoWhile
stmt-returns-in-DoWhile t c =
    arms.do_told c.args.s.now c.in-DoWhile.place c.in-DoWhile.body c.in-DoWhile.condition c.deref-in-DoWhile.result.now c.deref-in-DoWhile-2.result.now (type_view c.args.t.now) (jumps_view c.args.jumps) (context_view c.args.context.now) c.do_loop.new.context c.do_loop.result
    c.in-DoWhile.is c.deref-in-DoWhile.ensures c.deref-in-DoWhile-2.ensures (c.do_loop.ensures (jumps_view c.args.jumps))

pub stmt-returns-in-Switch : goal.stmt-returns-in-Switch
stmt-returns-in-Switch t c =
    arms.switch_told c.args.s.now c.in-Switch.place c.in-Switch.condition c.in-Switch.entries c.deref-in-Switch.result.now c.deref-in-Switch-2.result.now (type_view c.args.t.now) (jumps_view c.args.jumps) (context_view c.args.context.now) c.switch.new.context c.switch.result
    c.in-Switch.is c.deref-in-Switch.ensures c.deref-in-Switch-2.ensures.value c.switch.ensures

pub stmt-returns-in-Case : goal.stmt-returns-in-Case
stmt-returns-in-Case t c =
    let r = type_view c.args.t.now in
    let l = jumps_view c.args.jumps in
    elim c.in-Case.is [
      | inl (e, is) ↦ arms.case_told c.args.s.now c.in-Case.place e r l c.args.context.now c.refused.result is c.refused.ensures
      | inr is ↦ arms.default_told c.args.s.now c.in-Case.place r l c.args.context.now c.refused.result is c.refused.ensures
    ]

pub stmt-returns-in-Break : goal.stmt-returns-in-Break
stmt-returns-in-Break t c = arms.break_told c.args.s.now c.in-Break.place (type_view c.args.t.now) (jumps_view c.args.jumps) c.args.context.now c.jump.result c.in-Break.is c.jump.ensures

pub stmt-returns-in-Continue : goal.stmt-returns-in-Continue
stmt-returns-in-Continue t c = arms.continue_told c.args.s.now c.in-Continue.place (type_view c.args.t.now) (jumps_view c.args.jumps) c.args.context.now c.jump-in-Continue.result c.in-Continue.is c.jump-in-Continue.ensures

pub stmt-returns-in-Return : goal.stmt-returns-in-Return
stmt-returns-in-Return t c =
    arms.return_told c.args.s.now c.in-Return.place c.in-Return.value (type_view c.args.t.now) (jumps_view c.args.jumps) (context_view c.args.context.now) c.return_of.new.context c.return_of.result c.in-Return.is (c.return_of.ensures (jumps_view c.args.jumps))

pub stmt-returns-in-Simple : goal.stmt-returns-in-Simple
stmt-returns-in-Simple t c =
    arms.simple_told c.args.s.now c.in-Simple.s c.deref-in-Simple.result.now (type_view c.args.t.now) (jumps_view c.args.jumps) (context_view c.args.context.now) c.first_simple.new.context c.first_simple.result c.in-Simple.is c.deref-in-Simple.ensures c.first_simple.ensures

-- the items of a body
pub stmts-items-init : goal.stmts-items-init
stmts-items-init t c = starts stmt_view c.new.result c.args.context.now c.new.ensures.items

pub stmts-items-preserved : goal.stmts-items-preserved
stmts-items-preserved t c =
    several_more stmt_view source.stmt_view (type_view c.args.t.now) (jumps_view c.args.jumps) c.args.items.now c.items.s-index c.s-item.result (context_view c.args.context.now) c.items.context c.stmt-next.new.context c.items.all c.stmt-next.result c.appended-all.result
    (omega arith) c.s-item.is c.items.invariant c.stmt-next.ensures c.appended-all.ensures

pub stmts-returns : goal.stmts-returns
stmts-returns t c =
    at_end stmt_view source.stmt_view (λ xs. judged_stmts (type_view c.args.t.now) (jumps_view c.args.jumps) (stmts_of xs)) c.args.items.now c.items.s-index (context_view c.args.context.now) c.items.context c.items.all
    (omega arith) c.items.invariant
