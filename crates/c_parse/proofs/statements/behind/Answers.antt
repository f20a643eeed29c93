use Rattle.std.proofs.Common.{◌==◌, false, refl}
use Rattle.std.proofs.lemmas.Result.{err_from_is_err_and}
use Rattle.c_tree.specs.Syntax.{after, assign, eval}
use Rattle.c_tree.specs.SyntaxViews.{boxed_expr_view}
use Rattle.c_grammar.specs.Grammar.{rank}
use Rattle.c_grammar.specs.inner.Readers.{◌&◌}
use Rattle.c_grammar.specs.inner.Tokens.{tok, step_of, assign_of}
use Rattle.c_grammar.specs.inner.Reading.{level_at, simple_of, simple_tail, a_step, a_value, tail_start, tail_by, Stepped, Assigned, Nothing}
use Rattle.c_parse.specs.inner.Boxes.{boxed_simple_view}
use Rattle.c_parse.specs.inner.Parts.{behind}
use Rattle.parse_expressions.proofs.CodeLoops.{choice_stops, pair_stops, second_stops}
use Rattle.parse_expressions.proofs.CodeChoices.{makes, made_chosen, chosen_stops, made_stops}
use Rattle.c_parse.proofs.statements.behind.Goals as goal

pub returns-in_err-tail_start-clause-reads : goal.returns-in_err-tail_start-clause-reads
returns-in_err-tail_start-clause-reads c =
    let stopped = rw (c.is_postfix.ensures, c.deref.ensures) at c.in_err-tail_start.ensures in
    let p = err_from_is_err_and c.from_residual.result c.from_residual.ensures.1 in
    rw (p.1, p.2) (made_stops (simple_of (boxed_expr_view c.args.target)) (simple_tail c.args.room (level_at false c.args.room) (boxed_expr_view c.args.target)) c.args.parser.now.count c.args.parser.now.rest.now _ (choice_stops (tail_start (rank (boxed_expr_view c.args.target) == 0)) (tail_by c.args.room (level_at false c.args.room)) c.args.parser.now.count c.args.parser.now.rest.now _ stopped))

pub returns-in_err-place-in-Step-clause-reads : goal.returns-in_err-place-in-Step-clause-reads
returns-in_err-place-in-Step-clause-reads c =
    let start = rw (c.in-Step.is, c.is_postfix.ensures, c.deref.ensures) at c.in_ok-tail_start.ensures in
    let p = err_from_is_err_and c.from_residual-in_err-place-in-Step.result c.from_residual-in_err-place-in-Step.ensures.1 in
    rw (p.1, p.2) (made_stops (simple_of (boxed_expr_view c.args.target)) (simple_tail c.args.room (level_at false c.args.room) (boxed_expr_view c.args.target)) c.args.parser.now.count c.args.parser.now.rest.now _ (chosen_stops (tail_start (rank (boxed_expr_view c.args.target) == 0)) (tail_by c.args.room (level_at false c.args.room)) c.args.parser.now.count c.args.parser.now.rest.now Stepped _ start (made_stops (λ (place, op). a_step place op) (tok c.args.room step_of) c.args.parser.now.count c.args.parser.now.rest.now _ c.in_err-place-in-Step.ensures.reads)))

pub returns-in_err-place-in-Assign-clause-reads : goal.returns-in_err-place-in-Assign-clause-reads
returns-in_err-place-in-Assign-clause-reads c =
    let start = rw (c.in-Assign.is, c.is_postfix.ensures, c.deref.ensures) at c.in_ok-tail_start.ensures in
    let p = err_from_is_err_and c.from_residual-in_err-place-in-Assign.result c.from_residual-in_err-place-in-Assign.ensures.1 in
    rw (p.1, p.2) (made_stops (simple_of (boxed_expr_view c.args.target)) (simple_tail c.args.room (level_at false c.args.room) (boxed_expr_view c.args.target)) c.args.parser.now.count c.args.parser.now.rest.now _ (chosen_stops (tail_start (rank (boxed_expr_view c.args.target) == 0)) (tail_by c.args.room (level_at false c.args.room)) c.args.parser.now.count c.args.parser.now.rest.now Assigned _ start (made_stops (λ ((place, op), e). a_value place op e) (tok c.args.room assign_of & (level_at false c.args.room).expr) c.args.parser.now.count c.args.parser.now.rest.now _ (pair_stops (tok c.args.room assign_of) (level_at false c.args.room).expr c.args.parser.now.count c.args.parser.now.rest.now _ c.in_err-place-in-Assign.ensures.reads))))

pub returns-in_err-value-in-Assign-clause-reads : goal.returns-in_err-value-in-Assign-clause-reads
returns-in_err-value-in-Assign-clause-reads c =
    let start = rw (c.in-Assign.is, c.is_postfix.ensures, c.deref.ensures) at c.in_ok-tail_start.ensures in
    let p = err_from_is_err_and c.from_residual-in_err-value-in-Assign.result c.from_residual-in_err-value-in-Assign.ensures.1 in
    rw (p.1, p.2) (made_stops (simple_of (boxed_expr_view c.args.target)) (simple_tail c.args.room (level_at false c.args.room) (boxed_expr_view c.args.target)) c.args.parser.now.count c.args.parser.now.rest.now _ (chosen_stops (tail_start (rank (boxed_expr_view c.args.target) == 0)) (tail_by c.args.room (level_at false c.args.room)) c.args.parser.now.count c.args.parser.now.rest.now Assigned _ start (made_stops (λ ((place, op), e). a_value place op e) (tok c.args.room assign_of & (level_at false c.args.room).expr) c.args.parser.now.count c.args.parser.now.rest.now _ (second_stops (tok c.args.room assign_of) (level_at false c.args.room).expr c.args.parser.now.count c.args.parser.now.rest.now _ _ _ _ c.in_ok-place-in-Assign.ensures.reads c.in_err-value-in-Assign.ensures.reads))))

pub returns-in_ok-place-in-Step-clause-reads : goal.returns-in_ok-place-in-Step-clause-reads
returns-in_ok-place-in-Step-clause-reads c =
    let start = rw (c.in-Step.is, c.is_postfix.ensures, c.deref.ensures) at c.in_ok-tail_start.ensures in
    makes boxed_simple_view (behind c.args.room (boxed_expr_view c.args.target)) c.args.parser.now c.step_op.new.self (after c.in_ok-place-in-Step.place c.in_ok-place-in-Step.op (boxed_expr_view c.args.target)) c.after.result (made_chosen (simple_of (boxed_expr_view c.args.target)) (tail_start (rank (boxed_expr_view c.args.target) == 0)) (tail_by c.args.room (level_at false c.args.room)) c.args.parser.now.count c.args.parser.now.rest.now Stepped _ _ _ start (rw c.in_ok-place-in-Step.ensures.reads refl)) c.after.ensures

pub returns-in_ok-value-in-Assign-clause-reads : goal.returns-in_ok-value-in-Assign-clause-reads
returns-in_ok-value-in-Assign-clause-reads c =
    let start = rw (c.in-Assign.is, c.is_postfix.ensures, c.deref.ensures) at c.in_ok-tail_start.ensures in
    makes boxed_simple_view (behind c.args.room (boxed_expr_view c.args.target)) c.args.parser.now c.expr.new.parser (assign c.in_ok-place-in-Assign.place c.in_ok-place-in-Assign.op (boxed_expr_view c.args.target) (boxed_expr_view c.in_ok-value-in-Assign.value)) c.assign.result (made_chosen (simple_of (boxed_expr_view c.args.target)) (tail_start (rank (boxed_expr_view c.args.target) == 0)) (tail_by c.args.room (level_at false c.args.room)) c.args.parser.now.count c.args.parser.now.rest.now Assigned _ _ _ start (rw (c.in_ok-place-in-Assign.ensures.reads, c.in_ok-value-in-Assign.ensures.reads) refl)) c.assign.ensures

pub returns-in-Nothing-clause-reads : goal.returns-in-Nothing-clause-reads
returns-in-Nothing-clause-reads c =
    let start = rw (c.in-Nothing.is, c.is_postfix.ensures, c.deref.ensures) at c.in_ok-tail_start.ensures in
    makes boxed_simple_view (behind c.args.room (boxed_expr_view c.args.target)) c.args.parser.now c.args.parser.now (eval (boxed_expr_view c.args.target)) c.eval.result (made_chosen (simple_of (boxed_expr_view c.args.target)) (tail_start (rank (boxed_expr_view c.args.target) == 0)) (tail_by c.args.room (level_at false c.args.room)) c.args.parser.now.count c.args.parser.now.rest.now Nothing _ _ _ start refl) c.eval.ensures
