use Rattle.std.proofs.Common.{subst}
use Rattle.c_tree.specs.SyntaxViews as source
use Rattle.c_tree.specs.TypedViews.{type_view, boxed_expr_view, init_view}
use Rattle.c_typing.specs.Faults.{Gives}
use Rattle.c_typing.specs.Judgement.{lone, valued, judged}
use Rattle.c_typing.specs.Programs.{started_with, init_at}
use Rattle.type_context.specs.ContextViews.{context_view}
use Rattle.type_context.proofs.Judging.{fault_gives}
use Rattle.type_context.proofs.Walks.{lone_tells}
use Rattle.c_types.proofs.Steps.{two_pass, two_rule}
use Rattle.c_types.proofs.globals.global_start.Goals as goal

pub returns-in_err-t : goal.returns-in_err-t
returns-in_err-t c = λ j h.
    let e = source.expr_view c.args.e.now in
    two_pass type_view boxed_expr_view init_view (lone j) (valued (judged e)) (λ d p. started_with c.args.place (init_at d p.0 e p.1)) (context_view c.args.context.now) c.args.context.now c.value-value.new.context c.again-t.result c.value-value.result c.both.result c.in_err-t.field-0.0 c.from_residual.result
    (lone_tells type_view c.again-t.result c.args.context.now j (c.again-t.ensures j h)) c.value-value.ensures c.both.ensures c.in_err-t.was c.from_residual.ensures.1

pub returns : goal.returns
returns c = λ j h.
    let e = source.expr_view c.args.e.now in
    two_rule type_view boxed_expr_view init_view (lone j) (valued (judged e)) (λ d p. started_with c.args.place (init_at d p.0 e p.1)) (context_view c.args.context.now) c.args.context.now c.value-value.new.context c.again-t.result c.value-value.result c.both.result (c.in_ok-t.t, c.in_ok-t.value) c.as_fault.result
    (lone_tells type_view c.again-t.result c.args.context.now j (c.again-t.ensures j h)) c.value-value.ensures c.both.ensures c.in_ok-t.was
    (subst (λ i. Gives init_view c.as_fault.result (started_with c.args.place i)) (rw c.deref.ensures at c.init_at.ensures) (fault_gives init_view _ _ _ c.as_fault.ensures c.started_with.ensures))
