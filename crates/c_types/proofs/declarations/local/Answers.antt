use Rattle.std.proofs.Common.{ap, sym, ◌∙◌}
use Rattle.std.specs.Option.{option_map}
use Rattle.c_tree.specs.SyntaxViews as source
use Rattle.c_tree.specs.Typed.{at_stmt, declare}
use Rattle.c_tree.specs.TypedViews.{boxed_expr_view, stmt_view}
use Rattle.c_typing.specs.Faults.{typed}
use Rattle.c_typing.specs.Statements.{judged_local}
use Rattle.type_context.specs.ContextViews.{context_view}
use Rattle.type_context.specs.inner.Outcomes.{joined}
use Rattle.type_context.proofs.Judging.{fault_gives}
use Rattle.c_types.proofs.Steps.{memory_passes}
use Rattle.c_types.proofs.StatementNodes.{declared_name, local_ok, local_err}
use Rattle.c_types.proofs.declarations.local.Goals as goal

pub returns-in_err-number : goal.returns-in_err-number
returns-in_err-number c = λ j h.
    memory_passes stmt_view c.from_residual.result c.in_err-number.field-0.0 c.object_of-t.new.context (judged_local j (source.init_declarator_view c.args.x.now) (context_view c.args.context.now))
    c.in_err-number.ensures.memory c.from_residual.ensures.1

pub returns-in_err-declared : goal.returns-in_err-declared
returns-in_err-declared c = λ j h.
    memory_passes stmt_view c.from_residual-in_err-declared.result c.in_err-declared.field-0.0 c.object_of-t.new.context (judged_local j (source.init_declarator_view c.args.x.now) (context_view c.args.context.now))
    c.in_err-declared.ensures.memory c.from_residual-in_err-declared.ensures.1

pub returns-in_err-declare_local : goal.returns-in_err-declare_local
returns-in_err-declare_local c = λ j h.
    memory_passes stmt_view c.from_residual-in_err-declare_local.result c.in_err-declare_local.field-0.0 c.declare_local.new.context (judged_local j (source.init_declarator_view c.args.x.now) (context_view c.args.context.now))
    c.in_err-declare_local.ensures.memory c.from_residual-in_err-declare_local.ensures.1

pub returns-in_err-init : goal.returns-in_err-init
returns-in_err-init c = λ j h.
    local_err j (source.init_declarator_view c.args.x.now) c.args.x.now.declarator.name (context_view c.args.context.now) c.object_of-t.new.context c.declare_local.new.context c.init-init.new.context
    c.object_of-t.result c.as_fault-fine.result c.in_ok-declared.declared c.init-init.result c.both-2.result c.in_err-init.field-0.0 c.from_residual-in_err-init.result
    (declared_name c.args.x.now.declarator) (c.object_of-t.ensures j h) (fault_gives (λ x. x) _ _ _ c.as_fault-fine.ensures c.fine_local.ensures) c.in_ok-declared.ensures.declared c.in_ok-declare_local.ensures.after c.init-init.ensures
    (c.both-2.ensures ∙ ap (λ q. joined q c.init-init.result) c.both.ensures) c.in_err-init.was c.from_residual-in_err-init.ensures.1

pub returns : goal.returns
returns c = λ j h.
    local_ok j (source.init_declarator_view c.args.x.now) c.args.x.now.declarator.name (context_view c.args.context.now) c.object_of-t.new.context c.declare_local.new.context c.init-init.new.context
    c.object_of-t.result c.as_fault-fine.result c.in_ok-declared.declared c.init-init.result c.both-2.result (c.in_ok-init.field-0-0, c.in_ok-init.init) _
    (declared_name c.args.x.now.declarator) (c.object_of-t.ensures j h) (fault_gives (λ x. x) _ _ _ c.as_fault-fine.ensures c.fine_local.ensures) c.in_ok-declared.ensures.declared c.in_ok-declare_local.ensures.after c.init-init.ensures
    (c.both-2.ensures ∙ ap (λ q. joined q c.init-init.result) c.both.ensures) c.in_ok-init.was
    (ap (λ k. typed (at_stmt c.args.x.now.declarator.name.from (declare k (option_map boxed_expr_view c.in_ok-init.init)))) (sym c.in_ok-number.ensures.number)
    ∙ ap (λ i. typed (at_stmt c.args.x.now.declarator.name.from (declare c.in_ok-number.number i))) (sym c.unboxed.ensures))
