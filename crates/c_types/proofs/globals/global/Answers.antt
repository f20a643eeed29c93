use Rattle.std.proofs.Common.{ap, ◌∙◌, refl}
use Rattle.c_tree.specs.SyntaxViews as source
use Rattle.c_tree.specs.TypedViews.{global_view}
use Rattle.c_typing.specs.Programs.{judged_global}
use Rattle.type_context.specs.ContextViews.{context_view}
use Rattle.type_context.specs.inner.Outcomes.{joined}
use Rattle.c_types.proofs.Steps.{memory_passes}
use Rattle.c_types.proofs.StatementNodes.{declared_name}
use Rattle.c_types.proofs.Objects.{global_ok, global_err}
use Rattle.c_types.proofs.globals.global.Goals as goal

pub returns-in_err-declared : goal.returns-in_err-declared
returns-in_err-declared c = λ j h.
    memory_passes global_view c.from_residual.result c.in_err-declared.field-0.0 c.object_of-t.new.context (judged_global j (source.init_declarator_view c.args.x.now) (context_view c.args.context.now))
    c.in_err-declared.ensures.memory c.from_residual.ensures.1

pub returns-in_err-declare_global : goal.returns-in_err-declare_global
returns-in_err-declare_global c = λ j h.
    memory_passes global_view c.from_residual-in_err-declare_global.result c.in_err-declare_global.field-0.0 c.declare_global.new.context (judged_global j (source.init_declarator_view c.args.x.now) (context_view c.args.context.now))
    c.in_err-declare_global.ensures.memory c.from_residual-in_err-declare_global.ensures.1

pub returns-in_err-ty : goal.returns-in_err-ty
returns-in_err-ty c = λ j h.
    global_err j (source.init_declarator_view c.args.x.now) c.args.x.now.declarator.name (context_view c.args.context.now) c.object_of-t.new.context c.declare_global.new.context c.global_init-init.new.context
    c.object_of-t.result c.global_fine-fine.result c.in_ok-declared.declared c.global_init-init.result c.both-2.result c.in_err-ty.field-0.0 c.from_residual-in_err-ty.result
    (declared_name c.args.x.now.declarator) (c.object_of-t.ensures j h) c.global_fine-fine.ensures c.in_ok-declared.ensures.declared c.in_ok-declare_global.ensures.after c.global_init-init.ensures
    (c.both-2.ensures ∙ ap (λ q. joined q c.global_init-init.result) c.both.ensures) c.in_err-ty.was c.from_residual-in_err-ty.ensures.1

pub returns : goal.returns
returns c = λ j h.
    global_ok j (source.init_declarator_view c.args.x.now) c.args.x.now.declarator.name (context_view c.args.context.now) c.object_of-t.new.context c.declare_global.new.context c.global_init-init.new.context
    c.object_of-t.result c.global_fine-fine.result c.in_ok-declared.declared c.global_init-init.result c.both-2.result ((c.in_ok-ty.field-0-0-0, c.in_ok-ty.ty), c.in_ok-ty.init) _
    (declared_name c.args.x.now.declarator) (c.object_of-t.ensures j h) c.global_fine-fine.ensures c.in_ok-declared.ensures.declared c.in_ok-declare_global.ensures.after c.global_init-init.ensures
    (c.both-2.ensures ∙ ap (λ q. joined q c.global_init-init.result) c.both.ensures) c.in_ok-ty.was refl
