use Rattle.std.proofs.Common.{ℕ, ap, sym}
use Rattle.c_tree.specs.SyntaxViews as source
use Rattle.c_tree.specs.TypedViews.{type_view}
use Rattle.type_context.specs.ContextViews.{context_view}
use Rattle.type_locals.specs.LocalViews.{param_view}
use Rattle.type_context.proofs.Judging.{fault_gives}
use Rattle.c_types.proofs.Steps.{memory_passes}
use Rattle.c_typing.specs.Programs.{param_behind}
use Rattle.c_types.proofs.FileParts.{param_ok, param_err, param_at}
use Rattle.c_types.proofs.parameters.param_behind.Goals as goal

pub returns-in_err-declared : goal.returns-in_err-declared
returns-in_err-declared c = λ j h.
    memory_passes param_view c.from_residual.result c.in_err-declared.field-0.0 c.param_object-t.new.context (param_behind j (source.param_view c.args.p.now) (context_view c.args.context.now))
    c.in_err-declared.ensures.memory c.from_residual.ensures.1

pub returns-in_err-declare_param : goal.returns-in_err-declare_param
returns-in_err-declare_param c = λ j h.
    memory_passes param_view c.from_residual-in_err-declare_param.result c.in_err-declare_param.field-0.0 c.declare_param.new.context (param_behind j (source.param_view c.args.p.now) (context_view c.args.context.now))
    c.in_err-declare_param.ensures.memory c.from_residual-in_err-declare_param.ensures.1

pub returns-in_err-ty : goal.returns-in_err-ty
returns-in_err-ty c = λ j h.
    let p = source.param_view c.args.p.now in
    param_err p j (context_view c.args.context.now) c.param_object-t.new.context c.declare_param.new.context c.param_object-t.result c.as_fault-fine.result c.in_ok-declared.declared c.both.result c.in_err-ty.field-0.0 c.from_residual-in_err-ty.result
    (c.param_object-t.ensures j h) (fault_gives (λ x. x) _ _ _ c.as_fault-fine.ensures (rw c.param_place-place.ensures at c.param_fine.ensures)) c.in_ok-declared.ensures.declared c.in_ok-declare_param.ensures.after c.both.ensures c.in_err-ty.was c.from_residual-in_err-ty.ensures.1

pub returns : goal.returns
returns c = λ j h.
    let p = source.param_view c.args.p.now in
    param_ok p j (context_view c.args.context.now) c.param_object-t.new.context c.declare_param.new.context c.param_object-t.result c.as_fault-fine.result c.in_ok-declared.declared c.both.result (c.in_ok-ty.field-0-0, c.in_ok-ty.ty) _
    (c.param_object-t.ensures j h) (fault_gives (λ x. x) _ _ _ c.as_fault-fine.ensures (rw c.param_place-place.ensures at c.param_fine.ensures)) c.in_ok-declared.ensures.declared c.in_ok-declare_param.ensures.after c.both.ensures c.in_ok-ty.was
    (ap (λ (k : ℕ). param_at k (type_view c.in_ok-ty.ty)) (sym c.param_place-place.ensures))
