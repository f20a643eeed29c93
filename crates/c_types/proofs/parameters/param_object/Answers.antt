use Rattle.std.proofs.Common.{true, map}
use Rattle.c_tree.specs.SyntaxViews.{param_view, param_dim_view}
use Rattle.c_tree.specs.TypedViews.{type_view}
use Rattle.c_typing.specs.Judgement.{lone}
use Rattle.c_typing.specs.Programs.{adjusted_param, param_place, judged_sizes}
use Rattle.type_context.specs.ContextViews.{context_view}
use Rattle.type_context.proofs.Walks.{lone_tells}
use Rattle.c_types.proofs.Steps.{two_pass, two_rule}
use Rattle.c_types.specs.inner.Parts.{sizes_view}
use Rattle.c_types.proofs.parameters.param_object.Goals as goal

pub returns-in_err-base : goal.returns-in_err-base
returns-in_err-base c = λ j h.
    two_pass type_view sizes_view type_view (lone j) (judged_sizes true (map param_dim_view c.args.p.now.dims.items)) (λ d x. adjusted_param d (param_place (param_view c.args.p.now)) x.0 c.args.p.now.pointers.items x.1) (context_view c.args.context.now) c.args.context.now c.sizes-sizes.new.context
    c.args.base c.sizes-sizes.result c.both.result c.in_err-base.field-0.0 c.from_residual.result
    (lone_tells type_view c.args.base c.args.context.now j h) (rw c.deref.ensures.value at c.sizes-sizes.ensures) c.both.ensures c.in_err-base.was c.from_residual.ensures.1

pub returns : goal.returns
returns c = λ j h.
    two_rule type_view sizes_view type_view (lone j) (judged_sizes true (map param_dim_view c.args.p.now.dims.items)) (λ d x. adjusted_param d (param_place (param_view c.args.p.now)) x.0 c.args.p.now.pointers.items x.1) (context_view c.args.context.now) c.args.context.now c.sizes-sizes.new.context
    c.args.base c.sizes-sizes.result c.both.result (c.in_ok-base.base, c.in_ok-base.sizes) c.adjusted_param.result
    (lone_tells type_view c.args.base c.args.context.now j h) (rw c.deref.ensures.value at c.sizes-sizes.ensures) c.both.ensures c.in_ok-base.was (rw (c.deref-2.ensures.value, c.deref-3.ensures.value, c.param_place.ensures) at c.adjusted_param.ensures)
