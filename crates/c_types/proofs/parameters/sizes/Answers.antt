use Rattle.std.proofs.Common.{ℕ, true, Option, refl}
use Rattle.c_tree.specs.SyntaxViews.{param_dim_view}
use Rattle.c_typing.specs.Programs.{judged_sizes}
use Rattle.type_context.specs.ContextViews.{context_view}
use Rattle.type_context.proofs.Rows.{starts}
use Rattle.c_types.proofs.StatementRows.{at_end}
use Rattle.c_types.proofs.FileParts.{items_told, sizes_more, not_outermost}
use Rattle.c_types.proofs.parameters.sizes.Goals as goal

pub dims-init : goal.dims-init
dims-init c = record { told = starts (λ (x : Option ℕ). x) _ c.args.context.now c.new.ensures.items; outer = refl }

pub dims-preserved : goal.dims-preserved
dims-preserved c = record {
  told = sizes_more c.args.dims.now c.dims.d-index c.d-item.result c.dims.outermost (context_view c.args.context.now) c.dims.context c.size-next.new.context c.dims.all c.size-next.result c.pushed-all.result
      c.dims-test.true c.d-item.is c.dims.invariant.outer c.dims.invariant.told c.size-next.ensures c.pushed-all.ensures;
  outer = not_outermost c.args.dims.now c.dims.d-index c.d-item.result c.dims-test.true c.d-item.is;
}

pub returns : goal.returns
returns c =
    items_told c.dims.all c.dims.context _
    (at_end (λ (x : Option ℕ). x) param_dim_view (judged_sizes true) c.args.dims.now c.dims.d-index (context_view c.args.context.now) c.dims.context c.dims.all c.dims-test.false c.dims.invariant.told)
