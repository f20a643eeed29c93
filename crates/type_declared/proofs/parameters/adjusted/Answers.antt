use Rattle.std.proofs.Common.{refl}
use Rattle.std.proofs.lemmas.Result.{err_from_is_err_and}
use Rattle.c_tree.specs.TypedViews.{type_view}
use Rattle.type_context.specs.ContextViews.{context_view}
use Rattle.type_declared.proofs.ParamLaws.{element_fails}
use Rattle.type_declared.proofs.parameters.adjusted.Goals as goal

pub returns-in_err-element : goal.returns-in_err-element
returns-in_err-element c =
    let p = err_from_is_err_and c.from_residual.result c.from_residual.ensures.1 in
    rw (p.1, p.2) (element_fails c.in_err-element.field-0.0 (context_view c.args.context.now) c.args.place (type_view c.args.t) c.args.sizes.now _ c.in-len1-up.len_at_least refl c.in_err-element.ensures)
