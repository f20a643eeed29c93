use Rattle.std.proofs.Common.{Some, ap, sym, ◌∙◌}
use Rattle.std.specs.Option.{option_map}
use Rattle.c_tree.specs.TypedViews.{expr_view, boxed_expr_view}
use Rattle.type_locals.proofs.headers.unboxed.Goals as goal

pub returns-in-Some : goal.returns-in-Some
returns-in-Some c = ap (λ e. Some (expr_view e)) c.into_inner.ensures ∙ ap (option_map boxed_expr_view) (sym c.in-Some.is)

pub returns-in-None : goal.returns-in-None
returns-in-None c = ap (option_map boxed_expr_view) (sym c.in-None.is)
