use Rattle.std.proofs.Common.{map, ap, ◌∙◌}
use Rattle.std.proofs.lemmas.Result.{IfOk-weaker}
use Rattle.std.specs.Option.{option_map}
use Rattle.c_tree.specs.Typed.{Stmt, at_stmt, for_}
use Rattle.c_tree.specs.TypedViews.{boxed_expr_view, stmt_view, boxed_stmt_view}
use Rattle.type_locals.specs.inner.Blocks.{enclosed}
use Rattle.type_locals.proofs.headers.headed.Goals as goal

pub returns : goal.returns
returns c =
    let place = c.args.place in
    let loop : Stmt → Stmt = λ s. at_stmt place (for_ s (option_map boxed_expr_view c.args.condition) (boxed_stmt_view c.args.step) (boxed_stmt_view c.args.body)) in
    IfOk-weaker c.enclosed.result _ _
    (λ s e. e ∙ ap (enclosed place (map stmt_view c.first_of.new.header.items)) c.in_ok-inside.ensures ∙ c.in_ok-first.ensures loop)
    c.enclosed.ensures
