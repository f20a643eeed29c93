use Rattle.std.proofs.Common.{◌≡◌, [], ◌∷◌, ◌++◌, map, ap, sym, ◌∙◌, ◌==◌}
use Rattle.std.proofs.lemmas.Result.{IfOk-weaker}
use Rattle.c_tree.specs.Typed.{at_stmt, block, stmts_of}
use Rattle.c_tree.specs.TypedViews.{stmt_view}
use Rattle.c_tree.proofs.ListedViews.{block_view}
use Rattle.type_locals.proofs.LoopHeaders.{enclosed_is}
use Rattle.type_locals.proofs.headers.enclosed.Goals as goal

pub returns : goal.returns
returns c =
    let all : c.put.new.all.items ≡ c.args.before.items ++ c.args.last.value ∷ [] = c.in_ok-put.ensures ∙ ap (λ s. c.args.before.items ++ s ∷ []) c.into_inner.ensures in
    IfOk-weaker c.boxed.result _ _
    (λ b e. ap stmt_view e ∙ ap (at_stmt c.args.place) (block_view c.put.new.all ∙ ap (λ l. block (stmts_of (map stmt_view l))) all)
    ∙ enclosed_is c.args.place c.args.before.items c.args.last.value (ap (λ k. k == 0) (sym c.args.before.ok.0) ∙ sym c.is_empty.ensures ∙ c.if-is_empty.false))
    c.boxed.ensures
