use Rattle.std.proofs.Common.{◌∙◌, ap, sym, ◌≡◌, map, Result, Ok, Err, IfOk, arith}
use Rattle.std.proofs.lemmas.List.{take_all}
use Rattle.c_tree.specs.Typed as tree
use Rattle.c_tree.specs.TypedViews.{expr_view, label_view, stmt_view, stmt_node_view}
use Rattle.c_tree.proofs.ListedViews.{switch_view}
use Rattle.source_tree.proofs.Views.{these_row}
use Rattle.source_tree.proofs.share_stmts.+share_stmts.Goals as goal
use Rattle.c_tree.specs.Typed.{stmts_of}

if_ok_map : {A B : Type 0} (P Q : A → Type 0) (r : Result A B) → ((x : A) → P x → Q x) → IfOk r P → IfOk r Q
if_ok_map P Q (Ok x) f h = f x h
if_ok_map P Q (Err e) f h = h

pub share_row-returns : goal.share_row-returns
share_row-returns t c =
    if_ok_map _ _ c.boxed_row.result (λ r h. h ∙ these_row c.each.stmts.items
    ∙ ap stmts_of (c.each.invariant ∙ ap (map stmt_view) (take_all c.each.s-index c.args.all.now (omega (arith, c.each-test.false))))) c.boxed_row.ensures

pub share_node-returns-in-Switch : goal.share_node-returns-in-Switch
share_node-returns-in-Switch t c =
    if_ok_map _ _ c.share_switch.result (λ shared h. h
    ∙ (λ i. tree.at_stmt c.args.place (tree.switch (expr_view c.in-Switch.e) (map label_view (c.deref-in-Switch-2.ensures.value i)) (stmts_of (map stmt_view (c.deref-in-Switch.ensures.value i)))))
    ∙ ap (tree.at_stmt c.args.place) (sym (ap stmt_node_view c.in-Switch.is ∙ switch_view c.in-Switch.e c.in-Switch.labels c.in-Switch.body))) c.share_switch.ensures
