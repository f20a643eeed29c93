use Rattle.std.proofs.Common.{length, ap, ◌∙◌, arith, rules}
use Rattle.std.proofs.lemmas.Result.{on_ok_weaker}
use Rattle.std.specs.Global.{Vec}
use Rattle.std.specs.Vec.{with_items}
use Rattle.c_tree.specs.declared.typed.Expr.{Expr}
use Rattle.c_tree.specs.declared.typed.ExprNode.TheViews as views
use Rattle.c_tree.specs.Typed.{at}
use Rattle.c_tree.specs.TypedViews.{type_view, expr_node_view}
use Rattle.type_locals.specs.inner.Numbers.{new_number}
use Rattle.type_locals.proofs.TypedTrees.{call_renumbered, lib_renumbered}
use Rattle.type_locals.proofs.numbering.Numbers.+renumbering.Goals as goal

pub renumber-returns-in-Call : goal.renumber-returns-in-Call
renumber-returns-in-Call t c =
    let same = c.deref_mut-in-Call.ensures.value ∙ ap (λ (v : Vec Expr). v.items) c.in-Call.args-is in
    on_ok_weaker c.row.result
    (λ h. ap (λ k. at c.args.e.now.place (type_view c.args.e.now.ty) (expr_node_view k)) {y = views.Call c.in-Call.field-0 (with_items c.in-Call.args c.row.new.all)} (search (rules, views.the_lemmas, c.in-Call.is))
    ∙ call_renumbered (new_number c.args.self.now) c.args.e.now c.in-Call.field-0 c.in-Call.args c.deref_mut-in-Call.result.now c.row.new.all c.in-Call.is same
    (omega (arith, c.row.auto.all, ap length same, c.in-Call.args.ok.0)) h)
    c.row.ensures

pub renumber-returns-in-Lib : goal.renumber-returns-in-Lib
renumber-returns-in-Lib t c =
    let same = c.deref_mut-in-Lib.ensures.value ∙ ap (λ (v : Vec Expr). v.items) c.in-Lib.args-is in
    on_ok_weaker c.row-in-Lib.result
    (λ h. ap (λ k. at c.args.e.now.place (type_view c.args.e.now.ty) (expr_node_view k)) {y = views.Lib c.in-Lib.field-0 (with_items c.in-Lib.args c.row-in-Lib.new.all)} (search (rules, views.the_lemmas, c.in-Lib.is))
    ∙ lib_renumbered (new_number c.args.self.now) c.args.e.now c.in-Lib.field-0 c.in-Lib.args c.deref_mut-in-Lib.result.now c.row-in-Lib.new.all c.in-Lib.is same
    (omega (arith, c.row-in-Lib.auto.all, ap length same, c.in-Lib.args.ok.0)) h)
    c.row-in-Lib.ensures
