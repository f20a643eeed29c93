use Rattle.std.proofs.Common.{◌≡◌, length, map, ap, ◌∙◌, arith, rules}
use Rattle.std.proofs.lemmas.Result.{on_ok_weaker}
use Rattle.std.specs.Global.{Vec}
use borrow.Enum.Total.{values_d}
use Rattle.c_tree.specs.contracts.typed.StmtNode as code
use Rattle.c_tree.specs.declared.typed.Expr.{Expr}
use Rattle.c_tree.specs.declared.typed.Stmt.{Stmt}
use Rattle.c_tree.specs.declared.typed.StmtNode.TheViews as stmt_views
use Rattle.c_tree.specs.Typed.{at_stmt, stmts_of}
use Rattle.c_tree.specs.TypedViews.{expr_view, stmt_view, stmt_node_view}
use Rattle.c_typing.specs.Numbering.{renumbered, renumbered_stmts}
use Rattle.type_locals.specs.inner.Numbers.{new_number}
use Rattle.type_locals.proofs.TypedTrees.{body_renumbered, block_renumbered, switch_renumbered}
use Rattle.type_locals.proofs.numbering.Numbers.+statements.Goals as goal

pub body-returns : goal.body-returns
body-returns t c =
    on_ok_weaker c.statements.result
    (body_renumbered (new_number c.args.self.now) c.args.body.now c.deref_mut.result.now c.statements.new.all c.deref_mut.ensures.value
    (omega (arith, c.statements.auto.all, ap length c.deref_mut.ensures.value, c.args.body.now.ok.0)))
    c.statements.ensures

pub renumber_stmt-returns-in-Block : goal.renumber_stmt-returns-in-Block
renumber_stmt-returns-in-Block t c =
    let f = new_number c.args.self.now in
    on_ok_weaker c.body.result
    (λ h. ap (λ k. at_stmt c.args.s.now.place (stmt_node_view k)) {y = stmt_views.Block c.body.new.body} (search (rules, stmt_views.the_lemmas, c.in-Block.is))
    ∙ block_renumbered f c.args.s.now c.in-Block.body c.body.new.body c.in-Block.is (h ∙ ap (λ (v : Vec Stmt). renumbered_stmts f (stmts_of (map stmt_view v.items))) c.in-Block.body-is))
    c.body.ensures

pub renumber_stmt-returns-in_ok-renumber-in-Switch : goal.renumber_stmt-returns-in_ok-renumber-in-Switch
renumber_stmt-returns-in_ok-renumber-in-Switch t c =
    let f = new_number c.args.self.now in
    let kept = (values_d code.enum 6 (c.in-Switch.e, (c.in-Switch.field-1, (c.in-Switch.body, tt))) c.args.s.now.node).1.0 in
    let same : kept ≡ c.in-Switch.field-1 = search (rules, stmt_views.the_lemmas, c.in-Switch.is) in
    let told = c.in_ok-renumber-in-Switch.ensures ∙ ap (λ (x : Expr). renumbered f (expr_view x)) c.in-Switch.e-is in
    on_ok_weaker c.body-in-Switch.result
    (λ h. switch_renumbered f c.args.s.now c.in-Switch.e c.renumber-in-Switch.new.e c.in-Switch.field-1 kept c.in-Switch.body c.body-in-Switch.new.body c.in-Switch.is same told
    (h ∙ ap (λ (v : Vec Stmt). renumbered_stmts f (stmts_of (map stmt_view v.items))) c.in-Switch.body-is))
    c.body-in-Switch.ensures
