-- The counts of rows.
use Rattle.std.proofs.Common.{◌≡◌, ℕ, suc, List, map, max, sym, ap, ◌∙◌}
use Rattle.std.specs.Global.{Vec}
use Rattle.c_tree.specs.declared.typed.Expr.{Expr}
use Rattle.c_tree.specs.declared.typed.ExprNode.{ExprNode}
use Rattle.c_tree.specs.declared.typed.ExprNode.TheViews as expr_views
use Rattle.c_tree.specs.declared.typed.Label.{Label}
use Rattle.c_tree.specs.declared.typed.Lib.{Lib}
use Rattle.c_tree.specs.declared.typed.Stmt.{Stmt}
use Rattle.c_tree.specs.declared.typed.StmtNode.{StmtNode}
use Rattle.c_tree.specs.declared.typed.StmtNode.TheViews as stmt_views
use Rattle.c_tree.specs.Typed.{exprs_of, stmts_of}
use Rattle.c_tree.specs.TypedViews.{expr_view, expr_node_view, stmt_view, stmt_node_view}
use Rattle.lower_forms.specs.Counts.{count, count_parts, count_all, greatest_in, greatest_row, switches_by, switches_in}
use Rattle.c_tree.proofs.ListedViews.{call_view, lib_call_view, block_view, switch_view}

pub call_counted : (node : ExprNode) (f : ℕ) (v : Vec Expr) (d : List Expr) (n : ℕ) → node ≡ expr_views.Call f v → d ≡ v.items → n ≡ count_all (exprs_of (map expr_view d)) → n ≡ count_parts (expr_node_view node)
call_counted node f v d n is e h = h ∙ ap (λ l. count_all (exprs_of (map expr_view l))) e ∙ ap count_parts (sym (ap expr_node_view is ∙ call_view f v))

pub lib_call_counted : (node : ExprNode) (lib : Lib) (v : Vec Expr) (d : List Expr) (n : ℕ) → node ≡ expr_views.Lib lib v → d ≡ v.items → n ≡ count_all (exprs_of (map expr_view d)) → n ≡ count_parts (expr_node_view node)
lib_call_counted node lib v d n is e h = h ∙ ap (λ l. count_all (exprs_of (map expr_view l))) e ∙ ap count_parts (sym (ap expr_node_view is ∙ lib_call_view lib v))

pub block_counted : (node : StmtNode) (v : Vec Stmt) (d : List Stmt) (n : ℕ) → node ≡ stmt_views.Block v → d ≡ v.items → n ≡ greatest_row (stmts_of (map stmt_view d)) → n ≡ greatest_in (stmt_node_view node)
block_counted node v d n is e h = h ∙ ap (λ l. greatest_row (stmts_of (map stmt_view l))) e ∙ ap greatest_in (sym (ap stmt_node_view is ∙ block_view v))

pub switch_counted : (node : StmtNode) (e : Expr) (labels : Vec Label) (v : Vec Stmt) (d : List Stmt) (n : ℕ) → node ≡ stmt_views.Switch e labels v → d ≡ v.items
    → n ≡ max (count (expr_view e)) (greatest_row (stmts_of (map stmt_view d))) → n ≡ greatest_in (stmt_node_view node)
switch_counted node e labels v d n is same h =
    h ∙ ap (λ l. max (count (expr_view e)) (greatest_row (stmts_of (map stmt_view l)))) same ∙ ap greatest_in (sym (ap stmt_node_view is ∙ switch_view e labels v))

pub block_switches : (node : StmtNode) (v : Vec Stmt) (d : List Stmt) (n : ℕ) → node ≡ stmt_views.Block v → d ≡ v.items → n ≡ switches_in (stmts_of (map stmt_view d)) → n ≡ switches_by (stmt_node_view node)
block_switches node v d n is e h = h ∙ ap (λ l. switches_in (stmts_of (map stmt_view l))) e ∙ ap switches_by (sym (ap stmt_node_view is ∙ block_view v))

pub switch_switches : (node : StmtNode) (e : Expr) (labels : Vec Label) (v : Vec Stmt) (d : List Stmt) (n : ℕ) → node ≡ stmt_views.Switch e labels v → d ≡ v.items → n ≡ suc (switches_in (stmts_of (map stmt_view d)))
    → n ≡ switches_by (stmt_node_view node)
switch_switches node e labels v d n is same h = h ∙ ap (λ l. suc (switches_in (stmts_of (map stmt_view l)))) same ∙ ap switches_by (sym (ap stmt_node_view is ∙ switch_view e labels v))
