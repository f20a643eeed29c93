-- The views of calls and blocks: what is seen of their parts, in order.
use Rattle.std.proofs.Common.{◌≡◌, ℕ, map, refl, ap, rules}
use Rattle.std.specs.Global.{Vec}
use Rattle.c_tree.specs.declared.typed.Lib.{Lib}
use Rattle.c_tree.specs.declared.typed.Expr.{Expr}
use Rattle.c_tree.specs.declared.typed.ExprNode.{Row_of-Expr, end_of-Expr, more_of-Expr, items-the_row-Expr}
use Rattle.c_tree.specs.declared.typed.ExprNode.TheViews as expr_views
use Rattle.c_tree.specs.declared.typed.Label.{Label}
use Rattle.c_tree.specs.declared.typed.Stmt.{Stmt}
use Rattle.c_tree.specs.declared.typed.StmtNode.{Row_of-Stmt, end_of-Stmt, more_of-Stmt, items-the_row-Stmt}
use Rattle.c_tree.specs.declared.typed.StmtNode.TheViews as stmt_views
use Rattle.c_tree.specs.Typed as trees
use Rattle.c_tree.specs.Typed.{exprs_of, stmts_of}
use Rattle.c_tree.specs.TypedViews.{type_view, expr_view, expr_node_view, expr_row_view, lib_view, label_view, stmt_view, stmt_node_view, stmt_row_view}

args_view : (n : _) (k : Row_of-Expr n) → expr_row_view k ≡ exprs_of (map expr_view (items-the_row-Expr n k))
args_view _ end_of-Expr = refl
args_view _ (more_of-Expr place ty node rest) = ap (trees.more_exprs (trees.at place (type_view ty) (expr_node_view node))) (args_view _ rest)

pub call_view : (f : ℕ) (v : Vec Expr) → expr_node_view (expr_views.Call f v) ≡ trees.call f (exprs_of (map expr_view v.items))
call_view f v = search (rules, expr_views.the_lemmas, args_view)

pub lib_call_view : (lib : Lib) (v : Vec Expr) → expr_node_view (expr_views.Lib lib v) ≡ trees.lib (lib_view lib) (exprs_of (map expr_view v.items))
lib_call_view lib v = search (rules, expr_views.the_lemmas, args_view)

row_view : (n : _) (k : Row_of-Stmt n) → stmt_row_view k ≡ stmts_of (map stmt_view (items-the_row-Stmt n k))
row_view _ end_of-Stmt = refl
row_view _ (more_of-Stmt place node rest) = ap (trees.more_stmts (trees.at_stmt place (stmt_node_view node))) (row_view _ rest)

pub block_view : (v : Vec Stmt) → stmt_node_view (stmt_views.Block v) ≡ trees.block (stmts_of (map stmt_view v.items))
block_view v = search (rules, stmt_views.the_lemmas, row_view)

pub switch_view : (e : Expr) (labels : Vec Label) (v : Vec Stmt)
    → stmt_node_view (stmt_views.Switch e labels v) ≡ trees.switch (expr_view e) (map label_view labels.items) (stmts_of (map stmt_view v.items))
switch_view e labels v = search (rules, stmt_views.the_lemmas, row_view)
