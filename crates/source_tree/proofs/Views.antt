-- The views of rows.
use Rattle.std.proofs.Common.{◌≡◌, ℕ, map, List, [], ◌∷◌, refl, ap, rules}
use Rattle.std.specs.Global.{Vec, Global}
use Rattle.std.specs.declared.rc.Rc.{Rc}
use Rattle.c_tree.specs.declared.typed.Expr.{Expr}
use Rattle.c_tree.specs.declared.typed.ExprNode.{Row_of-Expr, end_of-Expr, more_of-Expr, items-the_row-Expr}
use Rattle.c_tree.specs.declared.typed.ExprNode.TheViews as expr_views
use Rattle.c_tree.specs.declared.typed.Lib.{Lib}
use Rattle.c_tree.specs.Typed as trees
use Rattle.c_tree.specs.TypedViews.{type_view, expr_node_view, expr_row_view, lib_view}
use Rattle.source_tree.specs.declared.tree.SharedStmt.{SharedStmt, Row_of-SharedRow-stmts-1, end_of-SharedRow-stmts-1, more_of-SharedRow-stmts-1, items-the_row-SharedRow-stmts-1}
use Rattle.source_tree.specs.declared.tree.SharedStmt.TheViews as shared_views
use Rattle.source_tree.specs.declared.tree.SharedRow.{SharedRow}
use Rattle.source_tree.specs.declared.tree.SharedExpr.{SharedExpr}
use Rattle.source_tree.specs.declared.tree.SharedLabels.{SharedLabels}
use Rattle.source_tree.specs.SharedViews.{expr_of, labels_of, stmt_of, held_row, these, row_of}
use Rattle.c_tree.specs.Typed.{stmts_of}
use Rattle.source_tree.specs.inner.CodeTrees.{exprs_view}

pub args_view : (n : _) (k : Row_of-Expr n) → expr_row_view k ≡ exprs_view (items-the_row-Expr n k)
args_view _ end_of-Expr = refl
args_view _ (more_of-Expr place ty node rest) = ap (trees.more_exprs (trees.at place (type_view ty) (expr_node_view node))) (args_view _ rest)

pub call_view : (f : ℕ) (v : Vec Expr) → expr_node_view (expr_views.Call f v) ≡ trees.call f (exprs_view v.items)
call_view f v = search (rules, expr_views.the_lemmas, args_view)

pub lib_call_view : (lib : Lib) (v : Vec Expr) → expr_node_view (expr_views.Lib lib v) ≡ trees.lib (lib_view lib) (exprs_view v.items)
lib_call_view lib v = search (rules, expr_views.the_lemmas, args_view)

held_view : (n : _) (k : Row_of-SharedRow-stmts-1 n) → held_row k ≡ these (items-the_row-SharedRow-stmts-1 n k)
held_view _ end_of-SharedRow-stmts-1 = refl
held_view _ (more_of-SharedRow-stmts-1 x s rest) = ap (trees.more_stmts (stmt_of s)) (held_view _ rest)

pub shared_block : (place : ℕ) (r : Rc SharedRow Global) → stmt_of (shared_views.Block place r) ≡ trees.at_stmt place (trees.block (row_of r.value))
shared_block place r = search (rules, shared_views.the_lemmas, held_view)

pub shared_switch : (place : ℕ) (e : Rc SharedExpr Global) (l : Rc SharedLabels Global) (r : Rc SharedRow Global)
    → stmt_of (shared_views.Switch place e l r) ≡ trees.at_stmt place (trees.switch (expr_of e.value) (labels_of l.value) (row_of r.value))
shared_switch place e l r = search (rules, shared_views.the_lemmas, held_view)

-- ---- rows as lists

abbrev pub shared_stmt : Rc SharedStmt Global → trees.Stmt
shared_stmt s = stmt_of s.value

pub these_row : (all : List (Rc SharedStmt Global)) → these all ≡ stmts_of (map shared_stmt all)
these_row [] = refl
these_row (s ∷ rest) = ap (trees.more_stmts (stmt_of s.value)) (these_row rest)
