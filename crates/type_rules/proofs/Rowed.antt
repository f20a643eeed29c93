-- A call's arguments, as they lie in the tree.
use Rattle.std.proofs.Common.{◌≡◌, ℕ, map, refl, ap, rules}
use Rattle.std.specs.Prelude.{Vec}
use Rattle.std.specs.declared.alloc.Global.{Global}
use Rattle.c_tree.specs.declared.typed.Lib.{Lib as CodeLib}
use Rattle.c_tree.specs.declared.typed.Expr.{Expr as CodeExpr}
use Rattle.c_tree.specs.declared.typed.ExprNode.{Call, Lib, Row_of-Expr, end_of-Expr, more_of-Expr, items-the_row-Expr, the_lemmas}
use Rattle.c_tree.specs.Typed.{at, call, lib, more_exprs, exprs_of}
use Rattle.c_tree.specs.TypedViews.{type_view, lib_view, expr_node_view, expr_row_view, expr_view}
use Rattle.type_rules.specs.ListViews.{exprs_view}

row_list : (m : _) (row : Row_of-Expr m) → expr_row_view row ≡ exprs_of (map expr_view (items-the_row-Expr m row))
row_list m end_of-Expr = refl
row_list m (more_of-Expr place ty node rest) = ap (more_exprs (at place (type_view ty) (expr_node_view node))) (row_list _ rest)

pub call_seen : (n : ℕ) (v : Vec CodeExpr Global) → expr_node_view (Call n v) ≡ call n (exprs_of (exprs_view v))
call_seen n v = search (rules, the_lemmas, row_list)

pub lib_seen : (which : CodeLib) (v : Vec CodeExpr Global) → expr_node_view (Lib which v) ≡ lib (lib_view which) (exprs_of (exprs_view v))
lib_seen which v = search (rules, the_lemmas, row_list)
