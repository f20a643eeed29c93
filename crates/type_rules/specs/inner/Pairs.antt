-- Two operands, as the code has them.
use Rattle.std.specs.Prelude.{Box}
use Rattle.std.specs.declared.alloc.Global.{Global}
use Rattle.c_tree.specs.declared.typed.Expr.{Expr as CodeExpr}
use Rattle.c_tree.specs.Typed as trees
use Rattle.c_tree.specs.TypedViews.{boxed_expr_view}

-- the two expressions that those of a pair of the code stand for
abbrev pub expr_pair_view : Box CodeExpr Global × Box CodeExpr Global → trees.Expr × trees.Expr
expr_pair_view p = (boxed_expr_view p.0, boxed_expr_view p.1)
