-- A call, and what is found beside it.
use Rattle.std.specs.Prelude.{Box}
use Rattle.std.specs.declared.alloc.Global.{Global}
use Rattle.c_tree.specs.declared.typed.Expr.{Expr as CodeExpr}
use Rattle.c_tree.specs.Typed as trees
use Rattle.c_tree.specs.TypedViews.{boxed_expr_view}

-- the call that one of the code stands for, and nothing beside it
abbrev pub call_and_kind_view : Box CodeExpr Global × Unit {0} → trees.Expr × Unit {0}
call_and_kind_view p = (boxed_expr_view p.0, tt)
