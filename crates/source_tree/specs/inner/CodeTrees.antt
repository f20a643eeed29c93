-- What the code's expressions in a row are.
use Rattle.std.specs.Prelude.{List, [], ◌∷◌}
use Rattle.c_tree.specs.declared.typed.Expr.{Expr as CodeExpr}
use Rattle.c_tree.specs.Typed as trees
use Rattle.c_tree.specs.TypedViews.{expr_view}

-- expressions of the code's typed tree
abbrev pub exprs_view : List CodeExpr → trees.Exprs
exprs_view [] = trees.no_exprs
exprs_view (e ∷ es) = trees.more_exprs (expr_view e) (exprs_view es)
