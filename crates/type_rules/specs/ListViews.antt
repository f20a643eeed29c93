-- What the code's lists are.
use Rattle.std.specs.Prelude.{List, map, Vec}
use Rattle.std.specs.declared.alloc.Global.{Global}
use Rattle.c_tree.specs.declared.typed.Expr.{Expr as CodeExpr}
use Rattle.c_tree.specs.declared.typed.Piece.{Piece as CodePiece}
use Rattle.c_tree.specs.Typed as trees
use Rattle.c_tree.specs.TypedViews.{expr_view, piece_view}

-- the expressions that those of a list of the code stand for
abbrev pub exprs_view : Vec CodeExpr Global → List trees.Expr
exprs_view v = map expr_view v.items

-- the pieces of a format that those of a list of the code stand for
abbrev pub pieces_view : Vec CodePiece Global → List trees.Piece
pieces_view v = map piece_view v.items
