use Rattle.std.proofs.Common.{◌≡◌, drop, map}
use Rattle.std.specs.List.{list_all}
use Rattle.c_tree.specs.TypedViews.{piece_view}
use Rattle.struct_ir.specs.Valid.{is_piece}
use Rattle.struct_ir.proofs.valid.are_pieces.Given as goal

-- what is left decides
abbrev pub invariant-loop-piece : goal.invariant-loop-piece
invariant-loop-piece l = list_all is_piece (map piece_view (drop l.piece-index l.pieces)) ≡ list_all is_piece (map piece_view l.pieces)
