use Rattle.std.proofs.Common.{◌≡◌, map, take}
use Rattle.c_tree.specs.TypedViews.{piece_view}
use Rattle.c_tree.proofs.copies.copy_pieces.Given as goal

-- the copies so far
abbrev pub invariant-each : goal.invariant-each
invariant-each l = map piece_view l.copies.items ≡ map piece_view (take l.piece-index l.pieces)
