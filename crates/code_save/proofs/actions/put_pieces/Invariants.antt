use Rattle.c_tree.specs.TypedViews.{piece_view}
use Rattle.code_file.specs.Actions.{piece}
use Rattle.struct_ir.specs.Valid.{is_piece}
use Rattle.std.proofs.Common.{drop}
use Rattle.code_save.proofs.Writing.{WritesAll}
use Rattle.code_save.proofs.actions.put_pieces.Given as goal

-- what is left makes the whole
abbrev pub invariant-loop-piece : goal.invariant-loop-piece
invariant-loop-piece l = WritesAll (piece) (piece_view) (λ x. is_piece (piece_view x)) (drop l.piece-index l.pieces) l.pieces l.fn.out l.out
