use Rattle.c_tree.specs.TypedViews.{piece_view}
use Rattle.code_file.specs.Actions.{piece}
use Rattle.struct_ir.specs.Valid.{is_piece}
use Rattle.code_save.proofs.Writing.{first_writes, item_writes, all_wrote, tested_wrote}
use Rattle.code_save.proofs.actions.put_pieces.Goals as goal

pub loop-piece-init : goal.loop-piece-init
loop-piece-init c = first_writes (piece) (piece_view) (λ x. is_piece (piece_view x)) c.args.pieces.now c.in_ok-put_count.ensures

pub loop-piece-preserved : goal.loop-piece-preserved
loop-piece-preserved c = item_writes (piece) (piece_view) (λ x. is_piece (piece_view x)) c.args.pieces.now c.loop-piece.piece-index c.piece-item.result c.loop-piece-test.true c.piece-item.is (c.in_ok-put_piece.ensures) c.loop-piece.invariant

pub returns : goal.returns
returns c = tested_wrote piece piece_view is_piece c.args.pieces.now (all_wrote (piece) (piece_view) (λ x. is_piece (piece_view x)) c.args.pieces.now c.loop-piece.piece-index c.loop-piece-test.false c.loop-piece.invariant)
