use Rattle.c_tree.specs.TypedViews.{piece_view}
use Rattle.code_save.proofs.Writing.{on_ok}
use Rattle.code_save.proofs.Parts.{piece_wrote}
use Rattle.code_save.proofs.actions.put_piece.Goals as goal

pub returns : goal.returns
returns c = on_ok c.put_piece_fields.result (piece_wrote (piece_view c.args.piece.now) c.piece_tag.result c.piece_tag.ensures c.in_ok-put.ensures) c.put_piece_fields.ensures
