use Rattle.code_save.proofs.Writing.{on_ok}
use Rattle.code_save.proofs.Spelled.{bits_wrote}
use Rattle.code_save.proofs.numbers.put_piece_bits.Goals as goal

pub returns : goal.returns
returns c = on_ok c.put.result (bits_wrote c.args.bits) c.put.ensures
