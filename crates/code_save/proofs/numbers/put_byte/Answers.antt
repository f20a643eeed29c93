use Rattle.std.proofs.Common.{arith}
use Rattle.code_save.proofs.Writing.{on_ok}
use Rattle.code_save.proofs.Spelled.{byte_wrote}
use Rattle.code_save.proofs.numbers.put_byte.Goals as goal

pub returns : goal.returns
returns c = on_ok c.put.result (byte_wrote c.args.b (omega (arith, c.ranges.b.fits))) c.put.ensures
