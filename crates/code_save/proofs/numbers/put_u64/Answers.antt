use Rattle.std.proofs.Common.{arith}
use Rattle.code_save.proofs.Writing.{on_ok}
use Rattle.code_save.proofs.Spelled.{u64_wrote}
use Rattle.code_save.proofs.numbers.put_u64.Goals as goal

pub returns : goal.returns
returns c = on_ok c.put.result (u64_wrote c.args.n c.to_le_bytes.result (omega (arith, c.ranges.n.fits)) c.to_le_bytes.ensures) c.put.ensures
