use Rattle.std.proofs.Common.{arith}
use Rattle.formats.specs.Formats.{u32}
use Rattle.formats.proofs.Reading.{number_short}
use Rattle.code_file.proofs.numbers.u32_at.Goals as goal

pub returns-then-bytes-lt4 : goal.returns-then-bytes-lt4
unfolding u32
returns-then-bytes-lt4 c = number_short 4 c.args.bytes.now (λ i. omega (arith, c.type_inv.bytes i)) c.if-bytes-lt4.true
