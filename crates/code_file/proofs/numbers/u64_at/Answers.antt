use Rattle.std.proofs.Common.{arith}
use Rattle.formats.specs.Formats.{u64}
use Rattle.formats.proofs.Reading.{number_short}
use Rattle.code_file.proofs.numbers.u64_at.Goals as goal

pub returns-then-bytes-lt8 : goal.returns-then-bytes-lt8
unfolding u64
returns-then-bytes-lt8 c = number_short 8 c.args.bytes.now (λ i. omega (arith, c.type_inv.bytes i)) c.if-bytes-lt8.true
