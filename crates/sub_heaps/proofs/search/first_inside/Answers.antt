use Rattle.std.proofs.Common.{arith}
use Rattle.sub_heaps.proofs.Blocks.{lowest_inside}
use Rattle.sub_heaps.proofs.search.first_inside.Goals as goal

pub returns-else-offset-bytes-clause-lowest : goal.returns-else-offset-bytes-clause-lowest
returns-else-offset-bytes-clause-lowest c = λ at le inside. lowest_inside c.args.size (omega arith) c.args.from c.args.bytes at (omega arith) le inside
