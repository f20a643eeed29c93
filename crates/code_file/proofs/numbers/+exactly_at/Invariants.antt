use Rattle.std.proofs.Common.{length}
use Rattle.code_file.proofs.numbers.+exactly_at.Given as goal

abbrev pub decreases-exactly_at : goal.decreases-exactly_at
decreases-exactly_at l = length l.wanted.now
