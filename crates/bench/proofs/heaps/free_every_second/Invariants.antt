use Rattle.std.proofs.Common.{◌≡◌}
use Rattle.bench.proofs.heaps.free_every_second.Given as goal

abbrev pub invariant-loop-number : goal.invariant-loop-number
invariant-loop-number l = l.heaps.most ≡ l.initial.heaps.most
