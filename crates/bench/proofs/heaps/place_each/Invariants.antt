use Rattle.std.proofs.Common.{◌≡◌}
use Rattle.bench.proofs.heaps.place_each.Given as goal

abbrev pub invariant-loop-number : goal.invariant-loop-number
invariant-loop-number l = l.heaps.most ≡ 1000001
