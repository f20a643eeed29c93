use Rattle.std.proofs.Common.{◌≡◌}
use Rattle.bench.proofs.evacuation.fill_one.Given as goal

abbrev pub invariant-loop-number : goal.invariant-loop-number
invariant-loop-number l = (l.heaps.most ≡ 1000256) × (l.heaps.count ≡ l.initial.heaps.count)
