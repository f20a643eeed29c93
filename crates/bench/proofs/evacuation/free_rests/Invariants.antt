use Rattle.std.proofs.Common.{◌≡◌}
use Rattle.bench.proofs.evacuation.free_rests.Given as goal

abbrev pub invariant-loop-number : goal.invariant-loop-number
invariant-loop-number l = (l.heaps.most ≡ l.initial.heaps.most) × (l.heaps.count ≡ l.initial.heaps.count)
