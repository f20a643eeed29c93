use Rattle.std.proofs.Common.{◌≡◌}
use Rattle.store_tests.proofs.tests.heaps.holds_a_million_objects.Given as goal

abbrev pub invariant-loop-number : goal.invariant-loop-number
invariant-loop-number g l = l.heaps.most ≡ 1000001

abbrev pub invariant-loop-number-2 : goal.invariant-loop-number-2
invariant-loop-number-2 g l = l.heaps.most ≡ 1000001

abbrev pub invariant-loop-number-3 : goal.invariant-loop-number-3
invariant-loop-number-3 g l = l.heaps.most ≡ 1000001
