use Rattle.std.proofs.Common.{◌≡◌}
use Rattle.store_tests.proofs.tests.plans.take_half.Given as goal

abbrev pub invariant-loop-number : goal.invariant-loop-number
invariant-loop-number l = l.heaps.most ≡ l.initial.heaps.most
