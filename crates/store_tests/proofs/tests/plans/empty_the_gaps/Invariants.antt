use Rattle.std.proofs.Common.{◌≡◌}
use Rattle.store_tests.proofs.tests.plans.empty_the_gaps.Given as goal

abbrev pub invariant-loop-part : goal.invariant-loop-part
invariant-loop-part l = l.heaps.most ≡ l.fn.heaps.most
