use Rattle.std.proofs.Common.{◌≡◌}
use Rattle.store_tests.proofs.tests.plans.leave_a_gap.Given as goal

abbrev pub invariant-loop-bytes : goal.invariant-loop-bytes
invariant-loop-bytes l = l.heaps.most ≡ 8
