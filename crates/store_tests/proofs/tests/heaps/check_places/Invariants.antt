use Rattle.std.proofs.Common.{◌≡◌}
use Rattle.store_tests.proofs.tests.heaps.check_places.Given as goal

abbrev pub invariant-loop-bytes : goal.invariant-loop-bytes
invariant-loop-bytes g l = l.heaps.most ≡ 8
