use Rattle.std.proofs.Common.{◌≡◌}
use Rattle.store_tests.proofs.tests.heaps.places_like_the_definition.Given as goal

abbrev pub invariant-loop-turn : goal.invariant-loop-turn
invariant-loop-turn g l = l.heaps.most ≡ 64
