use Rattle.std.proofs.Common.{◌≤◌}
use Rattle.std.specs.FinSet as set
use Rattle.store_tests.proofs.tests.plans.pin.Given as goal

-- no more places than steps so far
abbrev pub invariant-loop-number : goal.invariant-loop-number
invariant-loop-number l = record {
  few : set.len l.pins.places ≤ l.number;
  room : 8 ≤ l.pins.room;
}
