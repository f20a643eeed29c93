use Rattle.std.proofs.Common.{◌≡◌, length}
use Rattle.turn_lock.specs.Histories.{of_worker}
use Rattle.turn_lock.specs.Locks.{IsPassOf, own_of, seen_of, worker_of}
use Rattle.store_tests.proofs.tests.turns.make_calls.Given as goal

abbrev pub invariant-loop-number : goal.invariant-loop-number
invariant-loop-number g l = record {
  pass : IsPassOf l.lock l.pass;
  worker : worker_of l.pass ≡ worker_of l.fn.pass;
  tied : of_worker (worker_of l.pass) (seen_of l.pass) ≡ own_of l.pass;
  numbered : length (own_of l.pass) ≡ l.number;
}
