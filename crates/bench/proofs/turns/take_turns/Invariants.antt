use Rattle.std.proofs.Common.{◌≡◌}
use Rattle.turn_lock.specs.Locks.{IsPassOf, worker_of}
use Rattle.bench.proofs.turns.take_turns.Given as goal

abbrev pub invariant-loop : goal.invariant-loop
invariant-loop g l = record { pass : IsPassOf l.lock l.pass; worker : worker_of l.pass ≡ worker_of l.fn.pass }
