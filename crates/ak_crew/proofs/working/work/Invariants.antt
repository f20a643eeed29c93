use Rattle.std.proofs.Common.{◌≡◌}
use Rattle.turn_lock.specs.Locks.{IsPassOf, worker_of}
use Rattle.ak_crew.proofs.working.work.Given as goal

abbrev pub invariant-loop : goal.invariant-loop
invariant-loop g l = record {
  pass : IsPassOf l.world.lock l.pass;
  worker : worker_of l.pass ≡ worker_of l.fn.pass;
}
