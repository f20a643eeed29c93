use Rattle.std.proofs.Common.{◌≡◌, if◌then◌else◌}
use Rattle.turn_lock.specs.Locks.{IsPassOf, first_of, seen_of, worker_of}
use Rattle.flat_rules.specs.States.{free, asked}
use Rattle.world_rules.specs.Allowed.{IsOut}
use Rattle.world_rules.specs.Sound.{MayWork}
use Rattle.ak_crew.proofs.carrying.carry.Given as goal

abbrev pub invariant-loop : goal.invariant-loop
invariant-loop g l = record {
  pass : IsPassOf l.world.lock l.pass;
  worker : worker_of l.pass ≡ worker_of l.fn.pass;
  out : IsOut g.F.Flat.machine (first_of l.world.lock) (seen_of l.pass) (worker_of l.pass) ((g.F.Flat.machine l.code).thread_of l.ctx) l.ctx (if l.asked then asked else free);
  works : MayWork g.F.Flat.machine g.F.Flat.shared_of g.F.Flat.context_of l.code l.ctx;
}
