use Rattle.std.proofs.Common.{◌≡◌, length}
use Rattle.turn_lock.specs.Locks.{AllPasses, first_of}
use Rattle.rows.specs.Hands.{HoldsAt}
use Rattle.rows.proofs.machine.driving.drive.Given as goal

abbrev pub invariant-loop : goal.invariant-loop
invariant-loop g l = record {
  two : length l.passes ≡ 2;
  all : AllPasses l.world.lock l.passes;
  first : HoldsAt g.F.Flat.machine g.F.Flat.shared_of g.F.Flat.context_of (first_of l.world.lock) l.passes 0 l.first;
  second : HoldsAt g.F.Flat.machine g.F.Flat.shared_of g.F.Flat.context_of (first_of l.world.lock) l.passes 1 l.second;
}
