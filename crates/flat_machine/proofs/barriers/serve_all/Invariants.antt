use Rattle.std.proofs.Common.{◌≡◌, length}
use Rattle.flat_machine.proofs.Serves.{IsBelow}
use Rattle.flat_machine.proofs.barriers.serve_all.Given as goal

-- the threads below this one have had their turn
abbrev pub invariant-loop-number : goal.invariant-loop-number
invariant-loop-number l = record {
  served : IsBelow l.program l.fn.shared l.fn.home l.number l.shared l.home;
  long : length l.home ≡ length l.fn.home;
}
