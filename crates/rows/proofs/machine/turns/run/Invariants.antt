use Rattle.std.proofs.Common.{◌≤◌}
use Rattle.rows.specs.Runs.{IsRun}
use Rattle.rows.proofs.machine.turns.run.Given as goal

abbrev pub invariant-loop : goal.invariant-loop
invariant-loop g l = record {
  run : IsRun (g.F.Flat.machine l.code) (g.F.Flat.shared_of l.code) (g.F.Flat.context_of l.code) l.shared l.homes.items;
  waits : l.waits ≤ l.counter;
}
