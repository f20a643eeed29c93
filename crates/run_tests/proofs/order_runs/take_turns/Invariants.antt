use Rattle.std.proofs.Common.{◌≡◌, map, drop}
use Rattle.block_store.specs.Runs.{run_from}
use Rattle.c_meaning.specs.Meaning.{program}
use Rattle.block_meaning.specs.Running.{running_of}
use Rattle.run_tests.specs.Orders.{pick_of}
use Rattle.run_tests.proofs.order_runs.take_turns.Given as goal

-- the program stays, and what is left of the order comes to what the whole does
pub record Goes (same whole : Type 0) : Type 0 where
  pub program_stays : same
  pub so_far : whole

abbrev pub invariant-loop-k : goal.invariant-loop-k
invariant-loop-k l = Goes
    ((running_of l.run).typed ≡ (running_of l.initial.run).typed)
    (run_from (program (running_of l.run).typed) (map pick_of (drop l.k l.order)) l.k (running_of l.run).state
    ≡ run_from (program (running_of l.initial.run).typed) (map pick_of l.order) 0 (running_of l.initial.run).state)
