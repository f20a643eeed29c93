use Rattle.std.proofs.Common.{◌≡◌, drop}
use Rattle.c_meaning.specs.Meaning.{program}
use Rattle.block_meaning.specs.Running.{running_of}
use Rattle.rule_check.specs.Seeded.{first_ready}
use Rattle.rule_check.proofs.choosing.first_of.Given as goal

-- nothing changed, and those that were looked at wait
pub record HavePassed (same_program same_state same_first : Type 0) : Type 0 where
  pub program_stays : same_program
  pub state_stays : same_state
  pub passed : same_first

abbrev pub invariant-loop-thread : goal.invariant-loop-thread
invariant-loop-thread l = HavePassed
    ((running_of l.run).typed ≡ (running_of l.initial.run).typed)
    ((running_of l.run).state ≡ (running_of l.initial.run).state)
    (first_ready (program (running_of l.initial.run).typed) (running_of l.initial.run).state (drop l.thread-index l.threads) ≡ first_ready (program (running_of l.initial.run).typed) (running_of l.initial.run).state l.threads)
