use Rattle.std.proofs.Common.{◌≡◌, ◌++◌, drop}
use Rattle.block_meaning.specs.Running.{running_of}
use Rattle.rule_check.specs.Seeded.{running_from, running}
use Rattle.rule_check.proofs.threads.list_running.Given as goal

-- those that were looked at are listed
abbrev pub invariant-loop-thread : goal.invariant-loop-thread
invariant-loop-thread l =
    l.threads.items ++ running_from l.thread (drop l.thread (running_of l.run).state.own) ≡ running (running_of l.run).state.own
