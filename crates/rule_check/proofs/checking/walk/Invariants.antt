use Rattle.std.proofs.Common.{map}
use Rattle.c_meaning.specs.Meaning.{start}
use Rattle.block_meaning.specs.Running.{running_of}
use Rattle.rule_check.specs.Reports.{pick_of}
use Rattle.rule_check.proofs.Walk.{Goes}
use Rattle.rule_check.proofs.checking.walk.Given as goal

-- so far the order is the seeded one
abbrev pub invariant-loop-turns : goal.invariant-loop-turns
invariant-loop-turns l =
    Goes (running_of l.initial.run).typed (running_of l.run).typed (start (running_of l.initial.run).typed) l.seed l.turns l.x l.threads.items (map pick_of l.order.items) (running_of l.run).state
