-- An order as the code has it, and where its run comes to.
use Rattle.block_store.specs.Runs as runs
use Rattle.c_meaning.specs.Control.{Control}
use Rattle.run_tests.specs.declared.order_runs.OrderEnd.{OrderEnd}
use Rattle.run_tests.specs.declared.order_runs.OrderEnd.TheVariants as ends
use Rattle.run_tests.specs.declared.order_runs.Pick.{Pick}

-- a pair of an order
abbrev pub pick_of : Pick → runs.Pick
pick_of p = record { thread = p.thread; answer = p.answer }

-- where a run comes to, where the code has come to this state
abbrev pub comes_to : OrderEnd → runs.State Control → runs.Run Control
comes_to ends.Reached s = runs.reaches s
comes_to (ends.Broke rule k) s = runs.breaks rule k
comes_to (ends.NoRun k) s = runs.no_run k
