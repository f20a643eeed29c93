use Rattle.flat_threads.specs.Belonging.{IsContextOf}
use Rattle.flat_machine.specs.Machine.{machine_of}
use Rattle.flat_machine.specs.Shares.{IsSharedOf}
use Rattle.rows.specs.Runs.{GoesOn}
use Rattle.rows.proofs.machine.alone.run_alone.Given as goal

abbrev pub invariant-loop : goal.invariant-loop
invariant-loop l = GoesOn (machine_of l.program) (IsSharedOf l.program) (IsContextOf l.program) l.shared l.ctx.number l.ctx
