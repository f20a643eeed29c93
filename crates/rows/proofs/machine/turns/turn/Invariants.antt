use Rattle.flat_rules.specs.declared.step.Step.TheVariants as step
use Rattle.rows.specs.Runs.{Turns}
use Rattle.rows.proofs.machine.turns.turn.Given as goal

abbrev pub invariant-loop : goal.invariant-loop
invariant-loop g l = Turns (g.F.Flat.machine l.code) (g.F.Flat.shared_of l.code) (g.F.Flat.context_of l.code) l.fn.shared l.shared ((g.F.Flat.machine l.code).thread_of l.fn.ctx) l.ctx step.Went
