use Rattle.rows.proofs.Steps.{on_of}
use Rattle.rows.proofs.machine.turns.turn.Goals as goal

pub step-requires-clause-on : goal.step-requires-clause-on
step-requires-clause-on g c = on_of (g.F.Flat.machine c.args.code.now) (g.F.Flat.shared_of c.args.code.now) (g.F.Flat.context_of c.args.code.now) c.loop.shared ((g.F.Flat.machine c.args.code.now).thread_of c.args.ctx.now) c.loop.ctx c.loop.invariant.comes
