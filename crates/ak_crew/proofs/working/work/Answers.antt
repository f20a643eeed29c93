use Rattle.turn_lock.specs.Locks.{first_of}
use Rattle.ak_crew.proofs.Going.{out_first, works_first, over_found}
use Rattle.ak_crew.proofs.working.work.Goals as goal

pub carry-how-requires-clause-out : goal.carry-how-requires-clause-out
carry-how-requires-clause-out g c κs bounds = out_first g.F.Flat.machine g.F.Flat.shared_of g.F.Flat.context_of (first_of c.args.world.now.lock) c.loop.pass c.find.new.pass c.find.result c.find.ensures.finds c.args.code.now c.requires.code c.in-Work.ctx c.in-Work.is

pub carry-how-requires-clause-works : goal.carry-how-requires-clause-works
carry-how-requires-clause-works g c κs bounds = works_first g.F.Flat.machine g.F.Flat.shared_of g.F.Flat.context_of (first_of c.args.world.now.lock) c.loop.pass c.find.new.pass c.find.result c.find.ensures.finds c.args.code.now c.requires.code c.in-Work.ctx c.in-Work.is

pub returns-in-Over-clause-over : goal.returns-in-Over-clause-over
returns-in-Over-clause-over g c =
    over_found g.F.Flat.machine g.F.Flat.shared_of g.F.Flat.context_of c.args.world.now.lock c.loop.pass c.find.new.pass c.find.result c.loop.invariant.pass c.find.ensures.pass.1 c.find.ensures.finds c.in-Over.field-0 c.in-Over.is
