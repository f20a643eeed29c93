use Rattle.rows.proofs.Homes.{are_home, run_swept}
use Rattle.rows.proofs.machine.turns.sweep.Goals as goal

pub barrier-requires-clause-home : goal.barrier-requires-clause-home
barrier-requires-clause-home g c = are_home (g.F.Flat.machine c.args.code.now) (g.F.Flat.shared_of c.args.code.now) (g.F.Flat.context_of c.args.code.now) c.args.shared.now c.args.homes.now c.requires.run c.requires.all

pub returns : goal.returns
returns g c = run_swept (g.F.Flat.machine c.args.code.now) (g.F.Flat.shared_of c.args.code.now) (g.F.Flat.context_of c.args.code.now) (g.met.F.Flat.lawful c.args.code.now) c.args.shared.now c.barrier.new.self c.args.homes.now c.barrier.new.home c.requires.run c.requires.all c.barrier.ensures.shared c.barrier.ensures.homes
