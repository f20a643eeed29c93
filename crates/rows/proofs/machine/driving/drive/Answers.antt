use Rattle.std.proofs.Common.{◌<◌, length, arith}
use Rattle.turn_lock.specs.Locks.{first_of}
use Rattle.rows.proofs.Passes.{saw_over}
use Rattle.rows.proofs.machine.driving.drive.Goals as goal

pub returns-in-Over-clause-over : goal.returns-in-Over-clause-over
returns-in-Over-clause-over g c = λ yes.
    let some : 0 < length c.call_by-second.new.passes = omega (arith, c.loop.invariant.two, c.call_by-first.auto.passes, c.call_by-second.auto.passes) in
    saw_over g.F.Flat.machine g.F.Flat.shared_of g.F.Flat.context_of (first_of c.args.world.now.lock) c.call_by-first.new.passes c.call_by-second.new.passes c.call_by-first.result some c.call_by-first.ensures.holds (c.call_by-second.ensures.others 0 (λ e. absurd (omega (arith, e)))) c.in-Over.is
