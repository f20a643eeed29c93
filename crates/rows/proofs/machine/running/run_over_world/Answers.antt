use Rattle.std.proofs.Common.{◌≡◌, length, sym, subst, ◌∙◌, arith}
use Rattle.turn_lock.specs.Locks.{AllPasses}
use Rattle.rows.proofs.Passes.{written}
use Rattle.rows.proofs.machine.running.run_over_world.Goals as goal

pub finish-requires-clause-all : goal.finish-requires-clause-all
finish-requires-clause-all g c =
    let long : length c.drive.new.passes ≡ c.in_ok-world.passes.len = omega (arith, c.drive.auto.passes, c.deref_mut.ensures.len, c.in_ok-world.ensures.passes) in (
      c.in_ok-world.ensures.passes.0 ∙ sym c.in_ok-world.ensures.passes.1,
      subst (AllPasses c.in_ok-world.world.lock) (sym (written c.drive.new.passes c.in_ok-world.passes.items c.in_ok-world.passes.len long)) c.drive.ensures.all,
    )
