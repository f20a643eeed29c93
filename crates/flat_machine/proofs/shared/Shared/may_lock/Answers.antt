use Rattle.std.proofs.Common.{◌≡◌, refl, subst, nat_eq}
use Rattle.flat_meaning.specs.Ready.{may_lock}
use Rattle.flat_machine.specs.contracts.shared.Shared.{the_view}
use Rattle.flat_machine.proofs.Mutexes.{may_lock_is}
use Rattle.flat_machine.proofs.shared.Shared.may_lock.Goals as goal

pub returns-in-Ok : goal.returns-in-Ok
returns-in-Ok c =
    let v = the_view c.self.inside in
    subst (λ s. nat_eq c.in-Ok.number 0 ≡ may_lock s.memory c.args.at) c.self.view_is
    (may_lock_is v.memory c.flat.result.now c.flat.ensures.bytes c.args.at (c.in-Ok.ensures.within.0 refl) c.in-Ok.number c.in-Ok.ensures.value)
