use Rattle.std.proofs.Common.{refl}
use Rattle.flat_meaning.specs.Actions.{locked}
use Rattle.flat_threads.specs.Targets.{target_view}
use Rattle.flat_machine.specs.contracts.shared.Shared.{the_view}
use Rattle.flat_machine.proofs.Doing.{does_wait}
use Rattle.flat_machine.proofs.Mutexes.{locked_waits}
use Rattle.flat_machine.proofs.shared.Shared.lock.Goals as goal

pub returns-in-Ok-clause-does : goal.returns-in-Ok-clause-does
returns-in-Ok-clause-does c =
    let v = the_view c.self.inside in
    let a = target_view c.args.at in
    rw (← c.self.view_is)
    (does_wait v _ (locked c.args.thread a v.memory) _ refl (locked_waits v.memory c.flat.result.now c.flat.ensures.bytes c.args.at.address (c.in-Ok.ensures.within.0 refl) c.in-Ok.field-0 c.in-Ok.ensures.value c.args.thread a refl c.in-Ok.field-0-test.1))
