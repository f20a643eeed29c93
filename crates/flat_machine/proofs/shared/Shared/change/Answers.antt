use Rattle.std.proofs.Common.{subst}
use Rattle.flat_threads.specs.Targets.{target_view}
use Rattle.flat_machine.specs.inner.Dones.{Does}
use Rattle.flat_machine.proofs.Changing.{changed_is}
use Rattle.flat_machine.proofs.shared.Shared.change.Goals as goal

pub returns-in-Ok-clause-does : goal.returns-in-Ok-clause-does
returns-in-Ok-clause-does c =
    subst (Does c.args.self.now c.write_number.new.self c.write_number.result) (changed_is c.args.self.now.memory c.args.ty c.args.how (target_view c.args.at) c.args.by c.in-Ok.old c.changed_word.result c.in-Ok.ensures.number c.changed_word.ensures) c.write_number.ensures.does
