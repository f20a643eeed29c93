use Rattle.std.proofs.Common.{◌≡◌, Some, ap, ◌∙◌}
use Rattle.flat_meaning.specs.declared.endings.Stop.TheVariants.{NoRoom}
use Rattle.flat_machine.proofs.Acts.{turn_lacks}
use Rattle.flat_machine.proofs.shared.Shared.turn.Goals as goal

pub returns-in-Some-NoRoom : goal.returns-in-Some-NoRoom
returns-in-Some-NoRoom c =
    let is : c.args.stop ≡ Some NoRoom = c.in-Some-NoRoom.is ∙ ap Some (rw c.in-Some-NoRoom.is at c.in-Some-NoRoom.field-0-is) in
    turn_lacks c.args.program.now c.args.stop c.args.self.now c.args.ctx.now c.requires.of is (c.requires.stopped NoRoom is)
