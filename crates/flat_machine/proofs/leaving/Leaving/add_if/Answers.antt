use Rattle.std.proofs.Common.{arith}
use Rattle.flat_machine.proofs.Left.{has_room}
use Rattle.flat_machine.proofs.leaving.Leaving.add_if.Goals as goal

pub push_reserved-requires : goal.push_reserved-requires
push_reserved-requires c = omega (arith, has_room c.self.inside.serves c.self.inside.words.items c.args.self.now c.self.view_is c.requires.serves c.requires.room, c.self.invariant, c.self.inside.words.ok.0)
