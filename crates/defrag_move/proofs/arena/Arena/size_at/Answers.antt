use Rattle.defrag_move.proofs.Filled.{next_size, next_there}
use Rattle.defrag_move.proofs.arena.Arena.size_at.Goals as goal

pub unreachable-requires : goal.unreachable-requires
unreachable-requires c = next_there _ c.args.self.now c.self.view_is c.self.invariant.0 c.args.place c.requires c.in_default.ensures.next

pub returns-clause-size : goal.returns-clause-size
returns-clause-size c = next_size _ c.args.self.now c.self.view_is c.self.invariant.0 c.args.place c.requires c.in-Some.object c.in-Some.ensures.next
