use Rattle.source_state.proofs.world.World.act_plainly.Goals as goal

pub returns-in-Compare-clause-done : goal.returns-in-Compare-clause-done
returns-in-Compare-clause-done c = rw c.in-Compare.is c.compare.ensures.done
