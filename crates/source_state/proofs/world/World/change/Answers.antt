use Rattle.source_state.specs.Worlds.{world_of}
use Rattle.source_state.proofs.Broken.{change_err}
use Rattle.source_state.proofs.world.World.change.Goals as goal

pub returns-in-Err-clause-done : goal.returns-in-Err-clause-done
returns-in-Err-clause-done c = change_err _ (world_of c.args.self.now) _ _ c.in-Err.ensures.answer
