use Rattle.std.proofs.Common.{map, arith, rules}
use Rattle.source_state.specs.Worlds.{reached_of}
use Rattle.source_state.proofs.Broken.{get_some, stage_set}
use Rattle.source_state.proofs.world.World.set_stage.Goals as goal

pub returns : goal.returns
returns c =
    stage_set c.args.self.now.store.now c.args.self.now.output.items (map reached_of c.args.self.now.reached.items) c.args.self.now.threads.items c.args.number c.index-thread.result.now c.args.stage
    (get_some c.args.self.now.threads.items c.args.number c.index-thread.result.now (omega arith) (search rules))
