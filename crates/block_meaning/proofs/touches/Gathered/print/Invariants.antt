use Rattle.std.proofs.Common.{drop}
use Rattle.source_state.specs.Worlds.{world_of}
use Rattle.block_meaning.proofs.Touching.{GainsRest, of_parts}
use Rattle.block_meaning.proofs.touches.Gathered.print.Given as goal

abbrev pub invariant-parts : goal.invariant-parts
invariant-parts l =
    GainsRest l.initial.self l.self (of_parts (world_of l.world).blocks l.initial.self.place l.parts) (of_parts (world_of l.world).blocks l.initial.self.place (drop l.part-index l.parts))
