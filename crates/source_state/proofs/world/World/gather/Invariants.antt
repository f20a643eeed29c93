use Rattle.std.proofs.Common.{◌≡◌, ◌++◌, drop, map, Ok}
use Rattle.block_store.specs.Actions.{joined_bytes, all_bytes, reading_parts}
use Rattle.source_state.specs.Worlds.{world_of, printed_of, reached_of}
use Rattle.source_state.proofs.world.World.gather.Given as goal

abbrev pub invariant-parts : goal.invariant-parts
invariant-parts l =
    (joined_bytes (Ok l.text.items) (all_bytes (world_of l.self).blocks (map printed_of (drop l.part-index l.parts)))
    ≡ joined_bytes (Ok l.initial.text.items) (all_bytes (world_of l.self).blocks (map printed_of l.parts)))
    × (map reached_of l.reached.items ++ reading_parts (world_of l.self).blocks (map printed_of (drop l.part-index l.parts))
    ≡ map reached_of l.initial.reached.items ++ reading_parts (world_of l.self).blocks (map printed_of l.parts))
