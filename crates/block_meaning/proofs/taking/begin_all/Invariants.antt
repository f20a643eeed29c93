use Rattle.std.proofs.Common.{◌≡◌, ◌++◌, ◌-◌, length}
use Rattle.block_store.specs.Runs.{begun}
use Rattle.c_meaning.specs.Meaning.{program}
use Rattle.source_tree.specs.SharedViews.{program_of}
use Rattle.source_state.specs.Worlds.{world_of}
use Rattle.block_meaning.specs.Threads.{owns_of}
use Rattle.block_meaning.proofs.taking.begin_all.Given as goal

abbrev pub invariant-made : goal.invariant-made
invariant-made l =
    owns_of l.threads.items ++ begun (program (program_of l.program)) (length l.threads.items) (world_of l.world)
    ≡ owns_of l.initial.threads.items ++ begun (program (program_of l.program)) (length l.initial.threads.items) (world_of l.world)

abbrev pub decreases-made : goal.decreases-made
decreases-made l = length l.world.threads.items - length l.threads.items
