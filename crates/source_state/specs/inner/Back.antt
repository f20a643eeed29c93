-- Where a log leads back to.
use Rattle.std.specs.Prelude.{◌-◌, List, [], ◌∷◌, length, take, set}
use Rattle.block_store.specs.Blocks.{Blocks}
use Rattle.source_state.specs.declared.kept.Change.{Change}
use Rattle.source_state.specs.declared.kept.Change.TheVariants.{Made, Ended}

-- the blocks before the change: a block that was made goes, one that was ended is there again
abbrev pub back_by : Change → Blocks → Blocks
back_by Made blocks = take (length blocks - 1) blocks
back_by (Ended gone) blocks = set blocks gone.name gone.block

-- the last change is taken back first
abbrev pub back_by_all : List Change → Blocks → Blocks
back_by_all [] blocks = blocks
back_by_all (c ∷ cs) blocks = back_by c (back_by_all cs blocks)
