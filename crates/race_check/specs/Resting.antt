-- A block that has ended is touched no more.
use Rattle.std.specs.Prelude.{ℕ, List}
use Rattle.block_store.specs.Runs.{Pick, State}
use Rattle.c_tree.specs.Typed.{Typed}
use Rattle.c_meaning.specs.Control.{Control}
use Rattle.c_meaning.specs.Touching.{turns_from}
use Rattle.block_meaning.specs.Running.{HasEnded}
use Rattle.race_rules.specs.Histories.{StillTouched}

-- a law: from a state on, no turn of an order reads or writes a block that has ended there
abbrev pub EndedBlocksRest : Type 0
EndedBlocksRest = (typed : Typed) (order : List Pick) (s : State Control) (block : ℕ) → HasEnded s.world.blocks block → StillTouched (turns_from typed order s) 0 block → ⊥
