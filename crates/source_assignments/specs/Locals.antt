-- What the begin and the end of locals change.
use Rattle.std.specs.Prelude.{◌≡◌, List}
use Rattle.block_store.specs.Actions as actions
use Rattle.block_store.specs.Blocks.{Blocks}
use Rattle.c_meaning.specs.Control as control
use Rattle.c_meaning.specs.Turns as turns
use Rattle.source_expressions.specs.Progress.{now_in}

-- a change of locals and blocks, in every world
pub record Comes (f : turns.Now → turns.Now) (locals : List control.Variable) (blocks : Blocks) (new_locals : List control.Variable) (new_blocks : Blocks) : Type 0 where
  pub goes : (x : actions.World) → f (now_in locals blocks x) ≡ now_in new_locals new_blocks x
