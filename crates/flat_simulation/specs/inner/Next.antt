-- What turns of the source come to, beside what events come to.
use Rattle.std.specs.Prelude.{◌≡◌, ℕ, List, ◌++◌}
use Rattle.ak_words.specs.Prefix.{IsPrefix}
use Rattle.block_store.specs.Runs as runs
use Rattle.struct_ir.specs.Nodes.{Ir}
use Rattle.struct_ir.specs.Structured.{Position}
use Rattle.struct_ir.specs.Threads.{Thread}
use Rattle.struct_ir.specs.meaning.Blocks.{Own}
use Rattle.flat_meaning.specs.Image.{Limits, structured_image}
use Rattle.flat_meaning.specs.Events.{MachineState}
use Rattle.flat_meaning.specs.Names.{Name, ids_in}
use Rattle.flat_simulation.specs.inner.Threads.{StateStands}

-- the states stand, by more names, of which those with ids are those that were given
pub record Next (p : Ir) (limits : Limits) (names : List Name) (given : List ℕ) (s : MachineState Position) (u : runs.State (Thread Position Own)) : Type 0 where
  pub all : List Name
  pub stands : StateStands (structured_image p limits) p all u s
  pub ids : ids_in all ≡ ids_in names ++ given
  pub first : IsPrefix names all
