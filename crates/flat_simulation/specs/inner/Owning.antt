-- A step that reaches, in a call that owns what its turn has made.
use Rattle.std.specs.Prelude.{◌≡◌, ℕ, ◌≤◌, List, length, Some}
use Rattle.block_store.specs.Blocks.{Block, live}
use Rattle.block_store.specs.Runs as runs
use Rattle.block_store.specs.Runs.{Pick}
use Rattle.struct_ir.specs.Nodes.{Ir}
use Rattle.struct_ir.specs.Structured.{Position}
use Rattle.struct_ir.specs.Threads.{Thread}
use Rattle.struct_ir.specs.meaning.Blocks.{Own}
use Rattle.flat_meaning.specs.Image.{Image}
use Rattle.flat_meaning.specs.Words.{Words}
use Rattle.flat_meaning.specs.Memory.{Memory}
use Rattle.flat_meaning.specs.Names.{Name}
use Rattle.flat_meaning.specs.Reaching.{StepReaches}

-- each block that the turn has made by its stop and that lives there is a stack object of the call
pub record StepOwns (x : Image Position) (p : Ir) (names : List Name) (u : runs.State (Thread Position Own)) (m : Memory) (k : Pick) (t : Thread Position Own) (q : Thread Position Words) : Type 0 where
  pub step : StepReaches x p names u m k t q
  pub begun : (block : ℕ) (b : Block) → length u.world.blocks ≤ block → live step.stop.own.blocks block ≡ Some b → (i : ℕ) × (step.stop.own.objects i ≡ Some block)
