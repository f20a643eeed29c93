-- Locals by their numbers.
use Rattle.std.specs.Prelude.{ℕ, ◌≡◌, Bool, true, false, List, length, slice_get, Option, Some, None}
use Rattle.block_store.specs.Actions as actions
use Rattle.block_store.specs.Blocks.{Blocks}
use Rattle.c_tree.specs.Typed as tree
use Rattle.c_tree.specs.TypedLayout.{size_in}
use Rattle.c_meaning.specs.Control as control
use Rattle.c_meaning.specs.Turns as turns
use Rattle.source_tree.specs.declared.tree.SharedProgram.{SharedProgram}
use Rattle.source_tree.specs.SharedViews.{program_of}
use Rattle.source_expressions.specs.Progress.{now_in}

-- the local of a number of a function of the program
abbrev pub local_in : SharedProgram → (function number : ℕ) → Option tree.Local
local_in p function number = turns.declared_in (slice_get (program_of p).funcs function) number

-- the name of the next block after a change
pub record Names (block : ℕ) (f : turns.Now → turns.Now) (locals : List control.Variable) (blocks : Blocks) : Type 0 where
  pub names : (x : actions.World) → block ≡ length (f (now_in locals blocks x)).world.blocks

-- the size of a local in bytes
abbrev pub size_in_program : SharedProgram → Option tree.Local → ℕ
size_in_program p None = 0
size_in_program p (Some l) = size_in (program_of p).structs l.ty

-- the number of a local, where it is no block
abbrev pub plain_if : (is_block : Bool) → (number : ℕ) → Option ℕ
plain_if true number = None
plain_if false number = Some number

-- the number of the local without a block that a left side is, if it is one
abbrev pub plain_number : SharedProgram → (function : ℕ) → tree.ExprNode → Option ℕ
plain_number p function (tree.local number) = plain_if (turns.is_block (local_in p function number)) number
plain_number p function node = None

-- an assignment, by that number (C11 6.5.16.1)
abbrev pub assigns_by : turns.TurnContext → Option ℕ → (left right : tree.Expr) → turns.Way → turns.Does
assigns_by h (Some number) left right w = turns.run h right (turns.local_way number w)
assigns_by h None left right w = turns.assigns_object h left right w

-- a compound assignment, by that number (C11 6.5.16.2)
abbrev pub updates_by : turns.TurnContext → control.Update → Option ℕ → (left right : tree.Expr) → turns.Way → turns.Does
updates_by h u (Some number) left right w = turns.run h right (turns.update_local_way h u number w)
updates_by h u None left right w = turns.run_place h left (turns.update_left_way h u right w)
