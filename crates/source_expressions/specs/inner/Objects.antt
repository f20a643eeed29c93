-- How far locals and lvalues get.
use Rattle.std.specs.Prelude.{ℕ, ◌≡◌, List}
use Rattle.block_store.specs.declared.values.Ptr.TheVariants.{To}
use Rattle.block_store.specs.declared.values.Value.{Value}
use Rattle.block_store.specs.declared.values.Value.TheVariants.{Pointer}
use Rattle.block_store.specs.Actions as actions
use Rattle.block_store.specs.Blocks.{Blocks}
use Rattle.c_tree.specs.Typed as tree
use Rattle.c_meaning.specs.Control as control
use Rattle.c_meaning.specs.Turns as turns
use Rattle.c_meaning.specs.Values as values
use Rattle.source_tree.specs.declared.tree.SharedProgram.{SharedProgram}
use Rattle.source_expressions.specs.Ends.{Rest, here_at}
use Rattle.source_state.specs.declared.control.Progress.{Progress}
use Rattle.source_expressions.specs.Progress.{now_in, progress}

-- the pointer to the start of a block
abbrev pub block_pointer : ℕ → Value
block_pointer block = Pointer (To block 0)

-- a local gives its value, or its block is read (C11 6.3.2.1 p2)
pub record FlowsVariable (place : ℕ) (ty : tree.Ty) (v : control.Variable) (k : control.Use) (g : Progress) : Type 0 where
  pub goes : (h : turns.TurnContext) (w : turns.WayOfUse) (x : turns.Now) → w.k ≡ k → turns.reads_variable h place ty w v x ≡ progress h w x g

-- a local gives the pointer to its block
pub record FindsVariable (place : ℕ) (v : control.Variable) (g : Progress) : Type 0 where
  pub goes : (h : turns.TurnContext) (w : turns.WayOfUse) (x : turns.Now) → turns.finds_variable place w v x ≡ progress h w x g

-- an lvalue gets so far that is read
pub record FlowsRead (p : SharedProgram) (locals : List control.Variable) (blocks : Blocks) (e : tree.Expr) (k : control.Use) (g : Progress) : Type 0 where
  pub goes : (function : ℕ) (r : Rest) (w : turns.WayOfUse) (x : actions.World) → w.k ≡ k →
      turns.run_place (here_at p function r) e (turns.read_way (here_at p function r) (tree.place_of e) (values.access_of_type (tree.type_of e)) (values.is_atomic (tree.type_of e)) w) (now_in locals blocks x)
      ≡ progress (here_at p function r) w (now_in locals blocks x) g
