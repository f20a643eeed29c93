-- How far work lists get in a turn.
use Rattle.std.specs.Prelude.{ℕ, ◌≡◌, List}
use Rattle.block_store.specs.declared.values.Value.{Value}
use Rattle.block_store.specs.Actions as actions
use Rattle.block_store.specs.Blocks.{Blocks}
use Rattle.c_meaning.specs.Control as control
use Rattle.c_meaning.specs.Turns as turns
use Rattle.source_tree.specs.declared.tree.SharedProgram.{SharedProgram}
use Rattle.source_state.specs.declared.control.Pending.{Pending}
use Rattle.source_expressions.specs.Ends.{Rest, here_at, ends}
use Rattle.source_expressions.specs.Progress.{now_in}
use Rattle.source_assignments.specs.declared.exit.Exit.{Exit}
use Rattle.source_assignments.specs.Exits.{exit}

-- what is left to do behind a statement that was left so comes to what ends the turn
pub record Finishes (p : SharedProgram) (function : ℕ) (k : control.Todo) (e : Exit) (locals : List control.Variable) (blocks : Blocks) (new_locals : List control.Variable) (new_blocks : Blocks) (q : Pending) : Type 0 where
  pub goes : (r : Rest) (x : actions.World) →
      exit (here_at p function r) (turns.way_of (here_at p function r) k) (now_in locals blocks x) e ≡ ends (here_at p function r) q (now_in new_locals new_blocks x)

-- what uses a value comes to what ends the turn
pub record GivesTo (p : SharedProgram) (function : ℕ) (k : control.Use) (v : Value) (locals : List control.Variable) (blocks : Blocks) (new_locals : List control.Variable) (new_blocks : Blocks) (q : Pending) : Type 0 where
  pub goes : (r : Rest) (x : actions.World) →
      (turns.use_of (here_at p function r) k).go v (now_in locals blocks x) ≡ ends (here_at p function r) q (now_in new_locals new_blocks x)
