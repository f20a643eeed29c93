-- How far what is left to do gets: behind a statement, a value, a round, and in a row.
use Rattle.std.specs.Prelude.{ℕ, ◌≡◌, List}
use Rattle.block_store.specs.declared.values.Value.{Value}
use Rattle.block_store.specs.Actions as actions
use Rattle.block_store.specs.Blocks.{Blocks}
use Rattle.c_tree.specs.Typed as tree
use Rattle.c_meaning.specs.Control as control
use Rattle.c_meaning.specs.Turns as turns
use Rattle.source_tree.specs.declared.tree.SharedProgram.{SharedProgram}
use Rattle.source_state.specs.declared.control.Pending.{Pending}
use Rattle.source_expressions.specs.Ends.{Rest, here_at, ends}
use Rattle.source_expressions.specs.Progress.{now_in, progress}
use Rattle.source_assignments.specs.declared.exit.Exit.{Exit}
use Rattle.source_state.specs.declared.control.Progress.{Progress}
use Rattle.source_assignments.specs.Exits.{exit}

-- behind what was left like this more is left to do before the rest: it comes to what what was left like that comes to
pub record Passes (more : turns.TurnContext → turns.Way → turns.Way) (p : SharedProgram) (function : ℕ) (k : control.Todo) (e : Exit) (locals : List control.Variable) (blocks : Blocks) (new_locals : List control.Variable) (new_blocks : Blocks) (g : Exit) : Type 0 where
  pub goes : (r : Rest) (w : turns.Way) (x : actions.World) → w.k ≡ k →
      exit (here_at p function r) (more (here_at p function r) w) (now_in locals blocks x) e ≡ exit (here_at p function r) w (now_in new_locals new_blocks x) g

-- a value that is used like this, before the rest, gets so far
pub record Continues (used : turns.TurnContext → turns.WayOfUse → turns.WayOfUse) (p : SharedProgram) (locals : List control.Variable) (blocks : Blocks) (v : Value) (k : control.Use) (g : Progress) : Type 0 where
  pub goes : (function : ℕ) (r : Rest) (w : turns.WayOfUse) (x : actions.World) → w.k ≡ k →
      (used (here_at p function r) w).go v (now_in locals blocks x) ≡ progress (here_at p function r) w (now_in locals blocks x) g

-- an expression that got so far comes to what ends the turn
pub record FlowsOn (p : SharedProgram) (function : ℕ) (k : control.Use) (g : Progress) (locals : List control.Variable) (blocks : Blocks) (new_locals : List control.Variable) (new_blocks : Blocks) (q : Pending) : Type 0 where
  pub goes : (r : Rest) (x : actions.World) →
      progress (here_at p function r) (turns.use_of (here_at p function r) k) (now_in locals blocks x) g ≡ ends (here_at p function r) q (now_in new_locals new_blocks x)

-- a round of a loop is over: that ends the turn
pub record EndsRound (l : control.Loop) (k : control.Todo) (q : Pending) : Type 0 where
  pub goes : (h : turns.TurnContext) (x : turns.Now) → turns.round_over h l k x ≡ ends h q x

-- the rest of a row from one place on comes to what the rest from another comes to
pub record RowGoes (p : SharedProgram) (function : ℕ) (all now : tree.Stmts) (k : control.Todo) (locals : List control.Variable) (blocks : Blocks) (new_locals : List control.Variable) (new_blocks : Blocks) : Type 0 where
  pub goes : (r : Rest) (w : turns.Way) (x : actions.World) → w.k ≡ k →
      turns.run_row (here_at p function r) all w (now_in locals blocks x) ≡ turns.run_row (here_at p function r) now w (now_in new_locals new_blocks x)

-- the result of a op= b is stored, once both have their values: that ends the turn
pub record StoresUpdated (p : SharedProgram) (blocks : Blocks) (u : control.Update) (at by v : Value) (k : control.Todo) (q : Pending) : Type 0 where
  pub goes : (function : ℕ) (r : Rest) (w : turns.Way) (locals : List control.Variable) (x : actions.World) → w.k ≡ k →
      (turns.update_read_way (here_at p function r) u at by w).go v (now_in locals blocks x) ≡ ends (here_at p function r) q (now_in locals blocks x)
