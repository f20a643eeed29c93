-- How far a piece gets in a turn: to its value, or to what ends the turn.
use Rattle.std.specs.Prelude.{ℕ, ◌≡◌, Bool, if◌then◌else◌, List, Result, Ok, Err}
use Rattle.ak_words.specs.declared.rule.Rule.{Rule}
use Rattle.block_store.specs.declared.values.Access.{Access}
use Rattle.block_store.specs.declared.values.Value.{Value}
use Rattle.block_store.specs.Actions as actions
use Rattle.block_store.specs.Blocks.{Blocks}
use Rattle.block_store.specs.Runs.{Turn}
use Rattle.c_tree.specs.Typed as tree
use Rattle.c_meaning.specs.Control as control
use Rattle.c_meaning.specs.Turns as turns
use Rattle.c_meaning.specs.Values as values
use Rattle.source_tree.specs.declared.tree.SharedProgram.{SharedProgram}
use Rattle.source_expressions.specs.Ends.{Rest, here_at, ends}
use Rattle.source_state.specs.declared.control.Progress.{Progress}
use Rattle.source_state.specs.declared.control.Progress.TheVariants as flows
use Rattle.source_state.specs.declared.control.Pending.{Pending}
use Rattle.source_state.specs.declared.control.Pending.TheVariants as pendings

-- these locals and these blocks, in a world
abbrev pub now_in : List control.Variable → Blocks → actions.World → turns.Now
now_in locals blocks w = record { locals = locals; world = actions.with_blocks w blocks }

-- a value goes on to what uses it, and else the turn ends
abbrev pub progress : turns.TurnContext → turns.WayOfUse → turns.Now → Progress → Turn control.Control
progress h w x (flows.Gives v) = w.go v x
progress h w x (flows.Ends q) = ends h q x

-- an expression gets so far, where this is what its value is used for: whatever the rest of the world and of the turn
pub record Flows (p : SharedProgram) (locals : List control.Variable) (blocks : Blocks) (e : tree.Expr) (k : control.Use) (g : Progress) : Type 0 where
  pub goes : (function : ℕ) (r : Rest) (w : turns.WayOfUse) (x : actions.World) → w.k ≡ k →
      turns.run (here_at p function r) e w (now_in locals blocks x) ≡ progress (here_at p function r) w (now_in locals blocks x) g

-- an lvalue gets so far, to the pointer to its object
pub record FlowsPlace (p : SharedProgram) (locals : List control.Variable) (blocks : Blocks) (e : tree.Expr) (k : control.Use) (g : Progress) : Type 0 where
  pub goes : (function : ℕ) (r : Rest) (w : turns.WayOfUse) (x : actions.World) → w.k ≡ k →
      turns.run_place (here_at p function r) e w (now_in locals blocks x) ≡ progress (here_at p function r) w (now_in locals blocks x) g

-- the arguments of a call get so far: the call follows them, and so they always end the turn
pub record FlowsCall (p : SharedProgram) (locals : List control.Variable) (blocks : Blocks) (place : ℕ) (callee : control.Callee) (all : tree.Exprs) (before : List Value) (k : control.Wait) (q : Pending) : Type 0 where
  pub goes : (function : ℕ) (r : Rest) (x : actions.World) →
      turns.run_arguments (here_at p function r) place callee all before k (now_in locals blocks x) ≡ ends (here_at p function r) q (now_in locals blocks x)

-- a value, or the end of the turn at a broken rule
abbrev pub done_with : (place : ℕ) → Result Value Rule → Progress
done_with place (Ok v) = flows.Gives v
done_with place (Err rule) = flows.Ends (pendings.Broke rule place)

-- an object is read: that ends the turn
pub record Reads (place : ℕ) (how : Access) (atomic : Bool) (at : Value) (k : control.Use) (g : Progress) : Type 0 where
  pub goes : (h : turns.TurnContext) (w : turns.WayOfUse) (x : turns.Now) → w.k ≡ k → (turns.read_way h place how atomic w).go at x ≡ progress h w x g

-- an expression gets so far as the right operand of an operation
pub record FlowsSecond (p : SharedProgram) (locals : List control.Variable) (blocks : Blocks) (place : ℕ) (op : values.Binary) (left : Value) (e : tree.Expr) (k : control.Use) (g : Progress) : Type 0 where
  pub goes : (function : ℕ) (r : Rest) (w : turns.WayOfUse) (x : actions.World) → w.k ≡ k →
      turns.run (here_at p function r) e (turns.second_way place op left w) (now_in locals blocks x) ≡ progress (here_at p function r) w (now_in locals blocks x) g

-- what follows the test of the left operand of && or || (C11 6.5.13, 6.5.14)
abbrev pub after_test : turns.TurnContext → (decides holds : Bool) → tree.Expr → turns.WayOfUse → turns.Does
after_test h decides holds e w x =
    if turns.is_same holds decides then w.go (values.int_of holds) x else turns.run h e (turns.second_test_way (tree.place_of e) w) x

-- that gets so far
pub record FlowsTest (p : SharedProgram) (locals : List control.Variable) (blocks : Blocks) (decides holds : Bool) (e : tree.Expr) (k : control.Use) (g : Progress) : Type 0 where
  pub goes : (function : ℕ) (r : Rest) (w : turns.WayOfUse) (x : actions.World) → w.k ≡ k →
      after_test (here_at p function r) decides holds e w (now_in locals blocks x) ≡ progress (here_at p function r) w (now_in locals blocks x) g
