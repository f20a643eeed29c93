-- What ends a turn at an assignment whose operands have their values.
use Rattle.std.specs.Prelude.{ℕ, ◌≡◌, Bool}
use Rattle.block_store.specs.declared.values.Value.{Value}
use Rattle.c_tree.specs.Typed as tree
use Rattle.c_meaning.specs.Control as control
use Rattle.c_meaning.specs.Library.{changed_by}
use Rattle.c_meaning.specs.Values.{is_minus}
use Rattle.c_meaning.specs.Turns as turns
use Rattle.source_tree.specs.declared.tree.SharedProgram.{SharedProgram}
use Rattle.source_state.specs.declared.control.Pending.{Pending}
use Rattle.source_expressions.specs.Ends.{Rest, here_at, ends}

-- a value is stored in an object: that ends the turn
pub record Stores (place : ℕ) (atomic : Bool) (to v : Value) (k : control.Todo) (q : Pending) : Type 0 where
  pub goes : (h : turns.TurnContext) (w : turns.Way) (x : turns.Now) → w.k ≡ k → (turns.place_way h place atomic to w).go v x ≡ ends h q x

-- a struct is copied to another: that ends the turn
pub record Copies (p : SharedProgram) (place : ℕ) (ty : tree.Ty) (to from : Value) (k : control.Todo) (q : Pending) : Type 0 where
  pub goes : (function : ℕ) (r : Rest) (w : turns.Way) (x : turns.Now) → w.k ≡ k →
      (turns.struct_right_way (here_at p function r) place ty to w).go from x ≡ ends (here_at p function r) q x

-- a is read in a op= b, once b has its value: that ends the turn
pub record ReadsUpdated (u : control.Update) (at by : Value) (k : control.Todo) (q : Pending) : Type 0 where
  pub goes : (h : turns.TurnContext) (w : turns.Way) (x : turns.Now) → w.k ≡ k → turns.update_reads h u at by w x ≡ ends h q x

-- a is changed, which is atomic: that ends the turn
pub record ChangesUpdated (u : control.Update) (at by : Value) (k : control.Todo) (q : Pending) : Type 0 where
  pub goes : (h : turns.TurnContext) (w : turns.Way) (x : turns.Now) → w.k ≡ k → turns.update_changes h u w (changed_by (is_minus u.op) (turns.pointer_in at) by) x ≡ ends h q x

-- the one or the other, by the type of a
pub record Updates (u : control.Update) (at by : Value) (k : control.Todo) (q : Pending) : Type 0 where
  pub goes : (h : turns.TurnContext) (w : turns.Way) (x : turns.Now) → w.k ≡ k → (turns.update_right_way h u at w).go by x ≡ ends h q x
