-- How far operations get, by their operands.
use Rattle.std.specs.Prelude.{ℕ, ◌≡◌, Bool, List, []}
use Rattle.block_store.specs.Actions as actions
use Rattle.block_store.specs.Blocks.{Blocks}
use Rattle.c_tree.specs.Typed as tree
use Rattle.c_meaning.specs.Control as control
use Rattle.c_meaning.specs.Turns as turns
use Rattle.c_meaning.specs.Values as values
use Rattle.source_tree.specs.declared.tree.SharedProgram.{SharedProgram}
use Rattle.source_tree.specs.declared.tree.OneForm.{OneForm}
use Rattle.source_tree.specs.declared.tree.OneForm.TheVariants as ones
use Rattle.source_tree.specs.declared.tree.TwoForm.{TwoForm}
use Rattle.source_tree.specs.declared.tree.TwoForm.TheVariants as twos
use Rattle.source_expressions.specs.Ends.{Rest, here_at}
use Rattle.source_state.specs.declared.control.Progress.{Progress}
use Rattle.source_expressions.specs.Progress.{now_in, progress}

-- the operation of a form that gives this type, whose left operand has the type `left` (C11 6.5.5 to 6.5.12)
abbrev pub binary_for : List tree.Layout → TwoForm → (ty left : tree.Ty) → values.Binary
binary_for structs (twos.Numbers op) ty left = values.on_numbers op
binary_for structs twos.Forward ty left = values.forward (values.element_size structs ty)
binary_for structs twos.Backward ty left = values.backward (values.element_size structs left)
binary_for structs twos.Distance ty left = values.distance (values.element_size structs left)
binary_for structs (twos.Pointers op) ty left = values.on_pointers op

-- the operation of a form that gives this type (C11 6.5.3, 6.5.4)
abbrev pub unary_for : OneForm → tree.Ty → values.Unary
unary_for ones.Convert t = values.converts t
unary_for ones.Not t = values.negates
unary_for ones.Test t = values.tests

-- an expression gets so far under an operation on one value
pub record FlowsOnly (p : SharedProgram) (locals : List control.Variable) (blocks : Blocks) (place : ℕ) (op : values.Unary) (e : tree.Expr) (k : control.Use) (g : Progress) : Type 0 where
  pub goes : (function : ℕ) (r : Rest) (w : turns.WayOfUse) (x : actions.World) → w.k ≡ k →
      turns.run (here_at p function r) e (turns.only_way place op w) (now_in locals blocks x) ≡ progress (here_at p function r) w (now_in locals blocks x) g

-- what is left so is used as the left operand of an operation
pub record FlowsLeft (p : SharedProgram) (locals : List control.Variable) (blocks : Blocks) (place : ℕ) (op : values.Binary) (e : tree.Expr) (left : Progress) (k : control.Use) (g : Progress) : Type 0 where
  pub goes : (function : ℕ) (r : Rest) (w : turns.WayOfUse) (x : actions.World) → w.k ≡ k →
      progress (here_at p function r) (turns.first_way place op e (turns.run (here_at p function r) e) w) (now_in locals blocks x) left
      ≡ progress (here_at p function r) w (now_in locals blocks x) g

-- what is left so is used as the left operand of && or ||
pub record FlowsTested (p : SharedProgram) (locals : List control.Variable) (blocks : Blocks) (place : ℕ) (decides : Bool) (e : tree.Expr) (left : Progress) (k : control.Use) (g : Progress) : Type 0 where
  pub goes : (function : ℕ) (r : Rest) (w : turns.WayOfUse) (x : actions.World) → w.k ≡ k →
      progress (here_at p function r) (turns.first_test_way place decides e (turns.run (here_at p function r) e) w) (now_in locals blocks x) left
      ≡ progress (here_at p function r) w (now_in locals blocks x) g

-- a call whose value is used gets so far
pub record FlowsWanted (p : SharedProgram) (locals : List control.Variable) (blocks : Blocks) (place : ℕ) (callee : control.Callee) (all : tree.Exprs) (k : control.Use) (g : Progress) : Type 0 where
  pub goes : (function : ℕ) (r : Rest) (w : turns.WayOfUse) (x : actions.World) → w.k ≡ k →
      turns.run_arguments (here_at p function r) place callee all [] (control.wanted place w.k) (now_in locals blocks x) ≡ progress (here_at p function r) w (now_in locals blocks x) g
