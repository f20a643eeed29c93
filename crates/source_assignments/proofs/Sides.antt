-- How an assignment goes on by its left side: a local without a block, or an object.
use Rattle.std.proofs.Common.{◌≡◌, ◌∙◌, ℕ, List, Option, Some, None, ap, sym, subst}
use Rattle.block_store.specs.Blocks.{Blocks}
use Rattle.c_tree.specs.Typed as tree
use Rattle.c_meaning.specs.Control as control
use Rattle.c_meaning.specs.Turns.{run, run_place, local_way, update_left_way, update_local_way, assigns, assigns_object, updates}
use Rattle.source_tree.specs.declared.tree.SharedProgram.{SharedProgram}
use Rattle.source_expressions.specs.Ends.{here_at}
use Rattle.source_expressions.specs.Progress.{now_in}
use Rattle.source_assignments.specs.declared.exit.Exit.{Exit}
use Rattle.source_assignments.specs.inner.Numbers.{plain_number, assigns_by, updates_by}
use Rattle.source_assignments.proofs.Plain.{assigned, changed}
use Rattle.source_assignments.specs.Exits.{ExitsAs}

-- an assignment to a local without a block
pub local_set : (p : SharedProgram) (function : ℕ) (node : tree.ExprNode) (e right : tree.Expr) (number : ℕ) (k : control.Todo) (locals : List control.Variable) (blocks : Blocks) (new_locals : List control.Variable) (new_blocks : Blocks) (left : Exit)
    → Some number ≡ plain_number p function node
    → ExitsAs (λ h w. run h right (local_way number w)) p function k locals blocks new_locals new_blocks left
    → ExitsAs (λ h w. assigns h node e right w) p function k locals blocks new_locals new_blocks left
local_set p function node e right number k locals blocks new_locals new_blocks left i a = record {
  goes = λ r w x n. assigned p function r node e right w (now_in locals blocks x) ∙ ap (λ (m : Option ℕ). assigns_by (here_at p function r) m e right w (now_in locals blocks x)) (sym i) ∙ a.goes r w x n;
}

-- an assignment to an object
pub object_set : (p : SharedProgram) (function : ℕ) (node : tree.ExprNode) (e right : tree.Expr) (k : control.Todo) (locals : List control.Variable) (blocks : Blocks) (new_locals : List control.Variable) (new_blocks : Blocks) (left : Exit)
    → None ≡ plain_number p function node
    → ExitsAs (λ h w. assigns_object h e right w) p function k locals blocks new_locals new_blocks left
    → ExitsAs (λ h w. assigns h node e right w) p function k locals blocks new_locals new_blocks left
object_set p function node e right k locals blocks new_locals new_blocks left i a = record {
  goes = λ r w x n. assigned p function r node e right w (now_in locals blocks x) ∙ ap (λ (m : Option ℕ). assigns_by (here_at p function r) m e right w (now_in locals blocks x)) (sym i) ∙ a.goes r w x n;
}

-- a compound assignment to a local without a block
pub local_changed : (p : SharedProgram) (function : ℕ) (u t : control.Update) (node : tree.ExprNode) (e right : tree.Expr) (number : ℕ) (k : control.Todo) (locals : List control.Variable) (blocks : Blocks) (new_locals : List control.Variable) (new_blocks : Blocks) (left : Exit)
    → Some number ≡ plain_number p function node → t ≡ u
    → ExitsAs (λ h w. run h right (update_local_way h t number w)) p function k locals blocks new_locals new_blocks left
    → ExitsAs (λ h w. updates h u node e right w) p function k locals blocks new_locals new_blocks left
local_changed p function u t node e right number k locals blocks new_locals new_blocks left i same a =
    let now : ExitsAs (λ h w. run h right (update_local_way h u number w)) p function k locals blocks new_locals new_blocks left = subst (λ (s : control.Update). ExitsAs (λ h w. run h right (update_local_way h s number w)) p function k locals blocks new_locals new_blocks left) same a in
    record {
      goes = λ r w x n. changed p function r u node e right w (now_in locals blocks x) ∙ ap (λ (m : Option ℕ). updates_by (here_at p function r) u m e right w (now_in locals blocks x)) (sym i) ∙ now.goes r w x n;
    }

-- a compound assignment to an object
pub object_changed : (p : SharedProgram) (function : ℕ) (u t : control.Update) (node : tree.ExprNode) (e right : tree.Expr) (k : control.Todo) (locals : List control.Variable) (blocks : Blocks) (new_locals : List control.Variable) (new_blocks : Blocks) (left : Exit)
    → None ≡ plain_number p function node → t ≡ u
    → ExitsAs (λ h w. run_place h e (update_left_way h t right w)) p function k locals blocks new_locals new_blocks left
    → ExitsAs (λ h w. updates h u node e right w) p function k locals blocks new_locals new_blocks left
object_changed p function u t node e right k locals blocks new_locals new_blocks left i same a =
    let now : ExitsAs (λ h w. run_place h e (update_left_way h u right w)) p function k locals blocks new_locals new_blocks left = subst (λ (s : control.Update). ExitsAs (λ h w. run_place h e (update_left_way h s right w)) p function k locals blocks new_locals new_blocks left) same a in
    record {
      goes = λ r w x n. changed p function r u node e right w (now_in locals blocks x) ∙ ap (λ (m : Option ℕ). updates_by (here_at p function r) u m e right w (now_in locals blocks x)) (sym i) ∙ now.goes r w x n;
    }
