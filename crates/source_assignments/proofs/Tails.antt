-- How an assignment goes on behind a part that has its value.
use Rattle.std.proofs.Common.{◌≡◌, ◌∙◌, ℕ, Bool, true, false, List, length, set, refl, ap, sym, subst}
use Rattle.std.specs.Prelude.{if◌then◌else◌}
use Rattle.block_store.specs.declared.values.Ptr.TheVariants.{To}
use Rattle.block_store.specs.declared.values.Value.{Value}
use Rattle.block_store.specs.declared.values.Value.TheVariants as values
use Rattle.block_store.specs.Actions.{World}
use Rattle.block_store.specs.Blocks.{Blocks}
use Rattle.c_tree.specs.Typed as tree
use Rattle.c_meaning.specs.Control as control
use Rattle.c_meaning.specs.Values.{is_scalar, is_atomic, is_minus}
use Rattle.c_meaning.specs.Library.{changed_by}
use Rattle.c_meaning.specs.Turns.{TurnContext, Way, WayOfUse, Does, run, run_place, run_dropped, run_dropped_node, nowhere_way, place_way, struct_right_way, struct_left_way, left_way, local_way, pointer_in, update_reads, update_changes, update_right_way, update_left_way, update_local_way, updates_variable, variable_at, assigns_object, initialises, drops_object, is_struct, is_block, is_atomic_local, ended_local, made_local, declared_local}
use Rattle.source_tree.specs.declared.tree.SharedProgram.{SharedProgram}
use Rattle.source_state.specs.declared.control.Progress.{Progress}
use Rattle.source_state.specs.declared.control.Progress.TheVariants as flows
use Rattle.source_state.specs.declared.control.Pending.{Pending}
use Rattle.source_expressions.specs.Ends.{Rest, here_at}
use Rattle.source_expressions.specs.Progress.{Flows, FlowsPlace, now_in}
use Rattle.source_assignments.specs.declared.exit.Exit.{Exit}
use Rattle.source_assignments.specs.declared.exit.Exit.TheVariants as exits
use Rattle.source_assignments.specs.Locals.{Comes}
use Rattle.source_tree.specs.declared.tree.OneForm.{OneForm}
use Rattle.source_tree.specs.SharedViews.{one_of_form}
use Rattle.source_assignments.proofs.Plain.{assigned}
use Rattle.source_assignments.proofs.Dropped.{drops_as, as_value, as_object, dropped_value, dropped_object, dropped_void}
use Rattle.source_assignments.specs.Exits.{ExitsAs, exit}
use Rattle.source_assignments.specs.inner.Conversions.{voids}
use Rattle.source_assignments.specs.Stores.{Stores, Copies, ReadsUpdated, ChangesUpdated, Updates}
use Rattle.source_assignments.specs.inner.Numbers.{Names, local_in}

pub when_true : {A : Type 0} (b : Bool) (x y : A) → b ≡ true → (if b then x else y) ≡ x
when_true b x y e = rw e refl

pub when_false : {A : Type 0} (b : Bool) (x y : A) → b ≡ false → (if b then x else y) ≡ y
when_false b x y e = rw e refl

-- ---- a value, and what follows it

-- an expression has a value, and what uses that comes to this exit
pub gives_exit : (p : SharedProgram) (function : ℕ) (locals : List control.Variable) (blocks b : Blocks) (e f : tree.Expr) (after : control.Use) (g : Progress) (v : Value) (way : TurnContext → Way → WayOfUse) (k : control.Todo) (new_locals : List control.Variable) (new_blocks : Blocks) (left : Exit)
    → Flows p locals b f after g → b ≡ blocks → f ≡ e → g ≡ flows.Gives v
    → ((h : TurnContext) (w : Way) → w.k ≡ k → (way h w).k ≡ after)
    → ((r : Rest) (w : Way) (x : World) → w.k ≡ k → (way (here_at p function r) w).go v (now_in locals blocks x) ≡ exit (here_at p function r) w (now_in new_locals new_blocks x) left)
    → ExitsAs (λ h w. run h e (way h w)) p function k locals blocks new_locals new_blocks left
gives_exit p function locals blocks b e f after g v way k new_locals new_blocks left flow same_blocks same_expr is_v named rest =
    let flow_v : Flows p locals blocks e after (flows.Gives v) = subst (λ (d : tree.Expr). Flows p locals blocks d after (flows.Gives v)) same_expr (subst (λ (c : Blocks). Flows p locals c f after (flows.Gives v)) same_blocks (subst (λ (d : Progress). Flows p locals b f after d) is_v flow)) in
    record { goes = λ r w x n. flow_v.goes function r (way (here_at p function r) w) x (named (here_at p function r) w n) ∙ rest r w x n }

-- the same of an lvalue and its pointer
pub finds_exit : (p : SharedProgram) (function : ℕ) (locals : List control.Variable) (blocks b : Blocks) (e f : tree.Expr) (after : control.Use) (g : Progress) (v : Value) (way : TurnContext → Way → WayOfUse) (k : control.Todo) (new_locals : List control.Variable) (new_blocks : Blocks) (left : Exit)
    → FlowsPlace p locals b f after g → b ≡ blocks → f ≡ e → g ≡ flows.Gives v
    → ((h : TurnContext) (w : Way) → w.k ≡ k → (way h w).k ≡ after)
    → ((r : Rest) (w : Way) (x : World) → w.k ≡ k → (way (here_at p function r) w).go v (now_in locals blocks x) ≡ exit (here_at p function r) w (now_in new_locals new_blocks x) left)
    → ExitsAs (λ h w. run_place h e (way h w)) p function k locals blocks new_locals new_blocks left
finds_exit p function locals blocks b e f after g v way k new_locals new_blocks left flow same_blocks same_expr is_v named rest =
    let flow_v : FlowsPlace p locals blocks e after (flows.Gives v) = subst (λ (d : tree.Expr). FlowsPlace p locals blocks d after (flows.Gives v)) same_expr (subst (λ (c : Blocks). FlowsPlace p locals c f after (flows.Gives v)) same_blocks (subst (λ (d : Progress). FlowsPlace p locals b f after d) is_v flow)) in
    record { goes = λ r w x n. flow_v.goes function r (way (here_at p function r) w) x (named (here_at p function r) w n) ∙ rest r w x n }

-- ---- assignments

pub stored_exit : (p : SharedProgram) (function : ℕ) (locals : List control.Variable) (blocks b : Blocks) (e f : tree.Expr) (after : control.Use) (g : Progress) (v : Value) (place : ℕ) (atomic : Bool) (to : Value) (k : control.Todo) (q : Pending)
    → Flows p locals b f after g → b ≡ blocks → f ≡ e → g ≡ flows.Gives v → after ≡ control.to_place place atomic to k → Stores place atomic to v k q
    → ExitsAs (λ h w. run h e (place_way h place atomic to w)) p function k locals blocks locals blocks (exits.Ends q)
stored_exit p function locals blocks b e f after g v place atomic to k q flow same_blocks same_expr is_v named stores =
    gives_exit p function locals blocks b e f after g v (λ h w. place_way h place atomic to w) k locals blocks (exits.Ends q) flow same_blocks same_expr is_v
    (λ h w n. ap (control.to_place place atomic to) n ∙ sym named)
    (λ r w x n. stores.goes (here_at p function r) w (now_in locals blocks x) n)

pub copied_exit : (p : SharedProgram) (function : ℕ) (locals : List control.Variable) (blocks b : Blocks) (e f : tree.Expr) (after : control.Use) (g : Progress) (v : Value) (place : ℕ) (ty t : tree.Ty) (to : Value) (k : control.Todo) (q : Pending)
    → FlowsPlace p locals b f after g → b ≡ blocks → f ≡ e → g ≡ flows.Gives v → after ≡ control.struct_right place ty to k → t ≡ ty → Copies p place t to v k q
    → ExitsAs (λ h w. run_place h e (struct_right_way h place ty to w)) p function k locals blocks locals blocks (exits.Ends q)
copied_exit p function locals blocks b e f after g v place ty t to k q flow same_blocks same_expr is_v named same_ty copies =
    let copied : Copies p place ty to v k q = subst (λ (u : tree.Ty). Copies p place u to v k q) same_ty copies in
    finds_exit p function locals blocks b e f after g v (λ h w. struct_right_way h place ty to w) k locals blocks (exits.Ends q) flow same_blocks same_expr is_v
    (λ h w n. ap (control.struct_right place ty to) n ∙ sym named)
    (λ r w x n. copied.goes function r w (now_in locals blocks x) n)

pub whole_exit : (p : SharedProgram) (function : ℕ) (locals : List control.Variable) (blocks b : Blocks) (e right : tree.Expr) (after : control.Use) (g : Progress) (to : Value) (place : ℕ) (ty : tree.Ty) (k : control.Todo) (left : Exit)
    → FlowsPlace p locals b e after g → b ≡ blocks → g ≡ flows.Gives to → after ≡ control.struct_left place ty right k
    → ExitsAs (λ h w. run_place h right (struct_right_way h place ty to w)) p function k locals blocks locals blocks left
    → ExitsAs (λ h w. run_place h e (struct_left_way h place ty right w)) p function k locals blocks locals blocks left
whole_exit p function locals blocks b e right after g to place ty k left flow same_blocks is_to named assigned =
    finds_exit p function locals blocks b e e after g to (λ h w. struct_left_way h place ty right w) k locals blocks left flow same_blocks refl is_to
    (λ h w n. ap (control.struct_left place ty right) n ∙ sym named)
    (λ r w x n. assigned.goes r w x n)

pub scalar_exit : (p : SharedProgram) (function : ℕ) (locals : List control.Variable) (blocks b : Blocks) (e right : tree.Expr) (after : control.Use) (g : Progress) (to : Value) (place : ℕ) (atomic known : Bool) (k : control.Todo) (left : Exit)
    → FlowsPlace p locals b e after g → b ≡ blocks → g ≡ flows.Gives to → after ≡ control.left_place place atomic right k → atomic ≡ known
    → ExitsAs (λ h w. run h right (place_way h place atomic to w)) p function k locals blocks locals blocks left
    → ExitsAs (λ h w. run_place h e (left_way h place known right w)) p function k locals blocks locals blocks left
scalar_exit p function locals blocks b e right after g to place atomic known k left flow same_blocks is_to named is_known assigned =
    subst (λ (mark : Bool). ExitsAs (λ h w. run_place h e (left_way h place mark right w)) p function k locals blocks locals blocks left) is_known
    (finds_exit p function locals blocks b e e after g to (λ h w. left_way h place atomic right w) k locals blocks left flow same_blocks refl is_to
    (λ h w n. ap (control.left_place place atomic right) n ∙ sym named)
    (λ r w x n. assigned.goes r w x n))

pub struct_object : (p : SharedProgram) (function : ℕ) (locals : List control.Variable) (blocks : Blocks) (e right : tree.Expr) (k : control.Todo) (left : Exit)
    → is_struct (tree.type_of e) ≡ true
    → ExitsAs (λ h w. run_place h e (struct_left_way h (tree.place_of e) (tree.type_of e) right w)) p function k locals blocks locals blocks left
    → ExitsAs (λ h w. assigns_object h e right w) p function k locals blocks locals blocks left
struct_object p function locals blocks e right k left i a = record {
  goes = λ r w x n.
      ap (λ (d : Does). d (now_in locals blocks x)) (when_true (is_struct (tree.type_of e)) (run_place (here_at p function r) e (struct_left_way (here_at p function r) (tree.place_of e) (tree.type_of e) right w)) (run_place (here_at p function r) e (left_way (here_at p function r) (tree.place_of e) (is_atomic (tree.type_of e)) right w)) i)
      ∙ a.goes r w x n;
}

pub other_object : (p : SharedProgram) (function : ℕ) (locals : List control.Variable) (blocks : Blocks) (e right : tree.Expr) (k : control.Todo) (left : Exit)
    → is_struct (tree.type_of e) ≡ false
    → ExitsAs (λ h w. run_place h e (left_way h (tree.place_of e) (is_atomic (tree.type_of e)) right w)) p function k locals blocks locals blocks left
    → ExitsAs (λ h w. assigns_object h e right w) p function k locals blocks locals blocks left
other_object p function locals blocks e right k left i a = record {
  goes = λ r w x n.
      ap (λ (d : Does). d (now_in locals blocks x)) (when_false (is_struct (tree.type_of e)) (run_place (here_at p function r) e (struct_left_way (here_at p function r) (tree.place_of e) (tree.type_of e) right w)) (run_place (here_at p function r) e (left_way (here_at p function r) (tree.place_of e) (is_atomic (tree.type_of e)) right w)) i)
      ∙ a.goes r w x n;
}

-- ---- compound assignments

-- by the type of a: it is changed, or read
pub changed_updated : (u : control.Update) (at by : Value) (k : control.Todo) (q : Pending) → is_atomic u.ty ≡ true → ChangesUpdated u at by k q → Updates u at by k q
changed_updated u at by k q e c = record {
  goes = λ h w x n. when_true (is_atomic u.ty) (update_changes h u w (changed_by (is_minus u.op) (pointer_in at) by) x) (update_reads h u at by w x) e ∙ c.goes h w x n;
}

pub read_updated : (u : control.Update) (at by : Value) (k : control.Todo) (q : Pending) → is_atomic u.ty ≡ false → ReadsUpdated u at by k q → Updates u at by k q
read_updated u at by k q e c = record {
  goes = λ h w x n. when_false (is_atomic u.ty) (update_changes h u w (changed_by (is_minus u.op) (pointer_in at) by) x) (update_reads h u at by w x) e ∙ c.goes h w x n;
}

pub read_exit : (p : SharedProgram) (function : ℕ) (locals : List control.Variable) (blocks b : Blocks) (e f : tree.Expr) (after : control.Use) (g : Progress) (by : Value) (u : control.Update) (at : Value) (k : control.Todo) (q : Pending)
    → Flows p locals b f after g → b ≡ blocks → f ≡ e → g ≡ flows.Gives by → after ≡ control.update_right u at k → Updates u at by k q
    → ExitsAs (λ h w. run h e (update_right_way h u at w)) p function k locals blocks locals blocks (exits.Ends q)
read_exit p function locals blocks b e f after g by u at k q flow same_blocks same_expr is_by named reads =
    gives_exit p function locals blocks b e f after g by (λ h w. update_right_way h u at w) k locals blocks (exits.Ends q) flow same_blocks same_expr is_by
    (λ h w n. ap (control.update_right u at) n ∙ sym named)
    (λ r w x n. reads.goes (here_at p function r) w (now_in locals blocks x) n)

pub object_updated_exit : (p : SharedProgram) (function : ℕ) (locals : List control.Variable) (blocks b : Blocks) (e right : tree.Expr) (after : control.Use) (g : Progress) (at : Value) (u : control.Update) (k : control.Todo) (left : Exit)
    → FlowsPlace p locals b e after g → b ≡ blocks → g ≡ flows.Gives at → after ≡ control.update_left u right k
    → ExitsAs (λ h w. run h right (update_right_way h u at w)) p function k locals blocks locals blocks left
    → ExitsAs (λ h w. run_place h e (update_left_way h u right w)) p function k locals blocks locals blocks left
object_updated_exit p function locals blocks b e right after g at u k left flow same_blocks is_at named updated =
    finds_exit p function locals blocks b e e after g at (λ h w. update_left_way h u right w) k locals blocks left flow same_blocks refl is_at
    (λ h w n. ap (control.update_left u right) n ∙ sym named)
    (λ r w x n. updated.goes r w x n)

pub local_updated_exit : (p : SharedProgram) (function : ℕ) (locals : List control.Variable) (blocks b : Blocks) (e f : tree.Expr) (after : control.Use) (g : Progress) (by : Value) (u t : control.Update) (number : ℕ) (k : control.Todo) (new_locals : List control.Variable) (left : Exit)
    → Flows p locals b f after g → b ≡ blocks → f ≡ e → g ≡ flows.Gives by → after ≡ control.update_local u number k → t ≡ u
    → ExitsAs (λ h w x. updates_variable h t number by w (variable_at x number) x) p function k locals blocks new_locals blocks left
    → ExitsAs (λ h w. run h e (update_local_way h u number w)) p function k locals blocks new_locals blocks left
local_updated_exit p function locals blocks b e f after g by u t number k new_locals left flow same_blocks same_expr is_by named same_update updated =
    let now : ExitsAs (λ h w x. updates_variable h u number by w (variable_at x number) x) p function k locals blocks new_locals blocks left = subst (λ (s : control.Update). ExitsAs (λ h w x. updates_variable h s number by w (variable_at x number) x) p function k locals blocks new_locals blocks left) same_update updated in
    gives_exit p function locals blocks b e f after g by (λ h w. update_local_way h u number w) k new_locals blocks left flow same_blocks same_expr is_by
    (λ h w n. ap (λ (d : control.Todo). control.update_local u number d) n ∙ sym named)
    (λ r w x n. now.goes r w x n)

-- ---- declarations

pub initialised_block : (p : SharedProgram) (function place number block : ℕ) (atomic : Bool) (e : tree.Expr) (k : control.Todo) (locals : List control.Variable) (blocks : Blocks) (new_locals : List control.Variable) (new_blocks : Blocks) (left : Exit)
    → is_block (local_in p function number) ≡ true → atomic ≡ is_atomic_local (local_in p function number)
    → Names block (ended_local number) locals blocks
    → ((r : Rest) → Comes (made_local (here_at p function r) number) locals blocks new_locals new_blocks)
    → ExitsAs (λ h w. run h e (place_way h place atomic (values.Pointer (To block 0)) w)) p function k new_locals new_blocks new_locals new_blocks left
    → ExitsAs (λ h w. initialises h place number e w) p function k locals blocks new_locals new_blocks left
initialised_block p function place number block atomic e k locals blocks new_locals new_blocks left i is_known name made a = record {
  goes = λ r w x n.
      when_true (is_block (local_in p function number)) _ _ i
      ∙ ap (λ (mark : Bool). run (here_at p function r) e (place_way (here_at p function r) place mark (values.Pointer (To (length (ended_local number (now_in locals blocks x)).world.blocks) 0)) w) (made_local (here_at p function r) number (now_in locals blocks x))) (sym is_known)
      ∙ ap (λ (m : ℕ). run (here_at p function r) e (place_way (here_at p function r) place atomic (values.Pointer (To m 0)) w) (made_local (here_at p function r) number (now_in locals blocks x))) (sym (name.names x))
      ∙ ap (run (here_at p function r) e (place_way (here_at p function r) place atomic (values.Pointer (To block 0)) w)) ((made r).goes x)
      ∙ a.goes r w x n;
}

pub initialised_plain : (p : SharedProgram) (function place number : ℕ) (e : tree.Expr) (k : control.Todo) (locals cleared : List control.Variable) (blocks : Blocks) (new_locals : List control.Variable) (new_blocks : Blocks) (left : Exit)
    → is_block (local_in p function number) ≡ false
    → cleared ≡ set locals number control.unset
    → ExitsAs (λ h w. run h e (local_way number w)) p function k cleared blocks new_locals new_blocks left
    → ExitsAs (λ h w. initialises h place number e w) p function k locals blocks new_locals new_blocks left
initialised_plain p function place number e k locals cleared blocks new_locals new_blocks left i c a = record {
  goes = λ r w x n.
      when_false (is_block (local_in p function number)) _ _ i
      ∙ ap (λ (m : List control.Variable). run (here_at p function r) e (local_way number w) (now_in m blocks x)) (sym c)
      ∙ a.goes r w x n;
}

pub declared_block : (p : SharedProgram) (function number : ℕ) (locals : List control.Variable) (blocks : Blocks) (new_locals : List control.Variable) (new_blocks : Blocks)
    → is_block (local_in p function number) ≡ true
    → ((r : Rest) → Comes (made_local (here_at p function r) number) locals blocks new_locals new_blocks)
    → (r : Rest) → Comes (declared_local (here_at p function r) number) locals blocks new_locals new_blocks
declared_block p function number locals blocks new_locals new_blocks i made r = record { goes = λ x. when_true (is_block (local_in p function number)) _ _ i ∙ (made r).goes x }

-- ---- values that are dropped

pub scalar_dropped : (p : SharedProgram) (function place : ℕ) (ty : tree.Ty) (node : tree.ExprNode) (k : control.Todo) (locals : List control.Variable) (blocks : Blocks) (left : Exit)
    → is_scalar ty ≡ true
    → ExitsAs (λ h w. run h (tree.at place ty node) (nowhere_way w)) p function k locals blocks locals blocks left
    → ExitsAs (λ h w. drops_object h place ty node w) p function k locals blocks locals blocks left
scalar_dropped p function place ty node k locals blocks left i a = record { goes = λ r w x n. when_true (is_scalar ty) _ _ i ∙ a.goes r w x n }

pub value_dropped : (p : SharedProgram) (function place : ℕ) (ty : tree.Ty) (node : tree.ExprNode) (k : control.Todo) (locals : List control.Variable) (blocks : Blocks) (left : Exit)
    → drops_as node ty ≡ as_value
    → ExitsAs (λ h w. run h (tree.at place ty node) (nowhere_way w)) p function k locals blocks locals blocks left
    → ExitsAs (λ h w. run_dropped h (tree.at place ty node) w) p function k locals blocks locals blocks left
value_dropped p function place ty node k locals blocks left i a = record { goes = λ r w x n. dropped_value (here_at p function r) place ty node w (now_in locals blocks x) i ∙ a.goes r w x n }

pub object_dropped : (p : SharedProgram) (function place : ℕ) (ty : tree.Ty) (node : tree.ExprNode) (k : control.Todo) (locals : List control.Variable) (blocks : Blocks) (left : Exit)
    → drops_as node ty ≡ as_object
    → ExitsAs (λ h w. drops_object h place ty node w) p function k locals blocks locals blocks left
    → ExitsAs (λ h w. run_dropped h (tree.at place ty node) w) p function k locals blocks locals blocks left
object_dropped p function place ty node k locals blocks left i a = record { goes = λ r w x n. dropped_object (here_at p function r) place ty node w (now_in locals blocks x) i ∙ a.goes r w x n }

pub void_dropped : (p : SharedProgram) (function place : ℕ) (ty : tree.Ty) (node : tree.ExprNode) (form : OneForm) (e f : tree.Expr) (k : control.Todo) (locals : List control.Variable) (blocks : Blocks) (left : Exit)
    → ExitsAs (λ h w. run_dropped h f w) p function k locals blocks locals blocks left
    → node ≡ one_of_form form e → voids form ty ≡ true → f ≡ e
    → ExitsAs (λ h w. run_dropped h (tree.at place ty node) w) p function k locals blocks locals blocks left
void_dropped p function place ty node form e f k locals blocks left a is_one v same = record {
  goes = λ r w x n.
      ap (λ (m : tree.ExprNode). run_dropped_node (here_at p function r) place ty m w (now_in locals blocks x)) is_one
      ∙ dropped_void (here_at p function r) place ty form e w (now_in locals blocks x) v
      ∙ ap (λ (d : tree.Expr). run_dropped (here_at p function r) d w (now_in locals blocks x)) (sym same)
      ∙ a.goes r w x n;
}
