-- Statements come out well, and so does all that follows them.
use Rattle.std.proofs.Common.{◌≡◌, ℕ, zero, suc, Bool, true, false, List, [], length, Option, Some, None, ℤ, refl, sym, ap, subst, ◌∙◌}
use Rattle.std.specs.Prelude.{if◌then◌else◌, slice_get}
use Rattle.ak_words.specs.declared.int_type.IntType.{IntType}
use Rattle.ak_words.specs.declared.number.Num.{Num}
use Rattle.ak_words.specs.declared.operation.Op.{Op}
use Rattle.ak_words.specs.declared.rule.Rule.TheVariants.{C4}
use Rattle.block_store.specs.declared.values.Access.{Access}
use Rattle.block_store.specs.declared.values.Access.TheVariants as accesses
use Rattle.block_store.specs.declared.values.Answer.{Answer}
use Rattle.block_store.specs.declared.values.Answer.TheVariants as answers
use Rattle.block_store.specs.declared.values.Change.TheVariants.{Add}
use Rattle.block_store.specs.declared.values.Ptr.{Ptr}
use Rattle.block_store.specs.declared.values.Value.{Value}
use Rattle.block_store.specs.declared.values.Value.TheVariants as values
use Rattle.block_store.specs.Actions as actions
use Rattle.c_tree.specs.Typed as tree
use Rattle.c_tree.specs.TypedLayout.{size_in, align_in}
use Rattle.c_tree.specs.TypedForm.{IsInteger, IsScalar, Fits, CanUpdate, IsNth, IsLvalue, IsTyped, IsTypedNode, IfTyped, IsReturned, Jumps, in_function, in_loop, in_switch, IsSwitched, IsWell, IsWellNode, AreWell}
use Rattle.c_meaning.specs.Control as control
use Rattle.c_meaning.specs.Control.{Variable, Loop, Update, Callee, dropped, wanted}
use Rattle.c_meaning.specs.Values.{access_of_type, is_scalar, is_atomic, is_minus, truth_of, updated}
use Rattle.c_meaning.specs.Library.{addend, changed_by}
use Rattle.c_meaning.specs.Switches.{chosen, starts_at}
use Rattle.c_meaning.specs.Turns.{Does, Way, after_call, local_at, is_block, is_atomic_local, variable_at, with_variable, ended_local, ended_locals, made_local, declared_local, declared, declared_by, pointer_in, run, run_node, run_place, run_place_node, run_arguments, nowhere_way, drops_object, run_dropped, run_dropped_node, local_way, place_way, left_way, struct_right_way, struct_left_way, is_struct, assigns_object, assigns, update_read_way, update_reads, update_changes, update_right_way, update_left_way, updates_variable, update_local_way, updates, initialises, declares, caller_way, returns, if_way, nothing, row_way, end_way, round_over, step_way, body_way, loop_test_way, rounds_if, rounds, loop_way, while_loop, for_loop, do_loop, leaving, switch_way, starts, switch_test_way, update_of, run_stmt, run_stmt_node, run_row, run_from}
use Rattle.c_meaning.specs.Kinds.{HasKind, HasTypeIf, MayHold, UpdatesBy, IsNumberKind, IsCalled, IsWellSomewhere, AreWellSomewhere, IsTypedLoop}
use Rattle.c_meaning.proofs.TypedValues.{not_c4, Anything, scalar_values, kind_type, type_kind, fits_kind, truth_ok, updated_ok, updates_scalar, updates_plain, updates_number}
use Rattle.c_meaning.proofs.TypedLocals.{Site, here_at, inside_at, Stands, hold_at, with_now, unset_now, ended_locals_now, local_found, made_now, declared_now}
use Rattle.c_meaning.proofs.TypedActions.{IsNoValue, load_done, store_done, copy_done, change_done}
use Rattle.c_meaning.proofs.TypedCalls.{fits_scalar}
use Rattle.c_meaning.proofs.TypedTurns.{Fine, TakesKind, IsFine, Follows, Executes, breaks_fine, ok_fine, if_fine, plainly_fine, stays_at, stays_typed, acts_fine, after_typed, leaves_fine}
use Rattle.c_meaning.proofs.TypedExprs.{context_at, block_value, kind_at, run_fine, run_node_fine, run_place_fine, run_place_node_fine, run_arguments_fine}
use Rattle.c_meaning.proofs.TypedForms.{func_well, local_scalar, returned_scalar, fits_struct, fits_no_struct, IsPlain, plain_scalar, struct_expr_lvalue, is_scalar_type}

-- one of two
does_if_fine : (s : Site) (b : Bool) (d e : Answer → Does) → (b ≡ true → IsFine s d) → (b ≡ false → IsFine s e) → IsFine s (λ answer. if b then d answer else e answer)
does_if_fine s true d e p q = p refl
does_if_fine s false d e p q = q refl

-- a local of this number that isn't in memory, and whose values are of this kind
abbrev pub IsRegister : Site → (number : ℕ) → Access → Type 0
IsRegister s number how = IsNth s.func.locals number (λ l. (l.in_memory ≡ false) × (access_of_type l.ty ≡ how))

-- a local is in memory, or isn't, as the function says
in_memory_is : (s : Site) → Stands s → (number : ℕ) (b : Bool) (l : tree.Local) → slice_get s.func.locals number ≡ Some l → is_block (local_at (here_at s answers.Plain) number) ≡ b → l.in_memory ≡ b
in_memory_is s f number b l e is = sym (local_found s f answers.Plain number l e) ∙ is

-- ---- assignments

pub nowhere_takes : (s : Site) (how : Access) (w : Answer → Way) → Follows s w → TakesKind s how (λ answer. nowhere_way (w answer))
nowhere_takes s how w g = record { expects = g.todo; goes = λ v h x n. g.ends x n }

-- what is stored in it is of its kind
register_holds : (s : Site) → Stands s → (number : ℕ) (how : Access) (r : IsRegister s number how) (v : Value) → HasKind how v → (l : tree.Local) → slice_get s.func.locals number ≡ Some l → MayHold l (control.holds v)
register_holds s f number how r v h l e =
    let there : Some r.0 ≡ Some l = sym r.1 ∙ e in
    let same : r.0 ≡ l = cc in
    let memory : r.0.in_memory ≡ false = r.2.0 in
    let kind : HasKind (access_of_type r.0.ty) v = subst (λ (a : Access). HasKind a v) (sym r.2.1) h in
    let P : tree.Local → Type 0 = λ m. MayHold m (control.holds v) in
    subst P same (memory, kind_type r.0.ty v (scalar_values r.0.ty (local_scalar s f number r.0 r.1 memory)) kind)

pub local_takes : (s : Site) (number : ℕ) (how : Access) (w : Answer → Way) → Stands s → IsRegister s number how → Follows s w → TakesKind s how (λ answer. local_way number (w answer))
local_takes s number how w f r g = record {
  expects = λ answer. (r, g.todo answer);
  goes = λ v h x n. g.ends (with_variable number (control.holds v) x) (with_now s number (control.holds v) x n (register_holds s f number how r v h));
}

pub place_takes : (s : Site) (place : ℕ) (atomic : Bool) (to : Value) (how : Access) (w : Answer → Way) → Stands s → HasKind accesses.Pointer to → Follows s w → TakesKind s how (λ answer. place_way (here_at s answer) place atomic to (w answer))
place_takes s place atomic to how w f p g = record {
  expects = λ answer. (p, g.todo answer);
  goes = λ v h x n. acts_fine s place atomic (actions.store (pointer_in to) v) IsNoValue (λ answer u. control.begins (w answer).k) f
      (λ world answer i. store_done s.typed world s.thread answer (pointer_in to) v i) (λ answer u e. g.todo answer) x n;
}

pub left_takes : (s : Site) (place : ℕ) (atomic : Bool) (right : tree.Expr) (w : Answer → Way) → Stands s → IsTyped (context_at s) right → IsScalar (tree.type_of right) → Follows s w → TakesKind s accesses.Pointer (λ answer. left_way (here_at s answer) place atomic right (w answer))
left_takes s place atomic right w f t scalar g = record {
  expects = λ answer. (refl, t, scalar, g.todo answer);
  goes = λ v h x n. run_fine s f right t scalar (λ answer. place_way (here_at s answer) place atomic v (w answer)) (place_takes s place atomic v (kind_at right) w f h g) x n;
}

pub struct_right_takes : (s : Site) (place : ℕ) (ty : tree.Ty) (to : Value) (w : Answer → Way) → Stands s → HasKind accesses.Pointer to → Follows s w → TakesKind s accesses.Pointer (λ answer. struct_right_way (here_at s answer) place ty to (w answer))
struct_right_takes s place ty to w f p g = record {
  expects = λ answer. (refl, p, g.todo answer);
  goes = λ v h x n.
      let size = size_in s.typed.structs ty in
      let align = align_in s.typed.structs ty in
      acts_fine s place false (actions.copy (pointer_in to) (pointer_in v) size align true) IsNoValue (λ answer u. control.begins (w answer).k) f
      (λ world answer i. copy_done s.typed world s.thread answer (pointer_in to) (pointer_in v) size align true i) (λ answer u e. g.todo answer) x n;
}

pub struct_left_takes : (s : Site) (place : ℕ) (ty : tree.Ty) (right : tree.Expr) (w : Answer → Way) → Stands s → IsTyped (context_at s) right → IsLvalue (tree.node_of right) → Follows s w → TakesKind s accesses.Pointer (λ answer. struct_left_way (here_at s answer) place ty right (w answer))
struct_left_takes s place ty right w f t l g = record {
  expects = λ answer. (refl, t, l, g.todo answer);
  goes = λ v h x n. run_place_fine s f right t l (λ answer. struct_right_way (here_at s answer) place ty v (w answer)) (struct_right_takes s place ty v w f h g) x n;
}

assigns_object_fine : (s : Site) (left right : tree.Expr) → Stands s → IsTyped (context_at s) left → IsTyped (context_at s) right → IsLvalue (tree.node_of left) → Fits (tree.type_of right) (tree.type_of left) → Executes s (λ answer. assigns_object (here_at s answer) left right)
assigns_object_fine s left right f t u l fit w g =
    let place = tree.place_of left in
    let ty = tree.type_of left in
    does_if_fine s (is_struct ty) (λ answer. run_place (here_at s answer) left (struct_left_way (here_at s answer) place ty right (w answer))) (λ answer. run_place (here_at s answer) left (left_way (here_at s answer) place (is_atomic ty) right (w answer)))
    (λ b. run_place_fine s f left t l (λ answer. struct_left_way (here_at s answer) place ty right (w answer)) (struct_left_takes s place ty right w f u (struct_expr_lvalue s f right u (fits_struct (tree.type_of right) ty fit b)) g))
    (λ b. run_place_fine s f left t l (λ answer. left_way (here_at s answer) place (is_atomic ty) right (w answer)) (left_takes s place (is_atomic ty) right w f u (fits_no_struct (tree.type_of right) ty fit b) g))

assigns_local_fine : (s : Site) (place number : ℕ) (ty : tree.Ty) (right : tree.Expr) → Stands s → IsTypedNode (context_at s) ty (tree.local number) → IsTyped (context_at s) right → Fits (tree.type_of right) ty
    → Executes s (λ answer. assigns (here_at s answer) (tree.local number) (tree.at place ty (tree.local number)) right)
assigns_local_fine s place number ty right f t u fit w g =
    let left = tree.at place ty (tree.local number) in
    does_if_fine s (is_block (local_at (here_at s answers.Plain) number)) (λ answer. assigns_object (here_at s answer) left right (w answer)) (λ answer. run (here_at s answer) right (local_way number (w answer)))
    (λ b. assigns_object_fine s left right f t u tt fit w g)
    (λ b.
    let memory : t.0.in_memory ≡ false = in_memory_is s f number false t.0 t.1 b in
    let scalar : IsScalar ty = subst IsScalar t.2 (local_scalar s f number t.0 t.1 memory) in
    run_fine s f right u (fits_scalar (tree.type_of right) ty fit scalar) (λ answer. local_way number (w answer))
    (local_takes s number (kind_at right) w f (t.0, t.1, (memory, ap access_of_type t.2 ∙ sym (fits_kind (tree.type_of right) ty fit))) g))

assigns_fine : (s : Site) (place : ℕ) (ty : tree.Ty) (node : tree.ExprNode) (right : tree.Expr) → Stands s → IsTypedNode (context_at s) ty node → IsTyped (context_at s) right → IsLvalue node → Fits (tree.type_of right) ty
    → Executes s (λ answer. assigns (here_at s answer) node (tree.at place ty node) right)
assigns_fine s place ty (tree.literal number) right f t u l fit = assigns_object_fine s (tree.at place ty (tree.literal number)) right f t u l fit
assigns_fine s place ty (tree.global number) right f t u l fit = assigns_object_fine s (tree.at place ty (tree.global number)) right f t u l fit
assigns_fine s place ty (tree.local number) right f t u l fit = assigns_local_fine s place number ty right f t u fit
assigns_fine s place ty (tree.deref e) right f t u l fit = assigns_object_fine s (tree.at place ty (tree.deref e)) right f t u l fit
assigns_fine s place ty (tree.member e number) right f t u l fit = assigns_object_fine s (tree.at place ty (tree.member e number)) right f t u l fit
assigns_fine s place ty node right f t u l fit = elim l [ ]

assign_fine : (s : Site) (left right : tree.Expr) → Stands s → IsTyped (context_at s) left → IsTyped (context_at s) right → IsLvalue (tree.node_of left) → Fits (tree.type_of right) (tree.type_of left)
    → Executes s (λ answer. assigns (here_at s answer) (tree.node_of left) left right)
assign_fine s (tree.at place ty node) right f t u l fit = assigns_fine s place ty node right f t u l fit

-- ---- compound assignments

by_kind : (s : Site) (u : Update) (how : Access) (can : UpdatesBy (inside_at s) u how) (v : Value) → HasKind how v → HasKind (access_of_type can.0) v
by_kind s u how can v h = subst (λ (a : Access). HasKind a v) (sym can.2) h

pub update_read_takes : (s : Site) (u : Update) (at by : Value) (how : Access) (w : Answer → Way) → Stands s → IsScalar u.ty → HasKind accesses.Pointer at → UpdatesBy (inside_at s) u how → HasKind how by → Follows s w → TakesKind s (access_of_type u.ty) (λ answer. update_read_way (here_at s answer) u at by (w answer))
update_read_takes s u at by how w f plain p can b g = record {
  expects = λ answer. (plain, refl, p, (how, can, b), g.todo answer);
  goes = λ v h x n. ok_fine s u.operator (HasKind (access_of_type u.ty)) (λ answer r. (place_way (here_at s answer) u.place false at (w answer)).go r x) (updated s.typed.structs x.world.blocks u.ty u.op v by)
      (updated_ok s.typed.structs x.world.blocks u.op u.ty can.0 v by plain can.1 h (by_kind s u how can by b)) (λ r i. (place_takes s u.place false at (access_of_type u.ty) w f p g).goes r i x n);
}

update_reads_fine : (s : Site) (u : Update) (at by : Value) (how : Access) (w : Answer → Way) → Stands s → IsScalar u.ty → HasKind accesses.Pointer at → UpdatesBy (inside_at s) u how → HasKind how by → Follows s w → IsFine s (λ answer. update_reads (here_at s answer) u at by (w answer))
update_reads_fine s u at by how w f plain p can b g =
    acts_fine s u.place false (actions.load (pointer_in at) (access_of_type u.ty)) (HasTypeIf u.ty) (λ answer r. after_call (wanted u.place (control.update_read u at by (w answer).k)) r) f
    (λ world answer i. load_done s.typed u.ty world s.thread answer (pointer_in at) (scalar_values u.ty plain) i)
    (λ answer r i. after_typed s u.ty (wanted u.place (control.update_read u at by (w answer).k)) r (plain, refl, p, (how, can, b), g.todo answer) i)

-- a value of a number's type
number_of_kind : (ty : tree.Ty) (v : Value) → IsInteger ty → HasKind (access_of_type ty) v → (n : Num) × (v ≡ values.Num n)
number_of_kind (tree.integer t) (values.Num n) i h = (n, refl)
number_of_kind (tree.integer t) (values.Pointer p) i h = elim h [ ]
number_of_kind ty v i h = elim i [ ]

changes_fine : (s : Site) (u : Update) (ty : IntType) (at : Ptr) (by : ℤ) (w : Answer → Way) → Stands s → Follows s w → IsFine s (λ answer. update_changes (here_at s answer) u (w answer) (Some (actions.change at ty Add by)))
changes_fine s u ty at by w f g =
    acts_fine s u.place true (actions.change at ty Add by) (HasTypeIf (tree.integer ty)) (λ answer old. control.begins (w answer).k) f
    (λ world answer i. change_done s.typed ty world s.thread answer at Add by i) (λ answer old i. g.todo answer)

update_changes_fine : (s : Site) (u : Update) (away : Bool) (at : Ptr) (n : Num) (w : Answer → Way) → Stands s → Follows s w → IsFine s (λ answer. update_changes (here_at s answer) u (w answer) (changed_by away at (values.Num n)))
update_changes_fine s u away at n w f g = changes_fine s u (addend away n).ty at (addend away n).value w f g

pub update_right_takes : (s : Site) (u : Update) (at : Value) (how : Access) (w : Answer → Way) → Stands s → HasKind accesses.Pointer at → UpdatesBy (inside_at s) u how → Follows s w → TakesKind s how (λ answer. update_right_way (here_at s answer) u at (w answer))
update_right_takes s u at how w f p can g = record {
  expects = λ answer. (p, can, g.todo answer);
  goes = λ v h x n.
      let structs = s.typed.structs in
      let away = is_minus u.op in
      if_fine s (is_atomic u.ty) (λ answer. update_changes (here_at s answer) u (w answer) (changed_by away (pointer_in at) v) x) (λ answer. update_reads (here_at s answer) u at v (w answer) x)
      (λ b.
      let number = number_of_kind can.0 v (updates_number structs u.op u.ty can.0 can.1 b) (by_kind s u how can v h) in
      let P : Value → Type 0 = λ z. Fine s (λ answer. update_changes (here_at s answer) u (w answer) (changed_by away (pointer_in at) z) x) in
      subst P (sym number.1) (update_changes_fine s u away (pointer_in at) number.0 w f g x n))
      (λ b. update_reads_fine s u at v how w f (updates_plain structs u.op u.ty can.0 can.1 b) p can h g x n);
}

pub update_left_takes : (s : Site) (u : Update) (right : tree.Expr) (w : Answer → Way) → Stands s → IsTyped (context_at s) right → CanUpdate s.typed.structs u.op u.ty (tree.type_of right) → Follows s w → TakesKind s accesses.Pointer (λ answer. update_left_way (here_at s answer) u right (w answer))
update_left_takes s u right w f t can g = record {
  expects = λ answer. (refl, t, can, g.todo answer);
  goes = λ v h x n. run_fine s f right t (updates_scalar s.typed.structs u.op u.ty (tree.type_of right) can) (λ answer. update_right_way (here_at s answer) u v (w answer))
      (update_right_takes s u v (kind_at right) w f h (tree.type_of right, can, refl) g) x n;
}

-- a local of this number that isn't in memory, and has the type of the left side
abbrev pub IsUpdated : Site → (number : ℕ) → Update → Type 0
IsUpdated s number u = IsNth s.func.locals number (λ l. (l.in_memory ≡ false) × (l.ty ≡ u.ty))

updated_register : (s : Site) (number : ℕ) (u : Update) → IsUpdated s number u → IsRegister s number (access_of_type u.ty)
updated_register s number u r = (r.0, r.1, (r.2.0, ap access_of_type r.2.1))

held_kind : (l : tree.Local) (ty : tree.Ty) (v : Value) → l.ty ≡ ty → MayHold l (control.holds v) → HasKind (access_of_type ty) v
held_kind l ty v e h = subst (λ (z : tree.Ty). HasKind (access_of_type z) v) e (type_kind l.ty v h.1)

updates_variable_fine : (s : Site) (u : Update) (number : ℕ) (by : Value) (how : Access) (w : Answer → Way) (v : Variable) → Stands s → (r : IsUpdated s number u) → UpdatesBy (inside_at s) u how → HasKind how by → MayHold r.0 v → Follows s w
    → IsFine s (λ answer. updates_variable (here_at s answer) u number by (w answer) v)
updates_variable_fine s u number by how w control.unset f r can b h g x n = breaks_fine s C4 u.place not_c4
updates_variable_fine s u number by how w (control.lies block) f r can b h g x n = breaks_fine s C4 u.place not_c4
updates_variable_fine s u number by how w (control.holds v) f r can b h g x n =
    ok_fine s u.operator (HasKind (access_of_type u.ty)) (λ answer z. (w answer).end (with_variable number (control.holds z) x)) (updated s.typed.structs x.world.blocks u.ty u.op v by)
    (updated_ok s.typed.structs x.world.blocks u.op u.ty can.0 v by (subst IsScalar r.2.1 (local_scalar s f number r.0 r.1 r.2.0)) can.1 (held_kind r.0 u.ty v r.2.1 h) (by_kind s u how can by b))
    (λ z i. g.ends (with_variable number (control.holds z) x) (with_now s number (control.holds z) x n (register_holds s f number (access_of_type u.ty) (updated_register s number u r) z i)))

pub update_local_takes : (s : Site) (u : Update) (number : ℕ) (how : Access) (w : Answer → Way) → Stands s → IsUpdated s number u → UpdatesBy (inside_at s) u how → Follows s w → TakesKind s how (λ answer. update_local_way (here_at s answer) u number (w answer))
update_local_takes s u number how w f r can g = record {
  expects = λ answer. (r, can, g.todo answer);
  goes = λ v h x n. updates_variable_fine s u number v how w (variable_at x number) f r can h (hold_at s.func.locals x.locals number r.0 n.locals r.1) g x n;
}

updates_object_fine : (s : Site) (u : Update) (left right : tree.Expr) → Stands s → IsTyped (context_at s) left → IsTyped (context_at s) right → IsLvalue (tree.node_of left) → CanUpdate s.typed.structs u.op u.ty (tree.type_of right)
    → Executes s (λ answer w. run_place (here_at s answer) left (update_left_way (here_at s answer) u right w))
updates_object_fine s u left right f t v l can w g = run_place_fine s f left t l (λ answer. update_left_way (here_at s answer) u right (w answer)) (update_left_takes s u right w f v can g)

updates_local_fine : (s : Site) (u : Update) (place number : ℕ) (right : tree.Expr) → Stands s → IsTypedNode (context_at s) u.ty (tree.local number) → IsTyped (context_at s) right → CanUpdate s.typed.structs u.op u.ty (tree.type_of right)
    → Executes s (λ answer. updates (here_at s answer) u (tree.local number) (tree.at place u.ty (tree.local number)) right)
updates_local_fine s u place number right f t v can w g =
    let left = tree.at place u.ty (tree.local number) in
    does_if_fine s (is_block (local_at (here_at s answers.Plain) number)) (λ answer. run_place (here_at s answer) left (update_left_way (here_at s answer) u right (w answer))) (λ answer. run (here_at s answer) right (update_local_way (here_at s answer) u number (w answer)))
    (λ b. updates_object_fine s u left right f t v tt can w g)
    (λ b. run_fine s f right v (updates_scalar s.typed.structs u.op u.ty (tree.type_of right) can) (λ answer. update_local_way (here_at s answer) u number (w answer))
    (update_local_takes s u number (kind_at right) w f (t.0, t.1, (in_memory_is s f number false t.0 t.1 b, t.2)) (tree.type_of right, can, refl) g))

updates_fine : (s : Site) (u : Update) (place : ℕ) (node : tree.ExprNode) (right : tree.Expr) → Stands s → IsTypedNode (context_at s) u.ty node → IsTyped (context_at s) right → IsLvalue node → CanUpdate s.typed.structs u.op u.ty (tree.type_of right)
    → Executes s (λ answer. updates (here_at s answer) u node (tree.at place u.ty node) right)
updates_fine s u place (tree.literal number) right f t v l can = updates_object_fine s u (tree.at place u.ty (tree.literal number)) right f t v l can
updates_fine s u place (tree.global number) right f t v l can = updates_object_fine s u (tree.at place u.ty (tree.global number)) right f t v l can
updates_fine s u place (tree.local number) right f t v l can = updates_local_fine s u place number right f t v can
updates_fine s u place (tree.deref e) right f t v l can = updates_object_fine s u (tree.at place u.ty (tree.deref e)) right f t v l can
updates_fine s u place (tree.member e number) right f t v l can = updates_object_fine s u (tree.at place u.ty (tree.member e number)) right f t v l can
updates_fine s u place node right f t v l can = elim l [ ]

update_fine : (s : Site) (operator : ℕ) (left : tree.Expr) (op : Op) (right : tree.Expr) → Stands s → IsTyped (context_at s) left → IsTyped (context_at s) right → IsLvalue (tree.node_of left) → CanUpdate s.typed.structs op (tree.type_of left) (tree.type_of right)
    → Executes s (λ answer. updates (here_at s answer) (update_of operator left op) (tree.node_of left) left right)
update_fine s operator (tree.at place ty node) op right f t v l can = updates_fine s (update_of operator (tree.at place ty node) op) place node right f t v l can

-- ---- declarations

initialises_fine : (s : Site) (place number : ℕ) (init : tree.Expr) → Stands s → IsTyped (context_at s) init → IsNth s.func.locals number (λ l. Fits (tree.type_of init) l.ty × IsScalar (tree.type_of init)) → Executes s (λ answer. initialises (here_at s answer) place number init)
initialises_fine s place number init f t l w g x n =
    let block = is_block (local_at (here_at s answers.Plain) number) in
    let to = block_value (length (ended_local number x).world.blocks) in
    let atomic = is_atomic_local (local_at (here_at s answers.Plain) number) in
    if_fine s block (λ answer. run (here_at s answer) init (place_way (here_at s answer) place atomic to (w answer)) (made_local (here_at s answers.Plain) number x)) (λ answer. run (here_at s answer) init (local_way number (w answer)) (with_variable number control.unset x))
    (λ b. run_fine s f init t l.2.1 (λ answer. place_way (here_at s answer) place atomic to (w answer)) (place_takes s place atomic to (kind_at init) w f tt g) (made_local (here_at s answers.Plain) number x) (made_now s f answers.Plain number x b n))
    (λ b. run_fine s f init t l.2.1 (λ answer. local_way number (w answer))
    (local_takes s number (kind_at init) w f (l.0, l.1, (in_memory_is s f number false l.0 l.1 b, sym (fits_kind (tree.type_of init) l.0.ty l.2.0))) g) (with_variable number control.unset x) (unset_now s number x n))

declares_fine : (s : Site) (place number : ℕ) (init : Option tree.Expr) → Stands s → IsNth s.func.locals number (λ l. IfTyped (context_at s) (λ t. Fits t l.ty × IsScalar t) init) → Executes s (λ answer. declares (here_at s answer) place number init)
declares_fine s place number None f l w g x n = g.ends (declared_local (here_at s answers.Plain) number x) (declared_now s f answers.Plain number x n)
declares_fine s place number (Some init) f l w g x n = initialises_fine s place number init f l.2.0 (l.0, l.1, l.2.1) w g x n

-- ---- returns

pub caller_takes : (s : Site) → Stands s → IsScalar s.func.result → TakesKind s (access_of_type s.func.result) (λ answer. caller_way (here_at s answer))
caller_takes s f scalar = record { expects = λ answer. (scalar, refl); goes = λ v h x n. leaves_fine s (Some v) f (kind_type s.func.result v (scalar_values s.func.result scalar) h) x n }

returns_fine : (s : Site) (value : Option tree.Expr) → Stands s → IsReturned (context_at s) s.func.result value → IsFine s (λ answer. returns (here_at s answer) value)
returns_fine s None f h x n = leaves_fine s None f tt x n
returns_fine s (Some e) f h x n =
    let scalar = returned_scalar (tree.type_of e) s.func.result (func_well s f).result h.1 in
    let P : Access → Type 0 = λ a. TakesKind s a (λ answer. caller_way (here_at s answer)) in
    run_fine s f e h.0 (fits_scalar (tree.type_of e) s.func.result h.1 scalar) (λ answer. caller_way (here_at s answer)) (subst P (sym (fits_kind (tree.type_of e) s.func.result h.1)) (caller_takes s f scalar)) x n

-- ---- dropped values

drops_object_fine : (s : Site) (place : ℕ) (ty : tree.Ty) (node : tree.ExprNode) → Stands s → IsTypedNode (context_at s) ty node → IsLvalue node → Executes s (λ answer. drops_object (here_at s answer) place ty node)
drops_object_fine s place ty node f t l w g x n =
    if_fine s (is_scalar ty) (λ answer. run_node (here_at s answer) place ty node (nowhere_way (w answer)) x) (λ answer. run_place_node (here_at s answer) place node (nowhere_way (w answer)) x)
    (λ b. run_node_fine s f place ty node t (is_scalar_type ty b) (λ answer. nowhere_way (w answer)) (nowhere_takes s (access_of_type ty) w g) x n)
    (λ b. run_place_node_fine s f place ty node t l (λ answer. nowhere_way (w answer)) (nowhere_takes s accesses.Pointer w g) x n)

plain_fine : (s : Site) (place : ℕ) (ty : tree.Ty) (node : tree.ExprNode) → Stands s → IsTypedNode (context_at s) ty node → IsPlain ty node → Executes s (λ answer w. run_node (here_at s answer) place ty node (nowhere_way w))
plain_fine s place ty node f t p w g = run_node_fine s f place ty node t (scalar_values ty (plain_scalar (context_at s) ty node t p)) (λ answer. nowhere_way (w answer)) (nowhere_takes s (access_of_type ty) w g)

call_dropped_fine : (s : Site) (place : ℕ) (callee : Callee) (all : tree.Exprs) (ty : tree.Ty) → Stands s → IsCalled (context_at s) callee all ty → Executes s (λ answer w. run_arguments (here_at s answer) place callee all [] (dropped w.k))
call_dropped_fine s place callee all ty f c w g = run_arguments_fine s f place callee all ty all [] (λ answer. dropped (w answer).k) c refl g.todo

mutual
  dropped_fine : (s : Site) → Stands s → (e : tree.Expr) → IsTyped (context_at s) e → Executes s (λ answer. run_dropped (here_at s answer) e)
  dropped_fine s f (tree.at place ty node) t w g x n = dropped_node_fine s f place ty node t w g x n

  dropped_node_fine : (s : Site) → Stands s → (place : ℕ) (ty : tree.Ty) (node : tree.ExprNode) → IsTypedNode (context_at s) ty node → Executes s (λ answer. run_dropped_node (here_at s answer) place ty node)
  dropped_node_fine s f place ty (tree.call number args) t w g x n = call_dropped_fine s place (control.function number) args ty f t w g x n
  dropped_node_fine s f place ty (tree.lib which args) t w g x n = call_dropped_fine s place (control.library which) args ty f t w g x n
  dropped_node_fine s f place tree.void (tree.convert e) t w g x n = dropped_fine s f e t.0 w g x n
  dropped_node_fine s f place (tree.integer i) (tree.convert e) t w g x n = plain_fine s place (tree.integer i) (tree.convert e) f t tt w g x n
  dropped_node_fine s f place (tree.atomic i) (tree.convert e) t w g x n = plain_fine s place (tree.atomic i) (tree.convert e) f t tt w g x n
  dropped_node_fine s f place tree.mutex (tree.convert e) t w g x n = plain_fine s place tree.mutex (tree.convert e) f t tt w g x n
  dropped_node_fine s f place (tree.pointer to) (tree.convert e) t w g x n = plain_fine s place (tree.pointer to) (tree.convert e) f t tt w g x n
  dropped_node_fine s f place (tree.array of size) (tree.convert e) t w g x n = plain_fine s place (tree.array of size) (tree.convert e) f t tt w g x n
  dropped_node_fine s f place (tree.structure number) (tree.convert e) t w g x n = plain_fine s place (tree.structure number) (tree.convert e) f t tt w g x n
  dropped_node_fine s f place ty (tree.num i z) t w g x n = plain_fine s place ty (tree.num i z) f t tt w g x n
  dropped_node_fine s f place ty tree.null t w g x n = plain_fine s place ty tree.null f t tt w g x n
  dropped_node_fine s f place ty (tree.literal number) t w g x n = drops_object_fine s place ty (tree.literal number) f t tt w g x n
  dropped_node_fine s f place ty (tree.global number) t w g x n = drops_object_fine s place ty (tree.global number) f t tt w g x n
  dropped_node_fine s f place ty (tree.local number) t w g x n = drops_object_fine s place ty (tree.local number) f t tt w g x n
  dropped_node_fine s f place ty (tree.deref e) t w g x n = drops_object_fine s place ty (tree.deref e) f t tt w g x n
  dropped_node_fine s f place ty (tree.member e number) t w g x n = drops_object_fine s place ty (tree.member e number) f t tt w g x n
  dropped_node_fine s f place ty (tree.address_of e) t w g x n = plain_fine s place ty (tree.address_of e) f t tt w g x n
  dropped_node_fine s f place ty (tree.decay e) t w g x n = plain_fine s place ty (tree.decay e) f t tt w g x n
  dropped_node_fine s f place ty (tree.not_ e) t w g x n = plain_fine s place ty (tree.not_ e) f t tt w g x n
  dropped_node_fine s f place ty (tree.binary op a b) t w g x n = plain_fine s place ty (tree.binary op a b) f t tt w g x n
  dropped_node_fine s f place ty (tree.and_also a b) t w g x n = plain_fine s place ty (tree.and_also a b) f t tt w g x n
  dropped_node_fine s f place ty (tree.or_else a b) t w g x n = plain_fine s place ty (tree.or_else a b) f t tt w g x n
  dropped_node_fine s f place ty (tree.choose c a b) t w g x n = plain_fine s place ty (tree.choose c a b) f t tt w g x n
  dropped_node_fine s f place ty (tree.pointer_add a b) t w g x n = plain_fine s place ty (tree.pointer_add a b) f t tt w g x n
  dropped_node_fine s f place ty (tree.pointer_sub a b) t w g x n = plain_fine s place ty (tree.pointer_sub a b) f t tt w g x n
  dropped_node_fine s f place ty (tree.pointer_diff a b) t w g x n = plain_fine s place ty (tree.pointer_diff a b) f t tt w g x n
  dropped_node_fine s f place ty (tree.pointer_compare op a b) t w g x n = plain_fine s place ty (tree.pointer_compare op a b) f t tt w g x n
  dropped_node_fine s f place ty (tree.pointer_test e) t w g x n = plain_fine s place ty (tree.pointer_test e) f t tt w g x n

-- ---- ways behind statements

pub row_follows : (s : Site) (rest : tree.Stmts) (run_rest : Answer → Way → Does) (w : Answer → Way) → AreWellSomewhere (inside_at s) rest → Executes s run_rest → Follows s w → Follows s (λ answer. row_way rest (run_rest answer) (w answer))
row_follows s rest run_rest w well r g = record { todo = λ answer. (well, g.todo answer); ends = r w g; breaks = g.breaks; continues = g.continues }

pub end_follows : (s : Site) (numbers : List ℕ) (w : Answer → Way) → Follows s w → Follows s (λ answer. end_way numbers (w answer))
end_follows s numbers w g = record {
  todo = g.todo;
  ends = λ x n. g.ends (ended_locals numbers x) (ended_locals_now s numbers x n);
  breaks = λ x n. g.breaks (ended_locals numbers x) (ended_locals_now s numbers x n);
  continues = λ x n. g.continues (ended_locals numbers x) (ended_locals_now s numbers x n);
}

pub if_takes : (s : Site) (place : ℕ) (one other : tree.Stmt) (how : Access) (run_one run_other : Answer → Way → Does) (w : Answer → Way) → IsWellSomewhere (inside_at s) one → IsWellSomewhere (inside_at s) other → Executes s run_one → Executes s run_other → Follows s w
    → TakesKind s how (λ answer. if_way place one other (run_one answer) (run_other answer) (w answer))
if_takes s place one other how run_one run_other w t u p q g = record {
  expects = λ answer. (t, u, g.todo answer);
  goes = λ v h x n. ok_fine s place Anything (λ answer (b : Bool). if b then run_one answer (w answer) x else run_other answer (w answer) x) (truth_of x.world.blocks v) (truth_ok x.world.blocks v)
      (λ b i. if_fine s b (λ answer. run_one answer (w answer) x) (λ answer. run_other answer (w answer) x) (λ e. p w g x n) (λ e. q w g x n));
}

-- ---- loops

over_fine : (s : Site) (l : Loop) (w : Answer → Way) → Stands s → IsTypedLoop (inside_at s) l → Follows s w → IsFine s (λ answer. round_over (here_at s answer) l (w answer).k)
over_fine s l w f t g x n =
    plainly_fine s (λ answer. stays_at s x.locals (control.round l (w answer).k)) x.world (λ answer. stays_typed s x.locals (control.round l (w answer).k) f n.locals (t, g.todo answer)) n.world

pub step_follows : (s : Site) (l : Loop) (w : Answer → Way) → Stands s → IsTypedLoop (inside_at s) l → Follows s w → Follows s (λ answer. step_way (here_at s answer) l (w answer))
step_follows s l w f t g = record { todo = λ answer. (t, g.todo answer); ends = over_fine s l w f t g; breaks = g.ends; continues = over_fine s l w f t g }

pub body_follows : (s : Site) (l : Loop) (run_step : Answer → Way → Does) (w : Answer → Way) → Stands s → IsTypedLoop (inside_at s) l → Executes s run_step → Follows s w → Follows s (λ answer. body_way (here_at s answer) l (run_step answer) (w answer))
body_follows s l run_step w f t r g =
    let step : IsFine s (λ answer. run_step answer (step_way (here_at s answer) l (w answer))) = r (λ answer. step_way (here_at s answer) l (w answer)) (step_follows s l w f t g) in
    record { todo = λ answer. (t, g.todo answer); ends = step; breaks = g.ends; continues = step }

enters_fine : (s : Site) (l : Loop) (run_body run_step : Answer → Way → Does) (w : Answer → Way) → Stands s → IsTypedLoop (inside_at s) l → Executes s run_body → Executes s run_step → Follows s w
    → IsFine s (λ answer. run_body answer (body_way (here_at s answer) l (run_step answer) (w answer)))
enters_fine s l run_body run_step w f t p q g = p (λ answer. body_way (here_at s answer) l (run_step answer) (w answer)) (body_follows s l run_step w f t q g)

pub loop_test_takes : (s : Site) (place : ℕ) (l : Loop) (how : Access) (run_body run_step : Answer → Way → Does) (w : Answer → Way) → Stands s → IsTypedLoop (inside_at s) l → Executes s run_body → Executes s run_step → Follows s w
    → TakesKind s how (λ answer. loop_test_way (here_at s answer) place l (run_body answer) (run_step answer) (w answer))
loop_test_takes s place l how run_body run_step w f t p q g = record {
  expects = λ answer. (t, g.todo answer);
  goes = λ v h x n. ok_fine s place Anything (λ answer (b : Bool). if b then run_body answer (body_way (here_at s answer) l (run_step answer) (w answer)) x else (w answer).end x) (truth_of x.world.blocks v) (truth_ok x.world.blocks v)
      (λ b i. if_fine s b (λ answer. run_body answer (body_way (here_at s answer) l (run_step answer) (w answer)) x) (λ answer. (w answer).end x) (λ e. enters_fine s l run_body run_step w f t p q g x n) (λ e. g.ends x n));
}

rounds_if_fine : (s : Site) (l : Loop) (run_body run_step : Answer → Way → Does) (condition : Option tree.Expr) → Stands s → IsTypedLoop (inside_at s) l → IfTyped (context_at s) IsScalar condition → Executes s run_body → Executes s run_step
    → Executes s (λ answer w. rounds_if (here_at s answer) l (run_body answer) (run_step answer) w condition)
rounds_if_fine s l run_body run_step None f t c p q w g x n = enters_fine s l run_body run_step w f t p q g x n
rounds_if_fine s l run_body run_step (Some e) f t c p q w g x n =
    run_fine s f e c.0 c.1 (λ answer. loop_test_way (here_at s answer) (tree.place_of e) l (run_body answer) (run_step answer) (w answer))
    (loop_test_takes s (tree.place_of e) l (kind_at e) run_body run_step w f t p q g) x n

pub rounds_fine : (s : Site) (l : Loop) (run_body run_step : Answer → Way → Does) → Stands s → IsTypedLoop (inside_at s) l → Executes s run_body → Executes s run_step → Executes s (λ answer. rounds (here_at s answer) l (run_body answer) (run_step answer))
rounds_fine s l run_body run_step f t p q w g x n = rounds_if_fine s l run_body run_step l.condition f t t.condition p q w g x n

pub loop_follows : (s : Site) (l : Loop) (run_body run_step : Answer → Way → Does) (w : Answer → Way) → Stands s → IsTypedLoop (inside_at s) l → Executes s run_body → Executes s run_step → Follows s w
    → Follows s (λ answer. loop_way (here_at s answer) l (run_body answer) (run_step answer) (w answer))
loop_follows s l run_body run_step w f t p q g = record { todo = λ answer. (t, g.todo answer); ends = rounds_fine s l run_body run_step f t p q w g; breaks = g.breaks; continues = g.continues }

-- ---- switches

pub switch_follows : (s : Site) (w : Answer → Way) → Follows s w → Follows s (λ answer. switch_way (w answer))
switch_follows s w g = record { todo = g.todo; ends = g.ends; breaks = g.ends; continues = g.continues }

starts_fine : (s : Site) (from : Answer → ℕ → Way → Does) (w : Answer → Way) (at : Option ℕ) → ((n : ℕ) → Executes s (λ answer. from answer n)) → Follows s w → IsFine s (λ answer. starts (from answer) (w answer) at)
starts_fine s from w None r g = g.ends
starts_fine s from w (Some at) r g = r at (λ answer. switch_way (w answer)) (switch_follows s w g)

pub switch_takes : (s : Site) (labels : List tree.Label) (body : tree.Stmts) (how : Access) (from : Answer → ℕ → Way → Does) (w : Answer → Way) → IsNumberKind how → AreWellSomewhere (inside_at s) body → ((n : ℕ) → Executes s (λ answer. from answer n)) → Follows s w
    → TakesKind s how (λ answer. switch_test_way labels body (from answer) (w answer))
switch_takes s labels body how from w k well r g = record {
  expects = λ answer. (k, well, g.todo answer);
  goes = λ v h x n. starts_fine s from w (starts_at labels (chosen labels v)) r g x n;
}

-- the expression of a switch is a number
switched_scalar : (ty : tree.Ty) → IsSwitched ty → IsScalar ty
switched_scalar (tree.integer t) h = tt
switched_scalar ty h = elim h [ ]

switched_kind : (ty : tree.Ty) → IsSwitched ty → IsNumberKind (access_of_type ty)
switched_kind (tree.integer t) h = tt
switched_kind ty h = elim h [ ]

-- ---- statements

nothing_fine : (s : Site) → Executes s (λ answer w. w.end)
nothing_fine s w g = g.ends

leaving_fine : (s : Site) → Executes s (λ answer w. w.breaks)
leaving_fine s w g = g.breaks

-- the condition of a do
again_fine : (s : Site) → Stands s → (e : tree.Expr) → IsTyped (context_at s) e → IsScalar (tree.type_of e)
    → Executes s (λ answer v. run (here_at s answer) e (if_way (tree.place_of e) (nothing (tree.place_of e)) (leaving (tree.place_of e)) (λ u. u.end) (λ u. u.breaks) v))
again_fine s f e t scalar w g =
    run_fine s f e t scalar (λ answer. if_way (tree.place_of e) (nothing (tree.place_of e)) (leaving (tree.place_of e)) (λ u. u.end) (λ u. u.breaks) (w answer))
    (if_takes s (tree.place_of e) (nothing (tree.place_of e)) (leaving (tree.place_of e)) (kind_at e) (λ answer u. u.end) (λ answer u. u.breaks) w (in_loop, tt) (in_loop, refl) (nothing_fine s) (leaving_fine s) g)

mutual
  -- a statement comes out well before all that follows it
  pub stmt_fine : (s : Site) → Stands s → (j : Jumps) (st : tree.Stmt) → IsWell (inside_at s) j st → Executes s (λ answer. run_stmt (here_at s answer) st)
  stmt_fine s f j (tree.at_stmt place node) t w g x n = node_fine s f j place node t w g x n

  node_fine : (s : Site) → Stands s → (j : Jumps) (place : ℕ) (node : tree.StmtNode) → IsWellNode (inside_at s) j node → Executes s (λ answer. run_stmt_node (here_at s answer) place node)
  node_fine s f j place (tree.block body) t w g x n = row_fine s f j body t (λ answer. end_way (declared body) (w answer)) (end_follows s (declared body) w g) x n
  node_fine s f j place (tree.declare number init) t w g x n = declares_fine s place number init f t.1 w g x n
  node_fine s f j place (tree.if_ e one) t w g x n =
      run_fine s f e t.0 t.1 (λ answer. if_way (tree.place_of e) one (nothing place) (run_stmt (here_at s answer) one) (λ v. v.end) (w answer))
      (if_takes s (tree.place_of e) one (nothing place) (kind_at e) (λ answer. run_stmt (here_at s answer) one) (λ answer v. v.end) w (j, t.2) (j, tt) (stmt_fine s f j one t.2) (nothing_fine s) g) x n
  node_fine s f j place (tree.if_else e one other) t w g x n =
      run_fine s f e t.0 t.1 (λ answer. if_way (tree.place_of e) one other (run_stmt (here_at s answer) one) (run_stmt (here_at s answer) other) (w answer))
      (if_takes s (tree.place_of e) one other (kind_at e) (λ answer. run_stmt (here_at s answer) one) (λ answer. run_stmt (here_at s answer) other) w (j, t.2) (j, t.4) (stmt_fine s f j one t.2) (stmt_fine s f j other t.4) g) x n
  node_fine s f j place (tree.while_ e body) t w g x n =
      rounds_fine s (while_loop place e body) (λ answer. run_stmt (here_at s answer) body) (λ answer v. v.end) f (record { condition = (t.0, t.1); step = (in_function, tt); body = (in_loop, t.2) })
      (stmt_fine s f in_loop body t.2) (nothing_fine s) w g x n
  node_fine s f j place (tree.for_ first e step body) t w g x n =
      stmt_fine s f j first t.0 (λ answer. loop_way (here_at s answer) (for_loop e step body) (run_stmt (here_at s answer) body) (run_stmt (here_at s answer) step) (end_way (declared_by first []) (w answer)))
      (loop_follows s (for_loop e step body) (λ answer. run_stmt (here_at s answer) body) (λ answer. run_stmt (here_at s answer) step) (λ answer. end_way (declared_by first []) (w answer)) f
      (record { condition = t.2; step = (j, t.3); body = (in_loop, t.5) }) (stmt_fine s f in_loop body t.5) (stmt_fine s f j step t.3) (end_follows s (declared_by first []) w g)) x n
  node_fine s f j place (tree.do_while body e) t w g x n =
      rounds_fine s (do_loop body e) (λ answer. run_stmt (here_at s answer) body)
      (λ answer v. run (here_at s answer) e (if_way (tree.place_of e) (nothing (tree.place_of e)) (leaving (tree.place_of e)) (λ u. u.end) (λ u. u.breaks) v)) f
      (record { condition = tt; step = (in_loop, (t.2, t.3, tt, tt, refl, tt)); body = (in_loop, t.0) })
      (stmt_fine s f in_loop body t.0) (again_fine s f e t.2 t.3) w g x n
  node_fine s f j place (tree.switch e labels body) t w g x n =
      run_fine s f e t.0 (switched_scalar (tree.type_of e) t.1) (λ answer. switch_test_way labels body (run_from (here_at s answer) body) (w answer))
      (switch_takes s labels body (kind_at e) (λ answer. run_from (here_at s answer) body) w (switched_kind (tree.type_of e) t.1) (in_switch j, t.5) (from_fine s f (in_switch j) body t.5) g) x n
  node_fine s f j place tree.break_ t w g x n = g.breaks x n
  node_fine s f j place tree.continue_ t w g x n = g.continues x n
  node_fine s f j place (tree.return_ value) t w g x n = returns_fine s value f t x n
  node_fine s f j place (tree.assign left right) t w g x n = assign_fine s left right f t.0 t.1 t.2 t.3 w g x n
  node_fine s f j place (tree.update left op right) t w g x n = update_fine s place left op right f t.0 t.1 t.2 t.3 w g x n
  node_fine s f j place (tree.evaluate e) t w g x n = dropped_fine s f e t w g x n
  node_fine s f j place tree.empty t w g x n = g.ends x n

  pub row_fine : (s : Site) → Stands s → (j : Jumps) (rest : tree.Stmts) → AreWell (inside_at s) j rest → Executes s (λ answer. run_row (here_at s answer) rest)
  row_fine s f j tree.no_stmts t w g x n = g.ends x n
  row_fine s f j (tree.more_stmts st rest) t w g x n =
      stmt_fine s f j st t.0 (λ answer. row_way rest (run_row (here_at s answer) rest) (w answer))
      (row_follows s rest (λ answer. run_row (here_at s answer) rest) w (j, t.1) (row_fine s f j rest t.1) g) x n

  pub from_fine : (s : Site) → Stands s → (j : Jumps) (rest : tree.Stmts) → AreWell (inside_at s) j rest → (at : ℕ) → Executes s (λ answer. run_from (here_at s answer) rest at)
  from_fine s f j tree.no_stmts t at w g x n = g.ends x n
  from_fine s f j (tree.more_stmts st rest) t zero w g x n =
      stmt_fine s f j st t.0 (λ answer. row_way rest (run_row (here_at s answer) rest) (w answer))
      (row_follows s rest (λ answer. run_row (here_at s answer) rest) w (j, t.1) (row_fine s f j rest t.1) g) x n
  from_fine s f j (tree.more_stmts st rest) t (suc at) w g x n = from_fine s f j rest t.1 at w g x n
