-- Expressions give values of their types, and come out well.
use Rattle.std.proofs.Common.{◌≡◌, ℕ, Bool, true, false, ◌+◌, List, [], ◌∷◌, ◌++◌, length, ℤ, refl, sym, ap, subst, ◌∙◌}
use Rattle.std.specs.Prelude.{if◌then◌else◌}
use Rattle.ak_words.specs.declared.int_type.IntType.{IntType}
use Rattle.ak_words.specs.declared.rule.Rule.TheVariants.{C4}
use Rattle.ak_words.specs.IntType.{int}
use Rattle.ak_words.specs.Num.{num}
use Rattle.block_store.specs.declared.values.Access.{Access}
use Rattle.block_store.specs.declared.values.Access.TheVariants as accesses
use Rattle.block_store.specs.declared.values.Answer.{Answer}
use Rattle.block_store.specs.declared.values.Ptr.TheVariants.{Null, To}
use Rattle.block_store.specs.declared.values.Value.{Value}
use Rattle.block_store.specs.declared.values.Value.TheVariants as values
use Rattle.block_store.specs.Actions as actions
use Rattle.c_tree.specs.Typed as tree
use Rattle.c_tree.specs.TypedForm as type
use Rattle.c_tree.specs.TypedForm.{IsScalar, IsNth, IsLvalue, IsInMemory, IsTyped, IsTypedNode, InScope}
use Rattle.c_meaning.specs.Control as control
use Rattle.c_meaning.specs.Control.{Variable, Callee, Wait, wanted}
use Rattle.c_meaning.specs.Values as reads
use Rattle.c_meaning.specs.Values.{access_of_type, is_atomic, truth_of, int_of, Unary, Binary}
use Rattle.c_meaning.specs.Turns.{Does, WayOfUse, after_call, variable_at, pointer_in, read_way, only_way, second_way, first_way, second_test_way, is_same, first_test_way, choice_way, argument_way, reads_variable, finds_variable, run, run_node, run_place, run_place_node, run_arguments}
use Rattle.c_meaning.specs.Kinds.{HasKind, HasTypeIf, MayHold, TakesOne, TakesTwo, IsCalled, StandBefore, Awaits}
use Rattle.c_meaning.proofs.TypedValues.{not_c4, Anything, kind_type, type_kind, truth_ok, of_one_ok, of_two_ok, number_operands, on_numbers_taken, forward_taken, backward_taken, distance_taken, on_pointers_taken, converts_taken, converts_values, HasValues, scalar_values, integer_scalar, pointer_scalar, pointer_access, sized_pointer, moved_scalar}
use Rattle.c_meaning.proofs.TypedLocals.{Site, here_at, inside_at, Stands, hold_at}
use Rattle.c_meaning.proofs.TypedActions.{load_done}
use Rattle.c_meaning.proofs.TypedCalls.{called_scalar, called_typed, first_typed, first_scalar, leaves_fewer}
use Rattle.c_meaning.proofs.TypedTurns.{Fine, TakesKind, IsFine, Evaluates, breaks_fine, ok_fine, if_fine, acts_fine, after_typed, calls_fine}

abbrev pub context_at : Site → InScope
context_at s = (inside_at s).context

-- the values of constants
abbrev pub block_value : (block : ℕ) → Value
block_value block = values.Pointer (To block 0)

abbrev number_value : IntType → ℤ → Value
number_value t z = values.Num (num t z)

-- the kind of a type's values
abbrev pub kind_at : tree.Expr → Access
kind_at e = access_of_type (tree.type_of e)

-- ---- uses of a value in an expression

pub read_takes : (s : Site) (place : ℕ) (ty : tree.Ty) (atomic : Bool) (w : Answer → WayOfUse) → Stands s → HasValues ty → TakesKind s (access_of_type ty) w → TakesKind s accesses.Pointer (λ answer. read_way (here_at s answer) place (access_of_type ty) atomic (w answer))
read_takes s place ty atomic w f scalar g = record {
  expects = λ answer. (refl, g.expects answer);
  goes = λ v h x n.
      acts_fine s place atomic (actions.load (pointer_in v) (access_of_type ty)) (HasTypeIf ty) (λ answer u. after_call (wanted place (w answer).k) u) f
      (λ world answer i. load_done s.typed ty world s.thread answer (pointer_in v) scalar i)
      (λ answer u i. after_typed s ty (wanted place (w answer).k) u (g.expects answer) i) x n;
}

pub only_takes : (s : Site) (place : ℕ) (op : Unary) (from to : Access) (w : Answer → WayOfUse) → TakesOne op from to → TakesKind s to w → TakesKind s from (λ answer. only_way place op (w answer))
only_takes s place op from to w takes g = record {
  expects = λ answer. (to, takes, g.expects answer);
  goes = λ v h x n. ok_fine s place (HasKind to) (λ answer r. (w answer).go r x) (reads.of_one x.world.blocks op v) (of_one_ok x.world.blocks op from to v takes h) (λ r i. g.goes r i x n);
}

pub second_takes : (s : Site) (place : ℕ) (op : Binary) (from how to : Access) (left : Value) (w : Answer → WayOfUse) → HasKind from left → TakesTwo op from how to → TakesKind s to w → TakesKind s how (λ answer. second_way place op left (w answer))
second_takes s place op from how to left w l takes g = record {
  expects = λ answer. (from, to, l, takes, g.expects answer);
  goes = λ v h x n. ok_fine s place (HasKind to) (λ answer r. (w answer).go r x) (reads.of_two x.world.blocks op left v) (of_two_ok x.world.blocks op from how to left v takes l h) (λ r i. g.goes r i x n);
}

pub first_takes : (s : Site) (place : ℕ) (op : Binary) (how to : Access) (right : tree.Expr) (run_right : Answer → WayOfUse → Does) (w : Answer → WayOfUse) → IsTyped (context_at s) right → IsScalar (tree.type_of right) → TakesTwo op how (kind_at right) to
    → Evaluates s (kind_at right) run_right → TakesKind s to w → TakesKind s how (λ answer. first_way place op right (run_right answer) (w answer))
first_takes s place op how to right run_right w typed scalar takes r g = record {
  expects = λ answer. (typed, scalar, (to, takes, g.expects answer));
  goes = λ v h x n. r (λ answer. second_way place op v (w answer)) (second_takes s place op how (kind_at right) to v w h takes g) x n;
}

pub second_test_takes : (s : Site) (place : ℕ) (how : Access) (w : Answer → WayOfUse) → TakesKind s (accesses.Number int) w → TakesKind s how (λ answer. second_test_way place (w answer))
second_test_takes s place how w g = record {
  expects = g.expects;
  goes = λ v h x n. ok_fine s place Anything (λ answer (b : Bool). (w answer).go (int_of b) x) (truth_of x.world.blocks v) (truth_ok x.world.blocks v) (λ b u. g.goes (int_of b) refl x n);
}

pub first_test_takes : (s : Site) (place : ℕ) (decides : Bool) (how : Access) (right : tree.Expr) (run_right : Answer → WayOfUse → Does) (w : Answer → WayOfUse) → IsTyped (context_at s) right → IsScalar (tree.type_of right)
    → Evaluates s (kind_at right) run_right → TakesKind s (accesses.Number int) w → TakesKind s how (λ answer. first_test_way place decides right (run_right answer) (w answer))
first_test_takes s place decides how right run_right w typed scalar r g = record {
  expects = λ answer. (typed, scalar, g.expects answer);
  goes = λ v h x n. ok_fine s place Anything (λ answer (b : Bool). if is_same b decides then (w answer).go (int_of b) x else run_right answer (second_test_way (tree.place_of right) (w answer)) x) (truth_of x.world.blocks v) (truth_ok x.world.blocks v)
      (λ b u. if_fine s (is_same b decides) (λ answer. (w answer).go (int_of b) x) (λ answer. run_right answer (second_test_way (tree.place_of right) (w answer)) x)
      (λ e. g.goes (int_of b) refl x n)
      (λ e. r (λ answer. second_test_way (tree.place_of right) (w answer)) (second_test_takes s (tree.place_of right) (kind_at right) w g) x n));
}

pub choice_takes : (s : Site) (place : ℕ) (how : Access) (one other : tree.Expr) (run_one run_other : Answer → WayOfUse → Does) (w : Answer → WayOfUse) → IsTyped (context_at s) one → IsTyped (context_at s) other → IsScalar (tree.type_of one) → tree.type_of other ≡ tree.type_of one
    → Evaluates s (kind_at one) run_one → Evaluates s (kind_at one) run_other → TakesKind s (kind_at one) w → TakesKind s how (λ answer. choice_way place one other (run_one answer) (run_other answer) (w answer))
choice_takes s place how one other run_one run_other w t u scalar same p q g = record {
  expects = λ answer. (t, u, scalar, same, g.expects answer);
  goes = λ v h x n. ok_fine s place Anything (λ answer (b : Bool). if b then run_one answer (w answer) x else run_other answer (w answer) x) (truth_of x.world.blocks v) (truth_ok x.world.blocks v)
      (λ b i. if_fine s b (λ answer. run_one answer (w answer) x) (λ answer. run_other answer (w answer) x) (λ e. p w g x n) (λ e. q w g x n));
}

-- ---- locals

reads_fine : (s : Site) (place : ℕ) (l : tree.Local) (w : Answer → WayOfUse) (v : Variable) → Stands s → HasValues l.ty → MayHold l v → TakesKind s (access_of_type l.ty) w → IsFine s (λ answer. reads_variable (here_at s answer) place l.ty (w answer) v)
reads_fine s place l w control.unset f scalar h g x n = breaks_fine s C4 place not_c4
reads_fine s place l w (control.holds v) f scalar h g x n = g.goes v (type_kind l.ty v h.1) x n
reads_fine s place l w (control.lies block) f scalar h g x n = (read_takes s place l.ty (is_atomic l.ty) w f scalar g).goes (block_value block) tt x n

local_fine : (s : Site) (place number : ℕ) (ty : tree.Ty) → Stands s → IsNth s.func.locals number (λ l. l.ty ≡ ty) → HasValues ty → Evaluates s (access_of_type ty) (λ answer w x. reads_variable (here_at s answer) place ty w (variable_at x number) x)
local_fine s place number ty f l scalar w g x n =
    let is : l.0.ty ≡ ty = l.2 in
    let P : tree.Ty → Type 0 = λ z. Fine s (λ answer. reads_variable (here_at s answer) place z (w answer) (variable_at x number) x) in
    subst P is (reads_fine s place l.0 w (variable_at x number) f (subst HasValues (sym is) scalar) (hold_at s.func.locals x.locals number l.0 n.locals l.1)
    (subst (λ z. TakesKind s (access_of_type z) w) (sym is) g) x n)

finds_fine : (s : Site) (place : ℕ) (w : Answer → WayOfUse) (v : Variable) → TakesKind s accesses.Pointer w → IsFine s (λ answer. finds_variable place (w answer) v)
finds_fine s place w control.unset g x n = breaks_fine s C4 place not_c4
finds_fine s place w (control.holds v) g x n = breaks_fine s C4 place not_c4
finds_fine s place w (control.lies block) g x n = g.goes (block_value block) tt x n

-- ---- arguments

pub argument_takes : (s : Site) (place : ℕ) (callee : Callee) (before : List Value) (e : tree.Expr) (rest all : tree.Exprs) (ty : tree.Ty) (run_rest : Answer → List Value → Wait → Does) (k : Answer → Wait) → IsCalled (context_at s) callee all ty → StandBefore before (tree.more_exprs e rest) all → IsScalar (tree.type_of e)
    → ((answer : Answer) → Awaits (inside_at s) ty (k answer))
    → ((args : List Value) → StandBefore args rest all → IsFine s (λ answer. run_rest answer args (k answer)))
    → TakesKind s (kind_at e) (λ answer. argument_way place callee before rest (run_rest answer) (k answer))
argument_takes s place callee before e rest all ty run_rest k c l scalar waits r = record {
  expects = λ answer. (ty, e, all, c, l, refl, waits answer);
  goes = λ v h x n. r (before ++ v ∷ []) (leaves_fewer before v e rest all l (kind_type (tree.type_of e) v (scalar_values (tree.type_of e) scalar) h)) x n;
}

-- ---- kinds that are the same

evaluates_as : (s : Site) (how to : Access) (run_it : Answer → WayOfUse → Does) → how ≡ to → Evaluates s how run_it → Evaluates s to run_it
evaluates_as s how to run_it e r = let P : Access → Type 0 = λ a. Evaluates s a run_it in subst P e r

takes_as : (s : Site) (how to : Access) (w : Answer → WayOfUse) → how ≡ to → TakesKind s how w → TakesKind s to w
takes_as s how to w e r = let P : Access → Type 0 = λ a. TakesKind s a w in subst P e r

-- an object in memory has a place
in_memory_lvalue : (c : InScope) (node : tree.ExprNode) → IsInMemory c node → IsLvalue node
in_memory_lvalue c (tree.literal n) h = tt
in_memory_lvalue c (tree.global n) h = tt
in_memory_lvalue c (tree.local n) h = tt
in_memory_lvalue c (tree.deref e) h = tt
in_memory_lvalue c (tree.member e m) h = tt
in_memory_lvalue c node h = elim h [ ]

-- ---- expressions

-- two operands, the left one first
binary_fine : (s : Site) (place : ℕ) (op : Binary) (a b : tree.Expr) (to : Access) → IsTyped (context_at s) b → IsScalar (tree.type_of b) → TakesTwo op (kind_at a) (kind_at b) to
    → Evaluates s (kind_at a) (λ answer. run (here_at s answer) a) → Evaluates s (kind_at b) (λ answer. run (here_at s answer) b) → Evaluates s to (λ answer w. run (here_at s answer) a (first_way place op b (run (here_at s answer) b) w))
binary_fine s place op a b to u j takes p q w g x n =
    p (λ answer. first_way place op b (run (here_at s answer) b) (w answer)) (first_takes s place op (kind_at a) to b (λ answer. run (here_at s answer) b) w u j takes q g) x n

mutual
  -- an expression gives a value of its type
  pub run_fine : (s : Site) → Stands s → (e : tree.Expr) → IsTyped (context_at s) e → IsScalar (tree.type_of e) → Evaluates s (kind_at e) (λ answer. run (here_at s answer) e)
  run_fine s f (tree.at place ty node) t scalar w g x n = run_node_fine s f place ty node t (scalar_values ty scalar) w g x n

  -- and an object of an atomic type the number in it
  run_values_fine : (s : Site) → Stands s → (e : tree.Expr) → IsTyped (context_at s) e → HasValues (tree.type_of e) → Evaluates s (kind_at e) (λ answer. run (here_at s answer) e)
  run_values_fine s f (tree.at place ty node) t values w g x n = run_node_fine s f place ty node t values w g x n

  pub run_node_fine : (s : Site) → Stands s → (place : ℕ) (ty : tree.Ty) (node : tree.ExprNode) → IsTypedNode (context_at s) ty node → HasValues ty → Evaluates s (access_of_type ty) (λ answer. run_node (here_at s answer) place ty node)
  run_node_fine s f place ty (tree.num t z) h scalar w g x n = g.goes (number_value t z) (subst (λ u. HasKind (access_of_type u) (number_value t z)) (sym h.0) refl) x n
  run_node_fine s f place ty tree.null h scalar w g x n = g.goes (values.Pointer Null) (subst (λ a. HasKind a (values.Pointer Null)) (sym (pointer_access ty h)) tt) x n
  run_node_fine s f place ty (tree.literal number) h scalar w g x n = (read_takes s place ty (is_atomic ty) w f scalar g).goes (block_value (length s.typed.globals + number)) tt x n
  run_node_fine s f place ty (tree.global number) h scalar w g x n = (read_takes s place ty (is_atomic ty) w f scalar g).goes (block_value number) tt x n
  run_node_fine s f place ty (tree.local number) h scalar w g x n = local_fine s place number ty f h scalar w g x n
  run_node_fine s f place ty (tree.deref e) h scalar w g x n =
      let pointer = subst type.IsPointer (sym h.1) tt in
      evaluates_as s (kind_at e) accesses.Pointer (λ answer. run (here_at s answer) e) (pointer_access (tree.type_of e) pointer) (run_fine s f e h.0 (pointer_scalar (tree.type_of e) pointer))
      (λ answer. read_way (here_at s answer) place (access_of_type ty) (is_atomic ty) (w answer)) (read_takes s place ty (is_atomic ty) w f scalar g) x n
  run_node_fine s f place ty (tree.member e number) h scalar w g x n =
      let op = reads.selects (reads.member_offset s.typed.structs (tree.type_of e) number) in
      run_place_fine s f e h.0 h.1 (λ answer. only_way place op (read_way (here_at s answer) place (access_of_type ty) (is_atomic ty) (w answer)))
      (only_takes s place op accesses.Pointer accesses.Pointer (λ answer. read_way (here_at s answer) place (access_of_type ty) (is_atomic ty) (w answer)) refl (read_takes s place ty (is_atomic ty) w f scalar g)) x n
  run_node_fine s f place ty (tree.address_of e) h scalar w g x n =
      run_place_fine s f e h.0 (in_memory_lvalue (context_at s) (tree.node_of e) h.1) w (takes_as s (access_of_type ty) accesses.Pointer w (ap access_of_type h.2) g) x n
  run_node_fine s f place ty (tree.decay e) h scalar w g x n =
      run_place_fine s f e h.0 (in_memory_lvalue (context_at s) (tree.node_of e) h.1) w (takes_as s (access_of_type ty) accesses.Pointer w (ap access_of_type h.2.3) g) x n
  run_node_fine s f place ty (tree.convert e) h scalar w g x n =
      run_values_fine s f e h.0 (converts_values (tree.type_of e) ty h.1 scalar) (λ answer. only_way place (reads.converts ty) (w answer))
      (only_takes s place (reads.converts ty) (kind_at e) (access_of_type ty) w (converts_taken (tree.type_of e) ty h.1 scalar) g) x n
  run_node_fine s f place ty (tree.not_ e) h scalar w g x n =
      run_fine s f e h.0 h.1 (λ answer. only_way place reads.negates (w answer)) (only_takes s place reads.negates (kind_at e) (access_of_type ty) w (ap access_of_type h.2) g) x n
  run_node_fine s f place ty (tree.binary op a b) h scalar w g x n =
      let i = number_operands op (tree.type_of a) (tree.type_of b) h.2 in
      binary_fine s place (reads.on_numbers op) a b (access_of_type ty) h.1 (integer_scalar (tree.type_of b) i.1)
      (on_numbers_taken op (tree.type_of a) (tree.type_of b) ty h.2 h.3) (run_fine s f a h.0 (integer_scalar (tree.type_of a) i.0)) (run_fine s f b h.1 (integer_scalar (tree.type_of b) i.1)) w g x n
  run_node_fine s f place ty (tree.and_also a b) h scalar w g x n =
      run_fine s f a h.0 h.2 (λ answer. first_test_way (tree.place_of a) false b (run (here_at s answer) b) (w answer))
      (first_test_takes s (tree.place_of a) false (kind_at a) b (λ answer. run (here_at s answer) b) w h.1 h.3 (run_fine s f b h.1 h.3) (takes_as s (access_of_type ty) (accesses.Number int) w (ap access_of_type h.4) g)) x n
  run_node_fine s f place ty (tree.or_else a b) h scalar w g x n =
      run_fine s f a h.0 h.2 (λ answer. first_test_way (tree.place_of a) true b (run (here_at s answer) b) (w answer))
      (first_test_takes s (tree.place_of a) true (kind_at a) b (λ answer. run (here_at s answer) b) w h.1 h.3 (run_fine s f b h.1 h.3) (takes_as s (access_of_type ty) (accesses.Number int) w (ap access_of_type h.4) g)) x n
  run_node_fine s f place ty (tree.choose c a b) h scalar w g x n =
      let one = subst IsScalar (sym h.5) (integer_scalar ty h.4) in
      let other = subst IsScalar (sym h.6) (integer_scalar ty h.4) in
      run_fine s f c h.0 h.3 (λ answer. choice_way (tree.place_of c) a b (run (here_at s answer) a) (run (here_at s answer) b) (w answer))
      (choice_takes s (tree.place_of c) (kind_at c) a b (λ answer. run (here_at s answer) a) (λ answer. run (here_at s answer) b) w h.1 h.2 one (h.6 ∙ sym h.5) (run_fine s f a h.1 one)
      (evaluates_as s (kind_at b) (kind_at a) (λ answer. run (here_at s answer) b) (ap access_of_type (h.6 ∙ sym h.5)) (run_fine s f b h.2 other))
      (takes_as s (access_of_type ty) (kind_at a) w (ap access_of_type (sym h.5)) g)) x n
  run_node_fine s f place ty (tree.pointer_add a b) h scalar w g x n =
      let m = moved_scalar s.typed.structs (tree.type_of a) (tree.type_of b) ty h.2 in
      binary_fine s place (reads.forward (reads.element_size s.typed.structs ty)) a b (access_of_type ty) h.1 m.1
      (forward_taken s.typed.structs (reads.element_size s.typed.structs ty) (tree.type_of a) (tree.type_of b) ty h.2) (run_fine s f a h.0 m.0) (run_fine s f b h.1 m.1) w g x n
  run_node_fine s f place ty (tree.pointer_sub p q) h scalar w g x n =
      let size = reads.element_size s.typed.structs (tree.type_of p) in
      let one = pointer_scalar (tree.type_of p) (sized_pointer s.typed.structs (tree.type_of p) h.2) in
      let other = integer_scalar (tree.type_of q) h.3 in
      binary_fine s place (reads.backward size) p q (access_of_type ty) h.1 other
      (backward_taken s.typed.structs size (tree.type_of p) (tree.type_of q) ty h.2 h.3 h.4) (run_fine s f p h.0 one) (run_fine s f q h.1 other) w g x n
  run_node_fine s f place ty (tree.pointer_diff p q) h scalar w g x n =
      let size = reads.element_size s.typed.structs (tree.type_of p) in
      let one = pointer_scalar (tree.type_of p) (sized_pointer s.typed.structs (tree.type_of p) h.2) in
      let other = pointer_scalar (tree.type_of q) h.3 in
      binary_fine s place (reads.distance size) p q (access_of_type ty) h.1 other
      (distance_taken s.typed.structs size (tree.type_of p) (tree.type_of q) ty h.2 h.3 h.4) (run_fine s f p h.0 one) (run_fine s f q h.1 other) w g x n
  run_node_fine s f place ty (tree.pointer_compare op p q) h scalar w g x n =
      let one = pointer_scalar (tree.type_of p) h.2 in
      let other = pointer_scalar (tree.type_of q) h.3 in
      binary_fine s place (reads.on_pointers op) p q (access_of_type ty) h.1 other
      (on_pointers_taken op (tree.type_of p) (tree.type_of q) ty h.2 h.3 h.5) (run_fine s f p h.0 one) (run_fine s f q h.1 other) w g x n
  run_node_fine s f place ty (tree.pointer_test p) h scalar w g x n =
      run_fine s f p h.0 (pointer_scalar (tree.type_of p) h.1) (λ answer. only_way place reads.tests (w answer)) (only_takes s place reads.tests (kind_at p) (access_of_type ty) w (ap access_of_type h.2) g) x n
  run_node_fine s f place ty (tree.call number args) h scalar w g x n =
      run_arguments_fine s f place (control.function number) args ty args [] (λ answer. wanted place (w answer).k) h refl g.expects x n
  run_node_fine s f place ty (tree.lib which args) h scalar w g x n =
      run_arguments_fine s f place (control.library which) args ty args [] (λ answer. wanted place (w answer).k) h refl g.expects x n

  -- an lvalue gives a pointer
  pub run_place_fine : (s : Site) → Stands s → (e : tree.Expr) → IsTyped (context_at s) e → IsLvalue (tree.node_of e) → Evaluates s accesses.Pointer (λ answer. run_place (here_at s answer) e)
  run_place_fine s f (tree.at place ty node) t l w g x n = run_place_node_fine s f place ty node t l w g x n

  pub run_place_node_fine : (s : Site) → Stands s → (place : ℕ) (ty : tree.Ty) (node : tree.ExprNode) → IsTypedNode (context_at s) ty node → IsLvalue node → Evaluates s accesses.Pointer (λ answer. run_place_node (here_at s answer) place node)
  run_place_node_fine s f place ty (tree.literal number) h l w g x n = g.goes (block_value (length s.typed.globals + number)) tt x n
  run_place_node_fine s f place ty (tree.global number) h l w g x n = g.goes (block_value number) tt x n
  run_place_node_fine s f place ty (tree.local number) h l w g x n = finds_fine s place w (variable_at x number) g x n
  run_place_node_fine s f place ty (tree.deref e) h l w g x n =
      let pointer = subst type.IsPointer (sym h.1) tt in
      evaluates_as s (kind_at e) accesses.Pointer (λ answer. run (here_at s answer) e) (pointer_access (tree.type_of e) pointer) (run_fine s f e h.0 (pointer_scalar (tree.type_of e) pointer)) w g x n
  run_place_node_fine s f place ty (tree.member e number) h l w g x n =
      let op = reads.selects (reads.member_offset s.typed.structs (tree.type_of e) number) in
      run_place_fine s f e h.0 h.1 (λ answer. only_way place op (w answer)) (only_takes s place op accesses.Pointer accesses.Pointer w refl g) x n
  run_place_node_fine s f place ty node h l w g x n = elim l [ ]

  -- the arguments that are left, and then the call
  pub run_arguments_fine : (s : Site) → Stands s → (place : ℕ) (callee : Callee) (all : tree.Exprs) (ty : tree.Ty) (args : tree.Exprs) (before : List Value) (k : Answer → Wait) → IsCalled (context_at s) callee all ty → StandBefore before args all
      → ((answer : Answer) → Awaits (inside_at s) ty (k answer)) → IsFine s (λ answer. run_arguments (here_at s answer) place callee args before (k answer))
  run_arguments_fine s f place callee all ty tree.no_exprs before k c l waits x n = calls_fine s place callee all ty before k f c l waits x n
  run_arguments_fine s f place callee all ty (tree.more_exprs e rest) before k c l waits x n =
      let scalar = first_scalar before e rest all l (called_scalar s.typed s.func callee all ty f.well c) in
      run_fine s f e (first_typed (context_at s) before e rest all l (called_typed (context_at s) callee all ty c)) scalar
      (λ answer. argument_way place callee before rest (run_arguments (here_at s answer) place callee rest) (k answer))
      (argument_takes s place callee before e rest all ty (λ answer. run_arguments (here_at s answer) place callee rest) k c l scalar waits (λ vs m. run_arguments_fine s f place callee all ty rest vs k c m waits)) x n
