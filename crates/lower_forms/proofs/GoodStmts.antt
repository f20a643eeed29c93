-- The code of statements is valid and bare.
use Rattle.std.proofs.Common.{◌≡◌, ℕ, suc, ◌+◌, ◌*◌, ◌<◌, ◌≤◌, ◌==◌, ℤ, Bool, true, false, if◌then◌else◌, List, [], ◌∷◌, Option, Some, None, refl, ap, subst, ◌&&◌, arith}
use Rattle.std.proofs.lemmas.Bool.{and_from}
use Rattle.std.proofs.lemmas.Option.{same_Some}
use Rattle.std.specs.List.{AllByRecursion}
use Rattle.std.specs.Prelude.{nat_lt}
use Rattle.ak_words.specs.declared.int_type.IntType.{IntType}
use Rattle.ak_words.specs.declared.operation.Op.{Op}
use Rattle.c_tree.specs.Typed as tree
use Rattle.c_tree.specs.TypedForm.{InScope, IsScalar, CanUpdate, Inside, IsPromoted, IsStep, IfTyped, IsTyped, IsTypedNode, Jumps, in_function, in_loop, in_switch, stmts_count, IsSwitched, IsLabel, IsWell, IsWellNode, AreWell}
use Rattle.c_meaning.specs.Values.{is_scalar, is_atomic, operand_types, is_minus}
use Rattle.c_meaning.specs.Switches.{default_from, stands_at}
use Rattle.c_meaning.specs.Turns.{is_struct}
use Rattle.struct_ir.specs.Nodes.{Place, Nodes, no_nodes, more_nodes, plain, begin_object}
use Rattle.struct_ir.specs.Valid.{Scope, Around, body_of, latch_of, is_promoted, is_place}
use Rattle.struct_ir.specs.Lists.{bare_place}
use Rattle.lower_forms.specs.Counts.{count, count_parts, count_if, greatest, greatest_in, greatest_row, switches, switches_by, switches_in}
use Rattle.lower_forms.specs.Forms.{opened, among, fresh, again, held, held_by, held_in, over_break, over_next, breaks_in, nexts_in, loop_nodes, Frame, looped, switched, home, first_temp, behind, reach, is_void, number_type, change_nodes, value_nodes, object_place, dropped_nodes, dropped_value, begins, with_home, home_in, declared_home, objects_by, objects_in, initialises, store_nodes, copy_nodes, own_register, assign_nodes, number_update, computes, update_at, update_nodes, equal_nodes, choose_nodes, begin_if, label_nodes, stmt_place, guarded, break_nodes, test_nodes, stmt_nodes, form_nodes, row_nodes, switch_nodes}
use Rattle.lower_forms.proofs.Operands.{operand_promoted, moves_fits}
use Rattle.lower_forms.proofs.Pieces.{Good, below, good_none, good_set, good_becomes, good_branches, good_loop, good_break, good_next, good_ret, good_int, good_long, place_in, place_bare, temp_in, load_step, store_step, copy_step, AreObjects, objects_both, good_ends, promoted_is}
use Rattle.lower_forms.proofs.GoodExprs.{Suits, at_least_one, temps_below, good_change, good_call, called, BelowIf, register_below, local_below, reach_fits, good_expr, good_value, good_place, good_object_place, good_args}

-- an atomic number that is updated has 32 or 64 bits
atomic_promoted : (structs : List tree.Layout) (op : Op) (u v : tree.Ty) → CanUpdate structs op u v → is_atomic u ≡ true → is_promoted (number_type u) ≡ true
atomic_promoted structs op (tree.integer u) (tree.integer v) h e = absurd cc
atomic_promoted structs op (tree.atomic u) (tree.integer v) h e = promoted_is u h.2
atomic_promoted structs op (tree.pointer u) (tree.integer v) h e = absurd cc
atomic_promoted structs op u v h e = elim h [ ]

-- a break and a continue may stand there, where the tree has them: under a flag a break leaves no loop
pub record Jumping (j : Jumps) (flag : Option ℕ) (a : Around) : Type 0 where
  pub breaks : j.breaks ≡ true → flag ≡ None → a.in_loop ≡ true
  pub continues : j.continues ≡ true → a.in_body ≡ true

pub in_no_loop : (flag : Option ℕ) (a : Around) → Jumping in_function flag a
in_no_loop flag a = record { breaks = λ e. absurd cc; continues = λ e. absurd cc }

in_a_loop : Jumping in_loop None body_of
in_a_loop = record { breaks = λ e f. refl; continues = λ e. refl }

in_a_switch : (j : Jumps) (flag : Option ℕ) (g : ℕ) (a : Around) → Jumping j flag a → Jumping (in_switch j) (Some g) a
in_a_switch j flag g a h = record { breaks = λ e f. absurd cc; continues = h.continues }

module _ (x : Scope) (c : InScope) (f : Frame) (s : Suits x c f) where
  either_good : (a : Around) (b : Bool) (m n : Nodes) → Good x a m → Good x a n → Good x a (if b then m else n)
  either_good a true m n h k = h
  either_good a false m n h k = k

  -- ---- values that are dropped

  good_dropped_object : (place : ℕ) (ty : tree.Ty) (node : tree.ExprNode) → IsTypedNode c ty node → (t : ℕ) → t + suc (count_parts node) ≤ x.temps → (a : Around) (rest : Nodes) (b : Bool)
      → Good x a rest → Good x a (if b then value_nodes f place ty node t rest else object_place f place node t rest)
  good_dropped_object place ty node h t k a rest b g =
      either_good a b _ _ (good_value x c f s place ty node h t k a rest g) (good_object_place x c f s place ty node h t k a rest g)

  mutual
    good_dropped : (e : tree.Expr) → IsTyped c e → (t : ℕ) → t + count e ≤ x.temps → (a : Around) (rest : Nodes) → Good x a rest → Good x a (dropped_nodes f e t rest)
    good_dropped (tree.at place ty node) h t k a rest g = good_dropped_value place ty node h t k a rest g

    good_dropped_value : (place : ℕ) (ty : tree.Ty) (node : tree.ExprNode) → IsTypedNode c ty node → (t : ℕ) → t + suc (count_parts node) ≤ x.temps → (a : Around) (rest : Nodes)
        → Good x a rest → Good x a (dropped_value f place ty node t rest)
    good_dropped_value place ty (tree.num u z) h t k a rest g = good_value x c f s place ty (tree.num u z) h t k a rest g
    good_dropped_value place ty tree.null h t k a rest g = good_value x c f s place ty tree.null h t k a rest g
    good_dropped_value place ty (tree.literal n) h t k a rest g = good_dropped_object place ty (tree.literal n) h t k a rest (is_scalar ty) g
    good_dropped_value place ty (tree.global n) h t k a rest g = good_dropped_object place ty (tree.global n) h t k a rest (is_scalar ty) g
    good_dropped_value place ty (tree.local n) h t k a rest g = good_dropped_object place ty (tree.local n) h t k a rest (is_scalar ty) g
    good_dropped_value place ty (tree.deref e) h t k a rest g = good_dropped_object place ty (tree.deref e) h t k a rest (is_scalar ty) g
    good_dropped_value place ty (tree.member e m) h t k a rest g = good_dropped_object place ty (tree.member e m) h t k a rest (is_scalar ty) g
    good_dropped_value place ty (tree.address_of e) h t k a rest g = good_value x c f s place ty (tree.address_of e) h t k a rest g
    good_dropped_value place ty (tree.decay e) h t k a rest g = good_value x c f s place ty (tree.decay e) h t k a rest g
    good_dropped_value place ty (tree.convert e) h t k a rest g = either_good a (is_void ty) _ _ (good_dropped e h.0 t (omega (arith, k)) a rest g) (good_value x c f s place ty (tree.convert e) h t k a rest g)
    good_dropped_value place ty (tree.not_ e) h t k a rest g = good_value x c f s place ty (tree.not_ e) h t k a rest g
    good_dropped_value place ty (tree.binary op d e) h t k a rest g = good_value x c f s place ty (tree.binary op d e) h t k a rest g
    good_dropped_value place ty (tree.and_also d e) h t k a rest g = good_value x c f s place ty (tree.and_also d e) h t k a rest g
    good_dropped_value place ty (tree.or_else d e) h t k a rest g = good_value x c f s place ty (tree.or_else d e) h t k a rest g
    good_dropped_value place ty (tree.choose b d e) h t k a rest g = good_value x c f s place ty (tree.choose b d e) h t k a rest g
    good_dropped_value place ty (tree.pointer_add d e) h t k a rest g = good_value x c f s place ty (tree.pointer_add d e) h t k a rest g
    good_dropped_value place ty (tree.pointer_sub d e) h t k a rest g = good_value x c f s place ty (tree.pointer_sub d e) h t k a rest g
    good_dropped_value place ty (tree.pointer_diff d e) h t k a rest g = good_value x c f s place ty (tree.pointer_diff d e) h t k a rest g
    good_dropped_value place ty (tree.pointer_compare op d e) h t k a rest g = good_value x c f s place ty (tree.pointer_compare op d e) h t k a rest g
    good_dropped_value place ty (tree.pointer_test p) h t k a rest g = good_value x c f s place ty (tree.pointer_test p) h t k a rest g
    good_dropped_value place ty (tree.call function es) h t k a rest g =
        good_args x c f s es h.0 t (omega (arith, k)) a _ (good_call x a place None function _ rest refl (temps_below x es t (omega (arith, k))) (called x c f s function h.1.0 es t h.1.1 h.1.2.0) g)
    good_dropped_value place ty (tree.lib which es) h t k a rest g = good_value x c f s place ty (tree.lib which es) h t k a rest g

  -- ---- stack objects

  home_fits : (node : tree.StmtNode) (k : ℕ) → home_in f node ≡ Some k → nat_lt k x.objects ≡ true
  home_fits (tree.block body) k q = absurd cc
  home_fits (tree.declare n init) k q = s.object n k q
  home_fits (tree.if_ e one) k q = absurd cc
  home_fits (tree.if_else e one other) k q = absurd cc
  home_fits (tree.while_ e body) k q = absurd cc
  home_fits (tree.for_ first e last body) k q = absurd cc
  home_fits (tree.do_while body e) k q = absurd cc
  home_fits (tree.switch e labels body) k q = absurd cc
  home_fits tree.break_ k q = absurd cc
  home_fits tree.continue_ k q = absurd cc
  home_fits (tree.return_ value) k q = absurd cc
  home_fits (tree.assign d e) k q = absurd cc
  home_fits (tree.update d op e) k q = absurd cc
  home_fits (tree.evaluate e) k q = absurd cc
  home_fits tree.empty k q = absurd cc

  declared_fits : (st : tree.Stmt) (k : ℕ) → declared_home f st ≡ Some k → nat_lt k x.objects ≡ true
  declared_fits (tree.at_stmt place node) k e = home_fits node k e

  with_home_fits : (o : Option ℕ) (ks : List ℕ) → ((k : ℕ) → o ≡ Some k → nat_lt k x.objects ≡ true) → AreObjects x ks → AreObjects x (with_home o ks)
  with_home_fits None ks h g = g
  with_home_fits (Some k) ks h g = (h k refl, g)

  by_fits : (st : tree.Stmt) (ks : List ℕ) → AreObjects x ks → AreObjects x (objects_by f st ks)
  by_fits st ks g = with_home_fits (declared_home f st) ks (declared_fits st) g

  objects_fit : (body : tree.Stmts) → AreObjects x (objects_in f body)
  objects_fit tree.no_stmts = tt
  objects_fit (tree.more_stmts st rest) = by_fits st _ (objects_fit rest)

  good_begins : (a : Around) (place n : ℕ) (o : Option ℕ) (rest : Nodes) → ((k : ℕ) → o ≡ Some k → nat_lt k x.objects ≡ true) → n < x.temps → Good x a rest → Good x a (begins place n o rest)
  good_begins a place n None rest h i g = good_set x a place n _ rest i refl g
  good_begins a place n (Some k) rest h i g = record { valid = and_from _ _ (h k refl) g.valid; bare = ap (more_nodes (plain place (begin_object k))) g.bare }

  good_initialises : (a : Around) (place : ℕ) (o : Option ℕ) (n t : ℕ) (ty : tree.Ty) (rest : Nodes) → ((k : ℕ) → o ≡ Some k → nat_lt k x.objects ≡ true) → n < x.temps → t < x.temps
      → Good x a rest → Good x a (initialises place o n t ty rest)
  good_initialises a place None n t ty rest h i j g = good_set x a place n _ rest i (below x t j) g
  good_initialises a place (Some k) n t ty rest h i j g = good_set x a place n _ _ i (h k refl) (store_step x a place ty _ t rest (temp_in x n i) refl j g)

  -- ---- assignments

  own_fits : (ty : tree.Ty) (node : tree.ExprNode) → IsTypedNode c ty node → BelowIf x c f s (own_register f node)
  own_fits ty (tree.num u z) h = tt
  own_fits ty tree.null h = tt
  own_fits ty (tree.literal n) h = tt
  own_fits ty (tree.global n) h = tt
  own_fits ty (tree.local n) h = register_below x c f s n (home f n) (local_below x c f s n ty h)
  own_fits ty (tree.deref e) h = tt
  own_fits ty (tree.member e m) h = tt
  own_fits ty (tree.address_of e) h = tt
  own_fits ty (tree.decay e) h = tt
  own_fits ty (tree.convert e) h = tt
  own_fits ty (tree.not_ e) h = tt
  own_fits ty (tree.binary op d e) h = tt
  own_fits ty (tree.and_also d e) h = tt
  own_fits ty (tree.or_else d e) h = tt
  own_fits ty (tree.choose b d e) h = tt
  own_fits ty (tree.pointer_add d e) h = tt
  own_fits ty (tree.pointer_sub d e) h = tt
  own_fits ty (tree.pointer_diff d e) h = tt
  own_fits ty (tree.pointer_compare op d e) h = tt
  own_fits ty (tree.pointer_test p) h = tt
  own_fits ty (tree.call function es) h = tt
  own_fits ty (tree.lib which es) h = tt

  good_store : (left right : tree.Expr) → IsTyped c left → IsTyped c right → (t : ℕ) → t + suc (count left + count right) ≤ x.temps → (a : Around) (rest : Nodes)
      → Good x a rest → Good x a (store_nodes f left right t rest)
  good_store left right h i t k a rest g =
      let r = reach_fits x c f s left h t (omega (arith, k)) in
      good_place x c f s left h t (omega (arith, k)) a _ (good_expr x c f s right i _ (omega (arith, k, r.next)) a _
      (store_step x a _ _ _ _ rest (place_in x _ t r.inside) (place_bare x _ t) (omega (arith, k, r.next, at_least_one right)) g))

  good_copy : (left right : tree.Expr) → IsTyped c left → IsTyped c right → (t : ℕ) → t + suc (count left + count right) ≤ x.temps → (a : Around) (rest : Nodes)
      → Good x a rest → Good x a (copy_nodes f left right t rest)
  good_copy left right h i t k a rest g =
      let r = reach_fits x c f s left h t (omega (arith, k)) in
      let q = reach_fits x c f s right i (behind (reach f left) t) (omega (arith, k, r.next)) in
      good_place x c f s left h t (omega (arith, k)) a _ (good_place x c f s right i _ (omega (arith, k, r.next)) a _
      (good_long x a _ _ _ _ (omega (arith, k, r.next, q.next))
      (copy_step x a _ _ true _ _ _ rest (place_in x _ t r.inside) (place_bare x _ t) (place_in x _ _ q.inside) (place_bare x _ _) (omega (arith, k, r.next, q.next)) g)))

  good_assign : (place : ℕ) (o : Option ℕ) (left right : tree.Expr) → BelowIf x c f s o → IsTyped c left → IsTyped c right → (t : ℕ) → t + suc (count left + count right) ≤ x.temps → (a : Around) (rest : Nodes)
      → Good x a rest → Good x a (assign_nodes f place o left right t rest)
  good_assign place None left right w h i t k a rest g =
      either_good a (is_struct (tree.type_of left)) _ _ (good_copy left right h i t k a rest g) (good_store left right h i t k a rest g)
  good_assign place (Some n) left right w h i t k a rest g =
      good_expr x c f s right i t (omega (arith, k)) a _ (good_set x a place n _ rest w (below x t (omega (arith, k))) g)

  both_below : (m n : ℕ) → m < x.temps → n < x.temps → (nat_lt m x.temps && nat_lt n x.temps) ≡ true
  both_below m n h k = and_from _ _ (below x m h) (below x n k)

  good_number_update : (a : Around) (place : ℕ) (op : Op) (u v : IntType) (m n to : ℕ) (rest : Nodes) → m < x.temps → n < x.temps → to < x.temps
      → Good x a rest → Good x a (number_update place op u v (operand_types op u v) m n to rest)
  good_number_update a place op u v m n to rest h i j g =
      let types = operand_types op u v in
      good_becomes x a place u types.0 m _ h (good_becomes x a place v types.1 n _ i
      (good_set x a place to _ _ j (and_from _ _ (operand_promoted op u v) (both_below m n h i)) (good_becomes x a place types.0 u to rest j g)))

  good_moves : (a : Around) (place : ℕ) (op : Op) (m n to scale : ℕ) (rest : Nodes) → m < x.temps → n < x.temps → to < x.temps
      → Good x a rest → Good x a (Rattle.lower_forms.specs.Forms.sets place to (Rattle.lower_forms.specs.Forms.moves op m n scale) rest)
  good_moves a place op m n to scale rest h i j g = good_set x a place to _ rest j (moves_fits x op m n scale (both_below m n h i)) g

  good_computes : (a : Around) (place : ℕ) (op : Op) (u v : tree.Ty) (m n to : ℕ) (rest : Nodes) → m < x.temps → n < x.temps → to < x.temps
      → Good x a rest → Good x a (computes f.structs place op u v m n to rest)
  good_computes a place op (tree.integer u) v m n to rest h i j g = good_number_update a place op u (number_type v) m n to rest h i j g
  good_computes a place op tree.void v m n to rest h i j g = good_moves a place op m n to _ rest h i j g
  good_computes a place op (tree.atomic u) v m n to rest h i j g = good_moves a place op m n to _ rest h i j g
  good_computes a place op tree.mutex v m n to rest h i j g = good_moves a place op m n to _ rest h i j g
  good_computes a place op (tree.pointer u) v m n to rest h i j g = good_moves a place op m n to _ rest h i j g
  good_computes a place op (tree.array u l) v m n to rest h i j g = good_moves a place op m n to _ rest h i j g
  good_computes a place op (tree.structure l) v m n to rest h i j g = good_moves a place op m n to _ rest h i j g

  -- an object that is updated, whose place was found
  good_by : (place : ℕ) (op : Op) (p : Place) (left right : tree.Expr) (b : Bool) → is_atomic (tree.type_of left) ≡ b → CanUpdate c.structs op (tree.type_of left) (tree.type_of right)
      → (u : ℕ) → suc u < x.temps → is_place x p ≡ true → bare_place p ≡ p → (a : Around) (rest : Nodes)
      → Good x a rest → Good x a (if b then change_nodes (tree.place_of left) (is_minus op) (number_type (tree.type_of left)) p u None rest else update_at f place u op p left right rest)
  good_by place op p left right true e h u k i j a rest g =
      good_change x a _ (is_minus op) _ p u None rest (atomic_promoted c.structs op (tree.type_of left) (tree.type_of right) h e) i j k refl g
  good_by place op p left right false e h u k i j a rest g =
      let v : u < x.temps = omega (arith, k) in
      load_step x a _ (tree.type_of left) p (suc u) _ i j k (good_computes a place op _ _ _ _ _ _ k v v (store_step x a _ (tree.type_of left) p u rest i j v g))

  good_update : (place : ℕ) (op : Op) (o : Option ℕ) (left right : tree.Expr) → BelowIf x c f s o → IsTyped c left → IsTyped c right → CanUpdate c.structs op (tree.type_of left) (tree.type_of right) → (t : ℕ) → t + suc (count left + count right) ≤ x.temps → (a : Around) (rest : Nodes)
      → Good x a rest → Good x a (update_nodes f place op o left right t rest)
  good_update place op None left right w h i can t k a rest g =
      let r = reach_fits x c f s left h t (omega (arith, k)) in
      let u : suc (behind (reach f left) t) < x.temps = omega (arith, k, r.next, at_least_one right) in
      good_place x c f s left h t (omega (arith, k)) a _ (good_expr x c f s right i _ (omega (arith, k, r.next)) a _
      (good_by place op _ left right (is_atomic (tree.type_of left)) refl can _ u (place_in x _ t r.inside) (place_bare x _ t) a rest g))
  good_update place op (Some n) left right w h i can t k a rest g =
      let u : suc t < x.temps = omega (arith, k, at_least_one left) in
      good_expr x c f s right i t (omega (arith, k)) a _ (good_set x a _ (suc t) _ _ u (below x n w)
      (good_computes a place op _ _ _ _ _ rest u (omega (arith, k)) w g))

  -- ---- conditions

  good_test : (e : Option tree.Expr) → IfTyped c IsScalar e → first_temp f + count_if e ≤ x.temps → (a : Around) → a.in_loop ≡ true → (rest : Nodes) → Good x a rest → Good x a (test_nodes f e rest)
  good_test None h k a l rest g = g
  good_test (Some e) h k a l rest g =
      good_expr x c f s e h.0 (first_temp f) k a _ (good_branches x a _ _ _ _ rest (omega (arith, k, at_least_one e)) (good_none x a)
      (good_break x a _ no_nodes l (good_none x a)) g)

  -- under a flag, or not
  good_guarded : (place : ℕ) (a : Around) (nodes : Nodes → Nodes) (rest : Nodes) → ((r : Nodes) → Good x a r → Good x a (nodes r)) → (flag : Option ℕ) → f.flag ≡ flag → Good x a rest → Good x a (guarded flag place nodes rest)
  good_guarded place a nodes rest h None e g = h rest g
  good_guarded place a nodes rest h (Some flag) e g = good_branches x a place flag _ _ rest (s.flag flag e) (h no_nodes (good_none x a)) (good_none x a) g

  good_break_by : (place : ℕ) (a : Around) (left : List ℕ) (rest : Nodes) → AreObjects x left → (flag : Option ℕ) → f.flag ≡ flag → (f.flag ≡ None → a.in_loop ≡ true) → Good x a rest → Good x a (break_nodes flag place left rest)
  good_break_by place a left rest o None e l g = good_ends x a place left _ o (good_break x a place rest (l e) g)
  good_break_by place a left rest o (Some flag) e l g = good_int x a place flag 0 rest (s.flag flag e) g

-- ---- the objects that end behind a loop, and before its step

module _ (x : Scope) where
  fresh_fit : (outer ks : List ℕ) → AreObjects x ks → AreObjects x (fresh outer ks)
  fresh_fit outer [] h = tt
  fresh_fit outer (k ∷ ks) h = by (among outer k) (fresh_fit outer ks h.1)
    where
      by : (b : Bool) → AreObjects x (fresh outer ks) → AreObjects x (if b then fresh outer ks else k ∷ fresh outer ks)
      by true g = g
      by false g = (h.0, g)

  again_fit : (outer ks : List ℕ) → AreObjects x ks → AreObjects x (again outer ks)
  again_fit outer [] h = tt
  again_fit outer (k ∷ ks) h = by (among outer k) (again_fit outer ks h.1)
    where
      by : (b : Bool) → AreObjects x (again outer ks) → AreObjects x (if b then k ∷ again outer ks else again outer ks)
      by true g = (h.0, g)
      by false g = g

  if_fit : (b : Bool) (ks : List ℕ) → AreObjects x ks → AreObjects x (if b then ks else [])
  if_fit true ks h = h
  if_fit false ks h = tt

  module _ (c : InScope) (f : Frame) (s : Suits x c f) where
    mutual
      held_fit : (st : tree.Stmt) → AreObjects x (held f st)
      held_fit (tree.at_stmt place node) = held_fit_by node

      held_fit_by : (node : tree.StmtNode) → AreObjects x (held_by f node)
      held_fit_by (tree.block body) = objects_both x (held_in f body) (objects_in f body) (held_fit_in body) (objects_fit x c f s body)
      held_fit_by (tree.if_ e one) = held_fit one
      held_fit_by (tree.if_else e one other) = objects_both x (held f one) (held f other) (held_fit one) (held_fit other)
      held_fit_by (tree.for_ first e last body) = by_fits x c f s first [] tt
      held_fit_by (tree.switch e labels body) = held_fit_in body
      held_fit_by node = tt

      held_fit_in : (body : tree.Stmts) → AreObjects x (held_in f body)
      held_fit_in tree.no_stmts = tt
      held_fit_in (tree.more_stmts st rest) = objects_both x (held f st) (held_in f rest) (held_fit st) (held_fit_in rest)

-- ---- the labels of a switch

module _ (x : Scope) (a : Around) (place r : ℕ) (low : suc (suc r) < x.temps) where
  both_there : (m n : ℕ) → m < x.temps → n < x.temps → (nat_lt m x.temps && nat_lt n x.temps) ≡ true
  both_there m n h k = and_from _ _ (below x m h) (below x n k)

  good_equal : (number : ℕ) (t : IntType) (z : ℤ) (rest : Nodes) → IsPromoted t → Good x a rest → Good x a (equal_nodes place r number t z rest)
  good_equal number t z rest h g =
      good_set x a place (suc r) _ _ (omega (arith, low)) refl (good_set x a place (suc r) _ _ (omega (arith, low)) (and_from _ _ (promoted_is t h) (both_there _ _ low (omega (arith, low))))
      (good_branches x a place (suc r) _ _ rest (omega (arith, low)) (good_int x a place r number no_nodes (omega (arith, low)) (good_none x a)) (good_none x a) g))

  promoted_label : (ty : tree.Ty) (t : IntType) → ty ≡ tree.integer t → IsSwitched ty → IsPromoted t
  promoted_label ty t e h = subst IsSwitched e h

  good_choose : (ty : tree.Ty) (count number : ℕ) (labels : List tree.Label) (rest : Nodes) → IsSwitched ty → AllByRecursion (IsLabel ty count) labels → Good x a rest → Good x a (choose_nodes place r number labels rest)
  good_choose ty count number [] rest h all g = g
  good_choose ty count number (tree.case_at t z at ∷ labels) rest h all g =
      good_choose ty count (suc number) labels _ h all.1 (good_equal number t z rest (promoted_label ty t all.0.0 h) g)
  good_choose ty count number (tree.default_at at ∷ labels) rest h all g = good_choose ty count (suc number) labels rest h all.1 g

  good_begin_if : (here : Bool) (number : ℕ) (rest : Nodes) → Good x a rest → Good x a (begin_if here place r number rest)
  good_begin_if true number rest g =
      good_int x a place (suc (suc r)) number _ low (good_set x a place (suc (suc r)) _ _ low (both_there _ _ (omega (arith, low)) low)
      (good_branches x a place (suc (suc r)) _ _ rest low (good_int x a place (suc r) 1 no_nodes (omega (arith, low)) (good_none x a)) (good_none x a) g))
  good_begin_if false number rest g = g

  good_labels : (i number : ℕ) (labels : List tree.Label) (rest : Nodes) → Good x a rest → Good x a (label_nodes place r i number labels rest)
  good_labels i number [] rest g = g
  good_labels i number (label ∷ labels) rest g = good_begin_if (stands_at label == i) number _ (good_labels i (suc number) labels rest g)

-- ---- statements

module _ (x : Scope) (c : InScope) (params : ℕ) (result : tree.Ty) where
  abbrev inside : Inside
  inside = record { context = c; params = params; result = result }

  suits_loop : (f : Frame) → Suits x c f → Suits x c (looped f)
  suits_loop f s = record { first = s.first; flag = λ g e. absurd cc; local = s.local; object = s.object; global = s.global; literal = s.literal; params = s.params }

  suits_block : (f : Frame) (objects : List ℕ) → Suits x c f → Suits x c (opened f objects)
  suits_block f objects s = record { first = s.first; flag = s.flag; local = s.local; object = s.object; global = s.global; literal = s.literal; params = s.params }

  suits_switch : (f : Frame) → Suits x c f → suc (suc (first_temp f)) ≤ x.temps → Suits x c (switched f)
  suits_switch f s h = record { first = h; flag = λ g e. omega (arith, h, same_Some _ _ e); local = s.local; object = s.object; global = s.global; literal = s.literal; params = s.params }

  well_step : (st : tree.Stmt) (b : Jumps) → IsStep st → IsWell inside b st → IsWell inside in_function st
  well_step (tree.at_stmt place (tree.block body)) b h k = elim h [ ]
  well_step (tree.at_stmt place (tree.declare n init)) b h k = elim h [ ]
  well_step (tree.at_stmt place (tree.if_ e one)) b h k = elim h [ ]
  well_step (tree.at_stmt place (tree.if_else e one other)) b h k = elim h [ ]
  well_step (tree.at_stmt place (tree.while_ e body)) b h k = elim h [ ]
  well_step (tree.at_stmt place (tree.for_ first e last body)) b h k = elim h [ ]
  well_step (tree.at_stmt place (tree.do_while body e)) b h k = elim h [ ]
  well_step (tree.at_stmt place (tree.switch e labels body)) b h k = elim h [ ]
  well_step (tree.at_stmt place tree.break_) b h k = elim h [ ]
  well_step (tree.at_stmt place tree.continue_) b h k = elim h [ ]
  well_step (tree.at_stmt place (tree.return_ value)) b h k = elim h [ ]
  well_step (tree.at_stmt place (tree.assign d e)) b h k = k
  well_step (tree.at_stmt place (tree.update d op e)) b h k = k
  well_step (tree.at_stmt place (tree.evaluate e)) b h k = k
  well_step (tree.at_stmt place tree.empty) b h k = k

  -- a loop with its Ends
  good_rounds : (f : Frame) → Suits x c f → (place : ℕ) (body : tree.Stmt) (a : Around) (round latch rest : Nodes) → Good x body_of round → Good x latch_of latch → Good x a rest → Good x a (loop_nodes f place body round latch rest)
  good_rounds f s place body a round latch rest h k g =
      good_loop x a place round _ _ h (good_ends x latch_of place (over_next f body) latch (if_fit x (nexts_in body) _ (fresh_fit x f.outer (held f body) (held_fit x c f s body))) k)
      (good_ends x a place (over_break f body) rest (if_fit x (breaks_in body) _ (fresh_fit x f.outer (held f body) (held_fit x c f s body))) g)

  mutual
    pub good_stmt : (f : Frame) → Suits x c f → (st : tree.Stmt) (b : Jumps) → IsWell inside b st → first_temp f + (greatest st + 2 * switches st) ≤ x.temps → (a : Around) → Jumping b f.flag a → (left : List ℕ) → AreObjects x left → (rest : Nodes)
        → Good x a rest → Good x a (stmt_nodes f st left rest)
    good_stmt f s (tree.at_stmt place node) b h k a l left o rest g = good_form f s place node b h k a l left o rest g

    good_form : (f : Frame) → Suits x c f → (place : ℕ) (node : tree.StmtNode) (b : Jumps) → IsWellNode inside b node → first_temp f + (greatest_in node + 2 * switches_by node) ≤ x.temps → (a : Around) → Jumping b f.flag a → (left : List ℕ)
        → AreObjects x left → (rest : Nodes) → Good x a rest → Good x a (form_nodes f place node left rest)
    good_form f s place (tree.block body) b h k a l left o rest g =
        good_row (opened f (objects_in f body)) (suits_block f (objects_in f body) s) body b h k a l _ (objects_both x (again f.outer (objects_in f body)) left (again_fit x f.outer (objects_in f body) (objects_fit x c f s body)) o) _ (good_ends x a place (objects_in f body) rest (objects_fit x c f s body) g)
    good_form f s place (tree.declare n None) b h k a l left o rest g = good_begins x c f s a place n (home f n) rest (s.object n) (s.local n h.1.0 h.1.1) g
    good_form f s place (tree.declare n (Some e)) b h k a l left o rest g =
        good_begins x c f s a place n (home f n) _ (s.object n) (s.local n h.1.0 h.1.1) (good_expr x c f s e h.1.2.0 (first_temp f) (omega (arith, k)) a _
        (good_initialises x c f s a place (home f n) n _ _ rest (s.object n) (s.local n h.1.0 h.1.1) (omega (arith, k, at_least_one e)) g))
    good_form f s place (tree.if_ e one) b h k a l left o rest g =
        good_expr x c f s e h.0 (first_temp f) (omega (arith, k)) a _ (good_branches x a _ _ _ _ rest (omega (arith, k, at_least_one e))
        (good_stmt f s one b h.2 (omega (arith, k)) a l left o no_nodes (good_none x a)) (good_none x a) g)
    good_form f s place (tree.if_else e one other) b h k a l left o rest g =
        good_expr x c f s e h.0 (first_temp f) (omega (arith, k)) a _ (good_branches x a _ _ _ _ rest (omega (arith, k, at_least_one e))
        (good_stmt f s one b h.2 (omega (arith, k)) a l left o no_nodes (good_none x a)) (good_stmt f s other b h.4 (omega (arith, k)) a l left o no_nodes (good_none x a)) g)
    good_form f s place (tree.while_ e body) b h k a l left o rest g =
        good_rounds (looped f) (suits_loop f s) place body a _ no_nodes rest (good_test x c (looped f) (suits_loop f s) (Some e) (h.0, h.1) (omega (arith, k)) body_of refl _
        (good_stmt (looped f) (suits_loop f s) body in_loop h.2 (omega (arith, k)) body_of in_a_loop [] tt no_nodes (good_none x body_of))) (good_none x latch_of) g
    good_form f s place (tree.for_ first e last body) b h k a l left o rest g =
        let inner : Frame = opened f (objects_by f first []) in
        let si = suits_block f (objects_by f first []) s in
        good_stmt inner si first b h.0 (omega (arith, k)) a l left o _ (good_rounds (looped inner) (suits_loop inner si) place body a _ _ _
        (good_test x c (looped inner) (suits_loop inner si) e h.2 (omega (arith, k)) body_of refl _
        (good_stmt (looped inner) (suits_loop inner si) body in_loop h.5 (omega (arith, k)) body_of in_a_loop [] tt no_nodes (good_none x body_of)))
        (good_stmt (looped inner) (suits_loop inner si) last in_function (well_step last b h.4 h.3) (omega (arith, k)) latch_of (in_no_loop None latch_of) [] tt no_nodes (good_none x latch_of))
        (good_ends x a place _ rest (by_fits x c f s first [] tt) g))
    good_form f s place (tree.do_while body e) b h k a l left o rest g =
        good_rounds (looped f) (suits_loop f s) place body a _ _ rest (good_stmt (looped f) (suits_loop f s) body in_loop h.0 (omega (arith, k)) body_of in_a_loop [] tt no_nodes (good_none x body_of))
        (good_test x c (looped f) (suits_loop f s) (Some e) (h.2, h.3) (omega (arith, k)) latch_of refl no_nodes (good_none x latch_of)) g
    good_form f s place (tree.switch e labels body) b h k a l left o rest g =
        let low : suc (suc (first_temp f)) < x.temps = omega (arith, k, at_least_one e) in
        good_expr x c f s e h.0 (suc (suc (first_temp f))) (omega (arith, k)) a _ (good_int x a place (first_temp f) (default_from 0 labels) _ (omega (arith, low))
        (good_choose x a place (first_temp f) low (tree.type_of e) (stmts_count body) 0 labels _ h.1 h.2 (good_int x a place (suc (first_temp f)) 0 _ (omega (arith, low))
        (good_switch (switched f) (suits_switch f s (omega (arith, low))) place (first_temp f) low labels 0 body (in_switch b) h.5 (omega (arith, k)) a (in_a_switch b f.flag _ a l) left o rest g))))
    good_form f s place tree.break_ b h k a l left o rest g = good_break_by x c f s place a left rest o f.flag refl (l.breaks h) g
    good_form f s place tree.continue_ b h k a l left o rest g = good_ends x a place left _ o (good_next x a place rest (l.continues h) g)
    good_form f s place (tree.return_ None) b h k a l left o rest g = good_ret x a place None rest refl g
    good_form f s place (tree.return_ (Some e)) b h k a l left o rest g =
        good_expr x c f s e h.0 (first_temp f) (omega (arith, k)) a _ (good_ret x a place (Some (first_temp f)) rest (below x _ (omega (arith, k, at_least_one e))) g)
    good_form f s place (tree.assign (tree.at p ty node) e) b h k a l left o rest g =
        good_assign x c f s place (own_register f node) (tree.at p ty node) e (own_fits x c f s ty node h.0) h.0 h.1 (first_temp f) (omega (arith, k)) a rest g
    good_form f s place (tree.update (tree.at p ty node) op e) b h k a l left o rest g =
        good_update x c f s place op (own_register f node) (tree.at p ty node) e (own_fits x c f s ty node h.0) h.0 h.1 h.3 (first_temp f) (omega (arith, k)) a rest g
    good_form f s place (tree.evaluate e) b h k a l left o rest g = good_dropped x c f s e h (first_temp f) (omega (arith, k)) a rest g
    good_form f s place tree.empty b h k a l left o rest g = g

    pub good_row : (f : Frame) → Suits x c f → (body : tree.Stmts) (b : Jumps) → AreWell inside b body → first_temp f + (greatest_row body + 2 * switches_in body) ≤ x.temps → (a : Around) → Jumping b f.flag a → (left : List ℕ) → AreObjects x left
        → (rest : Nodes) → Good x a rest → Good x a (row_nodes f body left rest)
    good_row f s tree.no_stmts b h k a l left o rest g = g
    good_row f s (tree.more_stmts st body) b h k a l left o rest g =
        good_guarded x c f s (stmt_place st) a (stmt_nodes f st left) _ (λ r q. good_stmt f s st b h.0 (omega (arith, k)) a l left o r q) f.flag refl
        (good_row f s body b h.1 (omega (arith, k)) a l left o rest g)

    good_switch : (f : Frame) → Suits x c f → (place r : ℕ) → suc (suc r) < x.temps → (labels : List tree.Label) (i : ℕ) (body : tree.Stmts) (b : Jumps) → AreWell inside b body → first_temp f + (greatest_row body + 2 * switches_in body) ≤ x.temps
        → (a : Around) → Jumping b f.flag a → (left : List ℕ) → AreObjects x left → (rest : Nodes) → Good x a rest → Good x a (switch_nodes f place r labels i body left rest)
    good_switch f s place r low labels i tree.no_stmts b h k a l left o rest g = g
    good_switch f s place r low labels i (tree.more_stmts st body) b h k a l left o rest g =
        good_labels x a place r low i 0 labels _ (good_branches x a (stmt_place st) (suc r) _ _ _ (omega (arith, low))
        (good_stmt f s st b h.0 (omega (arith, k)) a l left o no_nodes (good_none x a)) (good_none x a)
        (good_switch f s place r low labels (suc i) body b h.1 (omega (arith, k)) a l left o rest g))
