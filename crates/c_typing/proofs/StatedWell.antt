-- Declarations and statements, judged where they stand, are well formed.
use Rattle.std.proofs.Common.{◌≡◌, ℕ, ◌<◌, ◌⊎◌, inl, inr, Bool, true, false, not, refl, sym, subst, arith, pos, List, [], ◌∷◌, ◌++◌, length, Option, Some, None, slice_get, nat_lt, if◌then◌else◌}
use Rattle.std.specs.List.{AllByRecursion}
use Rattle.std.proofs.lemmas.List.{length-append}
use Rattle.std.proofs.lemmas.Int.{ints}
use Rattle.ak_words.specs.declared.operation.Op.{Op}
use Rattle.ak_words.specs.declared.operation.Op.TheVariants as ops
use Rattle.ak_words.specs.IntType.{int}
use Rattle.c_lex.specs.declared.refusal.Refusal.{Refusal}
use Rattle.c_lex.specs.declared.refusal.Kind.TheVariants.{DoubleName, TypeMismatch, NotAnLvalue, BadSize, TooMany}
use Rattle.c_tree.specs.declared.syntax.Name.{Name}
use Rattle.c_tree.specs.declared.syntax.StepOp.{StepOp}
use Rattle.c_tree.specs.declared.syntax.StepOp.TheVariants as steps
use Rattle.c_tree.specs.declared.syntax.AssignOp.{AssignOp}
use Rattle.c_tree.specs.declared.syntax.AssignOp.TheVariants as assigns
use Rattle.c_tree.specs.Syntax as source
use Rattle.c_tree.specs.Typed.{Ty, void, integer, atomic, mutex, pointer, array, structure, Layout, Expr, at, ExprNode, num, literal, global, local, deref, member, type_of, node_of, place_of, Stmt, at_stmt, declare, assign, update, evaluate}
use Rattle.c_tree.specs.TypedLayout.{IsSized}
use Rattle.c_tree.specs.TypedForm.{Jumps, IsScalar, Fits, is_comparison, CanUpdate, IsLvalue, IsTyped, IfTyped, IsStep, IsFirst, Inside, IsWell}
use Rattle.c_tree.specs.TypedForm as form
use Rattle.c_typing.specs.Faults.{Judged, typed, faulty, refuse, unless, both, ◌>>=◌}
use Rattle.c_typing.specs.Types.{is_array, is_scalar, has_size, is_declared}
use Rattle.c_typing.specs.Scope.{local_name, Context, is_double, fresh, within}
use Rattle.c_typing.specs.Rules.{value_of, fitted, or_mismatch, is_lvalue}
use Rattle.c_typing.specs.Judgement.{lone, in_turn, valued, Declarator, object_declared, node_place, name_in, judged, judged_specs, judged_dims}
use Rattle.c_typing.specs.Statements.{assignable, assigned, moves, updates, operand_by, updated, step_op, stepped, assign_op, assigned_by, judged_simple, or_int, most_locals, with_local, initialised, judged_init, judged_declarator, name_of, judged_local, judged_locals, judged_declaration}
use Rattle.c_typing.proofs.Extending.{Extends, extends_itself, Ready, ready_kept, AreSmall, sized_of, has_size_kept, below}
use Rattle.c_typing.proofs.Elements.{get_before, get_last, get_either}
use Rattle.c_typing.proofs.Carried.{OnTyped, given, not_given, on_bind, on_unless, on_mismatch, on_weaker, World, since, good_since, after_from, IsObject, Good, Within, within_further, looser, Over, over_before, After, Keeps, keeps_lone, keeps_in_turn, keeps_ruled, keeps_weaker, keeps_looser}
use Rattle.c_typing.proofs.RuledWell.{Fine, value_fine, Has, converted_has, Fitting, fits}
use Rattle.c_typing.proofs.TypesWell.{ArePositive, object_well}
use Rattle.c_typing.proofs.Shown.{named_kept, named_too, name_good}
use Rattle.c_typing.proofs.Own.{own, over_own}
use Rattle.c_typing.proofs.JudgedWell.{FineFor, fine_of, valued_keeps, judged_keeps, dims_keeps, judged_specs_keeps}

-- the function around
abbrev pub inside_of : World → Ty → form.InScope → Inside
inside_of w r e = record { context = e; params = w.params; result = r }

-- ---- assignments

lvalue_is : (node : ExprNode) → is_lvalue node ≡ true → IsLvalue node
lvalue_is (literal n) h = tt
lvalue_is (global n) h = tt
lvalue_is (local n) h = tt
lvalue_is (deref x) h = tt
lvalue_is (member x m) h = tt
lvalue_is _ h = absurd cc

no_void : (a : Ty) → Fits a void → ⊥
no_void void h = h
no_void (integer t) h = h
no_void (atomic t) h = h
no_void mutex h = h
no_void (pointer t) h = h
no_void (array t n) h = h
no_void (structure n) h = h

declared_kept : (old new : List Layout) → Extends old new → (t : Ty) → is_declared old t ≡ true → is_declared new t ≡ true
declared_kept old new f (structure n) h = has_size_kept old new f (structure n) h
declared_kept old new f void h = refl
declared_kept old new f (integer t) h = refl
declared_kept old new f (atomic t) h = refl
declared_kept old new f mutex h = refl
declared_kept old new f (pointer t) h = refl
declared_kept old new f (array t n) h = refl

-- what is assigned has a size
copied_sized : (s : List Layout) → AreSmall s → (a b : Ty) → Ready s b → Fits a b → is_declared s b ≡ true → IsSized s b
copied_sized s f a void r fit d = absurd (no_void a fit)
copied_sized s f a (integer t) r fit d = tt
copied_sized s f a (atomic t) r fit d = tt
copied_sized s f a mutex r fit d = tt
copied_sized s f a (pointer t) r fit d = tt
copied_sized s f a (array t n) r fit d = r.0
copied_sized s f a (structure n) r fit d = sized_of s f (structure n) r d

-- an object that may be assigned, and a struct only once it is declared
abbrev Assignable : Context → Expr → Type 0
Assignable c x = IsLvalue (node_of x) × (is_declared c.structs (type_of x) ≡ true)

assignable_is : (c : Context) (place : ℕ) (x : Expr) → OnTyped (λ u. Assignable c x) (assignable c place x)
assignable_is c place x =
    on_bind (λ u. (if is_array (type_of x) then false else is_lvalue (node_of x)) ≡ true) (λ u. Assignable c x) (unless place NotAnLvalue (if is_array (type_of x) then false else is_lvalue (node_of x))) (λ u. unless (place_of x) NotAnLvalue (is_declared c.structs (type_of x)))
    (on_unless place NotAnLvalue (if is_array (type_of x) then false else is_lvalue (node_of x)))
    (λ u h. on_weaker (λ u. is_declared c.structs (type_of x) ≡ true) (λ u. Assignable c x) (unless (place_of x) NotAnLvalue (is_declared c.structs (type_of x))) (on_unless (place_of x) NotAnLvalue (is_declared c.structs (type_of x))) (λ u k. (by (is_array (type_of x)) h, k)))
  where
    by : (b : Bool) → (if b then false else is_lvalue (node_of x)) ≡ true → IsLvalue (node_of x)
    by true h = absurd cc
    by false h = lvalue_is (node_of x) h

-- a statement that may be a step
abbrev pub Stepping : World → Ty → Jumps → form.InScope → Stmt → Type 0
Stepping w r l e s = IsWell (inside_of w r e) l s × IsStep s

assigned_well : (w : World) (r : Ty) (l : Jumps) (d : Context) (e : form.InScope) → Over w d e → (place : ℕ) (a b : Expr) → Fine e a → Fine e b → OnTyped (Stepping w r l e) (assigned d place a b)
assigned_well w r l d e o place a b h k =
    on_bind (λ u. Assignable d a) (Stepping w r l e) (assignable d place a) (λ u. or_mismatch place (fitted (type_of a) (value_of b)) >>= λ x. typed (at_stmt place (assign a x))) (assignable_is d place a)
    (λ u v. on_bind (Fitting e (type_of a)) (Stepping w r l e) (or_mismatch place (fitted (type_of a) (value_of b))) (λ x. typed (at_stmt place (assign a x)))
    (on_mismatch (Fitting e (type_of a)) place (fitted (type_of a) (value_of b)) (fits e (type_of a) (value_of b) (value_fine e o.sound b k).0))
    (λ x f. ((h.0, f.0, v.0, f.1, copied_sized e.structs o.sound.small (type_of x) (type_of a) h.1 f.1 (declared_kept d.structs e.structs o.structs (type_of a) v.1)), tt)))

moves_is : (op : Op) → moves op ≡ true → (op ≡ ops.Add) ⊎ (op ≡ ops.Sub)
moves_is ops.Add h = inl refl
moves_is ops.Sub h = inr refl
moves_is _ h = absurd cc

-- the type of the operand, once it is converted
abbrev operand_type : (s t : Ty) → Ty
operand_type (atomic s) (integer t) = integer s
operand_type s t = t

operand_has : (e : form.InScope) (s t : Ty) (x : Expr) → Has e x t → Has e (operand_by s t x) (operand_type s t)
operand_has e (atomic s) (integer t) x h = converted_has e t s x h
operand_has e _ _ x h = h

updates_well : (w : World) (d : Context) (e : form.InScope) → Over w d e → (place : ℕ) (op : Op) (s t : Ty) → is_comparison op ≡ false → Ready e.structs s → OnTyped (λ u. CanUpdate e.structs op s (operand_type s t)) (updates d place op s t)
updates_well w d e v place op (integer s) (integer t) c r = c
updates_well w d e v place op (atomic s) (integer t) c r =
    on_weaker (λ u. moves op ≡ true) (λ u. CanUpdate e.structs op (atomic s) (integer s)) (unless place TypeMismatch (moves op)) (on_unless place TypeMismatch (moves op)) (λ u m. (moves_is op m, refl, r))
updates_well w d e v place op (pointer s) (integer t) c r =
    on_bind (λ u. moves op ≡ true) (λ u. CanUpdate e.structs op (pointer s) (integer t)) (unless place TypeMismatch (moves op)) (λ u. unless place BadSize (has_size d.structs s)) (on_unless place TypeMismatch (moves op))
    (λ u m. on_weaker (λ u. has_size d.structs s ≡ true) (λ u. CanUpdate e.structs op (pointer s) (integer t)) (unless place BadSize (has_size d.structs s)) (on_unless place BadSize (has_size d.structs s))
    (λ u h. (moves_is op m, sized_of e.structs v.sound.small s r (has_size_kept d.structs e.structs v.structs s h))))
updates_well w d e v place op _ _ c r = tt

updated_well : (w : World) (r : Ty) (l : Jumps) (d : Context) (e : form.InScope) → Over w d e → (place : ℕ) (op : Op) (a b : Expr) → is_comparison op ≡ false → Fine e a → Fine e b → OnTyped (Stepping w r l e) (updated d place op a b)
updated_well w r l d e v place op a b c h k =
    let o = operand_has e (type_of a) (type_of b) b (k.0, refl) in
    on_bind (λ u. Assignable d a) (Stepping w r l e) (assignable d place a) (λ u. updates d place op (type_of a) (type_of b) >>= λ x. typed (at_stmt place (update a op (operand_by (type_of a) (type_of b) b)))) (assignable_is d place a)
    (λ u i. on_bind (λ x. CanUpdate e.structs op (type_of a) (operand_type (type_of a) (type_of b))) (Stepping w r l e) (updates d place op (type_of a) (type_of b)) (λ x. typed (at_stmt place (update a op (operand_by (type_of a) (type_of b) b))))
    (updates_well w d e v place op (type_of a) (type_of b) c h.1) (λ x m. ((h.0, o.0, i.0, subst (CanUpdate e.structs op (type_of a)) (sym o.1) m), tt)))

step_is : (op : StepOp) → is_comparison (step_op op) ≡ false
step_is steps.Increment = refl
step_is steps.Decrement = refl

one_fine : (e : form.InScope) (place : ℕ) → Fine e (at place (integer int) (num int (pos 1)))
one_fine e place = ((refl, (omega (arith, ints), omega (arith, ints))), tt)

stepped_well : (w : World) (r : Ty) (l : Jumps) (d : Context) (e : form.InScope) → Over w d e → (place : ℕ) (op : StepOp) (a : Expr) → Fine e a → OnTyped (Stepping w r l e) (stepped d place op a)
stepped_well w r l d e v place op a h = updated_well w r l d e v place (step_op op) a (at place (integer int) (num int (pos 1))) (step_is op) h (one_fine e place)

assigned_by_well : (w : World) (r : Ty) (l : Jumps) (d : Context) (e : form.InScope) → Over w d e → (place : ℕ) (op : AssignOp) (a b : Expr) → Fine e a → Fine e b → OnTyped (Stepping w r l e) (assigned_by d place (assign_op op) a b)
assigned_by_well w r l d e v place assigns.Plain a b h k = assigned_well w r l d e v place a b h k
assigned_by_well w r l d e v place assigns.Add a b h k = updated_well w r l d e v place ops.Add a (value_of b) refl h (value_fine e v.sound b k)
assigned_by_well w r l d e v place assigns.Sub a b h k = updated_well w r l d e v place ops.Sub a (value_of b) refl h (value_fine e v.sound b k)
assigned_by_well w r l d e v place assigns.Mul a b h k = updated_well w r l d e v place ops.Mul a (value_of b) refl h (value_fine e v.sound b k)
assigned_by_well w r l d e v place assigns.Div a b h k = updated_well w r l d e v place ops.Div a (value_of b) refl h (value_fine e v.sound b k)
assigned_by_well w r l d e v place assigns.Rem a b h k = updated_well w r l d e v place ops.Rem a (value_of b) refl h (value_fine e v.sound b k)
assigned_by_well w r l d e v place assigns.And a b h k = updated_well w r l d e v place ops.And a (value_of b) refl h (value_fine e v.sound b k)
assigned_by_well w r l d e v place assigns.Or a b h k = updated_well w r l d e v place ops.Or a (value_of b) refl h (value_fine e v.sound b k)
assigned_by_well w r l d e v place assigns.Xor a b h k = updated_well w r l d e v place ops.Xor a (value_of b) refl h (value_fine e v.sound b k)
assigned_by_well w r l d e v place assigns.Shl a b h k = updated_well w r l d e v place ops.Shl a (value_of b) refl h (value_fine e v.sound b k)
assigned_by_well w r l d e v place assigns.Shr a b h k = updated_well w r l d e v place ops.Shr a (value_of b) refl h (value_fine e v.sound b k)

-- an expression, in a statement
fine_keeps : (w : World) (s : source.Expr) → Keeps w false (judged s) Fine
fine_keeps w s = keeps_looser w true (judged s) Fine (keeps_weaker w true (judged s) (FineFor (name_in s)) Fine (judged_keeps w s) (fine_of (name_in s)))

pub value_keeps : (w : World) (s : source.Expr) → Keeps w false (valued (judged s)) Fine
value_keeps w s = keeps_looser w true (valued (judged s)) Fine (valued_keeps w (name_in s) (judged s) (judged_keeps w s))

pub simple_keeps : (w : World) (r : Ty) (l : Jumps) (s : source.Simple) → Keeps w false (judged_simple s) (Stepping w r l)
simple_keeps w r l (source.before place op s) = keeps_ruled w false (judged s) (λ c x. stepped c place op x) Fine (Stepping w r l) (fine_keeps w s) (λ d e x g v h. stepped_well w r l d e v place op x h)
simple_keeps w r l (source.after place op s) = keeps_ruled w false (judged s) (λ c x. stepped c place op x) Fine (Stepping w r l) (fine_keeps w s) (λ d e x g v h. stepped_well w r l d e v place op x h)
simple_keeps w r l (source.assign place op a b) =
    keeps_ruled w false (in_turn (judged a) (judged b)) (λ c p. assigned_by c place (assign_op op) p.0 p.1) (λ e p. Fine e p.0 × Fine e p.1) (Stepping w r l)
    (keeps_in_turn w false (judged a) (judged b) Fine Fine (fine_keeps w a) (fine_keeps w b)) (λ d e p g v h. assigned_by_well w r l d e v place op p.0 p.1 h.0 h.1)
simple_keeps w r l (source.eval s) = keeps_ruled w false (valued (judged s)) (λ c x. typed (at_stmt (node_place s) (evaluate x))) Fine (Stepping w r l) (value_keeps w s) (λ d e x g v h. (h.0, tt))

-- ---- declarations

abbrev pub with_type : Context → Ty → Context
with_type c t = record c { locals = c.locals ++ t ∷ [] }

pub type_good : (w : World) (c : Context) → Good w c → (t : Ty) → IsObject c.structs t → length c.locals < 1024 → Good w (with_type c t)
type_good w c g t o few = record {
  results = g.results;
  since = g.since;
  numbered = g.numbered;
  names = λ q m h. named_kept w c (with_type c t) (extends_itself c.structs) (λ n u k. k) (λ n u k. get_before c.locals (t ∷ []) n u k) m (g.names q m h);
  layouts = g.layouts;
  apart = g.apart;
  members = g.members;
  unbegun = g.unbegun;
  tags = g.tags;
  begun = g.begun;
  literals = g.literals;
  globals = g.globals;
  locals = λ n u h. by n u (get_either c.locals t n u h);
  plain = g.plain;
  small = g.small;
  params = let k = length-append c.locals (t ∷ []) in let h = g.params in omega (arith, k, h);
  few = let k = length-append c.locals (t ∷ []) in omega (arith, k, few);
}
  where
    by : (n : ℕ) (u : Ty) → (slice_get c.locals n ≡ Some u) ⊎ (t ≡ u) → IsObject c.structs u
    by n u (inl h) = g.locals n u h
    by n u (inr e) = subst (IsObject c.structs) e o

pub local_good : (w : World) (c : Context) → Good w c → (n : Name) (t : Ty) → IsObject c.structs t → length c.locals < 1024 → Good w (with_local c n t)
local_good w c g n t o few = by (is_double c n)
  where
    by : (b : Bool) → Good w (record (if b then c else named_too c n (local_name (length c.locals) t)) { locals = c.locals ++ t ∷ [] })
    by true = type_good w c g t o few
    by false = name_good w (with_type c t) (type_good w c g t o few) n (local_name (length c.locals) t) (get_last c.locals t)

pub local_within : (c : Context) (n : Name) (t : Ty) → Within false c (with_local c n t)
local_within c n t = by (is_double c n)
  where
    by : (b : Bool) → Within false c (record (if b then c else named_too c n (local_name (length c.locals) t)) { locals = c.locals ++ t ∷ [] })
    by true = (
      record { text = refl; structs = extends_itself c.structs; begun = λ n h. h; begun_kept = λ n l b h. h; count = omega arith; literals = λ n bs h. h; globals = λ n t h. h },
      record { globals = refl; functions = refl; bodies = refl; locals = λ m u h. get_before c.locals (t ∷ []) m u h; addressed = λ n h. h },
      tt,
    )
    by false = (
      record { text = refl; structs = extends_itself c.structs; begun = λ n h. h; begun_kept = λ n l b h. h; count = omega arith; literals = λ n bs h. h; globals = λ n t h. h },
      record { globals = refl; functions = refl; bodies = refl; locals = λ m u h. get_before c.locals (t ∷ []) m u h; addressed = λ n h. h },
      tt,
    )

scalar_too : (s t : Ty) → Fits s t → is_scalar t ≡ true → IsScalar s
scalar_too (integer s) t h k = tt
scalar_too (pointer s) t h k = tt
scalar_too void t h k = absurd h
scalar_too (atomic s) t h k = absurd h
scalar_too mutex t h k = absurd h
scalar_too (array s n) t h k = absurd h
scalar_too (structure m) (structure n) h k = absurd cc
scalar_too (structure m) void h k = absurd h
scalar_too (structure m) (integer t) h k = absurd h
scalar_too (structure m) (atomic t) h k = absurd h
scalar_too (structure m) mutex h k = absurd h
scalar_too (structure m) (pointer t) h k = absurd h
scalar_too (structure m) (array t n) h k = absurd h

-- what starts a local of a type
abbrev Starts : Ty → form.InScope → Option Expr → Type 0
Starts t e o = IfTyped e (λ s. Fits s t × IsScalar s) o

initialised_well : (e : form.InScope) (place : ℕ) (t : Ty) (x : Expr) → IsTyped e x → OnTyped (λ y. IsTyped e y × (Fits (type_of y) t × IsScalar (type_of y))) (initialised place t x)
initialised_well e place t x h =
    on_bind (λ u. is_scalar t ≡ true) (λ y. IsTyped e y × (Fits (type_of y) t × IsScalar (type_of y))) (unless place TypeMismatch (is_scalar t)) (λ u. or_mismatch place (fitted t x)) (on_unless place TypeMismatch (is_scalar t))
    (λ u s. on_weaker (Fitting e t) (λ y. IsTyped e y × (Fits (type_of y) t × IsScalar (type_of y))) (or_mismatch place (fitted t x)) (on_mismatch (Fitting e t) place (fitted t x) (fits e t x h))
    (λ y f. (f.0, (f.1, scalar_too (type_of y) t f.1 s))))

init_keeps : (w : World) (place : ℕ) (t : Ty) (o : Option source.Expr) → Keeps w false (judged_init place (typed t) o) (Starts t)
init_keeps w place t None = keeps_lone w false (typed None) (Starts t) (λ e. tt)
init_keeps w place t (Some s) =
    keeps_ruled w false (in_turn (lone (typed t)) (valued (judged s))) (λ d p. initialised place p.0 p.1 >>= λ x. typed (Some x)) (λ e p. (t ≡ p.0) × Fine e p.1) (Starts t)
    (keeps_in_turn w false (lone (typed t)) (valued (judged s)) (λ e u. t ≡ u) Fine (keeps_lone w false (typed t) (λ e u. t ≡ u) (λ e. refl)) (value_keeps w s))
    (λ d e p g v h. on_bind (λ y. IsTyped e y × (Fits (type_of y) p.0 × IsScalar (type_of y))) (Starts t e) (initialised place p.0 p.1) (λ x. typed (Some x)) (initialised_well e place p.0 p.1 h.1.0)
    (λ x k. (k.0, (subst (Fits (type_of x)) (sym h.0) k.1.0, k.1.1))))

pub declarator_keeps : (w : World) (d : source.Declarator) → Keeps w true (judged_declarator d) (λ e x. ArePositive x.sizes)
declarator_keeps w (source.declarator pointers n dims) = keeps_ruled w true (judged_dims dims) (λ c sizes. typed (record { name = n; pointers = pointers; sizes = sizes })) (λ e ns. ArePositive ns) (λ e x. ArePositive x.sizes) (dims_keeps w dims) (λ d e ns g v h. h)

-- a statement that may stand first in a for
abbrev pub Starting : World → Ty → Jumps → form.InScope → Stmt → Type 0
Starting w r l e s = IsWell (inside_of w r e) l s × IsFirst s

pub none_of : {A B C D : Type 0} (P : D → Type 0) (f : Judged A) (r : Refusal) (rs : List Refusal) (k : Judged C) (make : (A × B) × C → Judged D) → OnTyped P (both (both {B = B} f (faulty r rs)) k >>= make)
none_of P (typed u) r rs (typed o) make = tt
none_of P (typed u) r rs (faulty s ss) make = tt
none_of P (faulty s ss) r rs (typed o) make = tt
none_of P (faulty s ss) r rs (faulty q qs) make = tt

pub unfit : {A B C D : Type 0} (P : D → Type 0) (r : Refusal) (rs : List Refusal) (t : B) (k : Judged C) (make : (A × B) × C → Judged D) → OnTyped P (both (both {A = A} (faulty r rs) (typed t)) k >>= make)
unfit P r rs t (typed o) make = tt
unfit P r rs t (faulty q qs) make = tt

pub all_three : {A B C D : Type 0} (P : D → Type 0) (Q : C → Type 0) (u : A) (t : B) (k : Judged C) (make : C → D) → OnTyped Q k → ((o : C) → Q o → P (make o)) → OnTyped P (both {A = A × B} (typed (u, t)) k >>= λ p. typed (make p.1))
all_three P Q u t (typed o) make h f = f o h
all_three P Q u t (faulty s ss) make h f = tt

fresh_local : (d : Context) (n : Name) → OnTyped (λ u. length d.locals < 1024) (both (fresh d n) (within n.from 5 most_locals (length d.locals)))
fresh_local d n = by (not (is_double d n)) (nat_lt (length d.locals) 1024) refl
  where
    by : (a b : Bool) → nat_lt (length d.locals) 1024 ≡ b → OnTyped (λ (u : Unit {0} × Unit {0}). length d.locals < 1024) (both (if a then typed (tt {0}) else refuse n.from DoubleName) (if b then typed (tt {0}) else refuse n.from (TooMany 5)))
    by true true h = below (length d.locals) 1024 h
    by true false h = tt
    by false true h = tt
    by false false h = tt

local_after : (w : World) (r : Ty) (l : Jumps) (c d : Context) → Good w d → Within false c d → (n : Name) (value : Option source.Expr) (f : Judged (Unit {0} × Unit {0})) (t : Judged Ty) → OnTyped (λ u. length d.locals < 1024) f → OnTyped (IsObject d.structs) t
    → OnTyped (λ s. After w false c (judged_init n.from t value (with_local d n (or_int t))).1 (λ e. Starting w r l e s))
    (both (both f t) (judged_init n.from t value (with_local d n (or_int t))).0 >>= λ p. typed (at_stmt n.from (declare (length d.locals) p.1)))
local_after w r l c d g x n value f (faulty q qs) hf ht = none_of _ f q qs (judged_init n.from (faulty q qs) value (with_local d n (integer int))).0 (λ p. typed (at_stmt n.from (declare (length d.locals) p.1)))
local_after w r l c d g x n value (faulty q qs) (typed t) hf ht = unfit _ q qs t (judged_init n.from (typed t) value (with_local d n t)).0 (λ p. typed (at_stmt n.from (declare (length d.locals) p.1)))
local_after w r l c d g x n value (typed u) (typed t) hf ht =
    all_three (λ s. After w false c (judged_init n.from (typed t) value (with_local d n t)).1 (λ e. Starting w r l e s)) (λ o. After w false (with_local d n t) (judged_init n.from (typed t) value (with_local d n t)).1 (λ e. Starts t e o)) u t
    (judged_init n.from (typed t) value (with_local d n t)).0 (λ o. at_stmt n.from (declare (length d.locals) o))
    ((init_keeps w n.from t value).keeps (with_local d n t) (local_good w d g n t ht hf))
    (λ o a. record {
      good = a.good;
      within = within_further false c (with_local d n t) (judged_init n.from (typed t) value (with_local d n t)).1 (within_further false c d (with_local d n t) x (local_within d n t)) a.within;
      fine = λ e v.
          let k = (over_before w false (with_local d n t) (judged_init n.from (typed t) value (with_local d n t)).1 e a.within v).locals (length d.locals) t (get_last d.locals t) in
          ((g.params, (k.0, k.1, subst (λ u. IfTyped e (λ s. Fits s u × IsScalar s) o) (sym k.2) (a.fine e v))), tt);
    })

local_keeps : (w : World) (r : Ty) (l : Jumps) (base : Judged Ty) → OnTyped (Ready w.structs) base → (x : source.InitDeclarator) → Keeps w false (judged_local base x) (Starting w r l)
local_keeps w r l base hb x = record { keeps = λ c g. by c base (on_weaker (Ready w.structs) (Ready c.structs) base hb (λ t r. ready_kept w.structs c.structs g.since t r)) (judged_declarator x.declarator c).1 (judged_declarator x.declarator c).0 ((declarator_keeps w x.declarator).keeps c g) }
  where
    by : (c : Context) (b : Judged Ty) → OnTyped (Ready c.structs) b → (d : Context) (j : Judged Declarator) → OnTyped (λ y. After w true c d (λ e. ArePositive y.sizes)) j
        → OnTyped (λ s. After w false c (judged_init (name_of x.declarator).from (both b j >>= λ p. object_declared d p.0 p.1) x.value (with_local d (name_of x.declarator) (or_int (both b j >>= λ p. object_declared d p.0 p.1)))).1 (λ e. Starting w r l e s))
        (both (both (both (fresh d (name_of x.declarator)) (within (name_of x.declarator).from 5 most_locals (length d.locals))) (both b j >>= λ p. object_declared d p.0 p.1)) (judged_init (name_of x.declarator).from (both b j >>= λ p. object_declared d p.0 p.1) x.value (with_local d (name_of x.declarator) (or_int (both b j >>= λ p. object_declared d p.0 p.1)))).0 >>= λ p. typed (at_stmt (name_of x.declarator).from (declare (length d.locals) p.1)))
    by c (typed b) h d (typed y) a =
        local_after w r l c d a.good (looser true c d a.within) (name_of x.declarator) x.value (both (fresh d (name_of x.declarator)) (within (name_of x.declarator).from 5 most_locals (length d.locals))) (object_declared d b y) (fresh_local d (name_of x.declarator))
        (object_well w d a.good b y (ready_kept c.structs d.structs a.within.0.structs b h) (a.fine (own w d) (over_own w d a.good)))
    by c (typed b) h d (faulty q qs) a = none_of _ (both (fresh d (name_of x.declarator)) (within (name_of x.declarator).from 5 most_locals (length d.locals))) q qs (judged_init (name_of x.declarator).from (faulty q qs) x.value (with_local d (name_of x.declarator) (integer int))).0 _
    by c (faulty q qs) h d (typed y) a = none_of _ (both (fresh d (name_of x.declarator)) (within (name_of x.declarator).from 5 most_locals (length d.locals))) q qs (judged_init (name_of x.declarator).from (faulty q qs) x.value (with_local d (name_of x.declarator) (integer int))).0 _
    by c (faulty q qs) h d (faulty s ss) a = none_of _ (both (fresh d (name_of x.declarator)) (within (name_of x.declarator).from 5 most_locals (length d.locals))) q (qs ++ s ∷ ss) (judged_init (name_of x.declarator).from (faulty q (qs ++ s ∷ ss)) x.value (with_local d (name_of x.declarator) (integer int))).0 _

abbrev pub AreStarting : World → Ty → Jumps → form.InScope → List Stmt → Type 0
AreStarting w r l e ss = AllByRecursion (λ s. Starting w r l e s) ss

locals_keeps : (w : World) (r : Ty) (l : Jumps) (base : Judged Ty) → OnTyped (Ready w.structs) base → (xs : List source.InitDeclarator) → Keeps w false (judged_locals base xs) (AreStarting w r l)
locals_keeps w r l base h [] = keeps_lone w false (typed []) (AreStarting w r l) (λ e. tt)
locals_keeps w r l base h (x ∷ xs) =
    keeps_ruled w false (in_turn (judged_local base x) (judged_locals base xs)) (λ d p. typed (p.0 ∷ p.1)) (λ e p. Starting w r l e p.0 × AreStarting w r l e p.1) (AreStarting w r l)
    (keeps_in_turn w false (judged_local base x) (judged_locals base xs) (Starting w r l) (AreStarting w r l) (local_keeps w r l base h x) (locals_keeps w r l base h xs)) (λ d e p g v k. k)

pub declaration_keeps : (w : World) (r : Ty) (l : Jumps) (d : source.Declaration) → Keeps w false (judged_declaration d) (AreStarting w r l)
declaration_keeps w r l d = record { keeps = λ c g. by c (judged_specs (source.specs_of d.specs) c).1 (judged_specs (source.specs_of d.specs) c).0 ((judged_specs_keeps w (source.specs_of d.specs)).keeps c g) }
  where
    by : (c b : Context) (j : Judged Ty) → OnTyped (λ t. After w true c b (λ e. Ready e.structs t)) j → OnTyped (λ ss. After w false c (judged_locals j d.declarators b).1 (λ e. AreStarting w r l e ss)) (both j (judged_locals j d.declarators b).0 >>= λ p. typed p.1)
    by c b (typed t) a =
        given (λ ss. After (since w b.structs) false b (judged_locals (typed t) d.declarators b).1 (λ e. AreStarting w r l e ss)) (λ ss. After w false c (judged_locals (typed t) d.declarators b).1 (λ e. AreStarting w r l e ss)) t (judged_locals (typed t) d.declarators b).0
        ((locals_keeps (since w b.structs) r l (typed t) (a.fine (own w b) (over_own w b a.good)) d.declarators).keeps b (good_since w w.structs b.structs b (extends_itself b.structs) a.good))
        (λ ss k. after_from w false c b (judged_locals (typed t) d.declarators b).1 (λ e. AreStarting w r l e ss) a.good (looser true c b a.within) k)
    by c b (faulty q qs) a = not_given _ q qs (judged_locals (faulty q qs) d.declarators b).0 (λ p. typed p.1)
