-- The rules on typed operands give well formed nodes.
use Rattle.std.proofs.Common.{◌≡◌, ℕ, ◌+◌, ◌<◌, Bool, true, false, ◌&&◌, ◌||◌, refl, sym, ap, ◌∙◌, subst, arith, pos, negsuc, neg_ℤ, ◌+ℤ◌, ◌≤ℤ◌, ◌<ℤ◌, ◌^◌, ◌-◌, pow_pos, List, [], ◌∷◌, Some, nat_lt, nat_eq, if◌then◌else◌}
use Rattle.std.specs.Bool.{beq}
use Rattle.std.proofs.lemmas.Bool.Decides.{nat_tests}
use Rattle.std.proofs.lemmas.Int.{ints}
use Rattle.ak_words.specs.declared.int_type.IntType.{IntType}
use Rattle.ak_words.specs.declared.operation.Op.{Op}
use Rattle.ak_words.specs.declared.operation.Op.TheVariants as ops
use Rattle.ak_words.specs.IntType.{int, long, promoted_type, common_type, wider, IsInRange}
use Rattle.ak_words.specs.Op.{result_type}
use Rattle.ak_words.specs.Wrapped.{wrapped_value}
use Rattle.ak_words.specs.inner.InRange.{wrapped_value-in_range}
use Rattle.ak_words.proofs.Types.{int_type_is, half_twice}
use Rattle.c_tree.specs.Typed.{Ty, void, integer, atomic, mutex, pointer, array, structure, Layout, Lib, print, malloc, calloc, realloc, free, copy, start, join, mutex_init, mutex_lock, mutex_unlock, mutex_destroy, atomic_add, atomic_sub, atomic_swap, atomic_compare, atomic_store}
use Rattle.c_tree.specs.Typed.{Expr, at, ExprNode, num, null, literal, global, local, deref, member, address_of, decay, convert, not_, binary, and_also, or_else, choose}
use Rattle.c_tree.specs.Typed.{pointer_add, pointer_sub, pointer_diff, pointer_compare, pointer_test, call, lib, Exprs, no_exprs, more_exprs, type_of, node_of, place_of}
use Rattle.c_tree.specs.TypedForm.{IsInteger, IsPointer, IsScalar, IsResult, Fits, PointsToSized, MovesPointer, IsPromoted, AreOperands, type_of_result, is_comparison, Converts, IsLvalue, IsInMemory, IsAtomicCall, IsLibCall, IsTyped, IsTypedNode}
use Rattle.c_tree.specs.TypedForm as form
use Rattle.c_lex.specs.declared.refusal.Kind.TheVariants.{TypeMismatch, BadSize}
use Rattle.c_typing.specs.Faults.{typed, unless, ◌>>=◌}
use Rattle.c_typing.specs.Types.{same_int, same_type, is_void, value_type, has_size}
use Rattle.c_typing.specs.Scope.{Context}
use Rattle.c_typing.specs.Numbering.{is_block}
use Rattle.c_typing.specs.Rules.{value_of, converted, is_zero, fitted_if, pointer_fitted, fitted_by, fitted, tested_by, tested, target_by, target, minus_by, plus_by, not_by, complement_by, arithmetic, sized, Operands, numbers, pointer_number, number_pointer, pointers, others, operands, moved_up, moved_down, sum, distance, difference, compared, null_for, equality, order, shift, on_numbers, operated_by, operated, element, chosen_by, chosen, cast_number_by, cast_by, cast}
use Rattle.c_typing.proofs.Extending.{Ready, sized_of, target_of, has_size_kept}
use Rattle.c_typing.proofs.Carried.{OnTyped, OnSome, on_bind, on_unless, Plain, World, Sound, Over}

-- an expression of its type, whose arrays have a size
abbrev pub Fine : form.InScope → Expr → Type 0
Fine e x = IsTyped e x × Ready e.structs (type_of x)

abbrev pub NoLocal : Expr → Type 0
NoLocal (at place ty (local n)) = ⊥
NoLocal x = Unit {0}

-- and no local, as a rule gives it
abbrev pub Made : form.InScope → Expr → Type 0
Made e x = Fine e x × NoLocal x

pub plain_ready : (s : List Layout) (t : Ty) → Plain t → Ready s t
plain_ready s void h = tt
plain_ready s (integer t) h = tt
plain_ready s (atomic t) h = h
plain_ready s mutex h = tt
plain_ready s (pointer t) h = plain_ready s t h
plain_ready s (array t n) h = absurd h
plain_ready s (structure n) h = tt

-- ---- integer types

same_bool : (a b : Bool) → beq a b ≡ true → a ≡ b
same_bool true true h = refl
same_bool true false h = absurd cc
same_bool false true h = absurd cc
same_bool false false h = refl

pub both_hold : (a b : Bool) → (a && b) ≡ true → (a ≡ true) × (b ≡ true)
both_hold true b h = (refl, h)
both_hold false b h = absurd cc

pub same_number : (a b : ℕ) → nat_eq a b ≡ true → a ≡ b
same_number a b h = grind (arith, nat_tests)

pub same_int_is : (s t : IntType) → same_int s t ≡ true → s ≡ t
same_int_is s t h =
    let p = both_hold (beq s.signed t.signed) (nat_eq s.bits t.bits) h in
    int_type_is s t (same_bool s.signed t.signed p.0) (same_number s.bits t.bits p.1)

bool_itself : (a : Bool) → beq a a ≡ true
bool_itself true = refl
bool_itself false = refl

pub int_itself : (t : IntType) → same_int t t ≡ true
int_itself t = by (beq t.signed t.signed) (nat_eq t.bits t.bits) (bool_itself t.signed) (grind (arith, nat_tests))
  where
    by : (a b : Bool) → a ≡ true → b ≡ true → (a && b) ≡ true
    by true b h k = k
    by false b h k = absurd cc

pub promoted : (t : IntType) → IsPromoted (promoted_type t)
promoted t = by (nat_lt t.bits 32) refl
  where
    by : (b : Bool) → nat_lt t.bits 32 ≡ b → IsPromoted (if b then int else t)
    by true h = refl
    by false h = ap (λ b. if b then int else t) h

wider_promoted : (a b : IntType) → IsPromoted a → IsPromoted b → IsPromoted (wider a b)
wider_promoted a b p q = by (nat_lt a.bits b.bits) (nat_lt b.bits a.bits) a.signed
  where
    by : (x y z : Bool) → IsPromoted (if x then b else (if y then a else (if z then b else a)))
    by true y z = q
    by false true z = p
    by false false true = q
    by false false false = p

pub common_promoted : (s t : IntType) → IsPromoted (common_type s t)
common_promoted s t = wider_promoted (promoted_type s) (promoted_type t) (promoted s) (promoted t)

-- ---- objects

-- an array or a struct
abbrev pub IsAggregate : Ty → Type 0
IsAggregate (array t n) = Unit {0}
IsAggregate (structure n) = Unit {0}
IsAggregate t = ⊥

no_pointer : (t : Ty) → IsPointer t → IsAggregate t → ⊥
no_pointer (pointer t) h a = a
no_pointer void h a = a
no_pointer (integer t) h a = a
no_pointer (atomic t) h a = a
no_pointer mutex h a = a
no_pointer (array t n) h a = h
no_pointer (structure n) h a = h

no_integer : (t : Ty) → IsInteger t → IsAggregate t → ⊥
no_integer (integer t) h a = a
no_integer void h a = a
no_integer (atomic t) h a = a
no_integer (pointer t) h a = a
no_integer mutex h a = a
no_integer (array t n) h a = h
no_integer (structure n) h a = h

no_result : (t : Ty) → IsResult t → IsAggregate t → ⊥
no_result void h a = a
no_result (integer t) h a = a
no_result (atomic t) h a = a
no_result (pointer t) h a = a
no_result mutex h a = h
no_result (array t n) h a = h
no_result (structure n) h a = h

no_sized_pointer : (s : List Layout) (t : Ty) → PointsToSized s t → IsAggregate t → ⊥
no_sized_pointer s (pointer t) h a = a
no_sized_pointer s void h a = h
no_sized_pointer s (integer t) h a = h
no_sized_pointer s (atomic t) h a = h
no_sized_pointer s mutex h a = h
no_sized_pointer s (array t n) h a = h
no_sized_pointer s (structure n) h a = h

moved_pointer : (s : List Layout) (a b ty : Ty) → MovesPointer s a b ty → (t : Ty) × (ty ≡ pointer t)
moved_pointer s (pointer p) (integer i) ty h = (p, h.1)
moved_pointer s (pointer p) void ty h = elim h [ ]
moved_pointer s (pointer p) (atomic i) ty h = elim h [ ]
moved_pointer s (pointer p) mutex ty h = elim h [ ]
moved_pointer s (pointer p) (pointer q) ty h = elim h [ ]
moved_pointer s (pointer p) (array t n) ty h = elim h [ ]
moved_pointer s (pointer p) (structure n) ty h = elim h [ ]
moved_pointer s (integer i) (pointer p) ty h = (p, h.1)
moved_pointer s (integer i) void ty h = elim h [ ]
moved_pointer s (integer i) (atomic j) ty h = elim h [ ]
moved_pointer s (integer i) mutex ty h = elim h [ ]
moved_pointer s (integer i) (integer j) ty h = elim h [ ]
moved_pointer s (integer i) (array t n) ty h = elim h [ ]
moved_pointer s (integer i) (structure n) ty h = elim h [ ]
moved_pointer s void b ty h = elim h [ ]
moved_pointer s (atomic i) b ty h = elim h [ ]
moved_pointer s mutex b ty h = elim h [ ]
moved_pointer s (array t n) b ty h = elim h [ ]
moved_pointer s (structure n) b ty h = elim h [ ]

no_conversion : (s t : Ty) → Converts s t → IsAggregate t → ⊥
no_conversion s void h a = a
no_conversion s (integer t) h a = a
no_conversion s (atomic t) h a = a
no_conversion s (pointer t) h a = a
no_conversion s mutex h a = a
no_conversion void (array t n) h a = h
no_conversion (integer s) (array t n) h a = h
no_conversion (pointer s) (array t n) h a = h
no_conversion (atomic s) (array t n) h a = h
no_conversion mutex (array t n) h a = h
no_conversion (array s m) (array t n) h a = h
no_conversion (structure m) (array t n) h a = h
no_conversion void (structure n) h a = h
no_conversion (integer s) (structure n) h a = h
no_conversion (pointer s) (structure n) h a = h
no_conversion (atomic s) (structure n) h a = h
no_conversion mutex (structure n) h a = h
no_conversion (array s m) (structure n) h a = h
no_conversion (structure m) (structure n) h a = h

operand_is : (op : Op) (s t : Ty) → AreOperands op s t → (i : IntType) × (s ≡ integer i)
operand_is op (integer i) t h = (i, refl)
operand_is ops.Shl void t h = absurd h
operand_is op void t h = absurd h
operand_is ops.Shl (atomic s) t h = absurd h
operand_is op (atomic s) t h = absurd h
operand_is ops.Shl mutex t h = absurd h
operand_is op mutex t h = absurd h
operand_is ops.Shl (pointer s) t h = absurd h
operand_is op (pointer s) t h = absurd h
operand_is ops.Shl (array s n) t h = absurd h
operand_is op (array s n) t h = absurd h
operand_is ops.Shl (structure n) t h = absurd h
operand_is op (structure n) t h = absurd h

no_atomic : (params : IntType → List Ty) (result : IntType → Ty) (es : Exprs) (t : Ty) → IsAtomicCall params result es t → ((s : IntType) → IsAggregate (result s) → ⊥) → IsAggregate t → ⊥
no_atomic params result no_exprs t h f a = h
no_atomic params result (more_exprs x rest) t h f a = f h.0 (subst IsAggregate h.4 a)

no_lib : (e : form.InScope) (which : Lib) (es : Exprs) (t : Ty) → IsLibCall e which es t → IsAggregate t → ⊥
no_lib e (print pieces) es t h a = absurd (subst IsAggregate h.1 a)
no_lib e malloc es t h a = absurd (subst IsAggregate h.1 a)
no_lib e calloc es t h a = absurd (subst IsAggregate h.1 a)
no_lib e realloc es t h a = absurd (subst IsAggregate h.1 a)
no_lib e free es t h a = absurd (subst IsAggregate h.1 a)
no_lib e copy es t h a = absurd (subst IsAggregate h.1 a)
no_lib e (start f) es t h a = absurd (subst IsAggregate h.2 a)
no_lib e join es t h a = absurd (subst IsAggregate h.1 a)
no_lib e mutex_init es t h a = absurd (subst IsAggregate h.1 a)
no_lib e mutex_lock es t h a = absurd (subst IsAggregate h.1 a)
no_lib e mutex_unlock es t h a = absurd (subst IsAggregate h.1 a)
no_lib e mutex_destroy es t h a = absurd (subst IsAggregate h.1 a)
no_lib e atomic_add es t h a = no_atomic (λ s. integer s ∷ []) (λ s. integer s) es t h (λ s b. b) a
no_lib e atomic_sub es t h a = no_atomic (λ s. integer s ∷ []) (λ s. integer s) es t h (λ s b. b) a
no_lib e atomic_swap es t h a = no_atomic (λ s. integer s ∷ []) (λ s. integer s) es t h (λ s b. b) a
no_lib e atomic_compare es t h a = no_atomic (λ s. pointer (integer s) ∷ integer s ∷ []) (λ s. integer int) es t h (λ s b. b) a
no_lib e atomic_store es t h a = no_atomic (λ s. integer s ∷ []) (λ s. void) es t h (λ s b. b) a

a_block : (t : Ty) → IsAggregate t → is_block t ≡ true
a_block (array t n) a = refl
a_block (structure n) a = refl
a_block void a = absurd a
a_block (integer t) a = absurd a
a_block (atomic t) a = absurd a
a_block mutex a = absurd a
a_block (pointer t) a = absurd a

abbrev IsObjectNode : form.InScope → ExprNode → Type 0
IsObjectNode e node = IsLvalue node × IsInMemory e node

-- what has an array's or a struct's type is an object in memory
object_node : (e : form.InScope) → Sound e → (ty : Ty) (node : ExprNode) → IsTypedNode e ty node → IsAggregate ty → IsObjectNode e node
object_node e s ty (num t value) h a = absurd (subst IsAggregate h.0 a)
object_node e s ty null h a = absurd (no_pointer ty h a)
object_node e s ty (literal n) h a = (tt, tt)
object_node e s ty (global n) h a = (tt, tt)
object_node e s ty (local n) h a = (tt, (h.0, h.1, s.blocks n h.0 h.1 (a_block h.0.ty (subst IsAggregate (sym h.2) a))))
object_node e s ty (deref x) h a = (tt, tt)
object_node e s ty (member x m) h a = (tt, tt)
object_node e s ty (address_of x) h a = absurd (subst IsAggregate h.2 a)
object_node e s ty (decay x) h a = absurd (subst IsAggregate h.2.3 a)
object_node e s ty (convert x) h a = absurd (no_conversion (type_of x) ty h.1 a)
object_node e s ty (not_ x) h a = absurd (subst IsAggregate h.2 a)
object_node e s ty (binary op x y) h a =
    let i = operand_is op (type_of x) (type_of y) h.2 in
    let is : ty ≡ integer (result_type op i.0) = h.3 ∙ ap (type_of_result op) i.1 in
    absurd (subst IsAggregate is a)
object_node e s ty (and_also x y) h a = absurd (subst IsAggregate h.4 a)
object_node e s ty (or_else x y) h a = absurd (subst IsAggregate h.4 a)
object_node e s ty (choose x y z) h a = absurd (no_integer ty h.4 a)
object_node e s ty (pointer_add x y) h a = absurd (subst IsAggregate (moved_pointer e.structs (type_of x) (type_of y) ty h.2).1 a)
object_node e s ty (pointer_sub p n) h a = absurd (no_sized_pointer e.structs (type_of p) h.2 (subst IsAggregate h.4 a))
object_node e s ty (pointer_diff p q) h a = absurd (subst IsAggregate h.4 a)
object_node e s ty (pointer_compare op p q) h a = absurd (subst IsAggregate h.5 a)
object_node e s ty (pointer_test p) h a = absurd (subst IsAggregate h.2 a)
object_node e s ty (call f args) h a = absurd (no_result h.1.0.result (s.results f h.1.0 h.1.1) (subst IsAggregate h.1.2.1 a))
object_node e s ty (lib which args) h a = absurd (no_lib e which args ty h.1 a)

pub an_object : (e : form.InScope) → Sound e → (x : Expr) → IsTyped e x → IsAggregate (type_of x) → IsLvalue (node_of x) × IsInMemory e (node_of x)
an_object e s (at place ty node) h a = object_node e s ty node h a

-- ---- values

pub value_fine : (e : form.InScope) → Sound e → (x : Expr) → Fine e x → Fine e (value_of x)
value_fine e s (at place (array t n) node) h =
    ((h.0, (an_object e s (at place (array t n) node) h.0 tt).1, (t, n, refl, refl)), h.1.1)
value_fine e s (at place void node) h = h
value_fine e s (at place (integer t) node) h = h
value_fine e s (at place (atomic t) node) h = ((h.0, refl), tt)
value_fine e s (at place mutex node) h = h
value_fine e s (at place (pointer t) node) h = h
value_fine e s (at place (structure n) node) h = h

-- of a type
abbrev pub Has : form.InScope → Expr → Ty → Type 0
Has e x t = IsTyped e x × (type_of x ≡ t)

pub converted_has : (e : form.InScope) (s t : IntType) (x : Expr) → Has e x (integer s) → Has e (converted s t x) (integer t)
converted_has e s t x h = by (same_int s t) refl
  where
    by : (b : Bool) → same_int s t ≡ b → Has e (if b then x else at (place_of x) (integer t) (convert x)) (integer t)
    by true p = (h.0, h.1 ∙ ap integer (same_int_is s t p))
    by false p = ((h.0, subst (λ u. Converts u (integer t)) (sym h.1) tt), refl)

null_has : (e : form.InScope) (t : Ty) (x : Expr) → Has e (null_for t x) (pointer t)
null_has e t x = (tt, refl)

-- ---- assignment

-- fitted to a type
abbrev pub Fitting : form.InScope → Ty → Expr → Type 0
Fitting e t x = IsTyped e x × Fits (type_of x) t

some_if : (e : form.InScope) (t : Ty) (x : Expr) (b : Bool) → (b ≡ true → Fitting e t x) → OnSome (Fitting e t) (fitted_if x b)
some_if e t x true h = h refl
some_if e t x false h = tt

pointers_fit : (e : form.InScope) (s t : Ty) (x : Expr) → Has e x (pointer s) → OnSome (Fitting e (pointer t)) (pointer_fitted s t x)
pointers_fit e s t x h = by (same_type s t)
  where
    by : (b : Bool) → OnSome (Fitting e (pointer t)) (if b then Some x else fitted_if (at (place_of x) (pointer t) (convert x)) (is_void s || is_void t))
    by true = (h.0, subst (λ u. Fits u (pointer t)) (sym h.1) tt)
    by false = some_if e (pointer t) (at (place_of x) (pointer t) (convert x)) (is_void s || is_void t) (λ b. ((h.0, subst (λ u. Converts u (pointer t)) (sym h.1) tt), tt))

fits_by : (e : form.InScope) (s t : Ty) (x : Expr) → Has e x s → OnSome (Fitting e t) (fitted_by s t x)
fits_by e (integer s) (integer t) x h = let c = converted_has e s t x h in (c.0, subst (λ u. Fits u (integer t)) (sym c.1) refl)
fits_by e (integer s) (atomic t) x h = let c = converted_has e s t x h in (c.0, subst (λ u. Fits u (atomic t)) (sym c.1) refl)
fits_by e (integer s) (pointer t) x h = some_if e (pointer t) (at (place_of x) (pointer t) null) (is_zero (node_of x)) (λ b. (tt, tt))
fits_by e (pointer s) (pointer t) x h = pointers_fit e s t x h
fits_by e (structure m) (structure n) x h =
    some_if e (structure n) x (nat_eq m n) (λ b. (h.0, subst (λ u. Fits u (structure n)) (sym h.1) (same_number m n b)))
fits_by e _ _ x h = tt

pub fits : (e : form.InScope) (t : Ty) (x : Expr) → IsTyped e x → OnSome (Fitting e t) (fitted t x)
fits e t x h = fits_by e (type_of x) t x (h, refl)

-- ---- conditions

-- a condition: a number
abbrev pub Tested : form.InScope → Expr → Type 0
Tested e x = IsTyped e x × IsScalar (type_of x)

tests : (e : form.InScope) (place : ℕ) (s : Ty) (x : Expr) → Has e x s → OnTyped (Tested e) (tested_by place s x)
tests e place (integer t) x h = (h.0, subst IsScalar (sym h.1) tt)
tests e place (pointer t) x h = ((h.0, subst IsPointer (sym h.1) tt, refl), tt)
tests e place void x h = tt
tests e place (atomic t) x h = tt
tests e place mutex x h = tt
tests e place (array t n) x h = tt
tests e place (structure n) x h = tt

pub tested_well : (e : form.InScope) (place : ℕ) (x : Expr) → IsTyped e x → OnTyped (Tested e) (tested place x)
tested_well e place x h = tests e place (type_of x) x (h, refl)

-- ---- what leads to objects

targets : (e : form.InScope) → Sound e → (place : ℕ) (s : Ty) (x : Expr) → Has e x s → Ready e.structs s → OnTyped (Made e) (target_by place s x)
targets e f place (pointer t) x h r = (((h.0, h.1, target_of e.structs f.small t r), r), tt)
targets e f place void x h r = tt
targets e f place (integer t) x h r = tt
targets e f place (atomic t) x h r = tt
targets e f place mutex x h r = tt
targets e f place (array t n) x h r = tt
targets e f place (structure n) x h r = tt

pub target_made : (e : form.InScope) → Sound e → (place : ℕ) (x : Expr) → Fine e x → OnTyped (Made e) (target place x)
target_made e f place x h = targets e f place (type_of x) x (h.0, refl) h.1

-- ---- unary operators

zero_in_range : (t : IntType) → IsInRange t (pos 0)
zero_in_range t = by t.signed (2 ^ (t.bits - 1)) (2 ^ t.bits) (pow_pos (t.bits - 1)) (half_twice t)
  where
    by : (s : Bool) (h m : ℕ) → 0 < h → h + h ≡ m → ((if s then neg_ℤ (pos h) else pos 0) ≤ℤ pos 0) × (pos 0 <ℤ ((if s then neg_ℤ (pos h) else pos 0) +ℤ pos m))
    by true h m p e = (omega (arith, ints), omega (arith, ints))
    by false h m p e = (omega (arith, ints), omega (arith, ints))

pub binary_made : (e : form.InScope) (place : ℕ) (op : Op) (p q : IntType) (a b : Expr) → Has e a (integer p) → Has e b (integer q) → AreOperands op (integer p) (integer q)
    → Made e (at place (integer (result_type op p)) (binary op a b))
binary_made e place op p q a b h l o =
    (((h.0, l.0, subst (λ u. AreOperands op u (type_of b)) (sym h.1) (subst (λ u. AreOperands op (integer p) u) (sym l.1) o), ap (type_of_result op) (sym h.1)), tt), tt)

minus_well : (e : form.InScope) (place : ℕ) (s : Ty) (x : Expr) → Has e x s → OnTyped (Made e) (minus_by place s x)
minus_well e place (integer t) x h =
    let p = promoted_type t in
    binary_made e place ops.Sub p p (at place (integer p) (num p (pos 0))) (converted t p x) ((refl, zero_in_range p), refl) (converted_has e t p x h) (promoted t, refl)
minus_well e place void x h = tt
minus_well e place (atomic t) x h = tt
minus_well e place mutex x h = tt
minus_well e place (pointer t) x h = tt
minus_well e place (array t n) x h = tt
minus_well e place (structure n) x h = tt

plus_well : (e : form.InScope) (place : ℕ) (s : Ty) (x : Expr) → Has e x s → OnTyped (Made e) (plus_by place s x)
plus_well e place (integer t) x h = (((h.0, subst (λ u. Converts u (integer (promoted_type t))) (sym h.1) tt), tt), tt)
plus_well e place void x h = tt
plus_well e place (atomic t) x h = tt
plus_well e place mutex x h = tt
plus_well e place (pointer t) x h = tt
plus_well e place (array t n) x h = tt
plus_well e place (structure n) x h = tt

not_well : (e : form.InScope) (place : ℕ) (s : Ty) (x : Expr) → Has e x s → OnTyped (Made e) (not_by place s x)
not_well e place (integer t) x h = (((h.0, subst IsScalar (sym h.1) tt, refl), tt), tt)
not_well e place (pointer t) x h = ((((h.0, subst IsPointer (sym h.1) tt, refl), tt, refl), tt), tt)
not_well e place void x h = tt
not_well e place (atomic t) x h = tt
not_well e place mutex x h = tt
not_well e place (array t n) x h = tt
not_well e place (structure n) x h = tt

complement_well : (e : form.InScope) (place : ℕ) (s : Ty) (x : Expr) → Has e x s → OnTyped (Made e) (complement_by place s x)
complement_well e place (integer t) x h =
    let p = promoted_type t in
    binary_made e place ops.Xor p p (converted t p x) (at place (integer p) (num p (wrapped_value p (negsuc 0)))) (converted_has e t p x h) ((refl, wrapped_value-in_range p (negsuc 0)), refl) (promoted t, refl)
complement_well e place void x h = tt
complement_well e place (atomic t) x h = tt
complement_well e place mutex x h = tt
complement_well e place (pointer t) x h = tt
complement_well e place (array t n) x h = tt
complement_well e place (structure n) x h = tt

pub minus_made : (e : form.InScope) (place : ℕ) (x : Expr) → IsTyped e x → OnTyped (Made e) (minus_by place (type_of x) x)
minus_made e place x h = minus_well e place (type_of x) x (h, refl)

pub plus_made : (e : form.InScope) (place : ℕ) (x : Expr) → IsTyped e x → OnTyped (Made e) (plus_by place (type_of x) x)
plus_made e place x h = plus_well e place (type_of x) x (h, refl)

pub not_made : (e : form.InScope) (place : ℕ) (x : Expr) → IsTyped e x → OnTyped (Made e) (not_by place (type_of x) x)
not_made e place x h = not_well e place (type_of x) x (h, refl)

pub complement_made : (e : form.InScope) (place : ℕ) (x : Expr) → IsTyped e x → OnTyped (Made e) (complement_by place (type_of x) x)
complement_made e place x h = complement_well e place (type_of x) x (h, refl)

-- ---- binary operators

abbrev pub Describes : Operands → (s t : Ty) → Type 0
Describes (numbers i j) s t = (s ≡ integer i) × (t ≡ integer j)
Describes (pointer_number u j) s t = (s ≡ pointer u) × (t ≡ integer j)
Describes (number_pointer i u) s t = (s ≡ integer i) × (t ≡ pointer u)
Describes (pointers u v) s t = (s ≡ pointer u) × (t ≡ pointer v)
Describes others s t = Unit {0}

pub described : (s t : Ty) → Describes (operands s t) s t
described (integer s) (integer t) = (refl, refl)
described (integer s) (pointer t) = (refl, refl)
described (pointer t) (integer s) = (refl, refl)
described (pointer s) (pointer t) = (refl, refl)
described _ _ = tt

arithmetic_made : (e : form.InScope) (place : ℕ) (op : Op) (s t : IntType) (a b : Expr) → Has e a (integer s) → Has e b (integer t)
    → AreOperands op (integer (common_type s t)) (integer (common_type s t)) → Made e (arithmetic place op s a t b)
arithmetic_made e place op s t a b h l o =
    let c = common_type s t in
    binary_made e place op c c (converted s c a) (converted t c b) (converted_has e s c a h) (converted_has e t c b l) o

ready_target : (e : form.InScope) (x : Expr) (t : Ty) → Fine e x → type_of x ≡ pointer t → Ready e.structs t
ready_target e x t h p = subst (Ready e.structs) p h.1

sized_target : (w : World) (d : Context) (e : form.InScope) → Over w d e → (x : Expr) (t : Ty) → Fine e x → type_of x ≡ pointer t → has_size d.structs t ≡ true → PointsToSized e.structs (type_of x)
sized_target w d e o x t h p k =
    subst (PointsToSized e.structs) (sym p) (sized_of e.structs o.sound.small t (ready_target e x t h p) (has_size_kept d.structs e.structs o.structs t k))

up_made : (w : World) (d : Context) (e : form.InScope) → Over w d e → (place : ℕ) (t : Ty) (i : IntType) (p n : Expr) → Fine e p → Fine e n → type_of p ≡ pointer t → type_of n ≡ integer i → OnTyped (Made e) (moved_up d place t p n)
up_made w d e o place t i p n h l hp ln = on_bind _ (Made e) (sized d place t) _ (on_unless place _ (has_size d.structs t))
    (λ u k. (
      (
        (
          h.0,
          l.0,
          subst (λ x. MovesPointer e.structs x (type_of n) (pointer t)) (sym hp)
              (subst (λ y. MovesPointer e.structs (pointer t) y (pointer t)) (sym ln) (subst (PointsToSized e.structs) hp (sized_target w d e o p t h hp k), refl)),
        ),
        ready_target e p t h hp,
      ),
      tt,
    ))

up_from : (w : World) (d : Context) (e : form.InScope) → Over w d e → (place : ℕ) (t : Ty) (i : IntType) (n p : Expr) → Fine e n → Fine e p → type_of p ≡ pointer t → type_of n ≡ integer i → OnTyped (Made e) (moved_up d place t n p)
up_from w d e o place t i n p l h hp ln = on_bind _ (Made e) (sized d place t) _ (on_unless place _ (has_size d.structs t))
    (λ u k. (
      (
        (
          l.0,
          h.0,
          subst (λ x. MovesPointer e.structs (type_of n) x (pointer t)) (sym hp)
              (subst (λ y. MovesPointer e.structs y (pointer t) (pointer t)) (sym ln) (subst (PointsToSized e.structs) hp (sized_target w d e o p t h hp k), refl)),
        ),
        ready_target e p t h hp,
      ),
      tt,
    ))

down_made : (w : World) (d : Context) (e : form.InScope) → Over w d e → (place : ℕ) (t : Ty) (i : IntType) (p n : Expr) → Fine e p → Fine e n → type_of p ≡ pointer t → type_of n ≡ integer i → OnTyped (Made e) (moved_down d place t p n)
down_made w d e o place t i p n h l hp ln = on_bind _ (Made e) (sized d place t) _ (on_unless place _ (has_size d.structs t))
    (λ u k. (((h.0, l.0, sized_target w d e o p t h hp k, subst IsInteger (sym ln) tt, sym hp), ready_target e p t h hp), tt))

sum_made : (w : World) (d : Context) (e : form.InScope) → Over w d e → (place : ℕ) (what : Operands) (a b : Expr) → Fine e a → Fine e b → Describes what (type_of a) (type_of b) → OnTyped (Made e) (sum d place what a b)
sum_made w d e o place (numbers s t) a b h l k = arithmetic_made e place ops.Add s t a b (h.0, k.0) (l.0, k.1) (common_promoted s t, refl)
sum_made w d e o place (pointer_number t s) a b h l k = up_made w d e o place t s a b h l k.0 k.1
sum_made w d e o place (number_pointer s t) a b h l k = up_from w d e o place t s a b h l k.1 k.0
sum_made w d e o place (pointers s t) a b h l k = tt
sum_made w d e o place others a b h l k = tt

distance_made : (w : World) (d : Context) (e : form.InScope) → Over w d e → (place : ℕ) (s t : Ty) (a b : Expr) → Fine e a → Fine e b → type_of a ≡ pointer s → type_of b ≡ pointer t → OnTyped (Made e) (distance d place s t a b)
distance_made w d e o place s t a b h l p q =
    on_bind _ (Made e) (unless place TypeMismatch (same_type s t)) (λ u. sized d place s >>= λ v. typed made) (on_unless place TypeMismatch (same_type s t))
    (λ u x. on_bind _ (Made e) (sized d place s) (λ v. typed made) (on_unless place BadSize (has_size d.structs s)) (λ v k. (((h.0, l.0, sized_target w d e o a s h p k, subst IsPointer (sym q) tt, refl), tt), tt)))
  where
    made : Expr
    made = at place (integer long) (pointer_diff a b)

difference_made : (w : World) (d : Context) (e : form.InScope) → Over w d e → (place : ℕ) (what : Operands) (a b : Expr) → Fine e a → Fine e b → Describes what (type_of a) (type_of b) → OnTyped (Made e) (difference d place what a b)
difference_made w d e o place (numbers s t) a b h l k = arithmetic_made e place ops.Sub s t a b (h.0, k.0) (l.0, k.1) (common_promoted s t, refl)
difference_made w d e o place (pointer_number t s) a b h l k = down_made w d e o place t s a b h l k.0 k.1
difference_made w d e o place (pointers s t) a b h l k = distance_made w d e o place s t a b h l k.0 k.1
difference_made w d e o place (number_pointer s t) a b h l k = tt
difference_made w d e o place others a b h l k = tt

compared_made : (e : form.InScope) (place : ℕ) (op : Op) (b : Bool) (p q : Expr) (s t : Ty) → Has e p (pointer s) → Has e q (pointer t) → is_comparison op ≡ true → OnTyped (Made e) (compared place op b p q)
compared_made e place op true p q s t h l c = (((h.0, l.0, subst IsPointer (sym h.1) tt, subst IsPointer (sym l.1) tt, c, refl), tt), tt)
compared_made e place op false p q s t h l c = tt

equality_made : (e : form.InScope) (place : ℕ) (op : Op) (what : Operands) (a b : Expr) → Fine e a → Fine e b → Describes what (type_of a) (type_of b)
    → ((s t : IntType) → AreOperands op (integer (common_type s t)) (integer (common_type s t))) → is_comparison op ≡ true → OnTyped (Made e) (equality place op what a b)
equality_made e place op (numbers s t) a b h l k f c = arithmetic_made e place op s t a b (h.0, k.0) (l.0, k.1) (f s t)
equality_made e place op (pointers s t) a b h l k f c = compared_made e place op (same_type s t || is_void s || is_void t) a b s t (h.0, k.0) (l.0, k.1) c
equality_made e place op (pointer_number t s) a b h l k f c = compared_made e place op (is_zero (node_of b)) a (null_for t b) t t (h.0, k.0) (null_has e t b) c
equality_made e place op (number_pointer s t) a b h l k f c = compared_made e place op (is_zero (node_of a)) (null_for t a) b t t (null_has e t a) (l.0, k.1) c
equality_made e place op others a b h l k f c = tt

order_made : (e : form.InScope) (place : ℕ) (op : Op) (what : Operands) (a b : Expr) → Fine e a → Fine e b → Describes what (type_of a) (type_of b)
    → ((s t : IntType) → AreOperands op (integer (common_type s t)) (integer (common_type s t))) → is_comparison op ≡ true → OnTyped (Made e) (order place op what a b)
order_made e place op (numbers s t) a b h l k f c = arithmetic_made e place op s t a b (h.0, k.0) (l.0, k.1) (f s t)
order_made e place op (pointers s t) a b h l k f c = compared_made e place op (same_type s t) a b s t (h.0, k.0) (l.0, k.1) c
order_made e place op (pointer_number t s) a b h l k f c = tt
order_made e place op (number_pointer s t) a b h l k f c = tt
order_made e place op others a b h l k f c = tt

numbers_made : (e : form.InScope) (place : ℕ) (op : Op) (what : Operands) (a b : Expr) → Fine e a → Fine e b → Describes what (type_of a) (type_of b)
    → ((s t : IntType) → AreOperands op (integer (common_type s t)) (integer (common_type s t))) → OnTyped (Made e) (on_numbers place op what a b)
numbers_made e place op (numbers s t) a b h l k f = arithmetic_made e place op s t a b (h.0, k.0) (l.0, k.1) (f s t)
numbers_made e place op (pointer_number t s) a b h l k f = tt
numbers_made e place op (number_pointer s t) a b h l k f = tt
numbers_made e place op (pointers s t) a b h l k f = tt
numbers_made e place op others a b h l k f = tt

left_made : (e : form.InScope) (place : ℕ) (what : Operands) (a b : Expr) → Fine e a → Fine e b → Describes what (type_of a) (type_of b) → OnTyped (Made e) (shift place ops.Shl what a b)
left_made e place (numbers s t) a b h l k =
    binary_made e place ops.Shl (promoted_type s) (promoted_type t) (converted s (promoted_type s) a) (converted t (promoted_type t) b)
    (converted_has e s (promoted_type s) a (h.0, k.0)) (converted_has e t (promoted_type t) b (l.0, k.1)) (promoted s, promoted t)
left_made e place (pointer_number t s) a b h l k = tt
left_made e place (number_pointer s t) a b h l k = tt
left_made e place (pointers s t) a b h l k = tt
left_made e place others a b h l k = tt

right_made : (e : form.InScope) (place : ℕ) (what : Operands) (a b : Expr) → Fine e a → Fine e b → Describes what (type_of a) (type_of b) → OnTyped (Made e) (shift place ops.Shr what a b)
right_made e place (numbers s t) a b h l k =
    binary_made e place ops.Shr (promoted_type s) (promoted_type t) (converted s (promoted_type s) a) (converted t (promoted_type t) b)
    (converted_has e s (promoted_type s) a (h.0, k.0)) (converted_has e t (promoted_type t) b (l.0, k.1)) (promoted s, promoted t)
right_made e place (pointer_number t s) a b h l k = tt
right_made e place (number_pointer s t) a b h l k = tt
right_made e place (pointers s t) a b h l k = tt
right_made e place others a b h l k = tt

operated_well : (w : World) (d : Context) (e : form.InScope) → Over w d e → (place : ℕ) (op : Op) (what : Operands) (a b : Expr) → Fine e a → Fine e b → Describes what (type_of a) (type_of b) → OnTyped (Made e) (operated_by d place op what a b)
unfolding operated_by
operated_well w d e o place ops.Add what a b h l k = sum_made w d e o place what a b h l k
operated_well w d e o place ops.Sub what a b h l k = difference_made w d e o place what a b h l k
operated_well w d e o place ops.Eq what a b h l k = equality_made e place ops.Eq what a b h l k (λ s t. (common_promoted s t, refl)) refl
operated_well w d e o place ops.Ne what a b h l k = equality_made e place ops.Ne what a b h l k (λ s t. (common_promoted s t, refl)) refl
operated_well w d e o place ops.Lt what a b h l k = order_made e place ops.Lt what a b h l k (λ s t. (common_promoted s t, refl)) refl
operated_well w d e o place ops.Le what a b h l k = order_made e place ops.Le what a b h l k (λ s t. (common_promoted s t, refl)) refl
operated_well w d e o place ops.Gt what a b h l k = order_made e place ops.Gt what a b h l k (λ s t. (common_promoted s t, refl)) refl
operated_well w d e o place ops.Ge what a b h l k = order_made e place ops.Ge what a b h l k (λ s t. (common_promoted s t, refl)) refl
operated_well w d e o place ops.Shl what a b h l k = left_made e place what a b h l k
operated_well w d e o place ops.Shr what a b h l k = right_made e place what a b h l k
operated_well w d e o place ops.Mul what a b h l k = numbers_made e place ops.Mul what a b h l k (λ s t. (common_promoted s t, refl))
operated_well w d e o place ops.Div what a b h l k = numbers_made e place ops.Div what a b h l k (λ s t. (common_promoted s t, refl))
operated_well w d e o place ops.Rem what a b h l k = numbers_made e place ops.Rem what a b h l k (λ s t. (common_promoted s t, refl))
operated_well w d e o place ops.And what a b h l k = numbers_made e place ops.And what a b h l k (λ s t. (common_promoted s t, refl))
operated_well w d e o place ops.Or what a b h l k = numbers_made e place ops.Or what a b h l k (λ s t. (common_promoted s t, refl))
operated_well w d e o place ops.Xor what a b h l k = numbers_made e place ops.Xor what a b h l k (λ s t. (common_promoted s t, refl))

pub operated_made : (w : World) (d : Context) (e : form.InScope) → Over w d e → (place : ℕ) (op : Op) (a b : Expr) → Fine e a → Fine e b → OnTyped (Made e) (operated d place op a b)
operated_made w d e o place op a b h l = operated_well w d e o place op (operands (type_of a) (type_of b)) a b h l (described (type_of a) (type_of b))

pub element_made : (w : World) (d : Context) (e : form.InScope) → Over w d e → (place : ℕ) (a b : Expr) → Fine e a → Fine e b → OnTyped (Made e) (element d place a b)
element_made w d e o place a b h l =
    on_bind (Made e) (Made e) (sum d place (operands (type_of a) (type_of b)) a b) (target place) (sum_made w d e o place (operands (type_of a) (type_of b)) a b h l (described (type_of a) (type_of b)))
    (λ x k. target_made e o.sound place x k.0)

chosen_well : (e : form.InScope) (place : ℕ) (what : Operands) (x a b : Expr) → Tested e x → Fine e a → Fine e b → Describes what (type_of a) (type_of b) → OnTyped (Made e) (chosen_by place what x a b)
chosen_well e place (numbers s t) x a b p h l k =
    let c = common_type s t in
    let m = converted_has e s c a (h.0, k.0) in
    let n = converted_has e t c b (l.0, k.1) in
    (((p.0, m.0, n.0, p.1, tt, m.1, n.1), tt), tt)
chosen_well e place (pointer_number t s) x a b p h l k = tt
chosen_well e place (number_pointer s t) x a b p h l k = tt
chosen_well e place (pointers s t) x a b p h l k = tt
chosen_well e place others x a b p h l k = tt

pub chosen_made : (e : form.InScope) (place : ℕ) (x a b : Expr) → Tested e x → Fine e a → Fine e b → OnTyped (Made e) (chosen place x a b)
chosen_made e place x a b p h l = chosen_well e place (operands (type_of a) (type_of b)) x a b p h l (described (type_of a) (type_of b))

-- ---- casts

null_cast : (e : form.InScope) (place : ℕ) (t : Ty) (b : Bool) (x : Expr) → Ready e.structs t → OnTyped (Made e) (cast_number_by place t b x)
null_cast e place t true x r = ((tt, r), tt)
null_cast e place t false x r = tt

cast_well : (e : form.InScope) (place : ℕ) (s t : Ty) (x : Expr) → Has e x s → Ready e.structs t → OnTyped (Made e) (cast_by place s t x)
cast_well e place s void x h r = (((h.0, tt), tt), tt)
cast_well e place (integer s) (integer t) x h r = (((h.0, subst (λ u. Converts u (integer t)) (sym h.1) tt), tt), tt)
cast_well e place (pointer s) (pointer t) x h r = (((h.0, subst (λ u. Converts u (pointer t)) (sym h.1) tt), r), tt)
cast_well e place (integer s) (pointer t) x h r = null_cast e place t (is_zero (node_of x)) x r
cast_well e place _ _ x h r = tt

pub value_ready : (s : List Layout) (t : Ty) → Ready s t → Ready s (value_type t)
value_ready s void h = h
value_ready s (integer t) h = h
value_ready s (atomic t) h = tt
value_ready s mutex h = h
value_ready s (pointer t) h = h
value_ready s (array t n) h = h
value_ready s (structure n) h = h

pub cast_made : (e : form.InScope) (place : ℕ) (t : Ty) (x : Expr) → Fine e x → Ready e.structs t → OnTyped (Made e) (cast place t x)
cast_made e place t x h r = cast_well e place (type_of x) (value_type t) x (h.0, refl) (value_ready e.structs t r)
