-- Operators give values of the types that they should, and break no rule of cells.
use Rattle.std.proofs.Common.{◌≡◌, ℕ, ◌==◌, Bool, true, false, List, Option, Some, None, Ok, Err, ℤ, pos, negsuc, ◌⊎◌, inl, inr, refl, sym, ap, subst, ◌∙◌}
use Rattle.std.specs.Prelude.{Result, if◌then◌else◌, nat_le, length, ◌+ℤ◌, ◌-ℤ◌, ◌*ℤ◌, ◌&&◌, not, neg_ℤ, unsigned_abs, ◌%◌}
use Rattle.std.specs.Int.{int_div_euclid}
use Rattle.ak_words.specs.declared.int_type.IntType.{IntType}
use Rattle.ak_words.specs.declared.number.Num.{Num}
use Rattle.ak_words.specs.declared.operation.Op.{Op}
use Rattle.ak_words.specs.declared.operation.Op.TheVariants as ops
use Rattle.ak_words.specs.declared.rule.Rule.{Rule}
use Rattle.ak_words.specs.declared.rule.Rule.TheVariants.{C1, C2, C3, C4, C7, C8, C9, C15}
use Rattle.ak_words.specs.IntType.{int, long}
use Rattle.ak_words.specs.Num.{num}
use Rattle.ak_words.specs.Op.{exact_result, rule_if, rule_of, result_type, outcome, result_of}
use Rattle.block_store.specs.declared.values.Access.{Access}
use Rattle.block_store.specs.declared.values.Access.TheVariants as accesses
use Rattle.block_store.specs.declared.values.Ptr.{Ptr}
use Rattle.block_store.specs.declared.values.Ptr.TheVariants.{Null, To}
use Rattle.block_store.specs.declared.values.Value.{Value}
use Rattle.block_store.specs.declared.values.Value.TheVariants as values
use Rattle.block_store.specs.Blocks.{Block, Blocks, live}
use Rattle.block_store.specs.Pointers as pointers
use Rattle.block_store.specs.Pointers.{within, moved_in, moved, indexed, is_usable, is_other_than_null, tested, by_distance, is_below_0, related, compared, in_elements, difference}
use Rattle.c_tree.specs.Typed as tree
use Rattle.c_tree.specs.TypedForm.{IsInteger, IsPointer, IsScalar, Fits, PointsToSized, MovesPointer, AreOperands, type_of_result, CanUpdate, Converts}
use Rattle.c_meaning.specs.Values.{is_atomic, Unary, converts, negates, tests, selects, Binary, on_numbers, forward, backward, distance, on_pointers, access_of_type, element_size, int_of, value_of, pointer_of, int_result, long_result, truth_of, opposite, selected, of_one, of_two, operand_types, computed, converted_result, updated}
use Rattle.c_meaning.specs.Kinds.{HasType, HasKind, TakesOne, TakesTwo}
use Rattle.c_meaning.specs.Sound.{IsNotC16}

-- ---- rules

pub not_c1 : IsNotC16 C1
not_c1 e = cc

pub not_c2 : IsNotC16 C2
not_c2 e = cc

pub not_c3 : IsNotC16 C3
not_c3 e = cc

pub not_c4 : IsNotC16 C4
not_c4 e = cc

pub not_c7 : IsNotC16 C7
not_c7 e = cc

pub not_c8 : IsNotC16 C8
not_c8 e = cc

pub not_c9 : IsNotC16 C9
not_c9 e = cc

pub not_c15 : IsNotC16 C15
not_c15 e = cc

-- a result with this property, or a rule that is no rule of cells
abbrev pub OkWith : {V : Type 0} → (V → Type 0) → Result V Rule → Type 0
OkWith P (Ok v) = P v
OkWith P (Err rule) = IsNotC16 rule

ok_if : {V : Type 0} (P : V → Type 0) (b : Bool) (r : Result V Rule) (rule : Rule) → OkWith P r → IsNotC16 rule → OkWith P (if b then r else Err rule)
ok_if P true r rule p n = p
ok_if P false r rule p n = n

-- ---- values of a kind

pub data Kind : Access → Value → Type 0 where
  a_number : (t : IntType) (n : Num) → n.ty ≡ t → Kind (accesses.Number t) (values.Num n)
  a_pointer : (p : Ptr) → Kind accesses.Pointer (values.Pointer p)

pub kind_of : (how : Access) (v : Value) → HasKind how v → Kind how v
kind_of (accesses.Number t) (values.Num n) h = a_number t n h
kind_of accesses.Pointer (values.Pointer p) h = a_pointer p
kind_of how v h = elim h [ ]

number_there : (t : IntType) (v : Value) → HasKind (accesses.Number t) v → HasType (tree.integer t) v
number_there t (values.Num n) h = h
number_there t (values.Pointer p) h = h

pointer_typed : (to : tree.Ty) (v : Value) → HasKind accesses.Pointer v → HasType (tree.pointer to) v
pointer_typed to (values.Num n) h = h
pointer_typed to (values.Pointer p) h = h

-- a type whose objects have values: a number, also an atomic one, or a pointer
abbrev pub HasValues : tree.Ty → Type 0
HasValues (tree.integer t) = Unit {0}
HasValues (tree.atomic t) = Unit {0}
HasValues (tree.pointer to) = Unit {0}
HasValues ty = ⊥

pub scalar_values : (ty : tree.Ty) → IsScalar ty → HasValues ty
scalar_values (tree.integer t) h = tt
scalar_values (tree.pointer to) h = tt
scalar_values ty h = elim h [ ]

atomic_there : (t : IntType) (v : Value) → HasKind (accesses.Number t) v → HasType (tree.atomic t) v
atomic_there t (values.Num n) h = h
atomic_there t (values.Pointer p) h = h

pub kind_type : (ty : tree.Ty) (v : Value) → HasValues ty → HasKind (access_of_type ty) v → HasType ty v
kind_type (tree.integer t) v s h = number_there t v h
kind_type (tree.atomic t) v s h = atomic_there t v h
kind_type (tree.pointer to) v s h = pointer_typed to v h
kind_type ty v s h = elim s [ ]

pub type_kind : (ty : tree.Ty) (v : Value) → HasType ty v → HasKind (access_of_type ty) v
type_kind (tree.integer t) (values.Num n) h = h
type_kind (tree.atomic t) (values.Num n) h = h
type_kind (tree.pointer to) (values.Pointer p) h = h
type_kind ty v h = elim h [ ]

-- a value that fits where another type is wanted has that type too
pub fits_kind : (s t : tree.Ty) → Fits s t → access_of_type s ≡ access_of_type t
fits_kind (tree.integer s) (tree.integer t) f = ap accesses.Number f
fits_kind (tree.integer s) (tree.atomic t) f = ap accesses.Number f
fits_kind (tree.pointer s) (tree.pointer t) f = refl
fits_kind (tree.structure m) (tree.structure n) f = refl
fits_kind s t f = elim f [ ]

pub fits_type : (s t : tree.Ty) (v : Value) → Fits s t → HasType s v → HasType t v
fits_type (tree.integer s) (tree.integer t) (values.Num n) f h = subst (λ (u : IntType). n.ty ≡ u) f h
fits_type (tree.integer s) (tree.atomic t) (values.Num n) f h = subst (λ (u : IntType). n.ty ≡ u) f h
fits_type (tree.pointer s) (tree.pointer t) (values.Pointer p) f h = tt
fits_type (tree.structure m) (tree.structure n) v f h = elim h [ ]
fits_type (tree.integer s) (tree.integer t) v f h = elim h [ ]
fits_type (tree.integer s) (tree.atomic t) v f h = elim h [ ]
fits_type (tree.pointer s) (tree.pointer t) v f h = elim h [ ]
fits_type s t v f h = elim f [ ]

pub int_kind : (how : Access) (b : Bool) → how ≡ accesses.Number int → HasKind how (int_of b)
int_kind how b e = subst (λ a. HasKind a (int_of b)) (sym e) refl

-- ---- numbers

abbrev RuleOk : Option Rule → Type 0
RuleOk None = Unit {0}
RuleOk (Some rule) = IsNotC16 rule

rule_if_ok : (rule : Rule) (b : Bool) → IsNotC16 rule → RuleOk (rule_if rule b)
rule_if_ok rule true n = n
rule_if_ok rule false n = tt

divides_ok : (b c : Bool) → RuleOk (if b then Some C2 else rule_if C1 c)
divides_ok true c = not_c2
divides_ok false c = rule_if_ok C1 c not_c1

rule_of_ok : (op : Op) (t : IntType) (x y : ℤ) → RuleOk (rule_of op t x y)
unfolding rule_of
rule_of_ok ops.Add t x y = rule_if_ok C1 _ not_c1
rule_of_ok ops.Sub t x y = rule_if_ok C1 _ not_c1
rule_of_ok ops.Mul t x y = rule_if_ok C1 _ not_c1
rule_of_ok ops.Div t x y = divides_ok _ _
rule_of_ok ops.Rem t x y = divides_ok _ _
rule_of_ok ops.Shl t x y = rule_if_ok C3 _ not_c3
rule_of_ok ops.Shr t x y = rule_if_ok C3 _ not_c3
rule_of_ok op t x y = tt

outcome_ok : (o : Option Rule) (n : Num) (how : Access) → RuleOk o → HasKind how (values.Num n) → OkWith (HasKind how) (value_of (outcome o n))
outcome_ok None n how r h = h
outcome_ok (Some rule) n how r h = r

result_ok : (op : Op) (a b : Num) → OkWith (HasKind (accesses.Number (result_type op a.ty))) (value_of (result_of op a b))
result_ok op a b = outcome_ok (rule_of op a.ty a.value b.value) (num (result_type op a.ty) (exact_result op a.ty a.value b.value)) (accesses.Number (result_type op a.ty)) (rule_of_ok op a.ty a.value b.value) refl

-- ---- pointers

abbrev pub Anything : {V : Type 0} → V → Type 0
Anything v = Unit {0}

within_ok : (size name : ℕ) (z : ℤ) → OkWith Anything (within size name z)
within_ok size name (pos offset) = ok_if Anything (nat_le offset size) (Ok (To name offset)) C7 tt not_c7
within_ok size name (negsuc n) = not_c7

moved_in_ok : (name offset : ℕ) (by : ℤ) (b : Option Block) → OkWith Anything (moved_in name offset by b)
moved_in_ok name offset by None = not_c9
moved_in_ok name offset by (Some b) = within_ok (length b.cells) name (pos offset +ℤ by)

moved_ok : (blocks : Blocks) (p : Ptr) (by : ℤ) → OkWith Anything (moved blocks p by)
moved_ok blocks Null (pos n) = ok_if Anything (n == 0) (Ok Null) C7 tt not_c7
moved_ok blocks Null (negsuc n) = not_c7
moved_ok blocks (To name offset) by = moved_in_ok name offset by (live blocks name)

pointed_ok : (r : Result Ptr Rule) → OkWith Anything r → OkWith (HasKind accesses.Pointer) (pointer_of r)
pointed_ok (Ok p) h = tt
pointed_ok (Err rule) h = h

indexed_ok : (blocks : Blocks) (p : Ptr) (z : ℤ) (size : ℕ) → OkWith (HasKind accesses.Pointer) (pointer_of (indexed blocks p z size))
indexed_ok blocks p z size = pointed_ok (indexed blocks p z size) (moved_ok blocks p (z *ℤ pos size))

tested_ok : (blocks : Blocks) (p : Ptr) → OkWith Anything (tested blocks p)
tested_ok blocks p = ok_if Anything (is_usable blocks p) (Ok (is_other_than_null p)) C9 tt not_c9

apart_ok : (p q : Ptr) → OkWith Anything (pointers.distance p q)
apart_ok Null Null = tt
apart_ok Null (To name offset) = not_c8
apart_ok (To name offset) Null = not_c8
apart_ok (To b o) (To c u) = ok_if Anything (b == c) (Ok (pos o -ℤ pos u)) C8 tt not_c8

by_distance_ok : (test : ℤ → Bool) (r : Result ℤ Rule) → OkWith Anything r → OkWith Anything (by_distance test r)
by_distance_ok test (Ok z) h = tt
by_distance_ok test (Err rule) h = h

related_ok : (op : Op) (p q : Ptr) → OkWith Anything (related op p q)
related_ok ops.Eq p q = tt
related_ok ops.Ne p q = tt
related_ok ops.Lt p q = by_distance_ok is_below_0 (pointers.distance p q) (apart_ok p q)
related_ok ops.Ge p q = by_distance_ok (λ z. not (is_below_0 z)) (pointers.distance p q) (apart_ok p q)
related_ok ops.Gt p q = by_distance_ok is_below_0 (pointers.distance q p) (apart_ok q p)
related_ok ops.Le p q = by_distance_ok (λ z. not (is_below_0 z)) (pointers.distance q p) (apart_ok q p)
related_ok op p q = not_c8

compared_ok : (blocks : Blocks) (op : Op) (p q : Ptr) → OkWith Anything (compared blocks op p q)
compared_ok blocks op p q = ok_if Anything (is_usable blocks p && is_usable blocks q) (related op p q) C9 (related_ok op p q) not_c9

in_elements_ok : (size : ℕ) (r : Result ℤ Rule) → OkWith Anything r → OkWith Anything (in_elements size r)
in_elements_ok size (Err rule) h = h
in_elements_ok size (Ok z) h = ok_if Anything (unsigned_abs z % size == 0) (Ok (int_div_euclid z (pos size))) C8 tt not_c8

difference_ok : (blocks : Blocks) (p q : Ptr) (size : ℕ) → OkWith Anything (difference blocks p q size)
difference_ok blocks p q size = ok_if Anything (is_usable blocks p && is_usable blocks q) (in_elements size (pointers.distance p q)) C9 (in_elements_ok size (pointers.distance p q) (apart_ok p q)) not_c9

int_ok : (r : Result Bool Rule) (how : Access) → how ≡ accesses.Number int → OkWith Anything r → OkWith (HasKind how) (int_result r)
int_ok (Ok b) how e h = int_kind how b e
int_ok (Err rule) how e h = h

long_ok : (r : Result ℤ Rule) (how : Access) → how ≡ accesses.Number long → OkWith Anything r → OkWith (HasKind how) (long_result r)
long_ok (Ok z) how e h = subst (λ a. HasKind a (values.Num (num long z))) (sym e) refl
long_ok (Err rule) how e h = h

-- ---- operations on one value

pub truth_ok : (blocks : Blocks) (v : Value) → OkWith Anything (truth_of blocks v)
truth_ok blocks (values.Num n) = tt
truth_ok blocks (values.Pointer p) = tested_ok blocks p

opposite_ok : (r : Result Bool Rule) → OkWith Anything r → OkWith Anything (opposite r)
opposite_ok (Ok b) h = tt
opposite_ok (Err rule) h = h

of_kind : (how to : Access) (r : Result Value Rule) → to ≡ how → OkWith (HasKind how) r → OkWith (HasKind to) r
of_kind how to r e h = let P : Access → Type 0 = λ a. OkWith (HasKind a) r in subst P (sym e) h

converted_ok : (blocks : Blocks) (ty : tree.Ty) (from to : Access) (v : Value) → Kind from v → TakesOne (converts ty) from to → OkWith (HasKind to) (of_one blocks (converts ty) v)
converted_ok blocks (tree.integer t) _ to _ (a_number s n e) h = of_kind (accesses.Number t) to (Ok (values.Num (num t n.value))) h refl
converted_ok blocks (tree.integer t) _ to _ (a_pointer p) h = elim h [ ]
converted_ok blocks (tree.pointer ty) _ to _ (a_number s n e) h = elim h [ ]
converted_ok blocks (tree.pointer ty) _ to _ (a_pointer p) h = of_kind accesses.Pointer to (Ok (values.Pointer p)) h tt
converted_ok blocks ty from to v k h = elim h [ ]

selected_ok : (blocks : Blocks) (offset : ℕ) (from to : Access) (v : Value) → Kind from v → TakesOne (selects offset) from to → OkWith (HasKind to) (selected blocks offset v)
selected_ok blocks offset _ to _ (a_number s n e) h = elim h [ ]
selected_ok blocks offset _ to _ (a_pointer p) h = of_kind accesses.Pointer to (pointer_of (moved blocks p (pos offset))) h (pointed_ok (moved blocks p (pos offset)) (moved_ok blocks p (pos offset)))

-- an operation on a value of the kind that it takes
pub of_one_ok : (blocks : Blocks) (op : Unary) (from to : Access) (v : Value) → TakesOne op from to → HasKind from v → OkWith (HasKind to) (of_one blocks op v)
of_one_ok blocks (converts ty) from to v h i = converted_ok blocks ty from to v (kind_of from v i) h
of_one_ok blocks negates from to v h i = int_ok (opposite (truth_of blocks v)) to h (opposite_ok (truth_of blocks v) (truth_ok blocks v))
of_one_ok blocks tests from to v h i = int_ok (truth_of blocks v) to h (truth_ok blocks v)
of_one_ok blocks (selects offset) from to v h i = selected_ok blocks offset from to v (kind_of from v i) h

-- ---- operations on two values

two_ok : (blocks : Blocks) (op : Binary) (left right to : Access) (v w : Value) → Kind left v → Kind right w → TakesTwo op left right to → OkWith (HasKind to) (of_two blocks op v w)
two_ok blocks (on_numbers op) _ _ to _ _ (a_number s n e) (a_number t m f) h =
    of_kind (accesses.Number (result_type op n.ty)) to (value_of (result_of op n m)) (h.1 ∙ ap (λ u. accesses.Number (result_type op u)) (sym e)) (result_ok op n m)
two_ok blocks (on_numbers op) _ _ to _ _ (a_number s n e) (a_pointer q) h = elim h [ ]
two_ok blocks (on_numbers op) _ _ to _ _ (a_pointer p) (a_number t m f) h = elim h [ ]
two_ok blocks (on_numbers op) _ _ to _ _ (a_pointer p) (a_pointer q) h = elim h [ ]
two_ok blocks (forward size) _ _ to _ _ (a_number s n e) (a_number t m f) h = elim h [ ]
two_ok blocks (forward size) _ _ to _ _ (a_number s n e) (a_pointer q) h = of_kind accesses.Pointer to (pointer_of (indexed blocks q n.value size)) h (indexed_ok blocks q n.value size)
two_ok blocks (forward size) _ _ to _ _ (a_pointer p) (a_number t m f) h = of_kind accesses.Pointer to (pointer_of (indexed blocks p m.value size)) h (indexed_ok blocks p m.value size)
two_ok blocks (forward size) _ _ to _ _ (a_pointer p) (a_pointer q) h = elim h [ ]
two_ok blocks (backward size) _ _ to _ _ (a_number s n e) (a_number t m f) h = elim h [ ]
two_ok blocks (backward size) _ _ to _ _ (a_number s n e) (a_pointer q) h = elim h [ ]
two_ok blocks (backward size) _ _ to _ _ (a_pointer p) (a_number t m f) h = of_kind accesses.Pointer to (pointer_of (indexed blocks p (neg_ℤ m.value) size)) h (indexed_ok blocks p (neg_ℤ m.value) size)
two_ok blocks (backward size) _ _ to _ _ (a_pointer p) (a_pointer q) h = elim h [ ]
two_ok blocks (distance size) _ _ to _ _ (a_number s n e) (a_number t m f) h = elim h [ ]
two_ok blocks (distance size) _ _ to _ _ (a_number s n e) (a_pointer q) h = elim h [ ]
two_ok blocks (distance size) _ _ to _ _ (a_pointer p) (a_number t m f) h = elim h [ ]
two_ok blocks (distance size) _ _ to _ _ (a_pointer p) (a_pointer q) h = long_ok (difference blocks p q size) to h (difference_ok blocks p q size)
two_ok blocks (on_pointers op) _ _ to _ _ (a_number s n e) (a_number t m f) h = elim h [ ]
two_ok blocks (on_pointers op) _ _ to _ _ (a_number s n e) (a_pointer q) h = elim h [ ]
two_ok blocks (on_pointers op) _ _ to _ _ (a_pointer p) (a_number t m f) h = elim h [ ]
two_ok blocks (on_pointers op) _ _ to _ _ (a_pointer p) (a_pointer q) h = int_ok (compared blocks op p q) to h (compared_ok blocks op p q)

-- an operation on two values of the kinds that it takes
pub of_two_ok : (blocks : Blocks) (op : Binary) (left right to : Access) (v w : Value) → TakesTwo op left right to → HasKind left v → HasKind right w → OkWith (HasKind to) (of_two blocks op v w)
of_two_ok blocks op left right to v w h i j = two_ok blocks op left right to v w (kind_of left v i) (kind_of right w j) h

-- ---- compound assignment

stored_number : (r : Result Value Rule) (s t : IntType) → OkWith (HasKind (accesses.Number s)) r → OkWith (HasKind (accesses.Number t)) (converted_result (tree.integer t) r)
stored_number (Ok (values.Num n)) s t h = refl
stored_number (Ok (values.Pointer p)) s t h = elim h [ ]
stored_number (Err rule) s t h = h

moves_pointer : (structs : List tree.Layout) (blocks : Blocks) (to : tree.Ty) (op : Op) (p : Ptr) (n : Num) → (op ≡ ops.Add) ⊎ (op ≡ ops.Sub) → OkWith (HasKind accesses.Pointer) (updated structs blocks (tree.pointer to) op (values.Pointer p) (values.Num n))
moves_pointer structs blocks to op p n (inl e) =
    subst (λ z. OkWith (HasKind accesses.Pointer) (updated structs blocks (tree.pointer to) z (values.Pointer p) (values.Num n))) (sym e) (indexed_ok blocks p n.value (element_size structs (tree.pointer to)))
moves_pointer structs blocks to op p n (inr e) =
    subst (λ z. OkWith (HasKind accesses.Pointer) (updated structs blocks (tree.pointer to) z (values.Pointer p) (values.Num n))) (sym e) (indexed_ok blocks p (neg_ℤ n.value) (element_size structs (tree.pointer to)))

-- a compound assignment of values of the types that it takes
pub updated_ok : (structs : List tree.Layout) (blocks : Blocks) (op : Op) (s t : tree.Ty) (v w : Value) → IsScalar s → CanUpdate structs op s t → HasKind (access_of_type s) v → HasKind (access_of_type t) w
    → OkWith (HasKind (access_of_type s)) (updated structs blocks s op v w)
updated_ok structs blocks op (tree.integer s) (tree.integer t) (values.Num n) (values.Num m) c h i j =
    let types = operand_types op n.ty m.ty in
    stored_number (computed op types n m) (result_type op types.0) s (result_ok op (num types.0 n.value) (num types.1 m.value))
updated_ok structs blocks op (tree.integer s) (tree.integer t) (values.Num n) (values.Pointer q) c h i j = elim j [ ]
updated_ok structs blocks op (tree.integer s) (tree.integer t) (values.Pointer p) w c h i j = elim i [ ]
updated_ok structs blocks op (tree.pointer to) (tree.integer t) (values.Pointer p) (values.Num m) c h i j = moves_pointer structs blocks to op p m h.0
updated_ok structs blocks op (tree.pointer to) (tree.integer t) (values.Pointer p) (values.Pointer q) c h i j = elim j [ ]
updated_ok structs blocks op (tree.pointer to) (tree.integer t) (values.Num n) w c h i j = elim i [ ]
updated_ok structs blocks op (tree.atomic s) t v w c h i j = elim c [ ]
updated_ok structs blocks op s t v w c h i j = elim h [ ]

-- ---- what well formed expressions say of kinds

pub number_operands : (op : Op) (a b : tree.Ty) → AreOperands op a b → IsInteger a × IsInteger b
number_operands ops.Shl (tree.integer s) (tree.integer u) h = (tt, tt)
number_operands ops.Shr (tree.integer s) (tree.integer u) h = (tt, tt)
number_operands op (tree.integer s) (tree.integer u) h = (tt, tt)
number_operands op a b h = elim h [ ]

numbers_taken : (op : Op) (a b : tree.Ty) (to : Access) → IsInteger a → IsInteger b → AreOperands op a b → to ≡ access_of_type (type_of_result op a) → TakesTwo (on_numbers op) (access_of_type a) (access_of_type b) to
numbers_taken op (tree.integer s) (tree.integer t) to i j h e = (h, e)
numbers_taken op (tree.integer s) b to i j h e = elim j [ ]
numbers_taken op a b to i j h e = elim i [ ]

pub on_numbers_taken : (op : Op) (a b ty : tree.Ty) → AreOperands op a b → ty ≡ type_of_result op a → TakesTwo (on_numbers op) (access_of_type a) (access_of_type b) (access_of_type ty)
on_numbers_taken op a b ty h e = let n = number_operands op a b h in numbers_taken op a b (access_of_type ty) n.0 n.1 h (ap access_of_type e)

pub forward_taken : (structs : List tree.Layout) (size : ℕ) (a b ty : tree.Ty) → MovesPointer structs a b ty → TakesTwo (forward size) (access_of_type a) (access_of_type b) (access_of_type ty)
forward_taken structs size (tree.pointer s) (tree.integer t) ty h = ap access_of_type h.1
forward_taken structs size (tree.integer t) (tree.pointer s) ty h = ap access_of_type h.1
forward_taken structs size a b ty h = elim h [ ]

pub backward_taken : (structs : List tree.Layout) (size : ℕ) (a b ty : tree.Ty) → PointsToSized structs a → IsInteger b → ty ≡ a → TakesTwo (backward size) (access_of_type a) (access_of_type b) (access_of_type ty)
backward_taken structs size (tree.pointer s) (tree.integer t) ty h i e = ap access_of_type e
backward_taken structs size (tree.pointer s) b ty h i e = elim i [ ]
backward_taken structs size a b ty h i e = elim h [ ]

pub distance_taken : (structs : List tree.Layout) (size : ℕ) (a b ty : tree.Ty) → PointsToSized structs a → IsPointer b → ty ≡ tree.integer long → TakesTwo (distance size) (access_of_type a) (access_of_type b) (access_of_type ty)
distance_taken structs size (tree.pointer s) (tree.pointer t) ty h i e = ap access_of_type e
distance_taken structs size (tree.pointer s) b ty h i e = elim i [ ]
distance_taken structs size a b ty h i e = elim h [ ]

pub on_pointers_taken : (op : Op) (a b ty : tree.Ty) → IsPointer a → IsPointer b → ty ≡ tree.integer int → TakesTwo (on_pointers op) (access_of_type a) (access_of_type b) (access_of_type ty)
on_pointers_taken op (tree.pointer s) (tree.pointer t) ty h i e = ap access_of_type e
on_pointers_taken op (tree.pointer s) b ty h i e = elim i [ ]
on_pointers_taken op a b ty h i e = elim h [ ]

pub converts_taken : (s ty : tree.Ty) → Converts s ty → HasValues ty → TakesOne (converts ty) (access_of_type s) (access_of_type ty)
converts_taken (tree.integer s) (tree.integer t) h i = refl
converts_taken (tree.atomic s) (tree.integer t) h i = refl
converts_taken (tree.pointer s) (tree.pointer t) h i = refl
converts_taken s tree.void h i = elim i [ ]
converts_taken s t h i = elim h [ ]

pub converts_values : (s ty : tree.Ty) → Converts s ty → HasValues ty → HasValues s
converts_values (tree.integer s) (tree.integer t) h i = tt
converts_values (tree.atomic s) (tree.integer t) h i = tt
converts_values (tree.pointer s) (tree.pointer t) h i = tt
converts_values s tree.void h i = elim i [ ]
converts_values s t h i = elim h [ ]

-- what is added or taken away is a number
pub updates_scalar : (structs : List tree.Layout) (op : Op) (s t : tree.Ty) → CanUpdate structs op s t → IsScalar t
updates_scalar structs op (tree.integer s) (tree.integer t) h = tt
updates_scalar structs op (tree.atomic s) (tree.integer t) h = tt
updates_scalar structs op (tree.pointer s) (tree.integer t) h = tt
updates_scalar structs op s t h = elim h [ ]

-- what isn't atomic is a number or a pointer, too
pub updates_plain : (structs : List tree.Layout) (op : Op) (s t : tree.Ty) → CanUpdate structs op s t → is_atomic s ≡ false → IsScalar s
updates_plain structs op (tree.integer s) (tree.integer t) h e = tt
updates_plain structs op (tree.atomic s) (tree.integer t) h e = absurd cc
updates_plain structs op (tree.pointer s) (tree.integer t) h e = tt
updates_plain structs op s t h e = elim h [ ]

-- what changes an atomic object is a number
pub updates_number : (structs : List tree.Layout) (op : Op) (s t : tree.Ty) → CanUpdate structs op s t → is_atomic s ≡ true → IsInteger t
updates_number structs op (tree.integer s) (tree.integer t) h e = absurd cc
updates_number structs op (tree.atomic s) (tree.integer t) h e = tt
updates_number structs op (tree.pointer s) (tree.integer t) h e = absurd cc
updates_number structs op s t h e = elim h [ ]

pub integer_scalar : (ty : tree.Ty) → IsInteger ty → IsScalar ty
integer_scalar (tree.integer t) h = tt
integer_scalar ty h = elim h [ ]

pub pointer_scalar : (ty : tree.Ty) → IsPointer ty → IsScalar ty
pointer_scalar (tree.pointer to) h = tt
pointer_scalar ty h = elim h [ ]

pub pointer_access : (ty : tree.Ty) → IsPointer ty → access_of_type ty ≡ accesses.Pointer
pointer_access (tree.pointer to) h = refl
pointer_access ty h = elim h [ ]

pub sized_pointer : (structs : List tree.Layout) (ty : tree.Ty) → PointsToSized structs ty → IsPointer ty
sized_pointer structs (tree.pointer to) h = tt
sized_pointer structs ty h = elim h [ ]

pub moved_scalar : (structs : List tree.Layout) (a b ty : tree.Ty) → MovesPointer structs a b ty → IsScalar a × IsScalar b
moved_scalar structs (tree.pointer s) (tree.integer t) ty h = (tt, tt)
moved_scalar structs (tree.integer t) (tree.pointer s) ty h = (tt, tt)
moved_scalar structs a b ty h = elim h [ ]
