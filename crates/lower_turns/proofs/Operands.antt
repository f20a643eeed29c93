-- What well formed trees say of kinds, and how pointers are reached.
use Rattle.std.proofs.lemmas.Bool.{and_from}
use Rattle.std.proofs.Common.{◌≡◌, ℕ, ◌⊎◌, inl, inr, List, [], ◌∷◌, Option, Some, None, if◌then◌else◌, refl, sym, ap, subst, ◌∙◌, true, false, Bool, ◌||◌}
use Rattle.ak_words.specs.declared.int_type.IntType.{IntType}
use Rattle.ak_words.specs.declared.operation.Op.{Op}
use Rattle.ak_words.specs.declared.operation.Op.TheVariants as ops
use Rattle.ak_words.specs.IntType.{int, long, unsigned_long, promoted_type, common_type}
use Rattle.block_store.specs.declared.values.Access.{Access}
use Rattle.block_store.specs.declared.values.Access.TheVariants as accesses
use Rattle.block_store.specs.declared.values.Value.{Value}
use Rattle.block_store.specs.declared.values.Value.TheVariants as values
use Rattle.c_tree.specs.Typed as tree
use Rattle.c_tree.specs.TypedForm.{IsInteger, IsPointer, IsScalar, CanUpdate, Fits, PointsToSized, MovesPointer, AreOperands, type_of_result, Converts, HasBits, ArePrinted, InScope, AreArguments, IsAtomicCall, IsLibCall}
use Rattle.c_meaning.specs.Values.{is_atomic, operand_types, Binary, on_numbers, forward, backward, distance, on_pointers, access_of_type}
use Rattle.struct_ir.specs.Nodes as ir
use Rattle.lower_forms.specs.Forms.{Frame, Reach, indexed, is_pointer, register_of, pointer_register, direct_if, indexed_if, pointed, sum_calc, number_type}
use Rattle.lower_turns.proofs.Relation.{HasKind, Points, BinaryFits, numbers, forwards, forwards_from, backwards, distances, comparisons, calc_of, Joins, no_join, one_join, Joined, not_joined, joined, ConvertFits, to_number, from_atomic, to_pointer, HasValues, AreScalars}
use Rattle.lower_turns.proofs.Values.{unmoved, type_itself}
use Rattle.struct_ir.specs.meaning.Blocks.{Held, pointer, same_type, is_shift, takes}

-- ---- kinds

pub number_access : (ty : tree.Ty) → IsInteger ty → (s : IntType) × (ty ≡ tree.integer s)
number_access (tree.integer s) h = (s, refl)
number_access tree.void h = elim h [ ]
number_access (tree.atomic s) h = elim h [ ]
number_access tree.mutex h = elim h [ ]
number_access (tree.pointer u) h = elim h [ ]
number_access (tree.array u n) h = elim h [ ]
number_access (tree.structure n) h = elim h [ ]

pub pointer_access : (ty : tree.Ty) → IsPointer ty → access_of_type ty ≡ accesses.Pointer
pointer_access (tree.integer s) h = elim h [ ]
pointer_access tree.void h = refl
pointer_access (tree.atomic s) h = elim h [ ]
pointer_access tree.mutex h = refl
pointer_access (tree.pointer u) h = refl
pointer_access (tree.array u n) h = refl
pointer_access (tree.structure n) h = refl

pub pointer_scalar : (ty : tree.Ty) → IsPointer ty → IsScalar ty
pointer_scalar (tree.integer s) h = elim h [ ]
pointer_scalar tree.void h = elim h [ ]
pointer_scalar (tree.atomic s) h = elim h [ ]
pointer_scalar tree.mutex h = elim h [ ]
pointer_scalar (tree.pointer u) h = tt
pointer_scalar (tree.array u n) h = elim h [ ]
pointer_scalar (tree.structure n) h = elim h [ ]

pub integer_scalar : (ty : tree.Ty) → IsInteger ty → IsScalar ty
integer_scalar (tree.integer s) h = tt
integer_scalar tree.void h = elim h [ ]
integer_scalar (tree.atomic s) h = elim h [ ]
integer_scalar tree.mutex h = elim h [ ]
integer_scalar (tree.pointer u) h = elim h [ ]
integer_scalar (tree.array u n) h = elim h [ ]
integer_scalar (tree.structure n) h = elim h [ ]

pub sized_pointer : (structs : List tree.Layout) (ty : tree.Ty) → PointsToSized structs ty → IsPointer ty
sized_pointer structs (tree.integer s) h = elim h [ ]
sized_pointer structs tree.void h = elim h [ ]
sized_pointer structs (tree.atomic s) h = elim h [ ]
sized_pointer structs tree.mutex h = elim h [ ]
sized_pointer structs (tree.pointer u) h = tt
sized_pointer structs (tree.array u n) h = elim h [ ]
sized_pointer structs (tree.structure n) h = elim h [ ]

operands_integers : (op : Op) (a b : tree.Ty) → AreOperands op a b → IsInteger a × IsInteger b
operands_integers ops.Shl (tree.integer s) (tree.integer u) h = (tt, tt)
operands_integers ops.Shr (tree.integer s) (tree.integer u) h = (tt, tt)
operands_integers op (tree.integer s) (tree.integer u) h = (tt, tt)
operands_integers op a b h = elim h [ ]

same_types : (s t : IntType) → s ≡ t → same_type s t ≡ true
same_types s t e = subst (λ z. same_type s z ≡ true) e (type_itself s)

either_right : (a b : Bool) → b ≡ true → (a || b) ≡ true
either_right true b e = refl
either_right false b e = e

-- operands of which both have one type, and those of a shift
pub one_type : (op : Op) (s t : IntType) → s ≡ t → takes op s s t ≡ true
one_type op s t e = and_from _ _ (type_itself s) (either_right (is_shift op) (same_type s t) (same_types s t e))

shift_types : (op : Op) (s t : IntType) → is_shift op ≡ true → takes op s s t ≡ true
shift_types op s t e = and_from _ _ (type_itself s) (ap (λ z. z || same_type s t) e)

operands_taken : (op : Op) (s t : IntType) → AreOperands op (tree.integer s) (tree.integer t) → takes op s s t ≡ true
operands_taken ops.Shl s t h = shift_types ops.Shl s t refl
operands_taken ops.Shr s t h = shift_types ops.Shr s t refl
operands_taken ops.Add s t h = one_type ops.Add s t h.1
operands_taken ops.Sub s t h = one_type ops.Sub s t h.1
operands_taken ops.Mul s t h = one_type ops.Mul s t h.1
operands_taken ops.Div s t h = one_type ops.Div s t h.1
operands_taken ops.Rem s t h = one_type ops.Rem s t h.1
operands_taken ops.And s t h = one_type ops.And s t h.1
operands_taken ops.Or s t h = one_type ops.Or s t h.1
operands_taken ops.Xor s t h = one_type ops.Xor s t h.1
operands_taken ops.Eq s t h = one_type ops.Eq s t h.1
operands_taken ops.Ne s t h = one_type ops.Ne s t h.1
operands_taken ops.Lt s t h = one_type ops.Lt s t h.1
operands_taken ops.Le s t h = one_type ops.Le s t h.1
operands_taken ops.Gt s t h = one_type ops.Gt s t h.1
operands_taken ops.Ge s t h = one_type ops.Ge s t h.1

-- the types in which a op= b is computed are those that the operation takes
pub computed_taken : (op : Op) (s t : IntType) → takes op (operand_types op s t).0 (operand_types op s t).0 (operand_types op s t).1 ≡ true
computed_taken ops.Shl s t = shift_types ops.Shl (promoted_type s) (promoted_type t) refl
computed_taken ops.Shr s t = shift_types ops.Shr (promoted_type s) (promoted_type t) refl
computed_taken ops.Add s t = one_type ops.Add (common_type s t) (common_type s t) refl
computed_taken ops.Sub s t = one_type ops.Sub (common_type s t) (common_type s t) refl
computed_taken ops.Mul s t = one_type ops.Mul (common_type s t) (common_type s t) refl
computed_taken ops.Div s t = one_type ops.Div (common_type s t) (common_type s t) refl
computed_taken ops.Rem s t = one_type ops.Rem (common_type s t) (common_type s t) refl
computed_taken ops.And s t = one_type ops.And (common_type s t) (common_type s t) refl
computed_taken ops.Or s t = one_type ops.Or (common_type s t) (common_type s t) refl
computed_taken ops.Xor s t = one_type ops.Xor (common_type s t) (common_type s t) refl
computed_taken ops.Eq s t = one_type ops.Eq (common_type s t) (common_type s t) refl
computed_taken ops.Ne s t = one_type ops.Ne (common_type s t) (common_type s t) refl
computed_taken ops.Lt s t = one_type ops.Lt (common_type s t) (common_type s t) refl
computed_taken ops.Le s t = one_type ops.Le (common_type s t) (common_type s t) refl
computed_taken ops.Gt s t = one_type ops.Gt (common_type s t) (common_type s t) refl
computed_taken ops.Ge s t = one_type ops.Ge (common_type s t) (common_type s t) refl

numbers_fit : (op : Op) (a b ty : tree.Ty) (x y : IntType) → a ≡ tree.integer x → b ≡ tree.integer y → AreOperands op a b → ty ≡ type_of_result op a → BinaryFits (on_numbers op) (access_of_type a) (access_of_type b) (access_of_type ty)
numbers_fit op a b ty x y ea eb h et =
    subst (λ z. BinaryFits (on_numbers op) (access_of_type a) (access_of_type b) (access_of_type z)) (sym et)
    (subst (λ z. BinaryFits (on_numbers op) (access_of_type z) (access_of_type b) (access_of_type (type_of_result op z))) (sym ea)
    (subst (λ z. BinaryFits (on_numbers op) (accesses.Number x) (access_of_type z) (access_of_type (type_of_result op (tree.integer x)))) (sym eb)
    (numbers op x y (operands_taken op x y (subst (λ z. AreOperands op z (tree.integer y)) ea (subst (λ z. AreOperands op a z) eb h))))))

pub operands_fit : (op : Op) (a b ty : tree.Ty) → AreOperands op a b → ty ≡ type_of_result op a → BinaryFits (on_numbers op) (access_of_type a) (access_of_type b) (access_of_type ty)
operands_fit op a b ty h e =
    let i = operands_integers op a b h in
    let x = number_access a i.0 in
    let y = number_access b i.1 in
    numbers_fit op a b ty x.0 y.0 x.1 y.1 h e

pub operand_scalars : (op : Op) (a b : tree.Ty) → AreOperands op a b → IsScalar a × IsScalar b
operand_scalars op a b h = let i = operands_integers op a b h in (integer_scalar a i.0, integer_scalar b i.1)

pub moved_scalars : (structs : List tree.Layout) (a b ty : tree.Ty) → MovesPointer structs a b ty → IsScalar a × IsScalar b
moved_scalars structs (tree.pointer u) (tree.integer s) ty h = (tt, tt)
moved_scalars structs (tree.integer s) (tree.pointer u) ty h = (tt, tt)
moved_scalars structs a b ty h = elim h [ ]

pub moved_pointer : (structs : List tree.Layout) (a b ty : tree.Ty) → MovesPointer structs a b ty → IsPointer ty
moved_pointer structs (tree.pointer u) (tree.integer s) ty h = subst IsPointer (sym h.1) tt
moved_pointer structs (tree.integer s) (tree.pointer u) ty h = subst IsPointer (sym h.1) tt
moved_pointer structs a b ty h = elim h [ ]

pub sum_fits : (structs : List tree.Layout) (size : ℕ) (a b ty : tree.Ty) → MovesPointer structs a b ty → BinaryFits (forward size) (access_of_type a) (access_of_type b) (access_of_type ty)
sum_fits structs size (tree.pointer u) (tree.integer s) ty h = subst (λ z. BinaryFits (forward size) accesses.Pointer (accesses.Number s) (access_of_type z)) (sym h.1) (forwards size s)
sum_fits structs size (tree.integer s) (tree.pointer u) ty h = subst (λ z. BinaryFits (forward size) (accesses.Number s) accesses.Pointer (access_of_type z)) (sym h.1) (forwards_from size s)
sum_fits structs size a b ty h = elim h [ ]

pub sum_calculated : (structs : List tree.Layout) (size : ℕ) (a b ty : tree.Ty) → MovesPointer structs a b ty → (t u : ℕ) → calc_of (forward size) (access_of_type a) t u ≡ sum_calc (is_pointer a) t u size
sum_calculated structs size (tree.pointer v) (tree.integer s) ty h t u = refl
sum_calculated structs size (tree.integer s) (tree.pointer v) ty h t u = refl
sum_calculated structs size a b ty h t u = elim h [ ]

pub numbers_calculated : (op : Op) (a : tree.Ty) (t u : ℕ) → calc_of (on_numbers op) (access_of_type a) t u ≡ ir.apply op (number_type a) t u
numbers_calculated op (tree.integer s) t u = refl
numbers_calculated op tree.void t u = refl
numbers_calculated op (tree.atomic s) t u = refl
numbers_calculated op tree.mutex t u = refl
numbers_calculated op (tree.pointer v) t u = refl
numbers_calculated op (tree.array v n) t u = refl
numbers_calculated op (tree.structure n) t u = refl

pub backward_fits : (size : ℕ) (a b ty : tree.Ty) → IsPointer a → IsInteger b → ty ≡ a → BinaryFits (backward size) (access_of_type a) (access_of_type b) (access_of_type ty)
backward_fits size (tree.pointer u) (tree.integer s) ty h k e = subst (λ z. BinaryFits (backward size) accesses.Pointer (accesses.Number s) (access_of_type z)) (sym e) (backwards size s)
backward_fits size (tree.pointer u) b ty h k e = elim k [ ]
backward_fits size a b ty h k e = elim h [ ]

pub distance_fits : (size : ℕ) (a b ty : tree.Ty) → IsPointer a → IsPointer b → ty ≡ tree.integer long → BinaryFits (distance size) (access_of_type a) (access_of_type b) (access_of_type ty)
distance_fits size (tree.pointer u) (tree.pointer v) ty h k e = subst (λ z. BinaryFits (distance size) accesses.Pointer accesses.Pointer (access_of_type z)) (sym e) (distances size)
distance_fits size (tree.pointer u) b ty h k e = elim k [ ]
distance_fits size a b ty h k e = elim h [ ]

pub compare_fits : (op : Op) (a b ty : tree.Ty) → IsPointer a → IsPointer b → ty ≡ tree.integer int → BinaryFits (on_pointers op) (access_of_type a) (access_of_type b) (access_of_type ty)
compare_fits op (tree.pointer u) (tree.pointer v) ty h k e = subst (λ z. BinaryFits (on_pointers op) accesses.Pointer accesses.Pointer (access_of_type z)) (sym e) (comparisons op)
compare_fits op (tree.pointer u) b ty h k e = elim k [ ]
compare_fits op a b ty h k e = elim h [ ]

pub convert_fits : (a b : tree.Ty) → Converts a b → HasValues b → ConvertFits a b
convert_fits (tree.integer x) (tree.integer y) h s = to_number x y
convert_fits (tree.atomic x) (tree.integer y) h s = subst (λ (z : IntType). ConvertFits (tree.atomic x) (tree.integer z)) h (from_atomic x)
convert_fits (tree.pointer x) (tree.pointer y) h s = to_pointer x y
convert_fits a tree.void h s = elim s [ ]
convert_fits a b h s = elim h [ ]

pub convert_values : (a b : tree.Ty) → ConvertFits a b → HasValues a
convert_values _ _ (to_number x y) = tt
convert_values _ _ (from_atomic x) = tt
convert_values _ _ (to_pointer x y) = tt

pub scalar_values : (ty : tree.Ty) → IsScalar ty → HasValues ty
scalar_values (tree.integer s) h = tt
scalar_values (tree.pointer u) h = tt
scalar_values ty h = elim h [ ]

-- a value that fits where one of another type is wanted is of the same kind
pub fits_access : (a b : tree.Ty) → Fits a b → access_of_type a ≡ access_of_type b
fits_access (tree.integer x) (tree.integer y) h = ap accesses.Number h
fits_access (tree.integer x) (tree.atomic y) h = ap accesses.Number h
fits_access (tree.pointer x) (tree.pointer y) h = refl
fits_access (tree.structure m) (tree.structure n) h = refl
fits_access a b h = elim h [ ]

pub fits_scalar : (a b : tree.Ty) → Fits a b → IsScalar b → IsScalar a
fits_scalar (tree.integer x) (tree.integer y) h s = tt
fits_scalar (tree.integer x) (tree.atomic y) h s = tt
fits_scalar (tree.pointer x) (tree.pointer y) h s = tt
fits_scalar (tree.structure m) (tree.structure n) h s = elim s [ ]
fits_scalar a b h s = elim h [ ]

-- an atomic number is updated by one of its type, and what isn't atomic is a number or a pointer
pub atomic_updated : (structs : List tree.Layout) (op : Op) (a b : tree.Ty) → CanUpdate structs op a b → is_atomic a ≡ true → (s : IntType) × (a ≡ tree.atomic s) × (b ≡ tree.integer s)
atomic_updated structs op (tree.integer x) (tree.integer y) h e = absurd cc
atomic_updated structs op (tree.atomic x) (tree.integer y) h e = (x, refl, ap tree.integer (sym h.1))
atomic_updated structs op (tree.pointer x) (tree.integer y) h e = absurd cc
atomic_updated structs op a b h e = elim h [ ]

pub plain_updated : (structs : List tree.Layout) (op : Op) (a b : tree.Ty) → CanUpdate structs op a b → is_atomic a ≡ false → IsScalar a
plain_updated structs op (tree.integer x) (tree.integer y) h e = tt
plain_updated structs op (tree.atomic x) (tree.integer y) h e = absurd cc
plain_updated structs op (tree.pointer x) (tree.integer y) h e = tt
plain_updated structs op a b h e = elim h [ ]

-- ---- arguments

printed_scalar : (bits : ℕ) (ty : tree.Ty) → HasBits bits ty → IsScalar ty
printed_scalar bits (tree.integer s) h = tt
printed_scalar bits ty h = elim h [ ]

pub printed_scalars : (pieces : List tree.Piece) (es : tree.Exprs) → ArePrinted pieces es → AreScalars es
printed_scalars [] tree.no_exprs h = tt
printed_scalars [] (tree.more_exprs e es) h = elim h [ ]
printed_scalars (tree.bytes all ∷ pieces) es h = printed_scalars pieces es h
printed_scalars (tree.signed bits ∷ pieces) tree.no_exprs h = elim h [ ]
printed_scalars (tree.unsigned bits ∷ pieces) tree.no_exprs h = elim h [ ]
printed_scalars (tree.hexadecimal bits ∷ pieces) tree.no_exprs h = elim h [ ]
printed_scalars (tree.character ∷ pieces) tree.no_exprs h = elim h [ ]
printed_scalars (tree.text ∷ pieces) tree.no_exprs h = elim h [ ]
printed_scalars (tree.signed bits ∷ pieces) (tree.more_exprs e es) h = (printed_scalar bits (tree.type_of e) h.0, printed_scalars pieces es h.1)
printed_scalars (tree.unsigned bits ∷ pieces) (tree.more_exprs e es) h = (printed_scalar bits (tree.type_of e) h.0, printed_scalars pieces es h.1)
printed_scalars (tree.hexadecimal bits ∷ pieces) (tree.more_exprs e es) h = (printed_scalar bits (tree.type_of e) h.0, printed_scalars pieces es h.1)
printed_scalars (tree.character ∷ pieces) (tree.more_exprs e es) h = (printed_scalar 32 (tree.type_of e) h.0, printed_scalars pieces es h.1)
printed_scalars (tree.text ∷ pieces) (tree.more_exprs e es) h = (pointer_scalar (tree.type_of e) h.0, printed_scalars pieces es h.1)

-- each of these types is a number's or a pointer's
abbrev pub AllScalar : List tree.Ty → Type 0
AllScalar [] = Unit {0}
AllScalar (t ∷ ts) = IsScalar t × AllScalar ts

pub argument_scalars : (ts : List tree.Ty) (es : tree.Exprs) → AllScalar ts → AreArguments ts es → AreScalars es
argument_scalars [] tree.no_exprs s h = tt
argument_scalars [] (tree.more_exprs e es) s h = elim h [ ]
argument_scalars (t ∷ ts) tree.no_exprs s h = elim h [ ]
argument_scalars (t ∷ ts) (tree.more_exprs e es) s h = (fits_scalar (tree.type_of e) t h.0 s.0, argument_scalars ts es s.1 h.1)

atomic_scalars : (others : IntType → List tree.Ty) (result : IntType → tree.Ty) (es : tree.Exprs) (ty : tree.Ty) → ((s : IntType) → AllScalar (others s)) → IsAtomicCall others result es ty → AreScalars es
atomic_scalars others result tree.no_exprs ty s h = elim h [ ]
atomic_scalars others result (tree.more_exprs e es) ty s h = (subst IsScalar (sym h.1) tt, argument_scalars (others h.0) es (s h.0) h.3)

pub lib_scalars : (c : InScope) (which : tree.Lib) (es : tree.Exprs) (ty : tree.Ty) → IsLibCall c which es ty → AreScalars es
lib_scalars c (tree.print pieces) es ty h = printed_scalars pieces es h.0
lib_scalars c tree.malloc es ty h = argument_scalars (tree.integer unsigned_long ∷ []) es (tt, tt) h.0
lib_scalars c tree.calloc es ty h = argument_scalars (tree.integer unsigned_long ∷ tree.integer unsigned_long ∷ []) es (tt, (tt, tt)) h.0
lib_scalars c tree.realloc es ty h = argument_scalars (tree.pointer tree.void ∷ tree.integer unsigned_long ∷ []) es (tt, (tt, tt)) h.0
lib_scalars c tree.free es ty h = argument_scalars (tree.pointer tree.void ∷ []) es (tt, tt) h.0
lib_scalars c tree.copy es ty h = argument_scalars (tree.pointer tree.void ∷ tree.pointer tree.void ∷ tree.integer unsigned_long ∷ []) es (tt, (tt, (tt, tt))) h.0
lib_scalars c (tree.start f) es ty h = argument_scalars (tree.pointer (tree.integer unsigned_long) ∷ tree.pointer tree.void ∷ []) es (tt, (tt, tt)) h.1
lib_scalars c tree.join es ty h = argument_scalars (tree.integer unsigned_long ∷ tree.pointer (tree.integer int) ∷ []) es (tt, (tt, tt)) h.0
lib_scalars c tree.mutex_init es ty h = argument_scalars (tree.pointer tree.mutex ∷ []) es (tt, tt) h.0
lib_scalars c tree.mutex_lock es ty h = argument_scalars (tree.pointer tree.mutex ∷ []) es (tt, tt) h.0
lib_scalars c tree.mutex_unlock es ty h = argument_scalars (tree.pointer tree.mutex ∷ []) es (tt, tt) h.0
lib_scalars c tree.mutex_destroy es ty h = argument_scalars (tree.pointer tree.mutex ∷ []) es (tt, tt) h.0
lib_scalars c tree.atomic_add es ty h = atomic_scalars (λ s. tree.integer s ∷ []) (λ s. tree.integer s) es ty (λ s. (tt, tt)) h
lib_scalars c tree.atomic_sub es ty h = atomic_scalars (λ s. tree.integer s ∷ []) (λ s. tree.integer s) es ty (λ s. (tt, tt)) h
lib_scalars c tree.atomic_swap es ty h = atomic_scalars (λ s. tree.integer s ∷ []) (λ s. tree.integer s) es ty (λ s. (tt, tt)) h
lib_scalars c tree.atomic_compare es ty h = atomic_scalars (λ s. tree.pointer (tree.integer s) ∷ tree.integer s ∷ []) (λ s. tree.integer int) es ty (λ s. (tt, (tt, tt))) h
lib_scalars c tree.atomic_store es ty h = atomic_scalars (λ s. tree.integer s ∷ []) (λ s. tree.void) es ty (λ s. (tt, tt)) h

-- ---- how pointers are reached

pub pointed_is : (fr : Frame) (e : tree.Expr) → (pointed fr e ≡ direct_if (register_of fr e)) ⊎ (register_of fr e ≡ None)
pointed_is fr (tree.at place ty (tree.pointer_add p n)) = inr refl
pointed_is fr (tree.at place ty node) = inl refl

join_at : (size : ℕ) (rch : Reach) (o : Option ℕ) → (rch ≡ direct_if o) ⊎ (o ≡ None) → Joins (forward size) accesses.Pointer rch (indexed_if size o)
join_at size rch None e = no_join (forward size) accesses.Pointer rch
join_at size rch (Some base) (inl e) = subst (λ r. Joins (forward size) accesses.Pointer r (indexed base size 0)) (sym e) (one_join base size)
join_at size rch (Some base) (inr e) = absurd cc

join_by : (size : ℕ) (rch : Reach) (o : Option ℕ) → (rch ≡ direct_if o) ⊎ (o ≡ None) → (ty : tree.Ty) → Joins (forward size) (access_of_type ty) rch (indexed_if size (if is_pointer ty then o else None))
join_by size rch o e (tree.pointer u) = join_at size rch o e
join_by size rch o e (tree.integer s) = no_join (forward size) (accesses.Number s) rch
join_by size rch o e tree.void = no_join (forward size) accesses.Pointer rch
join_by size rch o e (tree.atomic s) = no_join (forward size) (accesses.Number s) rch
join_by size rch o e tree.mutex = no_join (forward size) accesses.Pointer rch
join_by size rch o e (tree.array u n) = no_join (forward size) accesses.Pointer rch
join_by size rch o e (tree.structure n) = no_join (forward size) accesses.Pointer rch

-- a sum is reached by how its left operand is, where that is the pointer
pub sum_joins : (fr : Frame) (size : ℕ) (p : tree.Expr) → Joins (forward size) (access_of_type (tree.type_of p)) (pointed fr p) (indexed_if size (pointer_register fr p))
sum_joins fr size p = join_by size (pointed fr p) (register_of fr p) (pointed_is fr p) (tree.type_of p)

-- the same once the left operand is there
pub joins_now : (tm : ℕ → Held) (u : ℕ) {op : Binary} {lh rh how : Access} {lr rch : Reach} (v : Value) → Joins op lh lr rch → BinaryFits op lh rh how → HasKind lh v → Points tm lr u v → Joined tm u op v rch
joins_now tm u v (no_join op lh r) fits kind points = not_joined op v
joins_now tm u (values.Num n) (one_join base size) (forwards _ s) kind points = elim kind [ ]
joins_now tm u (values.Pointer p) (one_join base size) (forwards _ s) kind points =
    joined base size p points.below (points.holds ∙ ap pointer (unmoved points.start p points.moved))
