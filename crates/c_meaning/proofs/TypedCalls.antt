-- What a well formed call does: its arguments have the types of the parameters, and a library's call is an action whose value has the
-- call's type.
use Rattle.std.proofs.Common.{◌≡◌, ℕ, zero, suc, ◌*◌, ◌^◌, false, List, [], ◌∷◌, ◌++◌, map, Option, Some, None, refl, sym, subst, inr, nat_lt, unsigned_abs}
use Rattle.std.specs.Prelude.{slice_get}
use Rattle.std.specs.List.{AllByRecursion}
use Rattle.ak_words.specs.declared.int_type.IntType.{IntType}
use Rattle.ak_words.specs.declared.number.Num.{Num}
use Rattle.ak_words.specs.IntType.{int, unsigned_long}
use Rattle.block_store.specs.declared.values.Answer.{Answer}
use Rattle.block_store.specs.declared.values.Cell.{Cell}
use Rattle.block_store.specs.declared.values.Cell.TheVariants.{Unknown, Byte}
use Rattle.block_store.specs.declared.values.Change.{Change}
use Rattle.block_store.specs.declared.values.Change.TheVariants.{Add, Swap}
use Rattle.block_store.specs.declared.values.Ptr.{Ptr}
use Rattle.block_store.specs.declared.values.Value.{Value}
use Rattle.block_store.specs.declared.values.Value.TheVariants as values
use Rattle.block_store.specs.Actions as actions
use Rattle.block_store.specs.Actions.{World, SharedAction, Done, acted}
use Rattle.block_store.specs.Blocks.{stored, freed}
use Rattle.block_store.specs.Mutexes.{locked, unlocked, destroyed}
use Rattle.c_tree.specs.Typed as tree
use Rattle.c_tree.specs.TypedForm.{IsScalar, Fits, IsNth, HasBits, ArePrinted, CanStart, InScope, AreArguments, IsAtomicCall, IsLibCall, IsTyped, AreTyped, Signature, signature_of, context_of, IsFunc, IsWellFormed}
use Rattle.c_tree.specs.TypedPrinting.{parts}
use Rattle.c_meaning.specs.Values.{opposite_of}
use Rattle.c_meaning.specs.Control.{Callee, function, library}
use Rattle.c_meaning.specs.Library.{numbers_of, pointers_of, free_mutex, action_of, value_of_call}
use Rattle.c_meaning.specs.Kinds.{HasType, HasTypeIf, IsCalled, StandBefore, CanBegin, IsTypedWorld}
use Rattle.c_meaning.proofs.TypedValues.{fits_type, pointer_scalar}
use Rattle.c_meaning.proofs.TypedLocals.{at_number, ArgumentsHold, arguments_hold, params_scalar}
use Rattle.c_meaning.proofs.TypedActions.{DoneWith, acted_done, IsNoValue, changes_done, waits_done, passes_done, done_if, store_done, copy_done, realloc_done, change_done, compare_done, starts_done, joined_done, prints_done}

-- ---- arguments

-- each is a number or a pointer
abbrev pub AreScalar : tree.Exprs → Type 0
AreScalar tree.no_exprs = Unit {0}
AreScalar (tree.more_exprs e rest) = IsScalar (tree.type_of e) × AreScalar rest

pub fits_scalar : (s t : tree.Ty) → Fits s t → IsScalar t → IsScalar s
fits_scalar (tree.integer s) (tree.integer t) h i = tt
fits_scalar (tree.integer s) (tree.atomic t) h i = tt
fits_scalar (tree.pointer s) (tree.pointer t) h i = tt
fits_scalar (tree.structure m) (tree.structure n) h i = elim i [ ]
fits_scalar s t h i = elim h [ ]

bits_scalar : (bits : ℕ) (ty : tree.Ty) → HasBits bits ty → IsScalar ty
bits_scalar bits (tree.integer t) h = tt
bits_scalar bits ty h = elim h [ ]

printed_scalar : (pieces : List tree.Piece) (all : tree.Exprs) → ArePrinted pieces all → AreScalar all
printed_scalar [] tree.no_exprs h = tt
printed_scalar [] (tree.more_exprs e all) h = elim h [ ]
printed_scalar (tree.bytes bs ∷ pieces) all h = printed_scalar pieces all h
printed_scalar (tree.signed bits ∷ pieces) (tree.more_exprs e all) h = (bits_scalar bits (tree.type_of e) h.0, printed_scalar pieces all h.1)
printed_scalar (tree.unsigned bits ∷ pieces) (tree.more_exprs e all) h = (bits_scalar bits (tree.type_of e) h.0, printed_scalar pieces all h.1)
printed_scalar (tree.hexadecimal bits ∷ pieces) (tree.more_exprs e all) h = (bits_scalar bits (tree.type_of e) h.0, printed_scalar pieces all h.1)
printed_scalar (tree.character ∷ pieces) (tree.more_exprs e all) h = (bits_scalar 32 (tree.type_of e) h.0, printed_scalar pieces all h.1)
printed_scalar (tree.text ∷ pieces) (tree.more_exprs e all) h = (pointer_scalar (tree.type_of e) h.0, printed_scalar pieces all h.1)
printed_scalar (piece ∷ pieces) tree.no_exprs h = elim h [ ]

arguments_scalar : (ts : List tree.Ty) (all : tree.Exprs) → AllByRecursion IsScalar ts → AreArguments ts all → AreScalar all
arguments_scalar [] tree.no_exprs s h = tt
arguments_scalar [] (tree.more_exprs e all) s h = elim h [ ]
arguments_scalar (t ∷ ts) tree.no_exprs s h = elim h [ ]
arguments_scalar (t ∷ ts) (tree.more_exprs e all) s h = (fits_scalar (tree.type_of e) t h.0 s.0, arguments_scalar ts all s.1 h.1)

atomic_scalar : (others : IntType → List tree.Ty) (result : IntType → tree.Ty) (all : tree.Exprs) (ty : tree.Ty) → ((t : IntType) → AllByRecursion IsScalar (others t)) → IsAtomicCall others result all ty → AreScalar all
atomic_scalar others result tree.no_exprs ty s h = elim h [ ]
atomic_scalar others result (tree.more_exprs e rest) ty s h = (subst IsScalar (sym h.1) tt, arguments_scalar (others h.0) rest (s h.0) h.3)

lib_scalar : (c : InScope) (which : tree.Lib) (all : tree.Exprs) (ty : tree.Ty) → IsLibCall c which all ty → AreScalar all
lib_scalar c (tree.print pieces) all ty h = printed_scalar pieces all h.0
lib_scalar c tree.malloc all ty h = arguments_scalar (tree.integer unsigned_long ∷ []) all (tt, tt) h.0
lib_scalar c tree.calloc all ty h = arguments_scalar (tree.integer unsigned_long ∷ tree.integer unsigned_long ∷ []) all (tt, (tt, tt)) h.0
lib_scalar c tree.realloc all ty h = arguments_scalar (tree.pointer tree.void ∷ tree.integer unsigned_long ∷ []) all (tt, (tt, tt)) h.0
lib_scalar c tree.free all ty h = arguments_scalar (tree.pointer tree.void ∷ []) all (tt, tt) h.0
lib_scalar c tree.copy all ty h = arguments_scalar (tree.pointer tree.void ∷ tree.pointer tree.void ∷ tree.integer unsigned_long ∷ []) all (tt, (tt, (tt, tt))) h.0
lib_scalar c (tree.start f) all ty h = arguments_scalar (tree.pointer (tree.integer unsigned_long) ∷ tree.pointer tree.void ∷ []) all (tt, (tt, tt)) h.1
lib_scalar c tree.join all ty h = arguments_scalar (tree.integer unsigned_long ∷ tree.pointer (tree.integer int) ∷ []) all (tt, (tt, tt)) h.0
lib_scalar c tree.mutex_init all ty h = arguments_scalar (tree.pointer tree.mutex ∷ []) all (tt, tt) h.0
lib_scalar c tree.mutex_lock all ty h = arguments_scalar (tree.pointer tree.mutex ∷ []) all (tt, tt) h.0
lib_scalar c tree.mutex_unlock all ty h = arguments_scalar (tree.pointer tree.mutex ∷ []) all (tt, tt) h.0
lib_scalar c tree.mutex_destroy all ty h = arguments_scalar (tree.pointer tree.mutex ∷ []) all (tt, tt) h.0
lib_scalar c tree.atomic_add all ty h = atomic_scalar (λ s. tree.integer s ∷ []) (λ s. tree.integer s) all ty (λ t. (tt, tt)) h
lib_scalar c tree.atomic_sub all ty h = atomic_scalar (λ s. tree.integer s ∷ []) (λ s. tree.integer s) all ty (λ t. (tt, tt)) h
lib_scalar c tree.atomic_swap all ty h = atomic_scalar (λ s. tree.integer s ∷ []) (λ s. tree.integer s) all ty (λ t. (tt, tt)) h
lib_scalar c tree.atomic_compare all ty h = atomic_scalar (λ s. tree.pointer (tree.integer s) ∷ tree.integer s ∷ []) (λ s. tree.integer int) all ty (λ t. (tt, (tt, tt))) h
lib_scalar c tree.atomic_store all ty h = atomic_scalar (λ s. tree.integer s ∷ []) (λ s. tree.void) all ty (λ t. (tt, tt)) h

-- ---- functions

-- what stands at a number of a list that was made of another one
pub nth_of : {A B : Type 0} (v : A → B) (xs : List A) (n : ℕ) (y : B) → slice_get (map v xs) n ≡ Some y → (x : A) × (slice_get xs n ≡ Some x) × (v x ≡ y)
nth_of v [] n y e = absurd cc
nth_of v (x ∷ xs) zero y e = (x, refl, cc)
nth_of v (x ∷ xs) (suc n) y e = nth_of v xs n y e

-- a function that is called: it's there, its parameters and its result are those of the call
pub record IsCalledFunc (t : tree.Typed) (number : ℕ) (all : tree.Exprs) (ty : tree.Ty) : Type 0 where
  pub func : tree.Func
  pub found : slice_get t.funcs number ≡ Some func
  pub well : IsFunc t func
  pub arguments : AreArguments (signature_of func).params all
  pub result : ty ≡ func.result

abbrev SignatureIs : tree.Exprs → tree.Ty → Signature → Type 0
SignatureIs all ty s = AreArguments s.params all × (ty ≡ s.result)

pub called_func : (t : tree.Typed) (number : ℕ) (all : tree.Exprs) (ty : tree.Ty) → IsWellFormed t → IsNth (map signature_of t.funcs) number (SignatureIs all ty) → IsCalledFunc t number all ty
called_func t number all ty w h =
    let f = nth_of signature_of t.funcs number h.0 h.1 in
    let s : SignatureIs all ty (signature_of f.0) = subst (SignatureIs all ty) (sym f.2) h.2 in
    record { func = f.0; found = f.1; well = at_number (IsFunc t) t.funcs number f.0 w.funcs f.1; arguments = s.0; result = s.1 }

-- the arguments of a well formed call are numbers and pointers
pub called_scalar : (t : tree.Typed) (g : tree.Func) (callee : Callee) (all : tree.Exprs) (ty : tree.Ty) → IsWellFormed t → IsCalled (context_of t g) callee all ty → AreScalar all
called_scalar t g (function number) all ty w h =
    let f = called_func t number all ty w h.1 in
    arguments_scalar (signature_of f.func).params all (params_scalar t.structs f.func.params f.func.locals f.well.locals f.well.in_registers) f.arguments
called_scalar t g (library which) all ty w h = lib_scalar (context_of t g) which all ty h.1

pub called_typed : (c : InScope) (callee : Callee) (all : tree.Exprs) (ty : tree.Ty) → IsCalled c callee all ty → AreTyped c all
called_typed c (function number) all ty h = h.0
called_typed c (library which) all ty h = h.0

pub called_hold : (t : tree.Typed) (number : ℕ) (all : tree.Exprs) (ty : tree.Ty) (f : IsCalledFunc t number all ty) (args : List Value) → StandBefore args tree.no_exprs all → ArgumentsHold args f.func.locals
called_hold t number all ty f args h = arguments_hold f.func.params f.func.locals all args f.well.in_registers f.arguments h

-- ---- arguments in a row

pub first_typed : (c : InScope) (before : List Value) (e : tree.Expr) (rest all : tree.Exprs) → StandBefore before (tree.more_exprs e rest) all → AreTyped c all → IsTyped c e
first_typed c [] e rest all h t = let u : AreTyped c (tree.more_exprs e rest) = subst (AreTyped c) (sym h) t in u.0
first_typed c (v ∷ before) e rest tree.no_exprs h t = elim h [ ]
first_typed c (v ∷ before) e rest (tree.more_exprs d all) h t = first_typed c before e rest all h.1 t.1

pub first_scalar : (before : List Value) (e : tree.Expr) (rest all : tree.Exprs) → StandBefore before (tree.more_exprs e rest) all → AreScalar all → IsScalar (tree.type_of e)
first_scalar [] e rest all h t = let u : AreScalar (tree.more_exprs e rest) = subst AreScalar (sym h) t in u.0
first_scalar (v ∷ before) e rest tree.no_exprs h t = elim h [ ]
first_scalar (v ∷ before) e rest (tree.more_exprs d all) h t = first_scalar before e rest all h.1 t.1

-- once its value is there, one argument fewer is left
pub leaves_fewer : (before : List Value) (v : Value) (e : tree.Expr) (rest all : tree.Exprs) → StandBefore before (tree.more_exprs e rest) all → HasType (tree.type_of e) v → StandBefore (before ++ v ∷ []) rest all
leaves_fewer [] v e rest all h t = subst (StandBefore (v ∷ []) rest) h (t, refl)
leaves_fewer (u ∷ before) v e rest tree.no_exprs h t = elim h [ ]
leaves_fewer (u ∷ before) v e rest (tree.more_exprs d all) h t = (h.0, leaves_fewer before v e rest all h.1 t)

-- ---- the library

-- values of these types
abbrev pub HasTypes : List tree.Ty → List Value → Type 0
HasTypes [] [] = Unit {0}
HasTypes (t ∷ ts) (v ∷ vs) = HasType t v × HasTypes ts vs
HasTypes ts vs = ⊥

pub argument_types : (ts : List tree.Ty) (all : tree.Exprs) (vs : List Value) → AreArguments ts all → StandBefore vs tree.no_exprs all → HasTypes ts vs
argument_types [] tree.no_exprs [] a h = tt
argument_types [] tree.no_exprs (v ∷ vs) a h = elim h [ ]
argument_types [] (tree.more_exprs e all) vs a h = elim a [ ]
argument_types (t ∷ ts) tree.no_exprs vs a h = elim a [ ]
argument_types (t ∷ ts) (tree.more_exprs e all) [] a h = absurd cc
argument_types (t ∷ ts) (tree.more_exprs e all) (v ∷ vs) a h = (fits_type (tree.type_of e) t v a.0 h.0, argument_types ts all vs a.1 h.1)

none_left : (P : List Value → Type 0) → P [] → (vs : List Value) → HasTypes [] vs → P vs
none_left P p [] h = p
none_left P p (v ∷ vs) h = elim h [ ]

number_first : (t : IntType) (ts : List tree.Ty) (P : List Value → Type 0) → ((n : Num) (vs : List Value) → HasTypes ts vs → P (values.Num n ∷ vs)) → (vs : List Value) → HasTypes (tree.integer t ∷ ts) vs → P vs
number_first t ts P p [] h = elim h [ ]
number_first t ts P p (values.Num n ∷ vs) h = p n vs h.1
number_first t ts P p (values.Pointer q ∷ vs) h = elim h.0 [ ]

pointer_first : (to : tree.Ty) (ts : List tree.Ty) (P : List Value → Type 0) → ((p : Ptr) (vs : List Value) → HasTypes ts vs → P (values.Pointer p ∷ vs)) → (vs : List Value) → HasTypes (tree.pointer to ∷ ts) vs → P vs
pointer_first to ts P p [] h = elim h [ ]
pointer_first to ts P p (values.Num n ∷ vs) h = elim h.0 [ ]
pointer_first to ts P p (values.Pointer q ∷ vs) h = p q vs h.1

one_pointer : (to : tree.Ty) (P : List Value → Type 0) → ((p : Ptr) → P (values.Pointer p ∷ [])) → (vs : List Value) → HasTypes (tree.pointer to ∷ []) vs → P vs
one_pointer to P p = pointer_first to [] P (λ q. none_left (λ vs. P (values.Pointer q ∷ vs)) (p q))

done_also : (t : tree.Typed) (P Q : Option Value → Type 0) → ((v : Option Value) → P v → Q v) → (d : Done) → DoneWith t P d → DoneWith t Q d
done_also t P Q f (actions.went v w) h = (f v h.0, h.1)
done_also t P Q f actions.blocked h = tt
done_also t P Q f actions.unfit h = tt
done_also t P Q f (actions.broke rule) h = tt

no_value_typed : (ty : tree.Ty) (v : Option Value) → IsNoValue v → HasTypeIf ty v
no_value_typed ty v e = subst (HasTypeIf ty) (sym e) tt

-- a library's call is an action, whose value has the call's type
abbrev pub LibDoes : tree.Typed → tree.Lib → List Value → tree.Ty → Option SharedAction → Type 0
LibDoes t which args ty None = ⊥
LibDoes t which args ty (Some action) = (w : World) (thread : ℕ) (answer : Answer) → IsTypedWorld t w → DoneWith t (λ v. HasTypeIf ty (value_of_call which args v)) (acted w thread answer action)

abbrev DoesOn : tree.Typed → tree.Lib → tree.Ty → List Value → Type 0
DoesOn t which ty args = LibDoes t which args ty (action_of which args)

print_does : (t : tree.Typed) (pieces : List tree.Piece) (args : List Value) → DoesOn t (tree.print pieces) (tree.integer int) args
print_does t pieces args w thread answer h =
    let all = parts actions.bytes actions.text pieces (numbers_of args) (pointers_of args) in
    acted_done t (HasTypeIf (tree.integer int)) w thread answer (actions.print all) (prints_done t w (actions.all_bytes w.blocks all) h) tt tt

allocation_done : (t : tree.Typed) (w : World) (thread : ℕ) (answer : Answer) (size : ℕ) (first : Cell) → IsTypedWorld t w → DoneWith t (HasTypeIf (tree.pointer tree.void)) (acted w thread answer (actions.allocate size first))
allocation_done t w thread answer size first h =
    acted_done t (HasTypeIf (tree.pointer tree.void)) w thread answer (actions.allocate size first) tt
    (done_if t (HasTypeIf (tree.pointer tree.void)) (nat_lt size (2 ^ 32)) _ actions.unfit (tt, h) tt) (tt, h)

allocation_does : (t : tree.Typed) (n : Num) → DoesOn t tree.malloc (tree.pointer tree.void) (values.Num n ∷ [])
allocation_does t n w thread answer h = allocation_done t w thread answer (unsigned_abs n.value) Unknown h

malloc_does : (t : tree.Typed) (args : List Value) → HasTypes (tree.integer unsigned_long ∷ []) args → DoesOn t tree.malloc (tree.pointer tree.void) args
malloc_does t = number_first unsigned_long [] (DoesOn t tree.malloc (tree.pointer tree.void)) (λ n. none_left (λ vs. DoesOn t tree.malloc (tree.pointer tree.void) (values.Num n ∷ vs)) (allocation_does t n))

zeroed_does : (t : tree.Typed) (n m : Num) → DoesOn t tree.calloc (tree.pointer tree.void) (values.Num n ∷ values.Num m ∷ [])
zeroed_does t n m w thread answer h = allocation_done t w thread answer (unsigned_abs n.value * unsigned_abs m.value) (Byte 0) h

calloc_does : (t : tree.Typed) (args : List Value) → HasTypes (tree.integer unsigned_long ∷ tree.integer unsigned_long ∷ []) args → DoesOn t tree.calloc (tree.pointer tree.void) args
calloc_does t =
    let P : List Value → Type 0 = DoesOn t tree.calloc (tree.pointer tree.void) in
    number_first unsigned_long (tree.integer unsigned_long ∷ []) P
    (λ n. number_first unsigned_long [] (λ vs. P (values.Num n ∷ vs)) (λ m. none_left (λ vs. P (values.Num n ∷ values.Num m ∷ vs)) (zeroed_does t n m)))

renewing_does : (t : tree.Typed) (p : Ptr) (n : Num) → DoesOn t tree.realloc (tree.pointer tree.void) (values.Pointer p ∷ values.Num n ∷ [])
renewing_does t p n w thread answer h = realloc_done t tree.void w thread answer p (unsigned_abs n.value) h

realloc_does : (t : tree.Typed) (args : List Value) → HasTypes (tree.pointer tree.void ∷ tree.integer unsigned_long ∷ []) args → DoesOn t tree.realloc (tree.pointer tree.void) args
realloc_does t =
    let P : List Value → Type 0 = DoesOn t tree.realloc (tree.pointer tree.void) in
    pointer_first tree.void (tree.integer unsigned_long ∷ []) P
    (λ p. number_first unsigned_long [] (λ vs. P (values.Pointer p ∷ vs)) (λ n. none_left (λ vs. P (values.Pointer p ∷ values.Num n ∷ vs)) (renewing_does t p n)))

freeing_does : (t : tree.Typed) (p : Ptr) → DoesOn t tree.free tree.void (values.Pointer p ∷ [])
freeing_does t p w thread answer h =
    done_also t IsNoValue (HasTypeIf tree.void) (no_value_typed tree.void) (acted w thread answer (actions.free p))
    (acted_done t IsNoValue w thread answer (actions.free p) (changes_done t w (freed w.blocks p) h) tt tt)

copying_does : (t : tree.Typed) (to from : Ptr) (n : Num) → DoesOn t tree.copy (tree.pointer tree.void) (values.Pointer to ∷ values.Pointer from ∷ values.Num n ∷ [])
copying_does t to from n w thread answer h =
    done_also t IsNoValue (λ v. Unit {0}) (λ v e. tt) (acted w thread answer (actions.copy to from (unsigned_abs n.value) 1 false)) (copy_done t w thread answer to from (unsigned_abs n.value) 1 false h)

copy_does : (t : tree.Typed) (args : List Value) → HasTypes (tree.pointer tree.void ∷ tree.pointer tree.void ∷ tree.integer unsigned_long ∷ []) args → DoesOn t tree.copy (tree.pointer tree.void) args
copy_does t =
    let P : List Value → Type 0 = DoesOn t tree.copy (tree.pointer tree.void) in
    pointer_first tree.void (tree.pointer tree.void ∷ tree.integer unsigned_long ∷ []) P
    (λ p. pointer_first tree.void (tree.integer unsigned_long ∷ []) (λ vs. P (values.Pointer p ∷ vs))
    (λ q. number_first unsigned_long [] (λ vs. P (values.Pointer p ∷ values.Pointer q ∷ vs))
    (λ n. none_left (λ vs. P (values.Pointer p ∷ values.Pointer q ∷ values.Num n ∷ vs)) (copying_does t p q n))))

starting_does : (t : tree.Typed) (f : ℕ) → CanBegin t f → (to argument : Ptr) → DoesOn t (tree.start f) (tree.integer int) (values.Pointer to ∷ values.Pointer argument ∷ [])
starting_does t f c to argument w thread answer h =
    acted_done t (HasTypeIf (tree.integer int)) w thread answer (actions.start to f argument) tt (starts_done t w f argument (stored w.blocks to (actions.next_number w)) c h) (refl, h)

start_does : (t : tree.Typed) (f : ℕ) → CanBegin t f → (args : List Value) → HasTypes (tree.pointer (tree.integer unsigned_long) ∷ tree.pointer tree.void ∷ []) args → DoesOn t (tree.start f) (tree.integer int) args
start_does t f c =
    let P : List Value → Type 0 = DoesOn t (tree.start f) (tree.integer int) in
    pointer_first (tree.integer unsigned_long) (tree.pointer tree.void ∷ []) P
    (λ p. one_pointer tree.void (λ vs. P (values.Pointer p ∷ vs)) (starting_does t f c p))

joining_does : (t : tree.Typed) (n : Num) (to : Ptr) → DoesOn t tree.join (tree.integer int) (values.Num n ∷ values.Pointer to ∷ [])
joining_does t n to w thread answer h =
    acted_done t (HasTypeIf (tree.integer int)) w thread answer (actions.join (unsigned_abs n.value) to) (joined_done t w thread (unsigned_abs n.value) to h) tt tt

join_does : (t : tree.Typed) (args : List Value) → HasTypes (tree.integer unsigned_long ∷ tree.pointer (tree.integer int) ∷ []) args → DoesOn t tree.join (tree.integer int) args
join_does t =
    let P : List Value → Type 0 = DoesOn t tree.join (tree.integer int) in
    number_first unsigned_long (tree.pointer (tree.integer int) ∷ []) P (λ n. one_pointer (tree.integer int) (λ vs. P (values.Num n ∷ vs)) (joining_does t n))

init_does : (t : tree.Typed) (p : Ptr) → DoesOn t tree.mutex_init (tree.integer int) (values.Pointer p ∷ [])
init_does t p w thread answer h = done_also t IsNoValue (λ v. int ≡ int) (λ v e. refl) (acted w thread answer (actions.store p free_mutex)) (store_done t w thread answer p free_mutex h)

lock_does : (t : tree.Typed) (p : Ptr) → DoesOn t tree.mutex_lock (tree.integer int) (values.Pointer p ∷ [])
lock_does t p w thread answer h =
    done_also t IsNoValue (λ v. int ≡ int) (λ v e. refl) (acted w thread answer (actions.lock p)) (acted_done t IsNoValue w thread answer (actions.lock p) (waits_done t w (locked w.blocks p thread) h) tt tt)

unlock_does : (t : tree.Typed) (p : Ptr) → DoesOn t tree.mutex_unlock (tree.integer int) (values.Pointer p ∷ [])
unlock_does t p w thread answer h =
    done_also t IsNoValue (λ v. int ≡ int) (λ v e. refl) (acted w thread answer (actions.unlock p)) (acted_done t IsNoValue w thread answer (actions.unlock p) (changes_done t w (unlocked w.blocks p thread) h) tt tt)

destroy_does : (t : tree.Typed) (p : Ptr) → DoesOn t tree.mutex_destroy tree.void (values.Pointer p ∷ [])
destroy_does t p w thread answer h =
    done_also t IsNoValue (HasTypeIf tree.void) (no_value_typed tree.void) (acted w thread answer (actions.destroy p))
    (acted_done t IsNoValue w thread answer (actions.destroy p) (passes_done t w (destroyed w.blocks p) h) tt tt)

-- a pointer to an atomic number, and a number of its type
one_changed : (ty : IntType) (P : List Value → Type 0) → ((p : Ptr) (n : Num) → n.ty ≡ ty → P (values.Pointer p ∷ values.Num n ∷ [])) → (vs : List Value) → HasTypes (tree.pointer (tree.atomic ty) ∷ tree.integer ty ∷ []) vs → P vs
one_changed ty P f [] h = elim h [ ]
one_changed ty P f (values.Num n ∷ vs) h = elim h.0 [ ]
one_changed ty P f (values.Pointer p ∷ []) h = elim h.1 [ ]
one_changed ty P f (values.Pointer p ∷ values.Pointer q ∷ vs) h = elim h.1.0 [ ]
one_changed ty P f (values.Pointer p ∷ values.Num n ∷ []) h = f p n h.1.0
one_changed ty P f (values.Pointer p ∷ values.Num n ∷ v ∷ vs) h = elim h.1.1 [ ]

changing_does : (t : tree.Typed) (ty : IntType) (how : Change) (p : Ptr) (n : Num) → n.ty ≡ ty → (w : World) (thread : ℕ) (answer : Answer) → IsTypedWorld t w
    → DoneWith t (HasTypeIf (tree.integer ty)) (acted w thread answer (actions.change p n.ty how n.value))
changing_does t ty how p n e w thread answer h =
    subst (λ (z : IntType). DoneWith t (HasTypeIf (tree.integer z)) (acted w thread answer (actions.change p n.ty how n.value))) e (change_done t n.ty w thread answer p how n.value h)

adding_does : (t : tree.Typed) (ty : IntType) (p : Ptr) (n : Num) → n.ty ≡ ty → DoesOn t tree.atomic_add (tree.integer ty) (values.Pointer p ∷ values.Num n ∷ [])
adding_does t ty p n e w thread answer h = changing_does t ty Add p n e w thread answer h

swapping_does : (t : tree.Typed) (ty : IntType) (p : Ptr) (n : Num) → n.ty ≡ ty → DoesOn t tree.atomic_swap (tree.integer ty) (values.Pointer p ∷ values.Num n ∷ [])
swapping_does t ty p n e w thread answer h = changing_does t ty Swap p n e w thread answer h

taking_does : (t : tree.Typed) (ty : IntType) (p : Ptr) (n : Num) → n.ty ≡ ty → DoesOn t tree.atomic_sub (tree.integer ty) (values.Pointer p ∷ values.Num n ∷ [])
taking_does t ty p n e w thread answer h = changing_does t ty Add p (opposite_of n) e w thread answer h

storing_does : (t : tree.Typed) (ty : IntType) (p : Ptr) (n : Num) → n.ty ≡ ty → DoesOn t tree.atomic_store tree.void (values.Pointer p ∷ values.Num n ∷ [])
storing_does t ty p n e w thread answer h =
    done_also t IsNoValue (HasTypeIf tree.void) (no_value_typed tree.void) (acted w thread answer (actions.store p (values.Num n))) (store_done t w thread answer p (values.Num n) h)

comparing_does : (t : tree.Typed) (p q : Ptr) (n : Num) → DoesOn t tree.atomic_compare (tree.integer int) (values.Pointer p ∷ values.Pointer q ∷ values.Num n ∷ [])
comparing_does t p q n w thread answer h = compare_done t n.ty w thread answer p q n.value h

compare_does : (t : tree.Typed) (ty : IntType) (args : List Value) → HasTypes (tree.pointer (tree.atomic ty) ∷ tree.pointer (tree.integer ty) ∷ tree.integer ty ∷ []) args → DoesOn t tree.atomic_compare (tree.integer int) args
compare_does t ty =
    let P : List Value → Type 0 = DoesOn t tree.atomic_compare (tree.integer int) in
    pointer_first (tree.atomic ty) (tree.pointer (tree.integer ty) ∷ tree.integer ty ∷ []) P
    (λ p. pointer_first (tree.integer ty) (tree.integer ty ∷ []) (λ vs. P (values.Pointer p ∷ vs))
    (λ q. number_first ty [] (λ vs. P (values.Pointer p ∷ values.Pointer q ∷ vs))
    (λ n. none_left (λ vs. P (values.Pointer p ∷ values.Pointer q ∷ values.Num n ∷ vs)) (comparing_does t p q n))))

-- the arguments of a call of an atomic number, and the call's type
pub record OfAtomic (others : IntType → List tree.Ty) (result : IntType → tree.Ty) (args : List Value) (ty : tree.Ty) : Type 0 where
  pub number : IntType
  pub types : HasTypes (tree.pointer (tree.atomic number) ∷ others number) args
  pub gives : ty ≡ result number

of_atomic : (others : IntType → List tree.Ty) (result : IntType → tree.Ty) (all : tree.Exprs) (ty : tree.Ty) (args : List Value) → IsAtomicCall others result all ty → StandBefore args tree.no_exprs all → OfAtomic others result args ty
of_atomic others result tree.no_exprs ty args h l = elim h [ ]
of_atomic others result (tree.more_exprs e rest) ty [] h l = absurd cc
of_atomic others result (tree.more_exprs e rest) ty (v ∷ vs) h l =
    record { number = h.0; types = (subst (λ (z : tree.Ty). HasType z v) h.1 l.0, argument_types (others h.0) rest vs h.3 l.1); gives = h.4 }

may_begin : (t : tree.Typed) (f : ℕ) → IsNth (map signature_of t.funcs) f CanStart → CanBegin t f
may_begin t f h = let g = nth_of signature_of t.funcs f h.0 h.1 in (g.0, g.1, inr (subst CanStart (sym g.2) h.2))

of_type : (t : tree.Typed) (which : tree.Lib) (args : List Value) (s ty : tree.Ty) → ty ≡ s → DoesOn t which s args → DoesOn t which ty args
of_type t which args s ty e h = let P : tree.Ty → Type 0 = λ z. DoesOn t which z args in subst P (sym e) h

-- a well formed call of the library
pub lib_does : (t : tree.Typed) (g : tree.Func) (which : tree.Lib) (all : tree.Exprs) (ty : tree.Ty) (args : List Value) → IsLibCall (context_of t g) which all ty → StandBefore args tree.no_exprs all
    → LibDoes t which args ty (action_of which args)
lib_does t g (tree.print pieces) all ty args h l = of_type t (tree.print pieces) args (tree.integer int) ty h.1 (print_does t pieces args)
lib_does t g tree.malloc all ty args h l = of_type t tree.malloc args (tree.pointer tree.void) ty h.1 (malloc_does t args (argument_types (tree.integer unsigned_long ∷ []) all args h.0 l))
lib_does t g tree.calloc all ty args h l =
    of_type t tree.calloc args (tree.pointer tree.void) ty h.1 (calloc_does t args (argument_types (tree.integer unsigned_long ∷ tree.integer unsigned_long ∷ []) all args h.0 l))
lib_does t g tree.realloc all ty args h l =
    of_type t tree.realloc args (tree.pointer tree.void) ty h.1 (realloc_does t args (argument_types (tree.pointer tree.void ∷ tree.integer unsigned_long ∷ []) all args h.0 l))
lib_does t g tree.free all ty args h l =
    of_type t tree.free args tree.void ty h.1 (one_pointer tree.void (DoesOn t tree.free tree.void) (freeing_does t) args (argument_types (tree.pointer tree.void ∷ []) all args h.0 l))
lib_does t g tree.copy all ty args h l =
    of_type t tree.copy args (tree.pointer tree.void) ty h.1 (copy_does t args (argument_types (tree.pointer tree.void ∷ tree.pointer tree.void ∷ tree.integer unsigned_long ∷ []) all args h.0 l))
lib_does t g (tree.start f) all ty args h l =
    of_type t (tree.start f) args (tree.integer int) ty h.2 (start_does t f (may_begin t f h.0) args (argument_types (tree.pointer (tree.integer unsigned_long) ∷ tree.pointer tree.void ∷ []) all args h.1 l))
lib_does t g tree.join all ty args h l =
    of_type t tree.join args (tree.integer int) ty h.1 (join_does t args (argument_types (tree.integer unsigned_long ∷ tree.pointer (tree.integer int) ∷ []) all args h.0 l))
lib_does t g tree.mutex_init all ty args h l =
    of_type t tree.mutex_init args (tree.integer int) ty h.1 (one_pointer tree.mutex (DoesOn t tree.mutex_init (tree.integer int)) (init_does t) args (argument_types (tree.pointer tree.mutex ∷ []) all args h.0 l))
lib_does t g tree.mutex_lock all ty args h l =
    of_type t tree.mutex_lock args (tree.integer int) ty h.1 (one_pointer tree.mutex (DoesOn t tree.mutex_lock (tree.integer int)) (lock_does t) args (argument_types (tree.pointer tree.mutex ∷ []) all args h.0 l))
lib_does t g tree.mutex_unlock all ty args h l =
    of_type t tree.mutex_unlock args (tree.integer int) ty h.1 (one_pointer tree.mutex (DoesOn t tree.mutex_unlock (tree.integer int)) (unlock_does t) args (argument_types (tree.pointer tree.mutex ∷ []) all args h.0 l))
lib_does t g tree.mutex_destroy all ty args h l =
    of_type t tree.mutex_destroy args tree.void ty h.1 (one_pointer tree.mutex (DoesOn t tree.mutex_destroy tree.void) (destroy_does t) args (argument_types (tree.pointer tree.mutex ∷ []) all args h.0 l))
lib_does t g tree.atomic_add all ty args h l =
    let a = of_atomic (λ s. tree.integer s ∷ []) (λ s. tree.integer s) all ty args h l in
    of_type t tree.atomic_add args (tree.integer a.number) ty a.gives (one_changed a.number (DoesOn t tree.atomic_add (tree.integer a.number)) (adding_does t a.number) args a.types)
lib_does t g tree.atomic_sub all ty args h l =
    let a = of_atomic (λ s. tree.integer s ∷ []) (λ s. tree.integer s) all ty args h l in
    of_type t tree.atomic_sub args (tree.integer a.number) ty a.gives (one_changed a.number (DoesOn t tree.atomic_sub (tree.integer a.number)) (taking_does t a.number) args a.types)
lib_does t g tree.atomic_swap all ty args h l =
    let a = of_atomic (λ s. tree.integer s ∷ []) (λ s. tree.integer s) all ty args h l in
    of_type t tree.atomic_swap args (tree.integer a.number) ty a.gives (one_changed a.number (DoesOn t tree.atomic_swap (tree.integer a.number)) (swapping_does t a.number) args a.types)
lib_does t g tree.atomic_compare all ty args h l =
    let a = of_atomic (λ s. tree.pointer (tree.integer s) ∷ tree.integer s ∷ []) (λ s. tree.integer int) all ty args h l in
    of_type t tree.atomic_compare args (tree.integer int) ty a.gives (compare_does t a.number args a.types)
lib_does t g tree.atomic_store all ty args h l =
    let a = of_atomic (λ s. tree.integer s ∷ []) (λ s. tree.void) all ty args h l in
    of_type t tree.atomic_store args tree.void ty a.gives (one_changed a.number (DoesOn t tree.atomic_store tree.void) (storing_does t a.number) args a.types)
