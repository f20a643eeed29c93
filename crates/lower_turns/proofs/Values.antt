-- What operators give, in the source and in the code, and of which kind it is.
use Rattle.std.proofs.Common.{◌≡◌, ℕ, ◌<◌, ◌^◌, ◌*ℤ◌, ◌+ℤ◌, ℤ, pos, negsuc, neg_ℤ, Bool, true, false, not, ◌&&◌, ◌==◌, nat_le, List, length, Option, Some, None, Result, Ok, Err, refl, sym, ap, subst, ◌∙◌, arith, if◌then◌else◌}
use Rattle.std.proofs.lemmas.Int.{ints}
use Rattle.std.proofs.lemmas.Bool.{eqb-true}
use Rattle.std.proofs.lemmas.Bool.Decides.{nat_tests}
use Rattle.std.specs.Option.{option_map, ok_or}
use Rattle.ak_words.specs.declared.int_type.IntType.{IntType}
use Rattle.ak_words.specs.declared.number.Num.{Num}
use Rattle.ak_words.specs.declared.operation.Op.{Op}
use Rattle.ak_words.specs.declared.operation.Op.TheVariants as ops
use Rattle.ak_words.specs.declared.rule.Rule.{Rule}
use Rattle.ak_words.specs.declared.rule.Rule.TheVariants.{C4, C7, C16}
use Rattle.ak_words.specs.IntType.{int, long, unsigned_long, IsInRange}
use Rattle.ak_words.specs.Num.{num}
use Rattle.ak_words.specs.Op.{outcome, result_of, result_type, rule_of}
use Rattle.ak_words.specs.Wrapped.{wrapped_value}
use Rattle.ak_words.proofs.Numbers.{num_is}
use Rattle.ak_words.proofs.Types.{int_type_is}
use Rattle.ak_words.proofs.Wraps.{wrapped_value-in_type}
use Rattle.block_store.specs.declared.values.Access.{Access}
use Rattle.block_store.specs.declared.values.Access.TheVariants as accesses
use Rattle.block_store.specs.declared.values.Cell.{Cell}
use Rattle.block_store.specs.declared.values.Ptr.{Ptr}
use Rattle.block_store.specs.declared.values.Ptr.TheVariants.{Null, To}
use Rattle.block_store.specs.declared.values.Value.{Value}
use Rattle.block_store.specs.declared.values.Value.TheVariants as values
use Rattle.block_store.specs.Blocks.{Block, Blocks, Range, live, loaded, read_at, spot_at, cells_at}
use Rattle.block_store.specs.Cells as cells
use Rattle.block_store.specs.Pointers.{within, moved_in, moved_null, moved, indexed, difference, compared}
use Rattle.c_tree.specs.TypedForm.{is_comparison}
use Rattle.c_meaning.specs.Values as meant
use Rattle.c_meaning.specs.Values.{of_two, value_of, pointer_of, int_result, long_result, int_of}
use Rattle.struct_ir.specs.Nodes.{Ir}
use Rattle.struct_ir.specs.meaning.Blocks.{value, number, pointer, truth, Fault, Own, or_broken, calculated, takes, if_taken, same_type}
use Rattle.struct_ir.specs.meaning.Threads.{further, fits, offset_in}
use Rattle.lower_turns.proofs.Relation.{HasKind, Further, Moved, BinaryFits, numbers, forwards, forwards_from, backwards, distances, comparisons, calc_of}

-- ---- operators on two values

number_held : (place : ℕ) (r : Result Num Rule) → or_broken place number r ≡ or_broken place value (value_of r)
number_held place (Ok n) = refl
number_held place (Err rule) = refl

pointer_held : (place : ℕ) (r : Result Ptr Rule) → or_broken place pointer r ≡ or_broken place value (pointer_of r)
pointer_held place (Ok p) = refl
pointer_held place (Err rule) = refl

long_held : (place : ℕ) (r : Result ℤ Rule) → or_broken place (λ z. number (num long z)) r ≡ or_broken place value (long_result r)
long_held place (Ok z) = refl
long_held place (Err rule) = refl

truth_held : (place : ℕ) (r : Result Bool Rule) → or_broken place truth r ≡ or_broken place value (int_result r)
truth_held place (Ok b) = refl
truth_held place (Err rule) = refl

pub taken_is : {A : Type 0} (b : Bool) (x : Result A Fault) → b ≡ true → if_taken b x ≡ x
taken_is true x e = refl
taken_is false x e = absurd cc

of_types : (op : Op) (x y s t : IntType) → s ≡ x → t ≡ y → takes op x x y ≡ true → takes op x s t ≡ true
of_types op x y s t es et e = subst (λ z. takes op x z t ≡ true) (sym es) (subst (λ z. takes op x x z ≡ true) (sym et) e)

pub binary_is : (p : Ir) (place : ℕ) (l : Own) (a b : ℕ) {op : meant.Binary} {lh rh how : Access} (v u : Value) → BinaryFits op lh rh how → HasKind lh v → HasKind rh u
    → l.temps a ≡ value v → l.temps b ≡ value u → calculated p place l (calc_of op lh a b) ≡ or_broken place value (of_two l.blocks op v u)
binary_is p place l a b (values.Num m) (values.Num n) (numbers op x y t) h g e d =
    rw (e, d) (taken_is (takes op x m.ty n.ty) _ (of_types op x y m.ty n.ty h g t) ∙ number_held place (result_of op m n))
binary_is p place l a b (values.Num m) (values.Pointer q) (numbers op x y t) h g e d = elim g [ ]
binary_is p place l a b (values.Pointer q) u (numbers op x y t) h g e d = elim h [ ]
binary_is p place l a b (values.Pointer q) (values.Num n) (forwards size x) h g e d = rw (e, d) (pointer_held place (indexed l.blocks q n.value size))
binary_is p place l a b (values.Pointer q) (values.Pointer o) (forwards size x) h g e d = elim g [ ]
binary_is p place l a b (values.Num m) u (forwards size x) h g e d = elim h [ ]
binary_is p place l a b (values.Num m) (values.Pointer q) (forwards_from size x) h g e d = rw (e, d) (pointer_held place (indexed l.blocks q m.value size))
binary_is p place l a b (values.Num m) (values.Num n) (forwards_from size x) h g e d = elim g [ ]
binary_is p place l a b (values.Pointer q) u (forwards_from size x) h g e d = elim h [ ]
binary_is p place l a b (values.Pointer q) (values.Num n) (backwards size x) h g e d = rw (e, d) (pointer_held place (indexed l.blocks q (neg_ℤ n.value) size))
binary_is p place l a b (values.Pointer q) (values.Pointer o) (backwards size x) h g e d = elim g [ ]
binary_is p place l a b (values.Num m) u (backwards size x) h g e d = elim h [ ]
binary_is p place l a b (values.Pointer q) (values.Pointer o) (distances size) h g e d = rw (e, d) (long_held place (difference l.blocks q o size))
binary_is p place l a b (values.Pointer q) (values.Num n) (distances size) h g e d = elim g [ ]
binary_is p place l a b (values.Num m) u (distances size) h g e d = elim h [ ]
binary_is p place l a b (values.Pointer q) (values.Pointer o) (comparisons op) h g e d = rw (e, d) (truth_held place (compared l.blocks op q o))
binary_is p place l a b (values.Pointer q) (values.Num n) (comparisons op) h g e d = elim g [ ]
binary_is p place l a b (values.Num m) u (comparisons op) h g e d = elim h [ ]

outcome_kind : (o : Option Rule) (m r : Num) → outcome o m ≡ Ok r → r.ty ≡ m.ty
outcome_kind None m r e = let same : m ≡ r = cc in ap (λ (n : Num). n.ty) (sym same)
outcome_kind (Some rule) m r e = absurd cc

kept_type : (op : Op) (t : IntType) → is_comparison op ≡ false → result_type op t ≡ t
kept_type ops.Eq t h = absurd cc
kept_type ops.Ne t h = absurd cc
kept_type ops.Lt t h = absurd cc
kept_type ops.Le t h = absurd cc
kept_type ops.Gt t h = absurd cc
kept_type ops.Ge t h = absurd cc
kept_type ops.Add t h = refl
kept_type ops.Sub t h = refl
kept_type ops.Mul t h = refl
kept_type ops.Div t h = refl
kept_type ops.Rem t h = refl
kept_type ops.And t h = refl
kept_type ops.Or t h = refl
kept_type ops.Xor t h = refl
kept_type ops.Shl t h = refl
kept_type ops.Shr t h = refl

-- an operation that compares nothing gives a number of its first operand's type
pub result_kept : (op : Op) (a b r : Num) → is_comparison op ≡ false → result_of op a b ≡ Ok r → r.ty ≡ a.ty
result_kept op a b r h e = outcome_kind (rule_of op a.ty a.value b.value) _ r e ∙ kept_type op a.ty h

number_kind : (res : Result Num Rule) (s : IntType) (w : Value) → ((r : Num) → res ≡ Ok r → r.ty ≡ s) → value_of res ≡ Ok w → HasKind (accesses.Number s) w
number_kind (Ok r) s w h e = let same : values.Num r ≡ w = cc in subst (HasKind (accesses.Number s)) same (h r refl)
number_kind (Err rule) s w h e = absurd cc

pointer_kind : (res : Result Ptr Rule) (w : Value) → pointer_of res ≡ Ok w → HasKind accesses.Pointer w
pointer_kind (Ok p) w e = let same : values.Pointer p ≡ w = cc in subst (HasKind accesses.Pointer) same tt
pointer_kind (Err rule) w e = absurd cc

long_kind : (res : Result ℤ Rule) (w : Value) → long_result res ≡ Ok w → HasKind (accesses.Number long) w
long_kind (Ok z) w e = let same : values.Num (num long z) ≡ w = cc in subst (HasKind (accesses.Number long)) same refl
long_kind (Err rule) w e = absurd cc

pub int_kind : (res : Result Bool Rule) (w : Value) → int_result res ≡ Ok w → HasKind (accesses.Number int) w
int_kind (Ok b) w e = let same : int_of b ≡ w = cc in subst (HasKind (accesses.Number int)) same refl
int_kind (Err rule) w e = absurd cc

pub binary_kind : (blocks : Blocks) {op : meant.Binary} {lh rh how : Access} (v u w : Value) → BinaryFits op lh rh how → HasKind lh v → HasKind rh u → of_two blocks op v u ≡ Ok w → HasKind how w
binary_kind blocks (values.Num m) (values.Num n) w (numbers op x y t) h g e =
    number_kind (result_of op m n) (result_type op x) w (λ r d. outcome_kind (rule_of op m.ty m.value n.value) _ r d ∙ ap (result_type op) h) e
binary_kind blocks (values.Num m) (values.Pointer q) w (numbers op x y t) h g e = elim g [ ]
binary_kind blocks (values.Pointer q) u w (numbers op x y t) h g e = elim h [ ]
binary_kind blocks (values.Pointer q) (values.Num n) w (forwards size x) h g e = pointer_kind (indexed blocks q n.value size) w e
binary_kind blocks (values.Pointer q) (values.Pointer o) w (forwards size x) h g e = elim g [ ]
binary_kind blocks (values.Num m) u w (forwards size x) h g e = elim h [ ]
binary_kind blocks (values.Num m) (values.Pointer q) w (forwards_from size x) h g e = pointer_kind (indexed blocks q m.value size) w e
binary_kind blocks (values.Num m) (values.Num n) w (forwards_from size x) h g e = elim g [ ]
binary_kind blocks (values.Pointer q) u w (forwards_from size x) h g e = elim h [ ]
binary_kind blocks (values.Pointer q) (values.Num n) w (backwards size x) h g e = pointer_kind (indexed blocks q (neg_ℤ n.value) size) w e
binary_kind blocks (values.Pointer q) (values.Pointer o) w (backwards size x) h g e = elim g [ ]
binary_kind blocks (values.Num m) u w (backwards size x) h g e = elim h [ ]
binary_kind blocks (values.Pointer q) (values.Pointer o) w (distances size) h g e = long_kind (difference blocks q o size) w e
binary_kind blocks (values.Pointer q) (values.Num n) w (distances size) h g e = elim g [ ]
binary_kind blocks (values.Num m) u w (distances size) h g e = elim h [ ]
binary_kind blocks (values.Pointer q) (values.Pointer o) w (comparisons op) h g e = int_kind (compared blocks op q o) w e
binary_kind blocks (values.Pointer q) (values.Num n) w (comparisons op) h g e = elim g [ ]
binary_kind blocks (values.Num m) u w (comparisons op) h g e = elim h [ ]

-- ---- pointers that are moved

within_further : (size name : ℕ) (z : ℤ) (q : Ptr) (place : ℕ) → within size name z ≡ Ok q → offset_in place name z ≡ Ok q
within_further size name (pos o) q place e = at_test (nat_le o size) e
  where
    at_test : (b : Bool) → (if b then Ok (To name o) else Err C7) ≡ Ok q → ◌≡◌ {A = Result Ptr Fault} (Ok (To name o)) (Ok q)
    at_test true d = let same : To name o ≡ q = cc in ap Ok same
    at_test false d = absurd cc
within_further size name (negsuc n) q place e = absurd cc

moved_in_further : (name offset : ℕ) (by : ℤ) (o : Option Block) (q : Ptr) (place : ℕ) → moved_in name offset by o ≡ Ok q → further place by (To name offset) ≡ Ok q
moved_in_further name offset by None q place e = absurd cc
moved_in_further name offset by (Some b) q place e = within_further (length b.cells) name (pos offset +ℤ by) q place e

moved_null_further : (by : ℤ) (q : Ptr) (place : ℕ) → moved_null by ≡ Ok q → further place by Null ≡ Ok q
moved_null_further (pos n) q place e = at_test (n == 0) e
  where
    at_test : (b : Bool) → (if b then Ok Null else Err C7) ≡ Ok q → ◌≡◌ {A = Result Ptr Fault} (Ok Null) (Ok q)
    at_test true d = let same : Null ≡ q = cc in ap Ok same
    at_test false d = absurd cc
moved_null_further (negsuc n) q place e = absurd cc

-- a sum that C allows is that of the access
pub moved_further : (blocks : Blocks) (p : Ptr) (by : ℤ) (q : Ptr) → moved blocks p by ≡ Ok q → Further p by q
moved_further blocks Null by q e place = moved_null_further by q place e
moved_further blocks (To name offset) by q e place = moved_in_further name offset by (live blocks name) q place e

within_zero : (size name offset : ℕ) (z : ℤ) (q : Ptr) → z ≡ pos offset → within size name z ≡ Ok q → To name offset ≡ q
within_zero size name offset (pos o) q is e = at_test (nat_le o size) e
  where
    same_offset : o ≡ offset
    same_offset = omega (arith, ints)

    at_test : (b : Bool) → (if b then Ok (To name o) else Err C7) ≡ Ok q → To name offset ≡ q
    at_test true d = let same : To name o ≡ q = cc in ap (To name) (sym same_offset) ∙ same
    at_test false d = absurd cc
within_zero size name offset (negsuc n) q is e = absurd cc

moved_in_zero : (name offset : ℕ) (o : Option Block) (q : Ptr) → moved_in name offset (pos 0) o ≡ Ok q → To name offset ≡ q
moved_in_zero name offset None q e = absurd cc
moved_in_zero name offset (Some b) q e = within_zero (length b.cells) name offset (pos offset +ℤ pos 0) q (omega (arith, ints)) e

-- nothing is added
pub moved_zero : (blocks : Blocks) (p q : Ptr) → moved blocks p (pos 0) ≡ Ok q → p ≡ q
moved_zero blocks Null q e = let same : Null ≡ q = cc in same
moved_zero blocks (To name offset) q e = moved_in_zero name offset (live blocks name) q e

moved_at : (blocks : Blocks) (p : Ptr) (offset : ℕ) (q : Ptr) (place : ℕ) (b : Bool) → (b ≡ true → offset ≡ 0) → moved blocks p (pos offset) ≡ Ok q
    → (if b then Ok p else further place (pos offset) p) ≡ Ok q
moved_at blocks p offset q place true h e = ap Ok (moved_zero blocks p q (ap (λ n. moved blocks p (pos n)) (sym (h refl)) ∙ e))
moved_at blocks p offset q place false h e = moved_further blocks p (pos offset) q e place

pub member_moved : (blocks : Blocks) (p : Ptr) (offset : ℕ) (q : Ptr) → moved blocks p (pos offset) ≡ Ok q → Moved offset p q
member_moved blocks p offset q e place = moved_at blocks p offset q place (offset == 0) (λ h. grind (arith, nat_tests)) e

pub unmoved : (p q : Ptr) → Moved 0 p q → p ≡ q
unmoved p q h = let e = h 0 in cc

pub not_moved : (p : Ptr) → Moved 0 p p
not_moved p place = refl

pub times_one : (z : ℤ) → z *ℤ pos 1 ≡ z
times_one z = omega (arith, ints)

-- ---- numbers of type unsigned long

long_range : (k : ℕ) → k < 2 ^ 64 → IsInRange unsigned_long (pos k)
long_range k h = (omega (arith, ints), omega (arith, ints))

pub long_is : (k : ℕ) → k < 2 ^ 64 → (num unsigned_long (pos k)).value ≡ pos k
long_is k h = wrapped_value-in_type unsigned_long (pos k) (long_range k h)

-- ---- what is read and written

read_kind : (how : Access) (cs : List Cell) (v : Value) → cells.read how cs ≡ Ok v → HasKind how v
read_kind (accesses.Number s) cs v e = at_test (cells.has_unknown cs) e
  where
    found_number : (o : Option ℕ) → ok_or (option_map (λ bits. values.Num (num s (pos bits))) o) C16 ≡ Ok v → HasKind (accesses.Number s) v
    found_number None d = absurd cc
    found_number (Some bits) d = let same : values.Num (num s (pos bits)) ≡ v = cc in subst (HasKind (accesses.Number s)) same refl

    at_test : (b : Bool) → (if b then Err C4 else ok_or (cells.value_of (accesses.Number s) cs) C16) ≡ Ok v → HasKind (accesses.Number s) v
    at_test true d = absurd cc
    at_test false d = found_number (cells.number_of cs) d
read_kind accesses.Pointer cs v e = at_test (cells.has_unknown cs) e
  where
    found_pointer : (o : Option Ptr) → ok_or (option_map values.Pointer o) C16 ≡ Ok v → HasKind accesses.Pointer v
    found_pointer None d = absurd cc
    found_pointer (Some p) d = let same : values.Pointer p ≡ v = cc in subst (HasKind accesses.Pointer) same tt

    at_test : (b : Bool) → (if b then Err C4 else ok_or (cells.value_of accesses.Pointer cs) C16) ≡ Ok v → HasKind accesses.Pointer v
    at_test true d = absurd cc
    at_test false d = found_pointer (cells.pointer_of cs) d

read_at_kind : (how : Access) (s : Result Range Rule) (v : Value) → read_at how s ≡ Ok v → HasKind how v
read_at_kind how (Err rule) v e = absurd cc
read_at_kind how (Ok s) v e = read_kind how (cells_at (cells.size_of how) s) v e

-- what is loaded is of the access's kind
pub loaded_kind : (blocks : Blocks) (at : Ptr) (how : Access) (v : Value) → loaded blocks at how ≡ Ok v → HasKind how v
loaded_kind blocks at how v e = read_at_kind how (spot_at blocks (cells.size_of how) at) v e

signs : (b : Bool) → (if b then b else not b) ≡ true
signs true = refl
signs false = refl

pub type_itself : (s : IntType) → same_type s s ≡ true
type_itself s = let e : (s.bits == s.bits) ≡ true = grind (arith, nat_tests) in ap (λ b. b && (if s.signed then s.signed else not s.signed)) e ∙ signs s.signed

both : (a b : Bool) → (a && b) ≡ true → (a ≡ true) × (b ≡ true)
both true b e = (refl, e)
both false b e = absurd cc

-- two types that are tested to be one
pub one_int : (s t : IntType) → same_type s t ≡ true → s ≡ t
one_int s t h = int_type_is s t (one_sign s.signed t.signed (both (s.bits == t.bits) _ h).1) (eqb-true s.bits t.bits (both (s.bits == t.bits) _ h).0)
  where
    one_sign : (a b : Bool) → (if a then b else not b) ≡ true → a ≡ b
    one_sign true true e = refl
    one_sign true false e = absurd cc
    one_sign false true e = absurd cc
    one_sign false false e = refl

-- a number converted to its own type stays as it is
pub own_number : (n : Num) (t : IntType) → n.ty ≡ t → n ≡ num t n.value
own_number n t e = num_is n t n.value e (subst (λ s. n.value ≡ wrapped_value s n.value) e (sym (wrapped_value-in_type n.ty n.value n.in_range)))

-- a value of the access's kind fits
pub kind_fits : (how : Access) (v : Value) → HasKind how v → fits how v ≡ true
kind_fits (accesses.Number s) (values.Num n) h = subst (λ t. same_type s t ≡ true) (sym h) (type_itself s)
kind_fits (accesses.Number s) (values.Pointer p) h = elim h [ ]
kind_fits accesses.Pointer (values.Num n) h = elim h [ ]
kind_fits accesses.Pointer (values.Pointer p) h = refl
