-- The first of a row of numbers that passes a test, and the first address without a byte.
use Rattle.std.proofs.Common.{◌≡◌, ℕ, zero, suc, ◌+◌, ◌-◌, ◌<◌, ◌≤◌, ◌&&◌, ◌↔◌, Bool, true, false, cond, not, leb, ltb, List, length, Some, None, Result, Ok, Err, IfErr, ◌⊎◌, refl, ap, sym, subst, inl, inr, arith}
use Rattle.std.specs.List.{find, range_with_len}
use Rattle.std.proofs.lemmas.Bool.{cases_eq, cases_lt}
use Rattle.std.proofs.lemmas.Bool.Decides.{nat_tests}
use Rattle.flat_store.specs.Flat.{first_address, HasByte, HasBytes, has_byte, first_outside, first_outside_of_both, IsFirstOutside}
use Rattle.flat_store.specs.declared.outside.OutsideFlat.{OutsideFlat}

-- of the n numbers from `a` on, k is the first that passes
pub find-first : (p : ℕ → Bool) (a n k : ℕ) → a ≤ k → k < a + n → p k ≡ true → ((j : ℕ) → a ≤ j → j < k → p j ≡ false) → find p (range_with_len a n) ≡ Some k
find-first p a zero k low high passes before = absurd (omega arith)
find-first p a (suc n) k low high passes before = elim (cases_eq k a) [
  | inl here ↦
      let passes_here : p a ≡ true = rw here at passes in
      rw passes_here (ap Some (sym here))
  | inr later ↦
      let fails : p a ≡ false = before a (omega arith) (omega arith) in
      rw fails (find-first p (a + 1) n k (omega arith) (omega arith) passes (λ j le lt. before j (omega arith) lt))
]

-- none of the n numbers from `a` on passes
pub find-none : (p : ℕ → Bool) (a n : ℕ) → ((j : ℕ) → a ≤ j → j < a + n → p j ≡ false) → find p (range_with_len a n) ≡ None
find-none p a zero fails = refl
find-none p a (suc n) fails =
    let here : p a ≡ false = fails a (omega arith) (omega arith) in
    rw here (find-none p (a + 1) n (λ j le lt. fails j (omega arith) (omega arith)))

-- what is found is the first that passes
record IsFirst (p : ℕ → Bool) (a n k : ℕ) : Type 0 where
  low : a ≤ k
  high : k < a + n
  passes : p k ≡ true
  before : (j : ℕ) → a ≤ j → j < k → p j ≡ false

later : (p : ℕ → Bool) (a n k : ℕ) → p a ≡ false → IsFirst p (a + 1) n k → IsFirst p a (suc n) k
later p a n k fails rest = record {
  low = omega (arith, rest.low);
  high = omega (arith, rest.high);
  passes = rest.passes;
  before = λ j low below. elim (cases_eq j a) [ inl here ↦ rw here fails | inr further ↦ rest.before j (omega arith) below ];
}

found_by : (p : ℕ → Bool) (a n k : ℕ) (b : Bool) → p a ≡ b → (find p (range_with_len (a + 1) n) ≡ Some k → IsFirst p (a + 1) n k) → cond b (Some a) (find p (range_with_len (a + 1) n)) ≡ Some k → IsFirst p a (suc n) k
found_by p a n k true is rest e =
    let here : a ≡ k = cc in
    record { low = omega (arith, here); high = omega (arith, here); passes = subst (λ (i : ℕ). p i ≡ true) here is; before = λ j low below. absurd (omega (arith, here)) }
found_by p a n k false is rest e = later p a n k is (rest e)

found : (p : ℕ → Bool) (a n k : ℕ) → find p (range_with_len a n) ≡ Some k → IsFirst p a n k
found p a zero k e = absurd cc
found p a (suc n) k e = found_by p a n k (p a) refl (found p (a + 1) n k) e

-- where none is found, each fails
fails_by : (p : ℕ → Bool) (a n : ℕ) (b : Bool) → p a ≡ b → (find p (range_with_len (a + 1) n) ≡ None → (j : ℕ) → a + 1 ≤ j → j < a + 1 + n → p j ≡ false) → cond b (Some a) (find p (range_with_len (a + 1) n)) ≡ None
    → (j : ℕ) → a ≤ j → j < a + suc n → p j ≡ false
fails_by p a n true is rest e j low high = absurd cc
fails_by p a n false is rest e j low high = elim (cases_eq j a) [ inl here ↦ rw here is | inr further ↦ rest e j (omega arith) (omega arith) ]

none_found : (p : ℕ → Bool) (a n : ℕ) → find p (range_with_len a n) ≡ None → (j : ℕ) → a ≤ j → j < a + n → p j ≡ false
none_found p a zero e j low high = absurd (omega arith)
none_found p a (suc n) e j low high = fails_by p a n (p a) refl (none_found p (a + 1) n) e j low high

-- ---- addresses

-- the test fails to find a byte missing where there is one
has_byte-there : (bytes : List ℕ) (address : ℕ) → HasByte bytes address → not (has_byte bytes address) ≡ false
has_byte-there bytes address has = grind (arith, nat_tests, has.0, has.1)

-- and finds it missing where there is none
has_byte-absent : (bytes : List ℕ) (address : ℕ) → ¬ HasByte bytes address → not (has_byte bytes address) ≡ true
has_byte-absent bytes address absent = elim (cases_lt address first_address) [
  | inl below ↦
      let fails : leb first_address address ≡ false = grind (arith, nat_tests) in
      rw fails refl
  | inr above ↦ elim (cases_lt address (first_address + length bytes)) [
    | inl within ↦ absurd (absent (above, within))
    | inr past ↦
        let fails : ltb address (first_address + length bytes) ≡ false = grind (arith, nat_tests) in
        rw fails (and_false (leb first_address address))
  ]
]
  where
    and_false : (b : Bool) → not (b && false) ≡ true
    and_false true = refl
    and_false false = refl

-- where it isn't found missing, there is one
has_byte-known : (bytes : List ℕ) (address : ℕ) → not (has_byte bytes address) ≡ false → HasByte bytes address
has_byte-known bytes address e = elim (cases_lt address first_address) [
  | inl below ↦ absurd (let f = has_byte-absent bytes address (λ has. omega (arith, has.0)) in cc)
  | inr above ↦ elim (cases_lt address (first_address + length bytes)) [
    | inl within ↦ (above, within)
    | inr past ↦ absurd (let f = has_byte-absent bytes address (λ has. omega (arith, has.1)) in cc)
  ]
]

-- where the n addresses from `at` on have bytes, so has each address among them
has_byte-among : (bytes : List ℕ) (at n : ℕ) → HasBytes bytes at n → (j : ℕ) → at ≤ j → j < at + n → not (has_byte bytes j) ≡ false
has_byte-among bytes at n has j low high =
    let same : at + (j - at) ≡ j = omega arith in
    has_byte-there bytes j (rw same at (has (j - at) (omega arith)))

-- where all bytes are there, none is missing
pub none_outside : (bytes : List ℕ) (at n : ℕ) → HasBytes bytes at n → first_outside bytes at n ≡ None
none_outside bytes at n has = find-none (λ j. not (has_byte bytes j)) at n (has_byte-among bytes at n has)

-- the first that is missing is the one that is found
pub outside_is : (bytes : List ℕ) (at n address : ℕ) → IsFirstOutside bytes at n address → first_outside bytes at n ≡ Some address
outside_is bytes at n address first =
    find-first (λ j. not (has_byte bytes j)) at n address first.reached.0 first.reached.1 (has_byte-absent bytes address first.outside)
    (λ j low high. has_byte-among bytes at (address - at) first.before j low (omega (arith, first.reached.0)))

-- an error that names it
pub named : {A : Type 0} (bytes : List ℕ) (at n : ℕ) (r : Result A OutsideFlat) → IfErr r (λ e. IsFirstOutside bytes at n e.0) → IfErr r (λ e. first_outside bytes at n ≡ Some e.0)
named bytes at n (Ok x) h = h
named bytes at n (Err e) h = outside_is bytes at n e.0 h

-- of the n addresses from `to` on, and then of those from `from` on, this is the first that has no byte
abbrev pub IsFirstOfBoth : List ℕ → (to from n address : ℕ) → Type 0
IsFirstOfBoth bytes to from n address = IsFirstOutside bytes to n address ⊎ (HasBytes bytes to n × IsFirstOutside bytes from n address)

of_both : (bytes : List ℕ) (to from n address : ℕ) → IsFirstOfBoth bytes to from n address → first_outside_of_both bytes to from n ≡ Some address
of_both bytes to from n address (inl first) = rw (outside_is bytes to n address first) refl
of_both bytes to from n address (inr then_) = rw (none_outside bytes to n then_.0) (outside_is bytes from n address then_.1)

pub named_of_both : {A : Type 0} (bytes : List ℕ) (to from n : ℕ) (r : Result A OutsideFlat) → IfErr r (λ e. IsFirstOfBoth bytes to from n e.0) → IfErr r (λ e. first_outside_of_both bytes to from n ≡ Some e.0)
named_of_both bytes to from n (Ok x) h = h
named_of_both bytes to from n (Err e) h = of_both bytes to from n e.0 h

-- what is found is the first that is missing
is_outside : (bytes : List ℕ) (at n address : ℕ) → first_outside bytes at n ≡ Some address → IsFirstOutside bytes at n address
is_outside bytes at n address e =
    let f = found (λ j. not (has_byte bytes j)) at n address e in
    record {
      reached = (f.low, f.high);
      before = λ k below. has_byte-known bytes (at + k) (f.before (at + k) (omega arith) (omega (arith, f.low)));
      outside = λ has. (let g = has_byte-there bytes address has in let h = f.passes in cc);
    }

pub outside_meant : (bytes : List ℕ) (at n address : ℕ) → (first_outside bytes at n ≡ Some address) ↔ IsFirstOutside bytes at n address
outside_meant bytes at n address = (is_outside bytes at n address, outside_is bytes at n address)

-- where none is found, all are there
pub none_meant : (bytes : List ℕ) (at n : ℕ) → (first_outside bytes at n ≡ None) ↔ HasBytes bytes at n
none_meant bytes at n =
    (λ e k below. has_byte-known bytes (at + k) (none_found (λ j. not (has_byte bytes j)) at n e (at + k) (omega arith) (omega arith)), none_outside bytes at n)
