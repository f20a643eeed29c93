-- The text at an address, byte by byte, is what text_len finds.
use Rattle.std.proofs.Common.{◌≡◌, ◌≢◌, ℕ, zero, suc, ◌+◌, ◌-◌, ◌<◌, ◌≤◌, Bool, true, false, cond, List, [], ◌∷◌, ◌++◌, length, take, drop, get_or, Some, refl, ap, sym, ◌∙◌, subst, ◌⊎◌, inl, inr, arith, length-drop}
use Rattle.std.proofs.lemmas.Bool.{cases_lt}
use Rattle.std.proofs.lemmas.List.{get_or-drop, take_more}
use Rattle.std.proofs.lemmas.Bool.Decides.{nat_tests}
use Rattle.flat_store.specs.Flat.{first_address, HasByte, has_byte, byte_at, bytes_from, first_outside, HasNoZero, IsTextLen, IsFirstOutside}
use Rattle.flat_store.proofs.Firsts.{outside_meant}
use Rattle.flat_meaning.specs.Printing.{Read, reads, outside, too_long, behind, text_in, text_at}

-- ---- in a list

-- none of the first n bytes is zero
abbrev pub NoZero : List ℕ → ℕ → Type 0
NoZero xs n = (k : ℕ) → k < n → get_or xs k 0 ≢ 0

later : (x : ℕ) (xs : List ℕ) (n : ℕ) → NoZero (x ∷ xs) (suc n) → NoZero xs n
later x xs n h k below = h (suc k) (omega arith)

pub text_reads : (xs : List ℕ) (at len room : ℕ) → NoZero xs len → len < length xs → get_or xs len 0 ≡ 0 → len ≤ room → text_in at xs room ≡ reads (take len xs)
text_reads [] at len room before within ends fits = absurd (omega arith)
text_reads (zero ∷ xs) at zero room before within ends fits = refl
text_reads (zero ∷ xs) at (suc len) room before within ends fits = absurd (before 0 (omega arith) refl)
text_reads (suc b ∷ xs) at zero room before within ends fits = absurd cc
text_reads (suc b ∷ xs) at (suc len) zero before within ends fits = absurd (omega arith)
text_reads (suc b ∷ xs) at (suc len) (suc room) before within ends fits =
    ap (behind (suc b ∷ [])) (text_reads xs (suc at) len room (later (suc b) xs len before) (omega arith) ends (omega arith))

pub text_long : (xs : List ℕ) (at room : ℕ) → NoZero xs (suc room) → room < length xs → text_in at xs room ≡ too_long
text_long [] at room before within = absurd (omega arith)
text_long (zero ∷ xs) at room before within = absurd (before 0 (omega arith) refl)
text_long (suc b ∷ xs) at zero before within = refl
text_long (suc b ∷ xs) at (suc room) before within = ap (behind (suc b ∷ [])) (text_long xs (suc at) room (later (suc b) xs (suc room) before) (omega arith))

pub text_ends : (xs : List ℕ) (at room e : ℕ) → NoZero xs (length xs) → length xs ≤ room → e ≡ at + length xs → text_in at xs room ≡ outside e
text_ends [] at room e before fits is = ap outside (omega arith)
text_ends (zero ∷ xs) at room e before fits is = absurd (before 0 (omega arith) refl)
text_ends (suc b ∷ xs) at zero e before fits is = absurd (omega arith)
text_ends (suc b ∷ xs) at (suc room) e before fits is =
    ap (behind (suc b ∷ [])) (text_ends xs (suc at) room e (later (suc b) xs (length xs) before) (omega arith) (omega arith))

-- ---- at an address

module _ (bytes : List ℕ) (at : ℕ) where
  abbrev rest : List ℕ
  rest = drop (at - first_address) bytes

  rest_len : first_address ≤ at → length rest ≡ length bytes - (at - first_address)
  rest_len low = length-drop (at - first_address) bytes

  rest_at : first_address ≤ at → (k : ℕ) → get_or rest k 0 ≡ byte_at bytes (at + k)
  rest_at low k =
      let same : at - first_address + k ≡ at + k - first_address = omega arith in
      get_or-drop (at - first_address) bytes k 0 ∙ ap (λ i. get_or bytes i 0) same

  no_zero : (n : ℕ) → first_address ≤ at → HasNoZero bytes at n → NoZero rest n
  no_zero n low has k below is = (has k below).1 (sym (rest_at low k) ∙ is)

  if_there : (x y : Read) → HasByte bytes at → cond (has_byte bytes at) x y ≡ x
  if_there x y has = let e : has_byte bytes at ≡ true = grind (arith, nat_tests, has.0, has.1) in rw e refl

  text_at_is : (room : ℕ) (r : Read) → HasByte bytes at → text_in at rest room ≡ r → text_at bytes at room ≡ r
  text_at_is room r has e = if_there _ _ has ∙ e

  first_byte : (n : ℕ) → HasNoZero bytes at n → HasByte bytes (at + n) → HasByte bytes at
  first_byte zero has ends = (omega (arith, ends.0), omega (arith, ends.1))
  first_byte (suc n) has ends = let h = (has 0 (omega arith)).0 in (omega (arith, h.0), omega (arith, h.1))

  pub text_of_len : (len room : ℕ) → IsTextLen bytes at len → len ≤ room → text_at bytes at room ≡ reads (bytes_from bytes at len)
  text_of_len len room is fits =
      let has = first_byte len is.0 is.1 in
      text_at_is room (reads (take len rest)) has
      (text_reads rest at len room (no_zero len has.0 is.0) (omega (arith, rest_len has.0, is.1.0, is.1.1)) (rest_at has.0 len ∙ is.2) fits)

  pub text_too_long : (room : ℕ) → HasNoZero bytes at (room + 1) → text_at bytes at room ≡ too_long
  text_too_long room has =
      let here = (has 0 (omega arith)).0 in
      let last = (has room (omega arith)).0 in
      let there : HasByte bytes at = (omega (arith, here.0), omega (arith, here.1)) in
      text_at_is room too_long there (text_long rest at room (λ k below. no_zero (room + 1) there.0 has k (omega arith)) (omega (arith, rest_len there.0, last.0, last.1)))

  past : (e : ℕ) → first_address ≤ e → ¬ HasByte bytes e → first_address + length bytes ≤ e
  past e low absent = elim (cases_lt e (first_address + length bytes)) [
    | inl within ↦ absurd (absent (low, within))
    | inr above ↦ above
  ]

  if_absent : (x y : Read) → ¬ HasByte bytes at → cond (has_byte bytes at) x y ≡ y
  if_absent x y absent = by (has_byte bytes at) refl
    where
      by : (b : Bool) → has_byte bytes at ≡ b → cond b x y ≡ y
      by true e = absurd (absent (has_byte-true e))
        where
          has_byte-true : has_byte bytes at ≡ true → HasByte bytes at
          has_byte-true e = (grind (arith, nat_tests), grind (arith, nat_tests))
      by false e = refl

  pub text_outside : (room e : ℕ) → first_outside bytes at (room + 1) ≡ Some e → HasNoZero bytes at (e - at) → text_at bytes at room ≡ outside e
  text_outside room e is has = by (cases_lt at e)
    where
      first : IsFirstOutside bytes at (room + 1) e
      first = (outside_meant bytes at (room + 1) e).0 is

      by : (at < e) ⊎ (e ≤ at) → text_at bytes at room ≡ outside e
      by (inl below) =
          let here = (has 0 (omega arith)).0 in
          let last = (has (e - at - 1) (omega arith)).0 in
          let there : HasByte bytes at = (omega (arith, here.0), omega (arith, here.1)) in
          let ends : first_address + length bytes ≤ e = past e (omega (arith, there.0)) first.outside in
          let whole : length rest ≡ e - at = omega (arith, rest_len there.0, ends, last.1, there.0) in
          text_at_is room (outside e) there
          (text_ends rest at room e (λ k below. no_zero (e - at) there.0 has k (omega (arith, whole))) (omega (arith, whole, first.reached.1)) (omega (arith, whole)))
      by (inr above) =
          let same : e ≡ at = omega (arith, first.reached.0) in
          if_absent _ _ (subst (λ a. ¬ HasByte bytes a) same first.outside) ∙ ap outside (sym same)

-- ---- bytes that are written

-- one more byte of those from an address on
pub bytes_from_more : (bytes : List ℕ) (at i : ℕ) → HasByte bytes (at + i) → first_address ≤ at → bytes_from bytes at (i + 1) ≡ bytes_from bytes at i ++ byte_at bytes (at + i) ∷ []
bytes_from_more bytes at i has low =
    take_more (drop (at - first_address) bytes) i 0 (omega (arith, rest_len bytes at low, has.0, has.1))
    ∙ ap (λ b. bytes_from bytes at i ++ b ∷ []) (rest_at bytes at low i)
