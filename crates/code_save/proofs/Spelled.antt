-- How numbers are spelled.
use Rattle.std.proofs.Common.{◌≡◌, ℕ, zero, suc, ◌+◌, ◌/◌, ◌%◌, ◌-◌, ◌^◌, ◌<◌, Bool, true, false, cond, ltb, eqb, List, [], ◌∷◌, ◌++◌, Option, Some, None, ℤ, pos, negsuc, ◌⊎◌, inl, inr, refl, sym, ap, subst, ◌∙◌, arith}
use Rattle.std.proofs.lemmas.Bool.{lt-ltb, ltb-true, eqb-true}
use Rattle.std.proofs.Math.Pow.{pow_pos}
use Rattle.std.proofs.lemmas.Bool.Decides.{nat_tests}
use Rattle.std.specs.Int.{w32, w64, to_le_bytes}
use Rattle.formats.specs.Formats.{byte, number, u32, u64, exactly}
use Rattle.formats.proofs.Made.{number_fits}
use Rattle.ak_words.specs.declared.int_type.IntType.{IntType}
use Rattle.ak_words.specs.Wrapped.{residue, bit_pattern, wrapped_value}
use Rattle.struct_ir.specs.Valid.{has_width}
use Rattle.code_file.specs.Numbers.{option_at, number_of, u32_or_none, value, zeros, piece_bits}
use Rattle.code_save.specs.declared.output.Output.{Output}
use Rattle.code_save.specs.inner.Fits.{option_fits}
use Rattle.code_save.specs.inner.Written.{Gains, Wrote}
use Rattle.code_save.proofs.Writing.{gains_are, exactly_is, exactly_spelled}

-- ---- four and eight bytes

u32_spelled : (n : ℕ) → to_le_bytes w32 n ≡ u32.spell n
unfolding u32
u32_spelled n =
    let a : n / 256 ^ 1 % 256 ≡ n / 256 % 256 = omega arith in
    let b : n / 256 ^ 2 % 256 ≡ n / 256 / 256 % 256 = omega arith in
    let c : n / 256 ^ 3 % 256 ≡ n / 256 / 256 / 256 % 256 = omega arith in
    λ i. n % 256 ∷ a i ∷ b i ∷ c i ∷ []

eight_spelled : (n : ℕ) → to_le_bytes w64 n ≡ (number 8).spell n
eight_spelled n =
    let a : n / 256 ^ 1 % 256 ≡ n / 256 % 256 = omega arith in
    let b : n / 256 ^ 2 % 256 ≡ n / 256 / 256 % 256 = omega arith in
    let c : n / 256 ^ 3 % 256 ≡ n / 256 / 256 / 256 % 256 = omega arith in
    let d : n / 256 ^ 4 % 256 ≡ n / 256 / 256 / 256 / 256 % 256 = omega arith in
    let e : n / 256 ^ 5 % 256 ≡ n / 256 / 256 / 256 / 256 / 256 % 256 = omega arith in
    let f : n / 256 ^ 6 % 256 ≡ n / 256 / 256 / 256 / 256 / 256 / 256 % 256 = omega arith in
    let g : n / 256 ^ 7 % 256 ≡ n / 256 / 256 / 256 / 256 / 256 / 256 / 256 % 256 = omega arith in
    λ i. n % 256 ∷ a i ∷ b i ∷ c i ∷ d i ∷ e i ∷ f i ∷ g i ∷ []

u64_spelled : (n : ℕ) → to_le_bytes w64 n ≡ u64.spell n
unfolding u64
u64_spelled n = eight_spelled n

u32_is : (n : ℕ) → n < 2 ^ 32 → u32.Is n
unfolding u32
u32_is n h = number_fits 4 n (omega (arith, h))

u64_is : (n : ℕ) → n < 2 ^ 64 → u64.Is n
unfolding u64
u64_is n h = number_fits 8 n (omega (arith, h))

pub byte_wrote : (n : ℕ) {a b : Output} → n < 256 → Gains a (n ∷ []) b → Wrote byte n true a b
byte_wrote n h g = record { is = λ e. lt-ltb n 256 h; gains = g }

pub u32_wrote : (n : ℕ) (bytes : List ℕ) {a b : Output} → n < 2 ^ 32 → bytes ≡ to_le_bytes w32 n → Gains a bytes b → Wrote u32 n true a b
u32_wrote n bytes h e g = record { is = λ t. u32_is n h; gains = gains_are bytes (u32.spell n) (e ∙ u32_spelled n) g }

pub u64_wrote : (n : ℕ) (bytes : List ℕ) {a b : Output} → n < 2 ^ 64 → bytes ≡ to_le_bytes w64 n → Gains a bytes b → Wrote u64 n true a b
u64_wrote n bytes h e g = record { is = λ t. u64_is n h; gains = gains_are bytes (u64.spell n) (e ∙ u64_spelled n) g }

-- ---- a number or none

isnt_none : (n : ℕ) (b : Bool) → eqb n 4294967295 ≡ b → ltb n 4294967295 ≡ true → cond b None (Some n) ≡ Some n
isnt_none n true e h = absurd (let l : n < 4294967295 = ltb-true n 4294967295 h in let s : n ≡ 4294967295 = eqb-true n 4294967295 e in omega arith)
isnt_none n false e h = refl

option_again : (o : Option ℕ) → option_fits o ≡ true → option_at (number_of o) ≡ o
option_again None h = refl
option_again (Some n) h = isnt_none n (eqb n 4294967295) refl h

pub option_wrote : (o : Option ℕ) {a b : Output} → Wrote u32 (number_of o) true a b → Wrote u32_or_none o (option_fits o) a b
unfolding u32_or_none
option_wrote o w = record { is = λ h. (w.is refl, option_again o h); gains = w.gains }

-- ---- values

number_zeros : (j : ℕ) → (number j).spell 0 ≡ zeros j
number_zeros zero = refl
number_zeros (suc j) = ap (λ (l : List ℕ). 0 ∷ l) (number_zeros j)

low_bytes : (k m j n : ℕ) → m ≡ k + j → n < 256 ^ k → (number m).spell n ≡ (number k).spell n ++ zeros j
low_bytes zero m j n e h = let none : n ≡ 0 = omega (arith, h) in ap (λ (x : ℕ). (number m).spell x) none ∙ number_zeros m ∙ ap zeros (omega (arith, e))
low_bytes (suc k) zero j n e h = absurd (omega (arith, e))
low_bytes (suc k) (suc m) j n e h =
    let below : n / 256 < 256 ^ k = omega (arith, h) in
    let less : m ≡ k + j = omega (arith, e) in
    ap (λ (l : List ℕ). n % 256 ∷ l) (low_bytes k m j (n / 256) less below)

pub widths : (t : IntType) → (t.bits ≡ 8) ⊎ (t.bits ≡ 16) ⊎ (t.bits ≡ 32) ⊎ (t.bits ≡ 64)
widths t = let h = t.known_width in grind (arith, nat_tests)

-- a width is so many bytes
below_bytes : (bits n : ℕ) → (bits ≡ 8) ⊎ (bits ≡ 16) ⊎ (bits ≡ 32) ⊎ (bits ≡ 64) → n < 2 ^ bits → (n < 256 ^ (bits / 8)) × (bits / 8 + (8 - bits / 8) ≡ 8)
below_bytes bits n (inl e) h = subst (λ b. n < 2 ^ b → (n < 256 ^ (b / 8)) × (b / 8 + (8 - b / 8) ≡ 8)) (sym e) (λ k. (omega (arith, k), refl)) h
below_bytes bits n (inr (inl e)) h = subst (λ b. n < 2 ^ b → (n < 256 ^ (b / 8)) × (b / 8 + (8 - b / 8) ≡ 8)) (sym e) (λ k. (omega (arith, k), refl)) h
below_bytes bits n (inr (inr (inl e))) h = subst (λ b. n < 2 ^ b → (n < 256 ^ (b / 8)) × (b / 8 + (8 - b / 8) ≡ 8)) (sym e) (λ k. (omega (arith, k), refl)) h
below_bytes bits n (inr (inr (inr e))) h = subst (λ b. n < 2 ^ b → (n < 256 ^ (b / 8)) × (b / 8 + (8 - b / 8) ≡ 8)) (sym e) (λ k. (omega (arith, k), refl)) h

residue_below : (m : ℕ) (z : ℤ) → 0 < m → residue m z < m
unfolding residue
residue_below m (pos n) h = omega (arith, h)
residue_below m (negsuc n) h = omega (arith, h)

-- the bits of a number as eight bytes
pub value_wrote : (t : IntType) (z : ℤ) (n : ℕ) (bytes : List ℕ) {a b : Output} → n ≡ bit_pattern t z → wrapped_value t (pos n) ≡ z → bytes ≡ to_le_bytes w64 n → Gains a bytes b → Wrote (value t) z true a b
unfolding value
value_wrote t z n bytes is again e g =
    let k = t.bits / 8 in
    let m = bit_pattern t z in
    let small : m < 2 ^ t.bits = residue_below (2 ^ t.bits) z (pow_pos t.bits) in
    let b = below_bytes t.bits m (widths t) small in
    let spelled : bytes ≡ (number k).spell m ++ (exactly (zeros (8 - k))).spell tt =
    e ∙ eight_spelled n ∙ ap (λ (x : ℕ). (number 8).spell x) is ∙ low_bytes k 8 (8 - k) m (sym b.1) b.0 ∙ ap (λ (l : List ℕ). (number k).spell m ++ l) (sym (exactly_spelled (zeros (8 - k)))) in
    record {
      is = λ h. ((number_fits k m b.0, exactly_is (zeros (8 - k))), ap (λ (x : ℕ). wrapped_value t (pos x)) (sym is) ∙ again);
      gains = gains_are bytes ((number k).spell m ++ (exactly (zeros (8 - k))).spell tt) spelled g;
    }

-- ---- how many bits a piece writes

pub bits_wrote : (n : ℕ) {a b : Output} → Gains a (n ∷ []) b → Wrote piece_bits n (has_width n) a b
unfolding piece_bits
bits_wrote n g = record { is = λ h. h; gains = g }
