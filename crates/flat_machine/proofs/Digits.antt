-- The digits of numbers of 32 or 64 bits.
use Rattle.std.proofs.Common.{◌≡◌, ◌≢◌, ℕ, suc, ◌+◌, ◌-◌, ◌%◌, ◌^◌, ◌<◌, ◌≤◌, ◌⊎◌, inl, inr, true, false, [], ◌∷◌, refl, ap, sym, ◌∙◌, arith}
use Rattle.std.specs.Prelude.{pos, negsuc, neg_ℤ, ◌+ℤ◌}
use Rattle.std.specs.Fmt.{digits, signed_decimal}
use Rattle.std.proofs.lemmas.Bool.Decides.{nat_tests}
use Rattle.std.proofs.lemmas.Int.{ints}
use Rattle.ak_words.specs.Wrapped.{residue}
use Rattle.ak_words.proofs.Residues.{residue_is}
use Rattle.c_tree.specs.Typed.{signed}
use Rattle.c_tree.specs.TypedPrinting.{signed_value, takes_number, written}
use Rattle.c_tree.specs.TypedViews.{piece_view}
use Rattle.c_tree.specs.declared.typed.Piece.{Piece as CodePiece}
use Rattle.c_tree.specs.declared.typed.Piece.TheVariants as code
use Rattle.struct_ir.specs.Valid.{has_width}

-- ---- widths

pub width_is : (bits : ℕ) → has_width bits ≡ true → bits ≢ 32 → bits ≡ 64
width_is bits h other = grind (arith, nat_tests)

-- ---- the low bits

pub low_is : (m w : ℕ) → 0 < m → w % m ≡ residue m (pos w)
low_is m w some = sym (residue_is m (pos w) 0 w some (omega (arith, ints)))

raised_is : (m w half : ℕ) → 0 < m → residue m (pos w +ℤ pos half) ≡ (w + half) % m
raised_is m w half some = residue_is m (pos w +ℤ pos half) 0 (w + half) some (omega (arith, ints))

-- ---- signed numbers

above : (half n r : ℕ) → r ≡ n + half → neg_ℤ (pos half) +ℤ pos r ≡ pos n
above half n r is = omega (arith, ints)

below : (half k r : ℕ) → r + suc k ≡ half → neg_ℤ (pos half) +ℤ pos r ≡ negsuc k
below half k r is = omega (arith, ints)

-- a number of 32 bits
small_above : (w : ℕ) → w % 4294967296 < 2147483648 → (w + 2147483648) % 4294967296 ≡ w % 4294967296 + 2147483648
small_above w low = omega arith

small_below : (w k : ℕ) → 2147483648 ≤ w % 4294967296 → suc k ≡ 2147483648 - (w % 4294967296 - 2147483648) → (w + 2147483648) % 4294967296 + suc k ≡ 2147483648
small_below w k high is = omega arith

-- a number of 64 bits
large_above : (w : ℕ) → w < 9223372036854775808 → (w + 9223372036854775808) % 18446744073709551616 ≡ w + 9223372036854775808
large_above w low = omega arith

large_below : (w k : ℕ) → 9223372036854775808 ≤ w → w < 18446744073709551616 → suc k ≡ 9223372036854775808 - (w - 9223372036854775808) → (w + 9223372036854775808) % 18446744073709551616 + suc k ≡ 9223372036854775808
large_below w k high fits is = omega arith

-- a word is its own low 64 bits
pub whole_is : (w : ℕ) → w < 2 ^ 64 → w ≡ residue (2 ^ 64) (pos w)
whole_is w fits =
    let same : w ≡ w % 18446744073709551616 = omega arith in
    same ∙ low_is (2 ^ 64) w (omega arith)

-- ---- what is written

-- half of the numbers of so many bits
abbrev pub IsHalf : (bits half : ℕ) → Type 0
IsHalf bits half = ((bits ≡ 32) × (half ≡ 2147483648)) ⊎ ((bits ≡ 64) × (half ≡ 9223372036854775808))

pub value_up : (bits half w n : ℕ) → IsHalf bits half → w < 2 ^ 64 → n ≡ residue (2 ^ bits) (pos w) → n < half → signed_value bits (pos w) ≡ pos n
value_up bits half w n (inl is) fits n_is low =
    let low_bits : n ≡ w % 4294967296 = rw is.0 at n_is ∙ sym (low_is (2 ^ 32) w (omega arith)) in
    let sum : (w + 2147483648) % 4294967296 ≡ n + 2147483648 = rw low_bits (small_above w (omega (arith, is.1, low_bits))) in
    rw is.0 (ap (λ (r : ℕ). neg_ℤ (pos 2147483648) +ℤ pos r) (raised_is (2 ^ 32) w 2147483648 (omega arith) ∙ sum) ∙ above 2147483648 n (n + 2147483648) refl)
value_up bits half w n (inr is) fits n_is low =
    let whole : n ≡ w = rw is.0 at n_is ∙ sym (whole_is w fits) in
    let sum : (w + 9223372036854775808) % 18446744073709551616 ≡ n + 9223372036854775808 = rw whole (large_above w (omega (arith, is.1, whole))) in
    rw is.0 (ap (λ (r : ℕ). neg_ℤ (pos 9223372036854775808) +ℤ pos r) (raised_is (2 ^ 64) w 9223372036854775808 (omega arith) ∙ sum) ∙ above 9223372036854775808 n (n + 9223372036854775808) refl)

value_down : (bits half w n k : ℕ) → IsHalf bits half → w < 2 ^ 64 → n ≡ residue (2 ^ bits) (pos w) → half ≤ n → suc k ≡ half - (n - half) → signed_value bits (pos w) ≡ negsuc k
value_down bits half w n k (inl is) fits n_is high k_is =
    let low_bits : n ≡ w % 4294967296 = rw is.0 at n_is ∙ sym (low_is (2 ^ 32) w (omega arith)) in
    let sum : (w + 2147483648) % 4294967296 + suc k ≡ 2147483648 = small_below w k (omega (arith, is.1, low_bits)) (omega (arith, is.1, low_bits)) in
    rw is.0 (ap (λ (r : ℕ). neg_ℤ (pos 2147483648) +ℤ pos r) (raised_is (2 ^ 32) w 2147483648 (omega arith)) ∙ below 2147483648 k _ sum)
value_down bits half w n k (inr is) fits n_is high k_is =
    let whole : n ≡ w = rw is.0 at n_is ∙ sym (whole_is w fits) in
    let sum : (w + 9223372036854775808) % 18446744073709551616 + suc k ≡ 9223372036854775808 = large_below w k (omega (arith, is.1, whole)) fits (omega (arith, is.1, whole)) in
    rw is.0 (ap (λ (r : ℕ). neg_ℤ (pos 9223372036854775808) +ℤ pos r) (raised_is (2 ^ 64) w 9223372036854775808 (omega arith)) ∙ below 9223372036854775808 k _ sum)

-- a number below half stands for itself
pub signed_up : (bits half w n : ℕ) → IsHalf bits half → w < 2 ^ 64 → n ≡ residue (2 ^ bits) (pos w) → n < half → digits 10 false n ≡ written (signed bits) (pos w)
signed_up bits half w n is fits n_is low = sym (ap signed_decimal (value_up bits half w n is fits n_is low))

-- and any other for what it lacks to twice the half, below 0
pub signed_down : (bits half w n : ℕ) → IsHalf bits half → w < 2 ^ 64 → n ≡ residue (2 ^ bits) (pos w) → half ≤ n → n < half + half → 45 ∷ digits 10 false (half - (n - half)) ≡ written (signed bits) (pos w)
signed_down bits half w n is fits n_is high top =
    let k : ℕ = half - (n - half) - 1 in
    let k_is : suc k ≡ half - (n - half) = omega arith in
    ap (λ d. 45 ∷ digits 10 false d) (sym k_is) ∙ sym (ap signed_decimal (value_down bits half w n (half - (n - half) - 1) is fits n_is high k_is))

-- the number is below twice the half
pub low_below : (bits half w n : ℕ) → IsHalf bits half → w < 2 ^ 64 → n ≡ residue (2 ^ bits) (pos w) → n < half + half
low_below bits half w n (inl is) fits n_is =
    let low_bits : n ≡ w % 4294967296 = rw is.0 at n_is ∙ sym (low_is (2 ^ 32) w (omega arith)) in
    omega (arith, is.1, low_bits)
low_below bits half w n (inr is) fits n_is =
    let whole : n ≡ w = rw is.0 at n_is ∙ sym (whole_is w fits) in
    omega (arith, is.1, whole)

-- ---- characters

-- a piece for a number that is none of the others is a character's
pub char_is : (p : CodePiece) → takes_number (piece_view p) ≡ true → ((bits : ℕ) → ¬ (p ≡ code.Signed bits)) → ((bits : ℕ) → ¬ (p ≡ code.Unsigned bits)) → ((bits : ℕ) → ¬ (p ≡ code.Hex bits)) → (w : ℕ) → w % 256 ∷ [] ≡ written (piece_view p) (pos w)
char_is (code.Bytes all) takes s u x w = absurd cc
char_is (code.Signed bits) takes s u x w = absurd (s bits refl)
char_is (code.Unsigned bits) takes s u x w = absurd (u bits refl)
char_is (code.Hex bits) takes s u x w = absurd (x bits refl)
char_is code.Char takes s u x w = ap (λ b. b ∷ []) (low_is 256 w (omega arith))
char_is code.Text takes s u x w = absurd cc
