-- Words of sets.
use Rattle.std.proofs.Common.{◌≡◌, ℕ, ◌<◌, ◌≤◌, ◌+◌, ◌/◌, ◌%◌, List, [], ◌∷◌, ◌++◌, length, replicate, slice_index, Bool, true, false, if◌then◌else◌, refl, sym, ap, ◌∙◌, arith, zero, suc, inl, inr}
use Rattle.std.specs.Prelude.{◌==◌, ◌||◌, not, cond, max, min, bit_or, bit_and, bit_xor}
use Rattle.std.specs.Int.{bit_at}
use Rattle.std.proofs.lemmas.Nat.Bits.{bit_at_or, bit_at_and, bit_at_xor, bit_at_ones, bit_at-lt, bit_at-zero}
use Rattle.std.proofs.lemmas.List.{get_or-replicate, get_or_past}
use Rattle.std.proofs.lemmas.Bool.{cases_lt}
use Rattle.pin_flow.specs.Marks.{state_of}
use Rattle.mark_sets.specs.Words.{has}

-- a number whose word isn't there
pub past : (words : List ℕ) (i : ℕ) → length words ≤ i / 64 → has words i ≡ false
unfolding has
past words i le = ap (λ w. bit_at w (i % 64) == 1) (get_or_past words (i / 64) 0 le) ∙ ap (λ b. b == 1) (bit_at-zero (i % 64))

or_bits : (x y : ℕ) → x < 2 → y < 2 → (max x y == 1) ≡ ((x == 1) || (y == 1))
or_bits zero zero h g = refl
or_bits zero (suc zero) h g = refl
or_bits (suc zero) zero h g = refl
or_bits (suc zero) (suc zero) h g = refl
or_bits (suc (suc x)) y h g = absurd (omega arith)
or_bits x (suc (suc y)) h g = absurd (omega arith)

or_at : (a b i : ℕ) → (bit_at (bit_or a b) i == 1) ≡ ((bit_at a i == 1) || (bit_at b i == 1))
or_at a b i = ap (λ x. x == 1) (bit_at_or a b i) ∙ or_bits (bit_at a i) (bit_at b i) (bit_at-lt a i) (bit_at-lt b i)

or_none : (x y : Bool) → y ≡ false → x ≡ (x || y)
or_none true y e = refl
or_none false y e = sym e

-- the words of the other set united, and those behind them as they were
pub united : (old new other : List ℕ) → ((k : ℕ) → k < length other → slice_index new k ≡ bit_or (slice_index old k) (slice_index other k))
    → ((k : ℕ) → length other ≤ k → slice_index new k ≡ slice_index old k) → (i : ℕ) → has new i ≡ (has old i || has other i)
unfolding has
united old new other below above i = elim (cases_lt (i / 64) (length other)) [
  | inl lt ↦ ap (λ w. bit_at w (i % 64) == 1) (below (i / 64) lt) ∙ or_at (slice_index old (i / 64)) (slice_index other (i / 64)) (i % 64)
  | inr ge ↦ ap (λ w. bit_at w (i % 64) == 1) (above (i / 64) ge) ∙ or_none (has old i) (has other i) (past other i ge)
]

-- a word more without numbers
zero_more : (words : List ℕ) (k : ℕ) → slice_index (words ++ (0 ∷ [])) k ≡ slice_index words k
zero_more [] zero = refl
zero_more [] (suc k) = refl
zero_more (x ∷ words) zero = refl
zero_more (x ∷ words) (suc k) = zero_more words k

pub none_more : (words : List ℕ) (i : ℕ) → has (words ++ (0 ∷ [])) i ≡ has words i
unfolding has
none_more words i = ap (λ w. bit_at w (i % 64) == 1) (zero_more words (i / 64))

-- all numbers
pub full_has : (count : ℕ) (words : List ℕ) → words ≡ replicate (count / 64 + 1) 18446744073709551615 → (i : ℕ) → i < count → has words i ≡ true
unfolding has
full_has count words e i h =
    ap (λ l. bit_at (slice_index l (i / 64)) (i % 64) == 1) e
    ∙ (ap (λ w. bit_at w (i % 64) == 1) (get_or-replicate (count / 64 + 1) (i / 64) 18446744073709551615 0 (omega arith)) ∙ ap (λ b. b == 1) (bit_at_ones 64 (i % 64) (omega arith)))

-- ---- of two words, by a third

abbrev pub chosen_word : (set first second : ℕ) → ℕ
chosen_word set first second = bit_xor first (bit_and (bit_xor first second) set)

chosen_bits : (s y n : ℕ) → s < 2 → y < 2 → n < 2 → ((y + min ((y + n) % 2) s) % 2 == 1) ≡ (if s == 1 then n == 1 else y == 1)
chosen_bits zero zero zero f g h = refl
chosen_bits zero zero (suc zero) f g h = refl
chosen_bits zero (suc zero) zero f g h = refl
chosen_bits zero (suc zero) (suc zero) f g h = refl
chosen_bits (suc zero) zero zero f g h = refl
chosen_bits (suc zero) zero (suc zero) f g h = refl
chosen_bits (suc zero) (suc zero) zero f g h = refl
chosen_bits (suc zero) (suc zero) (suc zero) f g h = refl
chosen_bits (suc (suc s)) y n f g h = absurd (omega arith)
chosen_bits s (suc (suc y)) n f g h = absurd (omega arith)
chosen_bits s y (suc (suc n)) f g h = absurd (omega arith)

chosen_at : (s y n i : ℕ) → (bit_at (chosen_word s y n) i == 1) ≡ (if bit_at s i == 1 then bit_at n i == 1 else bit_at y i == 1)
chosen_at s y n i =
    ap (λ x. x == 1) (bit_at_xor y (bit_and (bit_xor y n) s) i)
    ∙ (ap (λ x. (bit_at y i + x) % 2 == 1) (bit_at_and (bit_xor y n) s i)
    ∙ (ap (λ x. (bit_at y i + min x (bit_at s i)) % 2 == 1) (bit_at_xor y n i)
    ∙ chosen_bits (bit_at s i) (bit_at y i) (bit_at n i) (bit_at-lt s i) (bit_at-lt y i) (bit_at-lt n i)))

either_none : (s y n : Bool) → y ≡ false → n ≡ false → false ≡ (if s then n else y)
either_none true y n e f = sym f
either_none false y n e f = sym e

pub chosen_has : (out set first second : List ℕ) (most : ℕ) → length out ≡ most → length first ≤ most → length second ≤ most
    → ((k : ℕ) → k < most → slice_index out k ≡ chosen_word (slice_index set k) (slice_index first k) (slice_index second k)) → (i : ℕ) → has out i ≡ (if has set i then has second i else has first i)
unfolding has
chosen_has out set first second most long y n each i = elim (cases_lt (i / 64) most) [
  | inl lt ↦ ap (λ w. bit_at w (i % 64) == 1) (each (i / 64) lt) ∙ chosen_at (slice_index set (i / 64)) (slice_index first (i / 64)) (slice_index second (i / 64)) (i % 64)
  | inr ge ↦ past out i (omega arith) ∙ either_none (has set i) (has first i) (has second i) (past first i (omega arith)) (past second i (omega arith))
]

at_push : (out : List ℕ) (x j : ℕ) → j < length out → slice_index (out ++ (x ∷ [])) j ≡ slice_index out j
at_push [] x j h = absurd (omega (arith, h))
at_push (y ∷ out) x zero h = refl
at_push (y ∷ out) x (suc j) h = at_push out x j (omega (arith, h))

at_last : (out : List ℕ) (x : ℕ) → slice_index (out ++ (x ∷ [])) (length out) ≡ x
at_last [] x = refl
at_last (y ∷ out) x = at_last out x

-- a word more
pub chosen_more : (out set first second : List ℕ) (k y n s : ℕ) → length out ≡ k → ((j : ℕ) → j < k → slice_index out j ≡ chosen_word (slice_index set j) (slice_index first j) (slice_index second j))
    → y ≡ slice_index first k → n ≡ slice_index second k → s ≡ slice_index set k → (j : ℕ) → j < k + 1
    → slice_index (out ++ (chosen_word s y n ∷ [])) j ≡ chosen_word (slice_index set j) (slice_index first j) (slice_index second j)
chosen_more out set first second k y n s long each ey en es j h = elim (cases_lt j k) [
  | inl lt ↦ at_push out (chosen_word s y n) j (omega arith) ∙ each j lt
  | inr ge ↦ (let at : j ≡ length out = omega arith in let jk : k ≡ j = omega arith in
      ap (λ i. slice_index (out ++ (chosen_word s y n ∷ [])) i) at ∙ (at_last out (chosen_word s y n)
      ∙ ((λ t. chosen_word (es t) (ey t) (en t)) ∙ ap (λ i. chosen_word (slice_index set i) (slice_index first i) (slice_index second i)) jk)))
]

-- where all paths begin, with a yes and with a no
pub begun_at : (ones zeros : List ℕ) (count : ℕ) → ones ≡ [] → ((i : ℕ) → i < count → has zeros i ≡ true) → (i : ℕ) (v : Bool) → i < count → state_of (not (cond v (has ones i) (has zeros i))) ≡ state_of v
begun_at ones zeros count none all i true h = ap (λ x. state_of (not x)) (ap (λ l. has l i) none ∙ past [] i (omega arith))
begun_at ones zeros count none all i false h = ap (λ x. state_of (not x)) (all i h)
