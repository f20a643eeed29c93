-- One number put into a set of words, or taken out.
use Rattle.std.proofs.Common.{◌≡◌, ℕ, ◌<◌, ◌*◌, ◌/◌, ◌%◌, ◌-◌, true, false, List, length, get_or, set, ap, ◌∙◌, arith, inl, inr, w64}
use Rattle.std.specs.Prelude.{◌==◌, ◌≢◌, ◌^◌, bit_or, bit_and}
use Rattle.std.specs.Int.{bit_at}
use Rattle.std.proofs.lemmas.List.{get_or-set_same, get_or-set_other}
use Rattle.std.proofs.lemmas.Nat.Bits.{bit_at_set_same, bit_at_set_other, bit_at_clear_same, bit_at_clear_other}
use Rattle.std.proofs.lemmas.Bool.{cases_eq}
use Rattle.mark_sets.specs.Words.{has}

-- a write of the word of i
module _ (words : List ℕ) (i x : ℕ) (within : i < 64 * length words) where
  same : has (set words (i / 64) x) i ≡ (bit_at x (i % 64) == 1)
  unfolding has
  same = ap (λ w. bit_at w (i % 64) == 1) (get_or-set_same words (i / 64) x 0 (omega arith))

  -- which changes no other bit of it
  other : ((b : ℕ) → b < 64 → b ≢ i % 64 → bit_at x b ≡ bit_at (get_or words (i / 64) 0) b) → (j : ℕ) → j ≢ i → has (set words (i / 64) x) j ≡ has words j
  unfolding has
  other keeps j apart = elim (cases_eq (j / 64) (i / 64)) [
    | inl e ↦ let k : j % 64 ≢ i % 64 = λ f. apart (omega arith) in
        rw e (ap (λ w. bit_at w (j % 64) == 1) (get_or-set_same words (i / 64) x 0 (omega arith)) ∙ ap (λ b. b == 1) (keeps (j % 64) (omega arith) k))
    | inr e ↦ ap (λ w. bit_at w (j % 64) == 1) (get_or-set_other words (i / 64) (j / 64) x 0 e)
  ]

-- the word of i, with its bit set, and with its bit cleared
module _ (words : List ℕ) (i w : ℕ) (is : w ≡ get_or words (i / 64) 0) (within : i < 64 * length words) where
  abbrev on_word : ℕ → ℕ
  on_word y = bit_or y (1 * 2 ^ (i % 64) % 18446744073709551616)

  abbrev off_word : ℕ → ℕ
  off_word y = bit_and y (18446744073709551615 - 1 * 2 ^ (i % 64) % 18446744073709551616)

  pub put_there : has (set words (i / 64) (on_word w)) i ≡ true
  put_there = ap (λ y. has (set words (i / 64) (on_word y)) i) is ∙ (same words i (on_word (get_or words (i / 64) 0)) within ∙ ap (λ b. b == 1) (bit_at_set_same w64 (get_or words (i / 64) 0) (i % 64) (omega arith)))

  pub put_others : (j : ℕ) → j ≢ i → has (set words (i / 64) (on_word w)) j ≡ has words j
  put_others j ne =
      ap (λ y. has (set words (i / 64) (on_word y)) j) is
      ∙ other words i (on_word (get_or words (i / 64) 0)) within (λ b low apart. bit_at_set_other w64 (get_or words (i / 64) 0) (i % 64) (omega arith) b apart) j ne

  pub taken_gone : has (set words (i / 64) (off_word w)) i ≡ false
  taken_gone = ap (λ y. has (set words (i / 64) (off_word y)) i) is ∙ (same words i (off_word (get_or words (i / 64) 0)) within ∙ ap (λ b. b == 1) (bit_at_clear_same w64 (get_or words (i / 64) 0) (i % 64) (omega arith)))

  pub taken_others : (j : ℕ) → j ≢ i → has (set words (i / 64) (off_word w)) j ≡ has words j
  taken_others j ne =
      ap (λ y. has (set words (i / 64) (off_word y)) j) is
      ∙ other words i (off_word (get_or words (i / 64) 0)) within (λ b low apart. bit_at_clear_other w64 (get_or words (i / 64) 0) (i % 64) (omega arith) b low apart) j ne
