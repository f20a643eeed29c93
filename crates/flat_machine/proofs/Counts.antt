-- Counts that stay at their greatest number.
use Rattle.std.proofs.Common.{◌≡◌, ℕ, ◌+◌, ◌-◌, ◌^◌, ◌<◌, ◌≤◌, ◌⊎◌, true, false, sym, ap, ◌∙◌, arith, inl, inr}
use Rattle.std.specs.Prelude.{nat_le}
use Rattle.std.proofs.lemmas.Bool.Decides.{leb_tells}
use Rattle.std.proofs.Math.Nat.{min_comm, min-eq_left}
use Rattle.flat_machine.specs.Sweeping.{counted}

full : (n : ℕ) → 2 ^ 64 - 1 ≤ n → counted n ≡ 2 ^ 64 - 1
full n above = min_comm n (2 ^ 64 - 1) ∙ min-eq_left above

-- what is added to a count may be one itself
pub counted_part : (n part : ℕ) → counted (n + counted part) ≡ counted (n + part)
counted_part n part = by (leb_tells part (2 ^ 64 - 1)) where
  by : ((nat_le part (2 ^ 64 - 1) ≡ true) × (part ≤ 2 ^ 64 - 1)) ⊎ ((nat_le part (2 ^ 64 - 1) ≡ false) × (2 ^ 64 - 1 < part)) → counted (n + counted part) ≡ counted (n + part)
  by (inl h) = ap (λ k. counted (n + k)) (min-eq_left h.1)
  by (inr h) = ap (λ k. counted (n + k)) (full part (omega (arith, h.1))) ∙ full (n + (2 ^ 64 - 1)) (omega arith) ∙ sym (full (n + part) (omega (arith, h.1)))

-- and so may what it is added to
pub counted_more : (n part : ℕ) → counted (counted n + part) ≡ counted (n + part)
counted_more n part =
    let before : counted n + part ≡ part + counted n = omega arith in
    let after : part + n ≡ n + part = omega arith in
    ap counted before ∙ counted_part part n ∙ ap counted after
