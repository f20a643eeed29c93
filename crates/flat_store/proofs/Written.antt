-- Bytes that were written from an address on leave the others as they were.
use Rattle.std.proofs.Common.{◌≡◌, ℕ, ◌+◌, ◌-◌, ◌<◌, ◌≤◌, ◌⊎◌, List, ◌++◌, length, get_or, take, drop, sym, subst, inl, inr, arith}
use Rattle.std.proofs.lemmas.Grind.{common_steps}
use Rattle.flat_store.specs.Flat.{first_address, with_bytes, ChangesOnly}

module _ (xs new : List ℕ) (from : ℕ) (fits : from + length new ≤ length xs) where
  written-length : length (take from xs ++ new ++ drop (from + length new) xs) ≡ length xs
  written-length = grind (arith, common_steps)

  written-others : (i : ℕ) → (i < from) ⊎ (from + length new ≤ i) → i < length xs → get_or (take from xs ++ new ++ drop (from + length new) xs) i 0 ≡ get_or xs i 0
  written-others i (inl below) within = grind (arith, common_steps)
  written-others i (inr above) within = grind (arith, common_steps)

pub changes_only : (old new written : List ℕ) (at n : ℕ) → length written ≡ n → new ≡ with_bytes old at written → first_address ≤ at → at + n ≤ first_address + length old → ChangesOnly old new at n
changes_only old new written at n many is above within =
    subst (λ (bytes : List ℕ). ChangesOnly old bytes at n) (sym is) (record {
      size = written-length old written (at - first_address) (omega (arith, many));
      others = λ address has apart. written-others old written (at - first_address) (omega (arith, many)) (address - first_address) (side address has.0 apart) (omega (arith, has.0, has.1));
    })
  where
    side : (address : ℕ) → first_address ≤ address → (address < at) ⊎ (at + n ≤ address) → (address - first_address < at - first_address) ⊎ (at - first_address + length written ≤ address - first_address)
    side address low (inl below) = inl (omega arith)
    side address low (inr past) = inr (omega (arith, many))
