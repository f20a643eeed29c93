-- The first of eight zeros.
use Rattle.std.proofs.Common.{◌≡◌, ℕ, zero, suc, ◌≤◌, List, [], ◌∷◌, take, refl, ap, arith}
use Rattle.code_file.specs.Numbers.{zeros}

pub take_zeros : (n k : ℕ) → n ≤ k → take n (zeros k) ≡ zeros n
take_zeros zero k le = refl
take_zeros (suc n) zero le = absurd (omega arith)
take_zeros (suc n) (suc k) le = ap (λ (l : List ℕ). 0 ∷ l) (take_zeros n k (omega arith))
