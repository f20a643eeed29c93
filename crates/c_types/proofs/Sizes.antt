-- The measure of a part of a list.
use Rattle.std.proofs.Common.{ℕ, zero, suc, ◌-◌, ◌≤◌, List, [], ◌∷◌, length, take, drop, arith}
use denote.Param.Weighed.{most}

most_take : {X : Type 0} (μ : X → ℕ) (k : ℕ) (xs : List X) → most μ (take k xs) ≤ most μ xs
most_take μ zero xs = omega arith
most_take μ (suc k) [] = omega arith
most_take μ (suc k) (x ∷ xs) = let h : most μ (take k xs) ≤ most μ xs = most_take μ k xs in omega arith

pub most_rest : {X : Type 0} (μ : X → ℕ) (xs : List X) → most μ (take (length xs - 1) (drop 1 xs)) ≤ most μ xs
most_rest μ [] = omega arith
most_rest μ (x ∷ xs) = let h : most μ (take (length (x ∷ xs) - 1) xs) ≤ most μ xs = most_take μ (length (x ∷ xs) - 1) xs in omega arith
