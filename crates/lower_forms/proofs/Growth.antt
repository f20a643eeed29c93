-- Sums of what grows at a rate.
use Rattle.std.proofs.Common.{◌≡◌, ℕ, suc, ◌+◌, ◌*◌, ◌≤◌, arith}

pub times_suc : (c n : ℕ) → c * suc n ≡ c + c * n
times_suc c n = grind arith

pub times_plus : (c m n : ℕ) → c * (m + n) ≡ c * m + c * n
times_plus c m n = grind arith

pub grows_five : (c m : ℕ) → 5 ≤ c → 5 * m ≤ c * m
grows_five c m h = grind (arith, h)

pub grows_eight : (c m : ℕ) → 8 ≤ c → 8 * m ≤ c * m
grows_eight c m h = grind (arith, h)
