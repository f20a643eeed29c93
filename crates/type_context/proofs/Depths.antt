-- How deep a type is, one star or bracket after the other.
use Rattle.std.proofs.Common.{◌≡◌, ℕ, ◌+◌, ◌-◌, nat_le, arith}
use Rattle.std.specs.Prelude.{nat_lt, ◌&&◌}
use Rattle.std.proofs.lemmas.Bool.Decides.{nat_tests}

-- one deeper than a depth that is within one less
pub one_deeper : (depth most : ℕ) → (nat_lt 0 most && nat_le depth (most - 1)) ≡ nat_le (1 + depth) most
one_deeper depth most = grind (arith, nat_tests)
