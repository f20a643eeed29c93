-- Laws of bytes.
use Rattle.std.proofs.Common.{ℕ, ◌+◌, ◌*◌, ◌^◌, ◌<◌, ◌≤◌, arith}
use Rattle.std.proofs.Math.Nat.{pow-le-pow_right}

-- a number of at most seven bytes and a byte below it lie in eight bytes
pub high_fits : (high k : ℕ) → high < 256 ^ k → k ≤ 7 → 256 * high + 256 ≤ 2 ^ 64
high_fits high k h le =
    let e : 256 ^ k ≤ 256 ^ 7 = pow-le-pow_right {n = 256} (omega arith) {i = k} {j = 7} le in
    omega arith
