-- The bytes that `text_len` reads, by their addresses.
use Rattle.std.proofs.Common.{◌≡◌, ◌≢◌, ℕ, ◌+◌, ◌-◌, ◌<◌, ◌≤◌, List, length, get_or, take, drop, ap, ◌∙◌, sym, length-take-le, length-drop, arith}
use Rattle.std.proofs.lemmas.List.{get_or-take, get_or-drop}
use Rattle.flat_store.specs.Flat.{first_address, byte_at, HasNoZero, IsTextLen, IsFirstOutside}

-- so many bytes are read
pub length-read : (bytes : List ℕ) (start m : ℕ) → start + m ≤ length bytes → length (take m (drop start bytes)) ≡ m
length-read bytes start m within = length-take-le m (drop start bytes) (omega (arith, length-drop start bytes))

-- the byte k bytes after the one at `at` is element k of those that are read
read-byte_at : (bytes : List ℕ) (at start m k : ℕ) → at ≡ first_address + start → k < m → get_or (take m (drop start bytes)) k 0 ≡ byte_at bytes (at + k)
read-byte_at bytes at start m k index below =
    let same : start + k ≡ at + k - first_address = omega arith in
    get_or-take m (drop start bytes) k 0 below ∙ get_or-drop start bytes k 0 ∙ ap (λ i. get_or bytes i 0) same

-- where the first n of the m bytes that are read are not zero, there are n bytes from `at` on and none is zero
pub HasNoZero-read : (bytes : List ℕ) (at start m n : ℕ) → at ≡ first_address + start → start + m ≤ length bytes → n ≤ m → ((k : ℕ) → k < n → get_or (take m (drop start bytes)) k 0 ≢ 0) → HasNoZero bytes at n
HasNoZero-read bytes at start m n index within few others k below =
    ((omega arith, omega arith), λ is_zero. others k below (read-byte_at bytes at start m k index (omega arith) ∙ is_zero))

-- the first zero byte of those that are read ends the text
pub IsTextLen-read : (bytes : List ℕ) (at start m len : ℕ) → at ≡ first_address + start → start + m ≤ length bytes → len < m → ((k : ℕ) → k < len → get_or (take m (drop start bytes)) k 0 ≢ 0)
    → get_or (take m (drop start bytes)) len 0 ≡ 0 → IsTextLen bytes at len
IsTextLen-read bytes at start m len index within below before zero =
    (HasNoZero-read bytes at start m len index within (omega arith) before, (omega arith, omega arith), sym (read-byte_at bytes at start m len index below) ∙ zero)

-- where all bytes from `at` on are read, the next address is the first outside
pub IsFirstOutside-end : (bytes : List ℕ) (at n m : ℕ) → first_address ≤ at → at + m ≡ first_address + length bytes → m < n → IsFirstOutside bytes at n (at + m)
IsFirstOutside-end bytes at n m from all more = record {
  reached = (omega arith, omega arith);
  before = λ k below. (omega arith, omega arith);
  outside = λ has. absurd (omega arith);
}
