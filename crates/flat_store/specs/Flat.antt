-- Bytes at addresses: which addresses have one, the bytes of an access, and the bytes with some of them written over.
use Rattle.std.specs.Prelude.{◌≡◌, ◌≢◌, ℕ, ◌+◌, ◌-◌, ◌<◌, ◌≤◌, nat_le, nat_lt, ◌⊎◌, Bool, ◌&&◌, not, List, ◌++◌, length, take, drop, slice_index, Option, Some, None}
use Rattle.std.specs.List.{find, range_with_len}

-- the address of the first byte
abbrev pub first_address : ℕ
first_address = 4096

-- there is a byte at this address
abbrev pub HasByte : List ℕ → ℕ → Type 0
HasByte bytes address = (first_address ≤ address) × (address < first_address + length bytes)

-- the byte at an address
abbrev pub byte_at : List ℕ → ℕ → ℕ
byte_at bytes address = slice_index bytes (address - first_address)

-- there is a byte at each of the n addresses from `at` on
abbrev pub HasBytes : List ℕ → (at n : ℕ) → Type 0
HasBytes bytes at n = (k : ℕ) → k < n → HasByte bytes (at + k)

-- the same as a test
abbrev pub has_byte : List ℕ → ℕ → Bool
has_byte bytes address = nat_le first_address address && nat_lt address (first_address + length bytes)

-- of the n addresses from `at` on, the first that has no byte, if there is one
abbrev pub first_outside : List ℕ → (at n : ℕ) → Option ℕ
first_outside bytes at n = find (λ address. not (has_byte bytes address)) (range_with_len at n)

-- an address, or else that of the second
abbrev pub first_of : Option ℕ → Option ℕ → Option ℕ
first_of (Some address) second = Some address
first_of None second = second

-- of the n addresses from `to` on, and then of those from `from` on, the first that has no byte
abbrev pub first_outside_of_both : List ℕ → (to from n : ℕ) → Option ℕ
first_outside_of_both bytes to from n = first_of (first_outside bytes to n) (first_outside bytes from n)

-- what the first such address is: it is one of the n addresses from `at` on, each before it has a byte, and it has none
pub record IsFirstOutside (bytes : List ℕ) (at n address : ℕ) : Type 0 where
  pub reached : (at ≤ address) × (address < at + n)
  pub before : HasBytes bytes at (address - at)
  pub outside : ¬ HasByte bytes address

-- the n bytes from an address on
abbrev pub bytes_from : List ℕ → (at n : ℕ) → List ℕ
bytes_from bytes at n = take n (drop (at - first_address) bytes)

-- the bytes with new ones in place of those from an address on
abbrev pub with_bytes : List ℕ → (at : ℕ) → List ℕ → List ℕ
with_bytes bytes at new = take (at - first_address) bytes ++ new ++ drop (at - first_address + length new) bytes

-- there are n bytes from an address on, and none of them is zero
abbrev pub HasNoZero : List ℕ → (at n : ℕ) → Type 0
HasNoZero bytes at n = (k : ℕ) → k < n → HasByte bytes (at + k) × (byte_at bytes (at + k) ≢ 0)

-- the text at an address has this length: so many bytes that are not zero, and then a zero byte (C11 7.1.1)
abbrev pub IsTextLen : List ℕ → (at len : ℕ) → Type 0
IsTextLen bytes at len = HasNoZero bytes at len × HasByte bytes (at + len) × (byte_at bytes (at + len) ≡ 0)

-- each byte outside the n addresses from `at` on is as it was, and so are the addresses
pub record ChangesOnly (old new : List ℕ) (at n : ℕ) : Type 0 where
  pub size : length new ≡ length old
  pub others : (address : ℕ) → HasByte old address → (address < at) ⊎ (at + n ≤ address) → byte_at new address ≡ byte_at old address
