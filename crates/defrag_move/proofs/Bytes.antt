-- Bytes written over from an address on: what is there then, and what is as it was.
use Rattle.std.proofs.Common.{◌≡◌, ℕ, ◌+◌, ◌-◌, ◌<◌, ◌≤◌, ◌⊎◌, List, ◌++◌, length, get_or, take, drop, ap, sym, ◌∙◌, inl, inr, arith}
use Rattle.std.proofs.lemmas.List.{length-take-le, length-drop, length-append, get_or-take, get_or-drop, get_or_append_left, get_or-append_right, ext_get_or}
use Rattle.flat_store.specs.Flat.{first_address, byte_at, bytes_from, with_bytes}

module _ (xs new : List ℕ) (from : ℕ) (fits : from + length new ≤ length xs) where
  abbrev written : List ℕ
  written = take from xs ++ new ++ drop (from + length new) xs

  front : length (take from xs) ≡ from
  front = length-take-le from xs (omega arith)

  both : length (take from xs ++ new) ≡ from + length new
  both = length-append (take from xs) new ∙ ap (λ n. n + length new) front

  -- there are as many as there were
  pub length-written : length written ≡ length xs
  length-written = omega (arith, length-append (take from xs ++ new) (drop (from + length new) xs), both, length-drop (from + length new) xs)

  -- what stands outside is as it was
  pub written-outside : (i : ℕ) → (i < from) ⊎ (from + length new ≤ i) → get_or written i 0 ≡ get_or xs i 0
  written-outside i (inl below) =
      get_or_append_left (take from xs ++ new) (drop (from + length new) xs) 0 i (omega (arith, both)) ∙ get_or_append_left (take from xs) new 0 i (omega (arith, front)) ∙ get_or-take from xs i 0 below
  written-outside i (inr above) =
      get_or-append_right (take from xs ++ new) (drop (from + length new) xs) (from + length new) i 0 both above
      ∙ get_or-drop (from + length new) xs (i - (from + length new)) 0
      ∙ ap (λ k. get_or xs k 0) (omega arith)

  -- and inside there is the new
  written-inside : (i : ℕ) → i < length new → get_or written (from + i) 0 ≡ get_or new i 0
  written-inside i below =
      get_or_append_left (take from xs ++ new) (drop (from + length new) xs) 0 (from + i) (omega (arith, both))
      ∙ get_or-append_right (take from xs) new from (from + i) 0 front (omega arith)
      ∙ ap (λ k. get_or new k 0) (omega arith)

  part-at : (j n i : ℕ) (ys : List ℕ) → i < n → get_or (take n (drop j ys)) i 0 ≡ get_or ys (j + i) 0
  part-at j n i ys below = get_or-take n (drop j ys) i 0 below ∙ get_or-drop j ys i 0

  part-length : (j n : ℕ) (ys : List ℕ) → j + n ≤ length ys → length (take n (drop j ys)) ≡ n
  part-length j n ys within = length-take-le n (drop j ys) (omega (arith, length-drop j ys))

  pub part-inside : take (length new) (drop from written) ≡ new
  part-inside =
      let long = part-length from (length new) written (omega (arith, length-written)) in
      ext_get_or 0 _ new long (λ i below. part-at from (length new) i written (omega (arith, below, long)) ∙ written-inside i (omega (arith, below, long)))

  pub part-outside : (j n : ℕ) → j + n ≤ length xs → (j + n ≤ from) ⊎ (from + length new ≤ j) → take n (drop j written) ≡ take n (drop j xs)
  part-outside j n within apart =
      let long = part-length j n written (omega (arith, length-written)) in
      ext_get_or 0 _ _ (long ∙ sym (part-length j n xs within)) (λ i below.
      let inside : i < n = omega (arith, below, long) in
      part-at j n i written inside ∙ written-outside (j + i) (side i inside apart) ∙ sym (part-at j n i xs inside))
    where
      side : (i : ℕ) → i < n → (j + n ≤ from) ⊎ (from + length new ≤ j) → (j + i < from) ⊎ (from + length new ≤ j + i)
      side i inside (inl below) = inl (omega arith)
      side i inside (inr above) = inr (omega arith)

-- ---- by addresses

-- so many bytes from an address on are as many
pub length-bytes_from : (bytes : List ℕ) (at n : ℕ) → first_address ≤ at → at + n ≤ first_address + length bytes → length (bytes_from bytes at n) ≡ n
length-bytes_from bytes at n low within = length-take-le n (drop (at - first_address) bytes) (omega (arith, length-drop (at - first_address) bytes))

module _ (bytes new : List ℕ) (at : ℕ) (low : first_address ≤ at) (fits : at + length new ≤ first_address + length bytes) where
  within : at - first_address + length new ≤ length bytes
  within = omega arith

  pub length-with_bytes : length (with_bytes bytes at new) ≡ length bytes
  length-with_bytes = length-written bytes new (at - first_address) within

  -- the new bytes stand where they were written
  pub bytes_from-with_bytes : bytes_from (with_bytes bytes at new) at (length new) ≡ new
  bytes_from-with_bytes = part-inside bytes new (at - first_address) within

  -- bytes apart from them are as they were
  pub bytes_from-apart : (other n : ℕ) → first_address ≤ other → other + n ≤ first_address + length bytes → (other + n ≤ at) ⊎ (at + length new ≤ other) → bytes_from (with_bytes bytes at new) other n ≡ bytes_from bytes other n
  bytes_from-apart other n above inside (inl below) = part-outside bytes new (at - first_address) within (other - first_address) n (omega arith) (inl (omega arith))
  bytes_from-apart other n above inside (inr behind) = part-outside bytes new (at - first_address) within (other - first_address) n (omega arith) (inr (omega arith))

  -- and so is each byte below them
  pub byte_at-below : (address : ℕ) → first_address ≤ address → address < at → byte_at (with_bytes bytes at new) address ≡ byte_at bytes address
  byte_at-below address above below = written-outside bytes new (at - first_address) within (address - first_address) (inl (omega arith))
