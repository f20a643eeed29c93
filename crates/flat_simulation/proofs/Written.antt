-- Bytes that are written where there are bytes: afterwards there are as many.
use Rattle.std.proofs.Common.{◌≡◌, ℕ, zero, suc, ◌+◌, ◌-◌, List, [], ◌∷◌, ◌++◌, length, take, drop, Option, Some, None, ap, refl, arith, length-append}
use Rattle.std.proofs.lemmas.List.{take-append-drop}
use Rattle.flat_store.specs.Flat.{first_address, bytes_from, with_bytes, HasBytes, first_outside, first_of}
use Rattle.flat_store.proofs.Firsts.{none_meant}
use Rattle.defrag_move.proofs.Bytes.{length-bytes_from, length-with_bytes}

-- nothing is written
none_written : (bytes : List ℕ) (k : ℕ) → length (take k bytes ++ [] ++ drop (k + 0) bytes) ≡ length bytes
none_written bytes k =
    let same : k + 0 ≡ k = omega arith in
    rw same (omega (arith, length-append (take k bytes ++ []) (drop k bytes), length-append (take k bytes) [], length-append (take k bytes) (drop k bytes), ap length (take-append-drop k bytes)))

-- so many bytes are written where each address has one
pub length-written : (bytes new : List ℕ) (at n : ℕ) → length new ≡ n → first_outside bytes at n ≡ None → length (with_bytes bytes at new) ≡ length bytes
length-written bytes [] at n long there = none_written bytes (at - first_address)
length-written bytes (b ∷ bs) at n long there =
    let has : HasBytes bytes at n = (none_meant bytes at n).0 there in
    let first = has 0 (omega arith) in
    let last = has (length bs) (omega arith) in
    length-with_bytes bytes (b ∷ bs) at (omega (arith, first.0)) (omega (arith, last.1))

-- so many bytes are there to be read
pub length-read : (bytes : List ℕ) (at n : ℕ) → first_outside bytes at n ≡ None → length (bytes_from bytes at n) ≡ n
length-read bytes at zero there = refl
length-read bytes at (suc n) there =
    let has : HasBytes bytes at (suc n) = (none_meant bytes at (suc n)).0 there in
    let first = has 0 (omega arith) in
    let last = has n (omega arith) in
    length-bytes_from bytes at (suc n) (omega (arith, first.0)) (omega (arith, last.1))

-- where no address of two is outside
pub none_of_both : (a b : Option ℕ) → first_of a b ≡ None → (a ≡ None) × (b ≡ None)
none_of_both None b e = (refl, e)
none_of_both (Some a) b e = absurd cc
