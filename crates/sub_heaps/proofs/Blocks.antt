-- Places and the number of the sub-heap that they lie in: `at / size` is the number, `at % size` the distance from the sub-heap's start.
use Rattle.std.proofs.Common.{◌≡◌, ℕ, ◌+◌, ◌-◌, ◌*◌, ◌/◌, ◌%◌, ◌<◌, ◌≤◌, inl, inr, arith}
use Rattle.std.proofs.Math.Nat.{div-eq_of_lt-le, div-add-mod', lt-div-mul-add, div-lt_iff_lt-mul}
use Rattle.std.proofs.lemmas.Nat.{mul-le}
use Rattle.std.proofs.lemmas.Bool.{cases_lt}
use Rattle.sub_heaps.specs.SubHeaps.{LiesInOne}

module _ (size : ℕ) (some : 0 < size) where
  -- a place is its sub-heap's start and the distance from it
  pub place_parts : (at : ℕ) → at / size * size + at % size ≡ at
  place_parts at = div-add-mod' at size

  pub mod_below : (at : ℕ) → at % size < size
  mod_below at = omega (arith, lt-div-mul-add {a = at} some, div-add-mod' at size)

  -- the number of the sub-heap whose bytes a place is among
  pub number_is : (k at : ℕ) → k * size ≤ at → at < k * size + size → at / size ≡ k
  number_is k at low high = div-eq_of_lt-le size low (omega arith)

  -- what lies in one of the sub-heaps ends within the whole
  pub end_inside : (count bytes at : ℕ) → LiesInOne count size bytes at → at + bytes ≤ count * size
  end_inside count bytes at lies =
      let number : at / size < count = (div-lt_iff_lt-mul some).1 lies.0 in
      omega (arith, mul-le (at / size + 1) size count size (omega arith) (omega arith), place_parts at, lies.1)

  -- a later place that lies in no higher sub-heap lies as far above its start, or farther
  pub lowest_inside : (from bytes at : ℕ) → size < from % size + bytes → from ≤ at → at % size + bytes ≤ size → from - from % size + size ≤ at
  lowest_inside from bytes at over le inside = elim (cases_lt at (from - from % size + size)) [
    | inl below ↦
        let same : at / size ≡ from / size = number_is (from / size) at (omega (arith, place_parts from)) (omega (arith, place_parts from)) in
        absurd (omega (arith, place_parts from, place_parts at, rw same at (place_parts at)))
    | inr above ↦ above
  ]
