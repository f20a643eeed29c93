-- Bytes that move down in parts, of which each leaves those behind it as they were.
use Rattle.std.proofs.Common.{◌≡◌, ℕ, ◌+◌, ◌≤◌, List, ◌++◌, length, take, drop, sym, ap, ◌∙◌, arith, length-append, length-take-le, length-drop, append_assoc, take-add, drop-drop}
use Rattle.std.proofs.Math.Seq.{take-append_seam}
use Rattle.std.proofs.lemmas.Slice.{drop-append-drop}

-- the bytes up to the end of those that have moved
abbrev head : (xs : List ℕ) (to from d : ℕ) → List ℕ
head xs to from d = take to xs ++ take d (drop from xs)

module _ (xs : List ℕ) (to from d : ℕ) (below : to ≤ from) (within : from + d ≤ length xs) where
  length-head : length (head xs to from d) ≡ to + d
  length-head =
      let at = length-take-le to xs (omega (arith, below, within)) in
      let new = length-take-le d (drop from xs) (omega (arith, within, length-drop from xs)) in
      omega (arith, at, new, length-append (take to xs) (take d (drop from xs)))

  -- what has moved stands before the rest
  front : take (to + d) (head xs to from d ++ drop (to + d) xs) ≡ head xs to from d
  front = ap (λ k. take k (head xs to from d ++ drop (to + d) xs)) (sym length-head) ∙ take-append_seam (head xs to from d) (drop (to + d) xs)

  -- and the rest is as it was
  rest : (k : ℕ) → to + d ≤ k → drop k (head xs to from d ++ drop (to + d) xs) ≡ drop k xs
  rest k above = drop-append-drop (to + d) xs (head xs to from d) k above length-head

-- so the next part goes on where the last one ended
pub moved_more : (xs : List ℕ) (to from d p : ℕ) → to ≤ from → from + d + p ≤ length xs
    → take (to + d) (take to xs ++ take d (drop from xs) ++ drop (to + d) xs) ++ take p (drop (from + d) (take to xs ++ take d (drop from xs) ++ drop (to + d) xs)) ++ drop (to + d + p) (take to xs ++ take d (drop from xs) ++ drop (to + d) xs)
    ≡ take to xs ++ take (d + p) (drop from xs) ++ drop (to + (d + p)) xs
moved_more xs to from d p below within =
    let m : List ℕ = head xs to from d ++ drop (to + d) xs in
    let reaches : from + d ≤ length xs = omega (arith, within) in
    let part : List ℕ = take p (drop (from + d) xs) in
    let behind : List ℕ = drop (to + d + p) xs in
    let joined : take (d + p) (drop from xs) ≡ take d (drop from xs) ++ part = take-add d p (drop from xs) ∙ ap (λ ys. take d (drop from xs) ++ take p ys) (drop-drop d from xs) in
    ap (λ ys. ys ++ take p (drop (from + d) m) ++ drop (to + d + p) m) (front xs to from d below reaches)
    ∙ ap (λ ys. head xs to from d ++ take p ys ++ drop (to + d + p) m) (rest xs to from d below reaches (from + d) (omega (arith, below)))
    ∙ ap (λ ys. head xs to from d ++ part ++ ys) (rest xs to from d below reaches (to + d + p) (omega arith))
    ∙ ap (λ ys. ys ++ behind) (append_assoc (take to xs) (take d (drop from xs)) part)
    ∙ ap (λ ys. take to xs ++ ys ++ behind) (sym joined)
    ∙ ap (λ k. take to xs ++ take (d + p) (drop from xs) ++ drop k xs) (omega arith)
