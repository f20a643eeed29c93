-- A walk makes moves in rising order of objects that are there: it leaves each object at its destination.
use Rattle.std.proofs.Common.{◌≡◌, ◌≢◌, ℕ, suc, ◌<◌, ◌≤◌, eqb, true, false, List, [], ◌∷◌, length, None, IsSome, refl, sym, ap, ◌∙◌, subst, inl, inr, arith}
use Rattle.std.specs.List.{All, AllPairs, AllByRecursion as Each}
use Rattle.std.proofs.lemmas.Bool.{cases_eq, cases_lt, eq-eqb, ne_eqb, false≢true}
use Rattle.std.proofs.lemmas.List.Elements.{recursion_from_All}
use Rattle.sub_heaps.specs.declared.moves.Move.{Move}
use Rattle.sub_heaps.specs.declared.objects.Object.{Object}
use Rattle.sub_heaps.specs.ByPlace.{end_of, object_at}
use Rattle.sub_heaps.specs.Moving.{destination, carried}
use Rattle.sub_heaps.specs.inner.Order.{InOrder}
use Rattle.sub_heaps.specs.inner.Walks.{walked}
use Rattle.sub_heaps.proofs.Edits.{object_at-above, object_at-skip}
use Rattle.sub_heaps.proofs.Order.{start_behind}
use Rattle.sub_heaps.proofs.Standing.{Each-weaker, Each-both}

abbrev pub AreThere : List Object → List Move → Type 0
AreThere xs ms = Each (λ m. IsSome (object_at m.from xs)) ms

-- without a move all objects stay
carried-none : (xs : List Object) → carried [] xs ≡ xs
carried-none [] = refl
carried-none (x ∷ xs) = ap (λ ys. x ∷ ys) (carried-none xs)

-- a move of an object below carries none of these
carried-skip : (m : Move) (ms : List Move) (xs : List Object) → Each (λ o. m.from < o.at) xs → carried (m ∷ ms) xs ≡ carried ms xs
carried-skip m ms [] above = refl
carried-skip m ms (x ∷ xs) above =
    let other : eqb m.from x.at ≡ false = ne_eqb m.from x.at (λ same. absurd (omega (arith, same, above.0))) in
    rw other (ap (λ ys. record x { at = destination ms x.at } ∷ ys) (carried-skip m ms xs above.1))

-- an object below all moves stays
destination-below : (ms : List Move) (at : ℕ) → Each (λ m. at < m.from) ms → destination ms at ≡ at
destination-below [] at above = refl
destination-below (m ∷ ms) at above =
    let other : eqb m.from at ≡ false = ne_eqb m.from at (λ same. absurd (omega (arith, same, above.0))) in
    rw other (destination-below ms at above.1)

-- the objects of moves above the first one are among the others
pub there_behind : (x : Object) (xs : List Object) (ms : List Move) → Each (λ m. x.at < m.from) ms → AreThere (x ∷ xs) ms → AreThere xs ms
there_behind x xs ms above there =
    Each-both {X = Move} (λ m. x.at < m.from) (λ m. IsSome (object_at m.from (x ∷ xs))) (λ m. IsSome (object_at m.from xs)) (λ m high found. rw (object_at-skip m.from (x ∷ []) xs (high, tt)) at found) ms above there

-- the object of a move that is of another than the first stands above that
pub above_first : (low : ℕ) (m : Move) (x : Object) (xs : List Object) → InOrder low (x ∷ xs) → IsSome (object_at m.from (x ∷ xs)) → m.from ≢ x.at → x.at < m.from
above_first low m x xs order found other = elim (cases_lt x.at m.from) [
  | inl above ↦ above
  | inr beneath ↦
      let under : m.from < x.at = omega (arith, beneath, other) in
      let none : object_at m.from (x ∷ xs) ≡ None = object_at-above m.from (x ∷ xs) (under, Each-weaker (λ y. x.at < y.at) (λ y. m.from < y.at) (λ y high. omega (arith, high, under)) xs (start_behind low [] x xs order)) in
      absurd (false≢true (rw none at found))
]

module _ (m : Move) (ms : List Move) (rising : AllPairs (λ a b. a.from < b.from) (m ∷ ms)) where
  pub later_above : Each (λ n. m.from < n.from) ms
  later_above = recursion_from_All (λ n. m.from < n.from) ms (λ j d within. rising 0 (suc j) d (omega arith) (omega arith))

  pub later_rising : AllPairs (λ a b. a.from < b.from) ms
  later_rising = λ i j d lt within. rising (suc i) (suc j) d (omega arith) (omega arith)

pub walked-carried : (low : ℕ) (ms : List Move) (xs : List Object) → InOrder low xs → AllPairs (λ a b. a.from < b.from) ms → AreThere xs ms → walked ms xs ≡ carried ms xs
walked-carried low [] xs order rising there = sym (carried-none xs)
walked-carried low (m ∷ ms) [] order rising there = refl
walked-carried low (m ∷ ms) (x ∷ xs) order rising there = elim (cases_eq m.from x.at) [
  | inl same ↦
      let hit : eqb m.from x.at ≡ true = eq-eqb m.from x.at same in
      let behind = Each-weaker (λ y. x.at < y.at) (λ y. m.from < y.at) (λ y high. omega (arith, high, same)) xs (start_behind low [] x xs order) in
      let later = Each-weaker (λ n. m.from < n.from) (λ n. x.at < n.from) (λ n high. omega (arith, high, same)) ms (later_above m ms rising) in
      let rest = walked-carried (end_of x) ms xs order.2 (later_rising m ms rising) (there_behind x xs ms later there.1) in
      rw hit (ap (λ ys. record x { at = m.to } ∷ ys) (rest ∙ sym (carried-skip m ms xs behind)))
  | inr other ↦
      let miss : eqb m.from x.at ≡ false = ne_eqb m.from x.at other in
      let above = above_first low m x xs order there.0 other in
      let later = Each-weaker (λ n. m.from < n.from) (λ n. x.at < n.from) (λ n high. omega (arith, high, above)) ms (later_above m ms rising) in
      let stays = destination-below (m ∷ ms) x.at (above, later) in
      let passed : walked (m ∷ ms) (x ∷ xs) ≡ x ∷ walked (m ∷ ms) xs = rw miss refl in
      let rest = walked-carried (end_of x) (m ∷ ms) xs order.2 rising (there_behind x xs (m ∷ ms) (above, later) there) in
      passed ∙ ap (λ ys. x ∷ ys) rest ∙ ap (λ n. record x { at = n } ∷ carried (m ∷ ms) xs) (sym stays)
]
