-- Legal moves in a row: soundness, the objects that they are of, and moves in rising order.
use Rattle.std.proofs.Common.{◌≡◌, ℕ, zero, suc, ◌<◌, ◌≤◌, ◌≢◌, Bool, true, false, eqb, List, [], ◌∷◌, length, get_or, IsSomeAnd, refl, sym, ap, ◌∙◌, subst, arith}
use Rattle.std.specs.List.{AllPairs, AllByRecursion as Each}
use Rattle.std.proofs.lemmas.Bool.{ne_eqb, true≢false}
use Rattle.std.proofs.lemmas.List.Elements.{recursion_from_All, All-from_recursion}
use Rattle.sub_heaps.specs.declared.objects.Object.{Object}
use Rattle.sub_heaps.specs.ByPlace.{object_at}
use Rattle.sub_heaps.specs.SubHeaps.{SubHeaps, IsSound}
use Rattle.sub_heaps.specs.declared.moves.Move.{Move}
use Rattle.sub_heaps.specs.Moving.{after_move, after_moves, AreLegal, destination, carried}
use Rattle.move_plan.proofs.Turns.{Each-three, object_at-shifted, IsSound-after_move}

-- moves whose places of origin rise, from a place on
abbrev pub RiseFrom : ℕ → List Move → Type 0
RiseFrom low [] = Unit {0}
RiseFrom low (m ∷ ms) = (low ≤ m.from) × RiseFrom (suc m.from) ms

pub RiseFrom-weaker : (low high : ℕ) (ms : List Move) → low ≤ high → RiseFrom high ms → RiseFrom low ms
RiseFrom-weaker low high [] le rise = tt
RiseFrom-weaker low high (m ∷ ms) le rise = (omega (arith, rise.0), rise.1)

pub rise_above : (low : ℕ) (ms : List Move) → RiseFrom low ms → Each (λ m. low ≤ m.from) ms
rise_above low [] rise = tt
rise_above low (m ∷ ms) rise = (rise.0, rise_above low ms (RiseFrom-weaker low (suc m.from) ms (omega (arith, rise.0)) rise.1))

pub AllPairs-from_rise : (low : ℕ) (ms : List Move) → RiseFrom low ms → AllPairs (λ a b. a.from < b.from) ms
AllPairs-from_rise low [] rise i j d lt within = absurd (omega arith)
AllPairs-from_rise low (m ∷ ms) rise i zero d lt within = absurd (omega arith)
AllPairs-from_rise low (m ∷ ms) rise zero (suc j) d lt within =
    All-from_recursion (λ n. suc m.from ≤ n.from) ms (rise_above (suc m.from) ms rise.1) j d (omega arith)
AllPairs-from_rise low (m ∷ ms) rise (suc i) (suc j) d lt within = AllPairs-from_rise (suc m.from) ms rise.1 i j d (omega arith) (omega arith)

pub rise_from_AllPairs : (low : ℕ) (ms : List Move) → ((d : Move) → 0 < length ms → low ≤ (get_or ms 0 d).from) → AllPairs (λ a b. a.from < b.from) ms → RiseFrom low ms
rise_from_AllPairs low [] first rising = tt
rise_from_AllPairs low (m ∷ ms) first rising =
    (first m (omega arith), rise_from_AllPairs (suc m.from) ms (λ d has. rising 0 1 d (omega arith) (omega arith)) (λ i j d lt within. rising (suc i) (suc j) d (omega arith) (omega arith)))

module _ (pinned : ℕ → Bool) where
  pub IsSound-after_moves : (ms : List Move) (h : SubHeaps) → IsSound h → AreLegal pinned h ms → IsSound (after_moves ms h)
  IsSound-after_moves [] h sound legal = sound
  IsSound-after_moves (m ∷ ms) h sound legal = IsSound-after_moves ms (after_move m h) (IsSound-after_move pinned h m sound legal.0) legal.2

  -- no legal move is of a pinned object
  pub destination-pinned : (ms : List Move) (h : SubHeaps) → AreLegal pinned h ms → (at : ℕ) → pinned at ≡ true → destination ms at ≡ at
  destination-pinned [] h legal at is = refl
  destination-pinned (m ∷ ms) h legal at is =
      let other : eqb m.from at ≡ false = ne_eqb m.from at (λ same. true≢false (sym is ∙ ap pinned (sym same) ∙ legal.0.unpinned)) in
      rw other (destination-pinned ms (after_move m h) legal.2 at is)

  -- each of rising legal moves is of an object that is there from the start
  pub rising_objects : (low : ℕ) (ms : List Move) (h : SubHeaps) → RiseFrom low ms → AreLegal pinned h ms → Each (λ m. IsSomeAnd (object_at m.from h.objects) (λ o. o.size ≡ m.size)) ms
  rising_objects low [] h rise legal = tt
  rising_objects low (m ∷ ms) h rise legal =
      let later = rising_objects (suc m.from) ms (after_move m h) rise.1 legal.2 in (
        legal.0.object,
        Each-three _ (λ n. suc m.from ≤ n.from) (λ n. n.from ≢ m.to) (λ n. IsSomeAnd (object_at n.from h.objects) (λ o. o.size ≡ n.size))
            (λ n there above apart. subst (λ r. IsSomeAnd r (λ o. o.size ≡ n.size)) (object_at-shifted n.from m.from m.to h.objects (omega arith) apart) there)
            ms later (rise_above (suc m.from) ms rise.1) (recursion_from_All (λ n. n.from ≢ m.to) ms legal.1),
      )

-- a place that no move starts from is its own destination
pub destination_below : (low : ℕ) (ms : List Move) (at : ℕ) → RiseFrom low ms → at < low → destination ms at ≡ at
destination_below low [] at rise below = refl
destination_below low (m ∷ ms) at rise below =
    let other : eqb m.from at ≡ false = ne_eqb m.from at (λ same. absurd (omega (arith, same, rise.0))) in
    rw other (destination_below (suc m.from) ms at rise.1 (omega (arith, rise.0)))

-- a move of an object below carries none of these
pub carried_skip : (m : Move) (ms : List Move) (xs : List Object) → Each (λ o. m.from < o.at) xs → carried (m ∷ ms) xs ≡ carried ms xs
carried_skip m ms [] above = refl
carried_skip m ms (x ∷ xs) above =
    let other : eqb m.from x.at ≡ false = ne_eqb m.from x.at (λ same. absurd (omega (arith, same, above.0))) in
    rw other (ap (λ ys. record x { at = destination ms x.at } ∷ ys) (carried_skip m ms xs above.1))
