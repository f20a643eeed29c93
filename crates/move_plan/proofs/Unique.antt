-- No other moves slide than those that the walk makes.
use Rattle.std.proofs.Common.{◌≡◌, ℕ, suc, ◌+◌, ◌*◌, ◌/◌, ◌%◌, ◌<◌, ◌≤◌, ◌≢◌, Bool, true, false, cond, eqb, ◌&&◌, List, [], ◌∷◌, Some, None, Option, IsSomeAnd, is_some, refl, sym, ap, ◌∙◌, subst, inl, inr, arith}
use Rattle.std.specs.List.{AllByRecursion as Each}
use Rattle.std.proofs.lemmas.Bool.{eqb-true, eqb-false, eq-eqb, ne_eqb, true≢false}
use Rattle.std.proofs.lemmas.List.Elements.{recursion_from_All}
use Rattle.sub_heaps.specs.declared.objects.Object.{Object}
use Rattle.sub_heaps.specs.ByPlace.{end_of, object_at}
use Rattle.sub_heaps.specs.SubHeaps.{SubHeaps, StandFrom, IsSound}
use Rattle.sub_heaps.proofs.Blocks.{place_parts}
use Rattle.sub_heaps.proofs.Standing.{Each-weaker, Each-both, start_above}
use Rattle.sub_heaps.specs.declared.moves.Move.{Move}
use Rattle.sub_heaps.specs.Moving.{after_moves, destination, carried}
use Rattle.move_plan.specs.Sliding.{slid_place, HaveSlid, holds, IsSlide}
use Rattle.move_plan.specs.Stretches.{room_of, IsLongestGap}
use Rattle.move_plan.proofs.Longest.{IsLongestGap-slid}
use Rattle.move_plan.proofs.Judged.{count_after, size_after}
use Rattle.move_plan.proofs.Plans.{RiseFrom, rise_above, rise_from_AllPairs, rising_objects, destination-pinned, destination_below, carried_skip, IsSound-after_moves}
use Rattle.move_plan.proofs.Slid.{slid_objects, slide_moves}
use Rattle.move_plan.proofs.Slides.{after-slide_moves}
use Rattle.sub_heaps.proofs.Taken.{found_at, found_each}

abbrev first_place : List Object → ℕ
first_place [] = 0
first_place (x ∷ xs) = x.at

abbrev behind : List Object → List Object
behind [] = []
behind (x ∷ xs) = xs

-- ---- rising moves are told by where they carry the objects

module _ (pinned : ℕ → Bool) (count size : ℕ) where
  -- a move is of one of these objects
  abbrev pub IsOf : List Object → Move → Type 0
  IsOf xs m = IsSomeAnd (object_at m.from xs) (λ o. o.size ≡ m.size)

  of_above : (low : ℕ) (xs : List Object) → StandFrom count size low xs → (m : Move) → IsOf xs m → low ≤ m.from
  of_above low xs stand m is = at_found (object_at m.from xs) refl is
    where
      at_found : (r : Option Object) → object_at m.from xs ≡ r → IsSomeAnd r (λ o. o.size ≡ m.size) → low ≤ m.from
      at_found None found is = absurd is
      at_found (Some o) found is = omega (arith, found_at m.from xs o found, found_each (λ o. low ≤ o.at) m.from xs o found (start_above count size low xs stand))

  -- a move of an object above the first is of one of the others
  of_others : (o : Object) (os : List Object) (ms : List Move) → Each (λ m. o.at < m.from) ms → Each (IsOf (o ∷ os)) ms → Each (IsOf os) ms
  of_others o os ms above each =
      Each-both (λ m. o.at < m.from) (IsOf (o ∷ os)) (IsOf os) (λ m high is. let other : eqb o.at m.from ≡ false = ne_eqb o.at m.from (λ same. absurd (omega (arith, same, high))) in rw other at is) ms above each

  rise_raise : (low high : ℕ) (xs : List Object) (ms : List Move) → StandFrom count size high xs → RiseFrom low ms → Each (IsOf xs) ms → RiseFrom high ms
  rise_raise low high xs [] stand rise each = tt
  rise_raise low high xs (m ∷ ms) stand rise each = (of_above high xs stand m each.0, rise.1)

  -- rising moves of these objects that carry them to where they slide are the moves of the walk
  abbrev TheRestAre : (low below : ℕ) → List Object → Type 0
  TheRestAre low below xs = (ms : List Move) → RiseFrom low ms → Each (IsOf xs) ms → Each (λ m. m.to ≢ m.from) ms → carried ms xs ≡ slid_objects pinned size below xs → ms ≡ slide_moves pinned size below xs

  pub moves_are : (low below : ℕ) (xs : List Object) (ms : List Move) → StandFrom count size low xs → RiseFrom low ms → Each (IsOf xs) ms → Each (λ m. m.to ≢ m.from) ms → carried ms xs ≡ slid_objects pinned size below xs → ms ≡ slide_moves pinned size below xs
  moves_are low below [] [] stand rise each moving same = refl
  moves_are low below [] (m ∷ ms) stand rise each moving same = absurd each.0
  moves_are low below (o ∷ os) [] stand rise each moving same =
      let t = slid_place pinned size below o in
      let stays : eqb t o.at ≡ true = eq-eqb t o.at (sym (ap first_place same)) in
      rw stays (moves_are (end_of o) (t + o.size) os [] stand.3 tt tt tt (ap behind same))
  moves_are low below (o ∷ os) (m ∷ ms) stand rise each moving same =
      elim (eqb o.at m.from) as (λ b. eqb o.at m.from ≡ b → m ∷ ms ≡ slide_moves pinned size below (o ∷ os)) [
        | true ↦ λ is. of_first (eqb-true o.at m.from is) (λ ns. moves_are (end_of o) (slid_place pinned size below o + o.size) os ns stand.3)
        | false ↦ λ is. of_later (eqb-false o.at m.from is) (λ ns. moves_are (end_of o) (slid_place pinned size below o + o.size) os ns stand.3)
      ] refl
    where
      of_first : o.at ≡ m.from → TheRestAre (end_of o) (slid_place pinned size below o + o.size) os → m ∷ ms ≡ slide_moves pinned size below (o ∷ os)
      of_first here rest_are =
          let t = slid_place pinned size below o in
          let found : eqb o.at m.from ≡ true = eq-eqb o.at m.from here in
          let goes : eqb m.from o.at ≡ true = eq-eqb m.from o.at (sym here) in
          let of_size : o.size ≡ m.size = rw found at each.0 in
          let goes_to : m.to ≡ t = rw goes at (ap first_place same) in
          let differs : eqb t o.at ≡ false = ne_eqb t o.at (λ stays. moving.0 (goes_to ∙ stays ∙ here)) in
          let first : m ≡ record { from = o.at; to = t; size = o.size } = λ i. record { from = sym here i; to = goes_to i; size = sym of_size i } in
          let others = of_others o os ms (Each-weaker (λ n. suc m.from ≤ n.from) _ (λ n high. omega (arith, high, here)) ms (rise_above (suc m.from) ms rise.1)) each.1 in
          let above : Each (λ x. m.from < x.at) os = Each-weaker (λ x. end_of o ≤ x.at) _ (λ x high. omega (arith, high, stand.2, here)) os (start_above count size (end_of o) os stand.3) in
          let rest = rest_are ms (rise_raise (suc m.from) (end_of o) os ms stand.3 rise.1 others) others moving.1 (sym (carried_skip m ms os above) ∙ ap behind same) in
          rw differs (ap (λ n. n ∷ ms) first ∙ ap (λ ns. record { from = o.at; to = t; size = o.size } ∷ ns) rest)

      of_later : o.at ≢ m.from → TheRestAre (end_of o) (slid_place pinned size below o + o.size) os → m ∷ ms ≡ slide_moves pinned size below (o ∷ os)
      of_later other rest_are =
          let t = slid_place pinned size below o in
          let skipped : eqb o.at m.from ≡ false = ne_eqb o.at m.from other in
          let of_next : IsOf os m = rw skipped at each.0 in
          let high = of_above (end_of o) os stand.3 m of_next in
          let others : Each (IsOf os) (m ∷ ms) = (of_next, of_others o os ms (Each-weaker (λ n. suc m.from ≤ n.from) _ (λ n above. omega (arith, above, high)) ms (rise_above (suc m.from) ms rise.1)) each.1) in
          let still = destination_below (end_of o) (m ∷ ms) o.at (high, rise.1) (omega (arith, stand.2)) in
          let stays : eqb t o.at ≡ true = eq-eqb t o.at (sym (ap first_place same) ∙ still) in
          rw stays (rest_are (m ∷ ms) (high, rise.1) others moving (ap behind same))

-- ---- where the moves carry the objects

-- each move keeps its object's sub-heap, so each destination does
destination-number : (size : ℕ) (ms : List Move) (at : ℕ) → Each (λ m. m.to / size ≡ m.from / size) ms → destination ms at / size ≡ at / size
destination-number size [] at each = refl
destination-number size (m ∷ ms) at each =
    elim (eqb m.from at) as (λ t. eqb m.from at ≡ t → cond t m.to (destination ms at) / size ≡ at / size) [
      | true ↦ λ is. each.0 ∙ ap (λ n. n / size) (eqb-true m.from at is)
      | false ↦ λ is. destination-number size ms at each.1
    ] refl

module _ (ms : List Move) (count size : ℕ) where
  -- no two objects are carried to one place
  abbrev pub AreSame : Object → Object → Type 0
  AreSame o q = destination ms q.at ≡ destination ms o.at → q.at ≡ o.at

  carried_above : (low : ℕ) (xs : List Object) → StandFrom count size low (carried ms xs) → Each (λ q. low ≤ destination ms q.at) xs
  carried_above low [] stand = tt
  carried_above low (x ∷ xs) stand = (stand.0, Each-weaker (λ q. destination ms x.at + x.size ≤ destination ms q.at) _ (λ q high. omega (arith, high, stand.0)) xs (carried_above (destination ms x.at + x.size) xs stand.3))

  pub carried_apart : (low : ℕ) (xs : List Object) → StandFrom count size low (carried ms xs) → Each (λ o. Each (AreSame o) xs) xs
  carried_apart low [] stand = tt
  carried_apart low (x ∷ xs) stand =
      let above = carried_above (destination ms x.at + x.size) xs stand.3 in
      let others = carried_apart (destination ms x.at + x.size) xs stand.3 in (
        ((λ _. refl), Each-weaker (λ q. destination ms x.at + x.size ≤ destination ms q.at) (AreSame x) (λ q high same. absurd (omega (arith, same, high, stand.2))) xs above),
        Each-both (λ q. destination ms x.at + x.size ≤ destination ms q.at) (λ o. Each (AreSame o) xs) (λ o. Each (AreSame o) (x ∷ xs)) (λ o high each. ((λ same. absurd (omega (arith, same, high, stand.2))), each)) xs above others,
      )

  -- what is known of an object's destination
  pub record Goes (pinned held : ℕ → Bool) (o : Object) : Type 0 where
    pub number : destination ms o.at / size ≡ o.at / size
    pub stays : pinned o.at ≡ true → destination ms o.at ≡ o.at
    pub free : pinned o.at ≡ false → held (destination ms o.at) ≡ false

  pub carried_is : (pinned held : ℕ → Bool) → 0 < size → (below : ℕ) (xs : List Object) → StandFrom count size below (carried ms xs) → HaveSlid held size below (carried ms xs) → Each (Goes pinned held) xs → carried ms xs ≡ slid_objects pinned size below xs
  carried_is pinned held some below [] stand slid goes = refl
  carried_is pinned held some below (o ∷ os) stand slid goes =
      let same = at_place (pinned o.at) refl in
      let rest = carried_is pinned held some (destination ms o.at + o.size) os stand.3 slid.1 goes.1 in
      rw (← same) (ap (λ ys. record o { at = destination ms o.at } ∷ ys) rest)
    where
      at_place : (b : Bool) → pinned o.at ≡ b → destination ms o.at ≡ slid_place pinned size below o
      at_place true is = rw is (goes.0.stays is)
      at_place false is =
          let t = destination ms o.at in
          let parts : o.at / size * size + t % size ≡ t = rw goes.0.number at (place_parts size some t) in
          rw is (elim (slid.0 (goes.0.free is)) [
            | inl at_below ↦ omega (arith, at_below, parts, place_parts size some o.at)
            | inr at_start ↦ omega (arith, at_start, parts, place_parts size some o.at, stand.0)
          ])

-- ---- the moves that slide

pub slide_moves_only : (pinned : ℕ → Bool) (h : SubHeaps) (ms : List Move) → IsSound h → IsSlide pinned h ms → ms ≡ slide_moves pinned h.size 0 h.objects
slide_moves_only pinned h ms sound slide =
    let some : 0 < h.size = omega (arith, sound.shape.size_least) in
    let held = holds pinned h.objects in
    let after = IsSound-after_moves pinned ms h sound slide.legal in
    let stand : StandFrom h.count h.size 0 (carried ms h.objects) = rw (count_after pinned ms h, size_after pinned ms h, slide.same_order) at after.stand in
    let slid : HaveSlid held h.size 0 (carried ms h.objects) = rw (size_after pinned ms h, slide.same_order) at slide.slid in
    let numbers = recursion_from_All (λ m. m.to / h.size ≡ m.from / h.size) ms slide.same_sub_heap in
    let goes = Each-weaker (λ o. Each (AreSame ms h.count h.size o) h.objects) (Goes ms h.count h.size pinned held) (λ o apart. record {
      number = destination-number h.size ms o.at numbers;
      stays = λ is. destination-pinned pinned ms h slide.legal o.at is;
      free = λ is. not_held o apart is;
    }) h.objects (carried_apart ms h.count h.size 0 h.objects stand) in
    let rise = rise_from_AllPairs 0 ms (λ d has. omega arith) slide.rising in
    moves_are pinned h.count h.size 0 0 h.objects ms sound.stand rise (rising_objects pinned 0 ms h rise slide.legal) (recursion_from_All (λ m. m.to ≢ m.from) ms slide.moving) (carried_is ms h.count h.size pinned held some 0 h.objects stand slid goes)
  where
    -- a pinned object stays where it is, so no other comes there
    pinned_there : (o : Object) → Each (AreSame ms h.count h.size o) h.objects → pinned o.at ≡ false → (r : Option Object) → object_at (destination ms o.at) h.objects ≡ r → pinned (destination ms o.at) ≡ true → is_some r ≡ false
    pinned_there o apart is None found there = refl
    pinned_there o apart is (Some q) found there =
        let at_q : q.at ≡ destination ms o.at = found_at (destination ms o.at) h.objects q found in
        let still : destination ms q.at ≡ q.at = destination-pinned pinned ms h slide.legal q.at (ap pinned at_q ∙ there) in
        let same : q.at ≡ o.at = found_each (AreSame ms h.count h.size o) (destination ms o.at) h.objects q found apart (still ∙ at_q) in
        absurd (true≢false (sym there ∙ ap pinned (sym at_q ∙ same) ∙ is))

    not_held : (o : Object) → Each (AreSame ms h.count h.size o) h.objects → pinned o.at ≡ false → holds pinned h.objects (destination ms o.at) ≡ false
    not_held o apart is = at_test (pinned (destination ms o.at)) refl
      where
        at_test : (b : Bool) → pinned (destination ms o.at) ≡ b → (b && is_some (object_at (destination ms o.at) h.objects)) ≡ false
        at_test true there = pinned_there o apart is (object_at (destination ms o.at) h.objects) refl there
        at_test false there = refl

pub slide_unique : (pinned : ℕ → Bool) (h : SubHeaps) (ms ns : List Move) → IsSound h → IsSlide pinned h ms → IsSlide pinned h ns → ms ≡ ns
slide_unique pinned h ms ns sound first second = slide_moves_only pinned h ms sound first ∙ sym (slide_moves_only pinned h ns sound second)

-- after moves that slide the longest gap is the room
pub longest_after_slide : (pinned : ℕ → Bool) (h : SubHeaps) (ms : List Move) → IsSound h → IsSlide pinned h ms → IsLongestGap (after_moves ms h) (room_of pinned h)
longest_after_slide pinned h ms sound slide =
    let after = ap (λ ns. after_moves ns h) (slide_moves_only pinned h ms sound slide) ∙ after-slide_moves pinned h sound in
    subst (λ k. IsLongestGap k (room_of pinned h)) (sym after) (IsLongestGap-slid pinned h sound)
