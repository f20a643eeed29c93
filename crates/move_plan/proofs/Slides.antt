-- The moves that the walk makes slide: they are legal at their turn, and leave the list that sliding leaves.
use Rattle.std.proofs.Common.{◌≡◌, ℕ, suc, ◌+◌, ◌-◌, ◌*◌, ◌/◌, ◌%◌, ◌<◌, ◌≤◌, ◌≢◌, ◌⊎◌, max, Bool, true, false, cond, eqb, List, [], ◌∷◌, ◌++◌, Some, is_some, refl, sym, ap, ◌∙◌, subst, inl, inr, arith}
use Rattle.std.specs.List.{AllByRecursion as Each}
use Rattle.std.proofs.lemmas.Bool.{eqb-true, eqb-false, eq-eqb, cases_lt, true≢false, false_from_ne_true, and_from}
use Rattle.std.proofs.lemmas.List.{append_assoc}
use Rattle.std.proofs.lemmas.List.Elements.{All-from_recursion}
use Rattle.sub_heaps.specs.declared.objects.Object.{Object}
use Rattle.sub_heaps.specs.ByPlace.{end_of, object_at, without, shifted}
use Rattle.sub_heaps.specs.SubHeaps.{SubHeaps, LiesInOne, IsApartFrom, IsRounded, StandFrom, FitsAt, IsSound}
use Rattle.std.proofs.Math.Nat.{mul-mod_left}
use Rattle.sub_heaps.proofs.Blocks.{place_parts}
use Rattle.sub_heaps.proofs.Edits.{object_at-split, without-split, with_object-split}
use Rattle.sub_heaps.proofs.Taken.{element_found}
use Rattle.sub_heaps.proofs.Standing.{last_end, StandFrom-weaker, Each-weaker, Each-both, Each-append, StandFrom-append, start_above, each_rounded, end_below}
use Rattle.sub_heaps.specs.declared.moves.Move.{Move}
use Rattle.sub_heaps.specs.Moving.{after_moves, IsAllowed, AreLegal, destination, carried}
use Rattle.move_plan.specs.Sliding.{slid_place, HaveSlid, IsSlid, holds, IsSlide}
use Rattle.move_plan.proofs.Plans.{RiseFrom, RiseFrom-weaker, rise_above, AllPairs-from_rise, destination_below, carried_skip}
use Rattle.move_plan.proofs.Slid.{slid_objects, slide_moves, slid_place-le, le-slid_place, slid_place-number, slid_place_lies}

-- ---- the end of a list that grows at its end

pub last_end-push : (from : ℕ) (xs : List Object) (o : Object) → last_end from (xs ++ o ∷ []) ≡ end_of o
last_end-push from [] o = refl
last_end-push from (x ∷ xs) o = last_end-push (end_of x) xs o

module _ (pinned : ℕ → Bool) (count size : ℕ) (some : 0 < size) where
  -- ---- the moves in themselves

  pub slide_moves-rise : (below low : ℕ) (xs : List Object) → StandFrom count size low xs → RiseFrom low (slide_moves pinned size below xs)
  slide_moves-rise below low [] stand = tt
  slide_moves-rise below low (o ∷ os) stand =
      let rest = slide_moves-rise (slid_place pinned size below o + o.size) (end_of o) os stand.3 in
      elim (eqb (slid_place pinned size below o) o.at) as (λ t. RiseFrom low (cond t [] (record { from = o.at; to = slid_place pinned size below o; size = o.size } ∷ []) ++ slide_moves pinned size (slid_place pinned size below o + o.size) os)) [
        | true ↦ RiseFrom-weaker low (end_of o) _ (omega (arith, stand.0)) rest
        | false ↦ (stand.0, RiseFrom-weaker (suc o.at) (end_of o) _ (omega (arith, stand.2)) rest)
      ]

  -- each moves an object of the list, to another place of its sub-heap
  abbrev pub IsSlideMove : Move → Type 0
  IsSlideMove m = (m.to ≢ m.from) × (m.to / size ≡ m.from / size)

  pub slide_moves-each : (below low : ℕ) (xs : List Object) → below ≤ low → StandFrom count size low xs → Each IsSlideMove (slide_moves pinned size below xs)
  slide_moves-each below low [] le stand = tt
  slide_moves-each below low (o ∷ os) le stand =
      let high : below ≤ o.at = omega (arith, stand.0) in
      let rest = slide_moves-each (slid_place pinned size below o + o.size) (end_of o) os (omega (arith, slid_place-le pinned count size some below o high)) stand.3 in
      elim (eqb (slid_place pinned size below o) o.at) as (λ t. eqb (slid_place pinned size below o) o.at ≡ t → Each IsSlideMove (cond t [] (record { from = o.at; to = slid_place pinned size below o; size = o.size } ∷ []) ++ slide_moves pinned size (slid_place pinned size below o + o.size) os)) [
        | true ↦ λ is. rest
        | false ↦ λ is. ((eqb-false _ _ is, slid_place-number pinned count size some below o high), rest)
      ] refl

  -- they carry the objects to where sliding leaves them
  pub carried-slide_moves : (below low : ℕ) (xs : List Object) → StandFrom count size low xs → carried (slide_moves pinned size below xs) xs ≡ slid_objects pinned size below xs
  carried-slide_moves below low [] stand = refl
  carried-slide_moves below low (o ∷ os) stand =
      let t = slid_place pinned size below o in
      let later = slide_moves pinned size (t + o.size) os in
      let rest = carried-slide_moves (t + o.size) (end_of o) os stand.3 in
      let rise = slide_moves-rise (t + o.size) (end_of o) os stand.3 in
      elim (eqb t o.at) as (λ b. eqb t o.at ≡ b → carried (cond b [] (record { from = o.at; to = t; size = o.size } ∷ []) ++ later) (o ∷ os) ≡ record o { at = t } ∷ slid_objects pinned size (t + o.size) os) [
        | true ↦ λ is.
            let here : destination later o.at ≡ t = destination_below (end_of o) later o.at rise (omega (arith, stand.2)) ∙ sym (eqb-true t o.at is) in
            rw (here, rest) refl
        | false ↦ λ is.
            let same : eqb o.at o.at ≡ true = eq-eqb o.at o.at refl in
            let above : Each (λ x. o.at < x.at) os = Each-weaker (λ x. end_of o ≤ x.at) _ (λ x high. omega (arith, high, stand.2)) os (start_above count size (end_of o) os stand.3) in
            rw (same, carried_skip (record { from = o.at; to = t; size = o.size }) later os above, rest) refl
      ] refl

  -- what sliding leaves has slid, whatever other places are held than those of the pinned objects
  pub HaveSlid-slid_objects : (held : ℕ → Bool) (below low : ℕ) (xs : List Object) → below ≤ low → StandFrom count size low xs → Each (λ o. pinned o.at ≡ true → held o.at ≡ true) xs → HaveSlid held size below (slid_objects pinned size below xs)
  HaveSlid-slid_objects held below low [] le stand holds = tt
  HaveSlid-slid_objects held below low (o ∷ os) le stand holds =
      let high : below ≤ o.at = omega (arith, stand.0) in
      let lower : slid_place pinned size below o + o.size ≤ end_of o = omega (arith, slid_place-le pinned count size some below o high) in
      (at_place (pinned o.at) refl, HaveSlid-slid_objects held (slid_place pinned size below o + o.size) (end_of o) os lower stand.3 holds.1)
    where
      at_start : (k : ℕ) → k * size % size ≡ 0
      at_start k = mul-mod_left k size

      at_place : (t : Bool) → pinned o.at ≡ t → held (cond t o.at (max (o.at - o.at % size) below)) ≡ false → (cond t o.at (max (o.at - o.at % size) below) ≡ below) ⊎ (cond t o.at (max (o.at - o.at % size) below) % size ≡ 0)
      at_place true is free = absurd (true≢false (sym (holds.0 is) ∙ free))
      at_place false is free = elim (cases_lt (o.at - o.at % size) below) [
        | inl above ↦ inl (omega arith)
        | inr start ↦
            let is_start : max (o.at - o.at % size) below ≡ o.at / size * size = omega (arith, place_parts size some o.at) in
            inr (rw is_start (at_start (o.at / size)))
      ]

  -- ---- the walk: `done` has slid, and the moves of what is left slide it too

  -- an object that goes down to a place above those that have slid is put behind them
  shifted-down : (done : List Object) (o : Object) (os : List Object) (to : ℕ) → Each (λ x. end_of x ≤ to) done → Each (λ x. x.at < o.at) done → to ≤ o.at → Each (λ x. end_of o ≤ x.at) os → IsRounded o.size → shifted o.at to (done ++ o ∷ os) ≡ done ++ record o { at = to } ∷ os
  shifted-down done o os to ends lower le above rounded =
      let found : object_at o.at (done ++ o ∷ os) ≡ Some o = object_at-split o.at done o os lower refl in
      let out : without o.at (done ++ o ∷ os) ≡ done ++ os = without-split o.at done o os lower refl (Each-weaker (λ x. end_of o ≤ x.at) _ (λ x high. omega (arith, high, rounded)) os above) in
      rw (found, out) (with_object-split (record o { at = to }) done os (Each-weaker (λ x. end_of x ≤ to) _ (λ x ends. omega (arith, ends)) done ends) (Each-weaker (λ x. end_of o ≤ x.at) _ (λ x high. omega (arith, high, le, rounded)) os above))

  fits_down : (most : ℕ) (done : List Object) (o : Object) (os : List Object) (to : ℕ) → Each (λ x. end_of x ≤ to) done → Each (λ x. x.at < o.at) done → to ≤ o.at → Each (λ x. end_of o ≤ x.at) os → IsRounded o.size → LiesInOne count size o.size to → FitsAt (record { count = count; size = size; most = most; objects = without o.at (done ++ o ∷ os) }) o.size to
  fits_down most done o os to ends lower le above rounded lies =
      let out : without o.at (done ++ o ∷ os) ≡ done ++ os = without-split o.at done o os lower refl (Each-weaker (λ x. end_of o ≤ x.at) _ (λ x high. omega (arith, high, rounded)) os above) in
      let apart : Each (IsApartFrom o.size to) (done ++ os) = Each-append (IsApartFrom o.size to) done os (Each-weaker (λ x. end_of x ≤ to) _ (λ x ends. inl ends) done ends) (Each-weaker (λ x. end_of o ≤ x.at) _ (λ x high. inr (omega (arith, high, le))) os above) in
      record { inside = lies; clear = All-from_recursion (IsApartFrom o.size to) _ (subst (λ xs. Each (IsApartFrom o.size to) xs) (sym out) apart) }

  abbrev heaps_of : ℕ → List Object → SubHeaps
  heaps_of most objects = record { count = count; size = size; most = most; objects = objects }

  -- what the moves of the objects that are left do
  pub record Slides (most : ℕ) (done os : List Object) (below : ℕ) : Type 0 where
    pub legal : AreLegal pinned (heaps_of most (done ++ os)) (slide_moves pinned size below os)
    pub after : after_moves (slide_moves pinned size below os) (heaps_of most (done ++ os)) ≡ heaps_of most (done ++ slid_objects pinned size below os)

  -- one object of the walk, where its move is the first
  module _ (most : ℕ) (done : List Object) (o : Object) (os : List Object) (below : ℕ) (stand : StandFrom count size 0 done) (end : last_end 0 done ≡ below) (rest : StandFrom count size below (o ∷ os)) where
    abbrev aim : ℕ
    aim = slid_place pinned size below o

    abbrev moved : Object
    moved = record o { at = aim }

    abbrev left : List Move
    left = slide_moves pinned size (aim + o.size) os

    abbrev first : Move
    first = record { from = o.at; to = aim; size = o.size }

    aim-le : aim ≤ o.at
    aim-le = slid_place-le pinned count size some below o rest.0

    aim_lies : LiesInOne count size o.size aim
    aim_lies = slid_place_lies pinned count size some below o rest.0 rest.1

    ends_below : Each (λ x. end_of x ≤ aim) done
    ends_below = Each-weaker (λ x. end_of x ≤ last_end 0 done) _ (λ x ends. omega (arith, ends, end, le-slid_place pinned count size some below o rest.0)) done (end_below count size 0 done stand)

    starts_below : Each (λ x. x.at < o.at) done
    starts_below = Each-both (λ x. end_of x ≤ aim) (λ x. IsRounded x.size) _ (λ x ends rounded. omega (arith, ends, rounded, aim-le)) done ends_below (each_rounded count size 0 done stand)

    starts_above : Each (λ x. end_of o ≤ x.at) os
    starts_above = start_above count size (end_of o) os rest.3

    pub stand_moved : StandFrom count size 0 (done ++ moved ∷ [])
    stand_moved = StandFrom-append count size 0 done (moved ∷ []) stand (omega (arith, end, le-slid_place pinned count size some below o rest.0), aim_lies, rest.2, tt)

    joined : (done ++ moved ∷ []) ++ os ≡ done ++ moved ∷ os
    joined = append_assoc done (moved ∷ []) os

    joined_slid : (done ++ moved ∷ []) ++ slid_objects pinned size (aim + o.size) os ≡ done ++ moved ∷ slid_objects pinned size (aim + o.size) os
    joined_slid = append_assoc done (moved ∷ []) (slid_objects pinned size (aim + o.size) os)

    unpinned : eqb aim o.at ≡ false → pinned o.at ≡ false
    unpinned other = false_from_ne_true (pinned o.at) (λ is. true≢false (sym (eq-eqb aim o.at (rw is refl)) ∙ other))

    allowed : eqb aim o.at ≡ false → IsAllowed pinned (heaps_of most (done ++ o ∷ os)) first
    allowed other = record {
      object = rw (object_at-split o.at done o os starts_below refl) refl;
      unpinned = unpinned other;
      fits = fits_down most done o os aim ends_below starts_below aim-le starts_above rest.2 aim_lies;
    }

    pub at_test : (later : Slides most (done ++ moved ∷ []) os (aim + o.size)) → (b : Bool) → eqb aim o.at ≡ b → AreLegal pinned (heaps_of most (done ++ o ∷ os)) (cond b [] (first ∷ []) ++ left) × (after_moves (cond b [] (first ∷ []) ++ left) (heaps_of most (done ++ o ∷ os)) ≡ heaps_of most (done ++ moved ∷ slid_objects pinned size (aim + o.size) os))
    at_test later true is =
        let same : moved ≡ o = ap (λ (n : ℕ). record o { at = n }) (eqb-true aim o.at is) in
        let list : (done ++ moved ∷ []) ++ os ≡ done ++ o ∷ os = joined ∙ ap (λ x. done ++ x ∷ os) same in (
          subst (λ xs. AreLegal pinned (heaps_of most xs) left) list later.legal,
          subst (λ xs. after_moves left (heaps_of most xs) ≡ heaps_of most (done ++ moved ∷ slid_objects pinned size (aim + o.size) os)) list (later.after ∙ ap (heaps_of most) joined_slid),
        )
    at_test later false is =
        let list : (done ++ moved ∷ []) ++ os ≡ shifted o.at aim (done ++ o ∷ os) = joined ∙ sym (shifted-down done o os aim ends_below starts_below aim-le starts_above rest.2) in
        let apart : Each (λ later. later.from ≢ aim) left = Each-weaker (λ n. end_of o ≤ n.from) _ (λ n high same. omega (arith, high, same, aim-le, rest.2)) left (rise_above (end_of o) left (slide_moves-rise (aim + o.size) (end_of o) os rest.3)) in (
          (allowed is, All-from_recursion (λ later. later.from ≢ aim) left apart, subst (λ xs. AreLegal pinned (heaps_of most xs) left) list later.legal),
          subst (λ xs. after_moves left (heaps_of most xs) ≡ heaps_of most (done ++ moved ∷ slid_objects pinned size (aim + o.size) os)) list (later.after ∙ ap (heaps_of most) joined_slid),
        )

  pub slide_moves_slide : (most : ℕ) (done os : List Object) (below low : ℕ) → StandFrom count size 0 done → last_end 0 done ≡ below → below ≤ low → StandFrom count size low os → Slides most done os below
  slide_moves_slide most done [] below low stand end le rest = record { legal = tt; after = refl }
  slide_moves_slide most done (o ∷ os) below low stand end le rest =
      let from_below : StandFrom count size below (o ∷ os) = StandFrom-weaker count size below low (o ∷ os) le rest in
      let t = slid_place pinned size below o in
      let later = slide_moves_slide most (done ++ record o { at = t } ∷ []) os (t + o.size) (end_of o) (stand_moved most done o os below stand end from_below) (last_end-push 0 done (record o { at = t })) (omega (arith, slid_place-le pinned count size some below o from_below.0)) rest.3 in
      let both = at_test most done o os below stand end from_below later (eqb t o.at) refl in
      record { legal = both.0; after = both.1 }

-- after the moves of the walk over all objects they have slid
pub after-slide_moves : (pinned : ℕ → Bool) (h : SubHeaps) → IsSound h → after_moves (slide_moves pinned h.size 0 h.objects) h ≡ record h { objects = slid_objects pinned h.size 0 h.objects }
after-slide_moves pinned h sound =
    let walk = slide_moves_slide pinned h.count h.size (omega (arith, sound.shape.size_least)) h.most [] h.objects 0 0 tt refl (omega arith) sound.stand in
    walk.after

-- they are the moves that slide
pub IsSlide-slide_moves : (pinned : ℕ → Bool) (h : SubHeaps) → IsSound h → IsSlide pinned h (slide_moves pinned h.size 0 h.objects)
IsSlide-slide_moves pinned h sound =
    let some : 0 < h.size = omega (arith, sound.shape.size_least) in
    let moves = slide_moves pinned h.size 0 h.objects in
    let walk = slide_moves_slide pinned h.count h.size some h.most [] h.objects 0 0 tt refl (omega arith) sound.stand in
    let each = slide_moves-each pinned h.count h.size some 0 0 h.objects (omega arith) sound.stand in
    let held : Each (λ o. pinned o.at ≡ true → holds pinned h.objects o.at ≡ true) h.objects = held_all h.objects in
    record {
      legal = walk.legal;
      rising = AllPairs-from_rise 0 moves (slide_moves-rise pinned h.count h.size some 0 0 h.objects sound.stand);
      moving = All-from_recursion (λ m. m.to ≢ m.from) moves (Each-weaker _ (λ m. m.to ≢ m.from) (λ m is. is.0) moves each);
      same_sub_heap = All-from_recursion (λ m. m.to / h.size ≡ m.from / h.size) moves (Each-weaker _ (λ m. m.to / h.size ≡ m.from / h.size) (λ m is. is.1) moves each);
      same_order = ap (λ (k : SubHeaps). k.objects) walk.after ∙ sym (carried-slide_moves pinned h.count h.size some 0 0 h.objects sound.stand);
      slid = subst (λ k. IsSlid (holds pinned h.objects) k) (sym walk.after) (HaveSlid-slid_objects pinned h.count h.size some (holds pinned h.objects) 0 0 h.objects (omega arith) sound.stand held);
    }
  where
    held_all : (xs : List Object) → Each (λ o. pinned o.at ≡ true → holds pinned xs o.at ≡ true) xs
    held_all xs = Each-weaker (λ o. is_some (object_at o.at xs) ≡ true) _ (λ o there is. and_from (pinned o.at) _ is there) xs (element_found xs)
