-- After the moves that slide, the longest gap within a sub-heap is the room: `cursor` is the end of the object before, once it has slid.
use Rattle.std.proofs.Common.{◌≡◌, ℕ, ◌+◌, ◌-◌, ◌*◌, ◌/◌, ◌%◌, ◌<◌, ◌≤◌, ◌≢◌, ◌⊎◌, max, Bool, true, false, cond, eqb, List, [], ◌∷◌, refl, sym, ap, ◌∙◌, subst, inl, inr, arith}
use Rattle.std.specs.List.{filter, AllByRecursion as Each}
use Rattle.std.proofs.lemmas.Bool.{eqb-true, eqb-false, eq-eqb, cases_lt}
use Rattle.std.proofs.lemmas.List.Elements.{recursion_from_All, All-from_recursion}
use Rattle.std.proofs.lemmas.Nat.{mul-le}
use Rattle.std.proofs.Math.Nat.{div-lt_iff_lt-mul, zero-mod}
use Rattle.sub_heaps.specs.declared.objects.Object.{Object}
use Rattle.sub_heaps.specs.ByPlace.{end_of}
use Rattle.sub_heaps.specs.SubHeaps.{SubHeaps, LiesInOne, IsApartFrom, StandFrom, FitsAt, IsSound, objects_in}
use Rattle.sub_heaps.proofs.Blocks.{place_parts, number_is}
use Rattle.sub_heaps.proofs.Standing.{Each-weaker, Each-both, start_above, each_inside}
use Rattle.move_plan.specs.Sliding.{slid_place, HaveSlid, IsSlid}
use Rattle.move_plan.specs.Stretches.{room_in, room_of, IsLongestGap}
use Rattle.move_plan.proofs.Numbered.{Each-filter, filter-Each, number_of_each, end_of_each, stand_in, has_bytes, room_in-room_from, each-le-greatest, greatest_is, none_above}
use Rattle.move_plan.proofs.Slid.{slid_objects, slid_place-le, slid_place-number, start-le-slid_place, stand_slid}
use Rattle.move_plan.proofs.Sweep.{room_from}

best-le-room : (pinned : ℕ → Bool) (from held end best : ℕ) (xs : List Object) → best ≤ room_from pinned from held end best xs
best-le-room pinned from held end best [] = omega arith
best-le-room pinned from held end best (o ∷ os) =
    elim (pinned o.at) as (λ t. best ≤ cond t (room_from pinned (end_of o) 0 end (max best (o.at - from - held)) os) (room_from pinned from (held + o.size) end best os)) [
      | true ↦ omega (arith, best-le-room pinned (end_of o) 0 end (max best (o.at - from - held)) os)
      | false ↦ best-le-room pinned from (held + o.size) end best os
    ]

module _ (pinned : ℕ → Bool) (count size : ℕ) (some : 0 < size) where
  -- ---- one sub-heap, from its start to its end

  module _ (start end : ℕ) where
    abbrev Starts : Object → Type 0
    Starts o = o.at - o.at % size ≡ start

    -- an unpinned object goes to the cursor, and a pinned one stays
    slid_unpinned : (cursor : ℕ) (o : Object) → Starts o → start ≤ cursor → pinned o.at ≡ false → slid_place pinned size cursor o ≡ cursor
    slid_unpinned cursor o starts le is = rw is (omega (arith, starts))

    slid_pinned : (cursor : ℕ) (o : Object) → pinned o.at ≡ true → slid_place pinned size cursor o ≡ o.at
    slid_pinned cursor o is = rw is refl

    -- no gap is longer than the room
    pub gap_bounded : (from held best cursor low : ℕ) (xs : List Object) → from + held ≡ cursor → start ≤ cursor → cursor ≤ low → StandFrom count size low xs → Each Starts xs → (bytes at : ℕ) → cursor ≤ at → at + bytes ≤ end → Each (IsApartFrom bytes at) (slid_objects pinned size cursor xs) → bytes ≤ room_from pinned from held end best xs
    gap_bounded from held best cursor low [] counted above le stand starts bytes at over within apart = omega arith
    gap_bounded from held best cursor low (o ∷ os) counted above le stand starts bytes at over within apart =
        elim (pinned o.at) as (λ t. pinned o.at ≡ t → bytes ≤ cond t (room_from pinned (end_of o) 0 end (max best (o.at - from - held)) os) (room_from pinned from (held + o.size) end best os)) [
          | true ↦ λ is.
              let t = slid_pinned cursor o is in
              elim apart.0 [
                | inl above_it ↦ gap_bounded (end_of o) 0 (max best (o.at - from - held)) (end_of o) (end_of o) os (omega arith) (omega (arith, above, le, stand.0)) (omega arith) stand.3 starts.1 bytes at (omega (arith, t, above_it)) within (rw t at apart.1)
                | inr below_it ↦ omega (arith, t, below_it, counted, over, best-le-room pinned (end_of o) 0 end (max best (o.at - from - held)) os)
              ]
          | false ↦ λ is.
              let t = slid_unpinned cursor o starts.0 above is in
              elim apart.0 [
                | inl above_it ↦ gap_bounded from (held + o.size) best (cursor + o.size) (end_of o) os (omega (arith, counted)) (omega (arith, above)) (omega (arith, le, stand.0)) stand.3 starts.1 bytes at (omega (arith, t, above_it)) within (rw t at apart.1)
                | inr below_it ↦ omega (arith, t, below_it, over)
              ]
        ] refl

    -- the room is what there was before, or some gap is as long
    abbrev pub IsGapOf : (bytes cursor : ℕ) → List Object → ℕ → Type 0
    IsGapOf bytes cursor xs at = (cursor ≤ at) × (at + bytes ≤ end) × Each (IsApartFrom bytes at) (slid_objects pinned size cursor xs)

    gap_is : (from held best cursor low : ℕ) (xs : List Object) → from + held ≡ cursor → start ≤ cursor → cursor ≤ low → low ≤ end → StandFrom count size low xs → Each Starts xs → Each (λ o. end_of o ≤ end) xs → (room_from pinned from held end best xs ≡ best) ⊎ ((at : ℕ) × IsGapOf (room_from pinned from held end best xs) cursor xs at)
    gap_is from held best cursor low [] counted above le top stand starts ends = elim (cases_lt best (end - from - held)) [
      | inl more ↦ inr (cursor, (omega arith, omega (arith, counted), tt))
      | inr less ↦ inl (omega arith)
    ]
    gap_is from held best cursor low (o ∷ os) counted above le top stand starts ends =
        elim (pinned o.at) as (λ t. pinned o.at ≡ t → (cond t (room_from pinned (end_of o) 0 end (max best (o.at - from - held)) os) (room_from pinned from (held + o.size) end best os) ≡ best) ⊎ ((at : ℕ) × IsGapOf (cond t (room_from pinned (end_of o) 0 end (max best (o.at - from - held)) os) (room_from pinned from (held + o.size) end best os)) cursor (o ∷ os) at)) [
          | true ↦ λ is. at_pinned _ is (gap_is (end_of o) 0 (max best (o.at - from - held)) (end_of o) (end_of o) os (omega arith) (omega (arith, above, le, stand.0)) (omega arith) ends.0 stand.3 starts.1 ends.1)
          | false ↦ λ is. at_unpinned _ is (gap_is from (held + o.size) best (cursor + o.size) (end_of o) os (omega (arith, counted)) (omega (arith, above)) (omega (arith, le, stand.0)) ends.0 stand.3 starts.1 ends.1)
        ] refl
      where
        at_pinned : (room : ℕ) → pinned o.at ≡ true → (room ≡ max best (o.at - from - held)) ⊎ ((at : ℕ) × IsGapOf room (end_of o) os at) → (room ≡ best) ⊎ ((at : ℕ) × IsGapOf room cursor (o ∷ os) at)
        at_pinned room is (inr gap) =
            let t = slid_pinned cursor o is in
            inr (gap.0, (omega (arith, gap.1.0, le, stand.0), gap.1.1, rw t (inl gap.1.0, gap.1.2)))
        at_pinned room is (inl first) =
            let t = slid_pinned cursor o is in
            elim (cases_lt best (o.at - from - held)) [
              | inl more ↦
                  let ends_at : cursor + room ≡ o.at = omega (arith, first, counted, more) in
                  let rest : Each (IsApartFrom room cursor) (slid_objects pinned size (end_of o) os) =
                  Each-weaker (λ x. end_of o ≤ x.at) _ (λ x high. inr (omega (arith, high, ends_at))) (slid_objects pinned size (end_of o) os) (start_above count size (end_of o) _ (stand_slid pinned count size some (end_of o) (end_of o) os (omega arith) stand.3)) in
                  inr (cursor, (omega arith, omega (arith, ends_at, ends.0), rw t (inr (omega (arith, ends_at)), rest)))
              | inr less ↦ inl (omega (arith, first))
            ]

        at_unpinned : (room : ℕ) → pinned o.at ≡ false → (room ≡ best) ⊎ ((at : ℕ) × IsGapOf room (cursor + o.size) os at) → (room ≡ best) ⊎ ((at : ℕ) × IsGapOf room cursor (o ∷ os) at)
        at_unpinned room is (inl same) = inl same
        at_unpinned room is (inr gap) =
            let t = slid_unpinned cursor o starts.0 above is in
            inr (gap.0, (omega (arith, gap.1.0), gap.1.1, rw t (inl gap.1.0, gap.1.2)))

  -- ---- the objects of one sub-heap slide among themselves

  slid_within : (k below low : ℕ) (xs : List Object) → below ≤ low → StandFrom count size low xs → filter (λ o. eqb (o.at / size) k) (slid_objects pinned size below xs) ≡ slid_objects pinned size (max (k * size) below) (filter (λ o. eqb (o.at / size) k) xs)
  slid_within k below low [] le stand = refl
  slid_within k below low (o ∷ os) le stand =
      let t = slid_place pinned size below o in
      let high : below ≤ o.at = omega (arith, stand.0) in
      let lower = slid_place-le pinned count size some below o high in
      let number = slid_place-number pinned count size some below o high in
      let rest = slid_within k (t + o.size) (end_of o) os (omega (arith, lower)) stand.3 in
      rw number (elim (eqb (o.at / size) k) as (λ b. eqb (o.at / size) k ≡ b → cond b (record o { at = t } ∷ filter (λ o. eqb (o.at / size) k) (slid_objects pinned size (t + o.size) os)) (filter (λ o. eqb (o.at / size) k) (slid_objects pinned size (t + o.size) os)) ≡ slid_objects pinned size (max (k * size) below) (cond b (o ∷ filter (λ o. eqb (o.at / size) k) os) (filter (λ o. eqb (o.at / size) k) os))) [
        | true ↦ λ is. of_it (eqb-true (o.at / size) k is) rest
        | false ↦ λ is. of_another (eqb-false (o.at / size) k is) rest
      ] refl)
    where
      of_it : o.at / size ≡ k → filter (λ o. eqb (o.at / size) k) (slid_objects pinned size (slid_place pinned size below o + o.size) os) ≡ slid_objects pinned size (max (k * size) (slid_place pinned size below o + o.size)) (filter (λ o. eqb (o.at / size) k) os) → record o { at = slid_place pinned size below o } ∷ filter (λ o. eqb (o.at / size) k) (slid_objects pinned size (slid_place pinned size below o + o.size) os) ≡ slid_objects pinned size (max (k * size) below) (o ∷ filter (λ o. eqb (o.at / size) k) os)
      of_it here rest =
          let parts : k * size + o.at % size ≡ o.at = rw here at (place_parts size some o.at) in
          let same : slid_place pinned size (max (k * size) below) o ≡ slid_place pinned size below o = elim (pinned o.at) as (λ b. cond b o.at (max (o.at - o.at % size) (max (k * size) below)) ≡ cond b o.at (max (o.at - o.at % size) below)) [ true ↦ refl | false ↦ omega (arith, parts) ] in
          let above : max (k * size) (slid_place pinned size below o + o.size) ≡ slid_place pinned size below o + o.size = omega (arith, start-le-slid_place pinned count size some below o, parts) in
          rw same (ap (λ ys. record o { at = slid_place pinned size below o } ∷ ys) (rest ∙ ap (λ n. slid_objects pinned size n (filter (λ o. eqb (o.at / size) k) os)) above))

      of_another : o.at / size ≢ k → filter (λ o. eqb (o.at / size) k) (slid_objects pinned size (slid_place pinned size below o + o.size) os) ≡ slid_objects pinned size (max (k * size) (slid_place pinned size below o + o.size)) (filter (λ o. eqb (o.at / size) k) os) → filter (λ o. eqb (o.at / size) k) (slid_objects pinned size (slid_place pinned size below o + o.size) os) ≡ slid_objects pinned size (max (k * size) below) (filter (λ o. eqb (o.at / size) k) os)
      of_another other rest = elim (cases_lt o.at (k * size)) [
        | inl under ↦
            let number : o.at / size < k = (div-lt_iff_lt-mul some).1 under in
            let ends : end_of o ≤ k * size = omega (arith, mul-le (o.at / size + 1) size k size (omega arith) (omega arith), place_parts size some o.at, stand.1.1) in
            let low_before : max (k * size) (slid_place pinned size below o + o.size) ≡ k * size = omega (arith, slid_place-le pinned count size some below o (omega (arith, stand.0)), ends) in
            let low_after : max (k * size) below ≡ k * size = omega (arith, stand.0, ends) in
            rest ∙ ap (λ n. slid_objects pinned size n (filter (λ o. eqb (o.at / size) k) os)) (low_before ∙ sym low_after)
        | inr over ↦
            let beyond : k * size + size ≤ o.at = elim (cases_lt o.at (k * size + size)) [ inl lt ↦ absurd (other (number_is size some k o.at over lt)) | inr ge ↦ ge ] in
            let none = none_above count size some k (k * size) (omega arith) (end_of o) os stand.3 (omega (arith, beyond)) in
            rest ∙ rw none refl
      ]
      -- ---- over all sub-heaps

module _ (pinned : ℕ → Bool) (h : SubHeaps) (sound : IsSound h) where
  -- so many bytes that are free among the objects of one sub-heap are free among all
  lifted : (objects : List Object) → StandFrom h.count h.size 0 objects → (k bytes at : ℕ) → k < h.count → 0 < bytes → k * h.size ≤ at → at + bytes ≤ k * h.size + h.size → Each (IsApartFrom bytes at) (filter (λ o. eqb (o.at / h.size) k) objects) → FitsAt (record h { objects = objects }) bytes at
  lifted objects stand k bytes at lt has above within apart =
      let some = has_bytes h sound in
      let number : at / h.size ≡ k = number_is h.size some k at above (omega (arith, has)) in
      let parts : k * h.size + at % h.size ≡ at = rw number at (place_parts h.size some at) in
      let same_number = filter-Each (IsApartFrom bytes at) (λ o. eqb (o.at / h.size) k) objects apart in
      record {
        inside = (omega (arith, mul-le (k + 1) h.size h.count h.size (omega arith) (omega arith)), omega (arith, parts, within));
        clear = All-from_recursion (IsApartFrom bytes at) objects (Each-both _ (λ o. LiesInOne h.count h.size o.size o.at) (IsApartFrom bytes at) apart_by_number objects same_number (each_inside h.count h.size 0 objects stand));
      }
    where
      apart_by_number : (o : Object) → (eqb (o.at / h.size) k ≡ true → IsApartFrom bytes at o) → LiesInOne h.count h.size o.size o.at → IsApartFrom bytes at o
      apart_by_number o same lies = elim (cases_lt o.at (k * h.size)) [
        | inl under ↦
            let lower : o.at / h.size < k = (div-lt_iff_lt-mul (has_bytes h sound)).1 under in
            inl (omega (arith, mul-le (o.at / h.size + 1) h.size k h.size (omega arith) (omega arith), place_parts h.size (has_bytes h sound) o.at, lies.1))
        | inr over ↦ elim (cases_lt o.at (k * h.size + h.size)) [
          | inl lt ↦ same (eq-eqb (o.at / h.size) k (number_is h.size (has_bytes h sound) k o.at over lt))
          | inr beyond ↦ inr (omega (arith, beyond, within))
        ]
      ]

  abbrev pub slid : SubHeaps
  slid = record h { objects = slid_objects pinned h.size 0 h.objects }

  stand_after : StandFrom h.count h.size 0 slid.objects
  stand_after = stand_slid pinned h.count h.size (has_bytes h sound) 0 0 h.objects (omega arith) sound.stand

  -- the objects of a sub-heap after it
  slid_in : (k : ℕ) → objects_in slid k ≡ slid_objects pinned h.size (k * h.size) (objects_in h k)
  slid_in k =
      let same : max (k * h.size) 0 ≡ k * h.size = omega arith in
      slid_within pinned h.count h.size (has_bytes h sound) k 0 0 h.objects (omega arith) sound.stand ∙ ap (λ n. slid_objects pinned h.size n (objects_in h k)) same

  starts_in : (k : ℕ) → Each (λ o. o.at - o.at % h.size ≡ k * h.size) (objects_in h k)
  starts_in k = Each-weaker (λ o. o.at / h.size ≡ k) _ (λ o is. let parts : k * h.size + o.at % h.size ≡ o.at = rw is at (place_parts h.size (has_bytes h sound) o.at) in omega (arith, parts)) (objects_in h k) (number_of_each h sound k)

  nothing_fits : FitsAt slid 0 0
  nothing_fits = record {
    inside = (omega (arith, mul-le 1 h.size h.count h.size sound.shape.has_sub_heap (omega arith), has_bytes h sound), omega (arith, zero-mod h.size));
    clear = All-from_recursion (IsApartFrom 0 0) slid.objects (Each-weaker (λ o. 0 ≤ o.at) _ (λ o _. inr (omega arith)) slid.objects (start_above h.count h.size 0 slid.objects stand_after));
  }

  -- where a gap starts that is as long as the room
  gap_at : (k bytes : ℕ) → k < h.count → bytes ≡ room_in pinned h k → 0 < bytes → (at : ℕ) × FitsAt slid bytes at
  gap_at k bytes lt same has = found (gap_is pinned h.count h.size (has_bytes h sound) (k * h.size) (k * h.size + h.size) (k * h.size) 0 0 (k * h.size) (k * h.size) (objects_in h k) (omega arith) (omega arith) (omega arith) (omega arith) (stand_in h sound k) (starts_in k) (end_of_each h sound k))
    where
      found : (room_from pinned (k * h.size) 0 (k * h.size + h.size) 0 (objects_in h k) ≡ 0) ⊎ ((at : ℕ) × IsGapOf pinned h.count h.size (has_bytes h sound) (k * h.size) (k * h.size + h.size) (room_from pinned (k * h.size) 0 (k * h.size + h.size) 0 (objects_in h k)) (k * h.size) (objects_in h k) at) → (at : ℕ) × FitsAt slid bytes at
      found (inl none) = absurd (omega (arith, none, same, room_in-room_from h sound pinned k, has))
      found (inr gap) =
          let is : room_from pinned (k * h.size) 0 (k * h.size + h.size) 0 (objects_in h k) ≡ bytes = sym (same ∙ room_in-room_from h sound pinned k) in
          let apart : Each (IsApartFrom bytes gap.0) (objects_in slid k) = rw (slid_in k, ← is) gap.1.2 in
          (gap.0, lifted slid.objects stand_after k bytes gap.0 lt has gap.1.0 (omega (arith, gap.1.1, is)) apart)

  none_longer : (at other : ℕ) → FitsAt slid other at → other ≤ room_of pinned h
  none_longer at other fits =
      let some = has_bytes h sound in
      let k = at / h.size in
      let lt : k < h.count = (div-lt_iff_lt-mul some).1 fits.inside.0 in
      let apart : Each (IsApartFrom other at) (slid_objects pinned h.size (k * h.size) (objects_in h k)) = rw (slid_in k) at (Each-filter (IsApartFrom other at) (λ o. eqb (o.at / h.size) k) slid.objects (recursion_from_All (IsApartFrom other at) slid.objects fits.clear)) in
      let within = gap_bounded pinned h.count h.size some (k * h.size) (k * h.size + h.size) (k * h.size) 0 0 (k * h.size) (k * h.size) (objects_in h k) (omega arith) (omega arith) (omega arith) (stand_in h sound k) (starts_in k) other at (omega (arith, place_parts h.size some at)) (omega (arith, place_parts h.size some at, fits.inside.1)) apart in
      omega (arith, within, room_in-room_from h sound pinned k, each-le-greatest (room_in pinned h) 0 0 h.count k (omega arith) (omega (arith, lt)))

  pub IsLongestGap-slid : IsLongestGap slid (room_of pinned h)
  IsLongestGap-slid = record {
    is_there = elim (cases_lt 0 (room_of pinned h)) [
      | inl some ↦ elim (greatest_is (room_in pinned h) 0 0 h.count) [
        | inl none ↦ absurd (omega (arith, none, some))
        | inr most ↦ gap_at most.0 (room_of pinned h) (omega (arith, most.1)) most.2 some
      ]
      | inr none ↦ let zero_room : 0 ≡ room_of pinned h = omega (arith, none) in (0, subst (λ n. FitsAt slid n 0) zero_room nothing_fits)
    ];
    none_longer = none_longer;
  }

-- objects that have slid stay where they are
slid_fixed : (pinned : ℕ → Bool) (count size below : ℕ) (xs : List Object) → StandFrom count size below xs → HaveSlid pinned size below xs → slid_objects pinned size below xs ≡ xs
slid_fixed pinned count size below [] stand slid = refl
slid_fixed pinned count size below (o ∷ os) stand slid =
    let same = stays (pinned o.at) refl in
    rw (same, slid_fixed pinned count size (end_of o) os stand.3 slid.1) refl
  where
    stays : (b : Bool) → pinned o.at ≡ b → slid_place pinned size below o ≡ o.at
    stays true is = rw is refl
    stays false is = elim (slid.0 is) [
      | inl at_below ↦ rw is (omega (arith, at_below))
      | inr at_start ↦ rw is (omega (arith, at_start, stand.0))
    ]

pub IsLongestGap-room : (pinned : ℕ → Bool) (h : SubHeaps) → IsSound h → IsSlid pinned h → IsLongestGap h (room_of pinned h)
IsLongestGap-room pinned h sound slid =
    subst (λ (xs : List Object). IsLongestGap (record h { objects = xs }) (room_of pinned h)) (slid_fixed pinned h.count h.size 0 h.objects sound.stand slid) (IsLongestGap-slid pinned h sound)
