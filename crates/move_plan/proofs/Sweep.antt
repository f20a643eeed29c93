-- The room of a sub-heap by one walk over its objects: `from` is the start of the present stretch, `held` the bytes of its unpinned objects so far.
use Rattle.std.proofs.Common.{◌≡◌, ℕ, ◌+◌, ◌-◌, ◌<◌, ◌≤◌, max, Bool, true, false, cond, not, ◌&&◌, leb, ltb, List, [], ◌∷◌, ◌++◌, refl, sym, ap, ◌∙◌, subst, arith}
use Rattle.std.specs.List.{filter, fold, sum_by, AllByRecursion as Each}
use Rattle.std.proofs.lemmas.Bool.{le-leb, lt-ltb, le-ltb, lt-leb, and_right}
use Rattle.std.proofs.lemmas.List.{append_assoc}
use Rattle.std.proofs.lemmas.List.Elements.{filter-append}
use Rattle.std.proofs.lemmas.List.Sums.{sum_by-append}
use Rattle.sub_heaps.specs.declared.objects.Object.{Object}
use Rattle.sub_heaps.specs.ByPlace.{end_of}
use Rattle.sub_heaps.specs.SubHeaps.{StandFrom}
use Rattle.sub_heaps.proofs.Standing.{Each-weaker, Each-append, Each-left, start_above}
use Rattle.move_plan.specs.Stretches.{stretches, free_bytes}

-- ---- the bytes of the objects that pass a test

abbrev pub bytes_if : (Object → Bool) → List Object → ℕ
bytes_if p xs = sum_by (λ o. o.size) (filter p xs)

bytes_if-append : (p : Object → Bool) (xs ys : List Object) → bytes_if p (xs ++ ys) ≡ bytes_if p xs + bytes_if p ys
bytes_if-append p xs ys = ap (sum_by (λ o. o.size)) (filter-append p xs ys) ∙ sum_by-append (λ o. o.size) (filter p xs) (filter p ys)

filter-same : (p q : Object → Bool) (xs : List Object) → Each (λ o. p o ≡ q o) xs → filter p xs ≡ filter q xs
filter-same p q [] same = refl
filter-same p q (x ∷ xs) same = rw (same.0, filter-same p q xs same.1) refl

filter-none : (p : Object → Bool) (xs : List Object) → Each (λ o. p o ≡ false) xs → filter p xs ≡ []
filter-none p [] none = refl
filter-none p (x ∷ xs) none = rw none.0 (filter-none p xs none.1)

bytes_if-one : (p : Object → Bool) (o : Object) → p o ≡ true → bytes_if p (o ∷ []) ≡ o.size
bytes_if-one p o is = rw is (omega arith)

-- ---- the walk

abbrev pub room_from : (pinned : ℕ → Bool) → (from held end best : ℕ) → List Object → ℕ
room_from pinned from held end best [] = max best (end - from - held)
room_from pinned from held end best (o ∷ os) = cond (pinned o.at) (room_from pinned (end_of o) 0 end (max best (o.at - from - held)) os) (room_from pinned from (held + o.size) end best os)

module _ (pinned : ℕ → Bool) (count size end : ℕ) where
  -- the unpinned objects that start at or above a place
  abbrev since : ℕ → Object → Bool
  since from o = not (pinned o.at) && leb from o.at

  -- those of a stretch
  abbrev in_stretch : ℕ → ℕ → Object → Bool
  in_stretch from to o = not (pinned o.at) && leb from o.at && ltb o.at to

  -- in the objects passed and those left, a stretch that ends above the former and below the latter holds what was counted
  in_stretch-since : (from to : ℕ) (passed left : List Object) → Each (λ o. o.at < to) passed → Each (λ o. to ≤ o.at) left → bytes_if (in_stretch from to) (passed ++ left) ≡ bytes_if (since from) passed
  in_stretch-since from to passed left below above =
      let same = filter-same (in_stretch from to) (since from) passed (Each-weaker (λ o. o.at < to) _ (λ o lt. let is : ltb o.at to ≡ true = lt-ltb o.at to lt in rw is (and_true (since from o))) passed below) in
      let none = filter-none (in_stretch from to) left (Each-weaker (λ o. to ≤ o.at) _ (λ o le. let is : ltb o.at to ≡ false = le-ltb o.at to le in and_right (since from o) (ltb o.at to) is) left above) in
      bytes_if-append (in_stretch from to) passed left ∙ rw (same, none) (omega arith)
    where
      and_true : (b : Bool) → (b && true) ≡ b
      and_true true = refl
      and_true false = refl

  -- one object of the walk, given the walk over the others
  at_test : (from held best low : ℕ) (passed : List Object) (o : Object) (os : List Object) → from ≤ low → StandFrom count size low (o ∷ os) → Each (λ o. o.at < low) passed → held ≡ bytes_if (since from) passed
      → ((from held best : ℕ) → from ≤ end_of o → held ≡ bytes_if (since from) (passed ++ o ∷ []) → fold (λ best s. max best (free_bytes pinned (passed ++ o ∷ os) s)) best (stretches from end (filter (λ o. pinned o.at) os)) ≡ room_from pinned from held end best os)
      → (t : Bool) → pinned o.at ≡ t → fold (λ best s. max best (free_bytes pinned (passed ++ o ∷ os) s)) best (stretches from end (cond t (o ∷ filter (λ o. pinned o.at) os) (filter (λ o. pinned o.at) os))) ≡ cond t (room_from pinned (end_of o) 0 end (max best (o.at - from - held)) os) (room_from pinned from (held + o.size) end best os)
  at_test from held best low passed o os le stand below is later true is_pinned =
      let here = in_stretch-since from o.at passed (o ∷ os) (Each-weaker (λ x. x.at < low) _ (λ x lt. omega (arith, lt, stand.0)) passed below) (omega arith, Each-weaker (λ x. end_of o ≤ x.at) _ (λ x high. omega (arith, high)) os (start_above count size (end_of o) os stand.3)) in
      let free : free_bytes pinned (passed ++ o ∷ os) (record { from = from; to = o.at }) ≡ o.at - from - held = rw (here, ← is) refl in
      let low_more : Each (λ x. since (end_of o) x ≡ false) (passed ++ o ∷ []) =
      Each-append (λ x. since (end_of o) x ≡ false) passed (o ∷ []) (Each-weaker (λ x. x.at < low) _ (λ x lt. passed_by x (omega (arith, lt, stand.0))) passed below) (passed_by o (omega (arith, stand.2)), tt) in
      let none : 0 ≡ bytes_if (since (end_of o)) (passed ++ o ∷ []) = sym (ap (sum_by (λ o. o.size)) (filter-none (since (end_of o)) (passed ++ o ∷ []) low_more)) in
      ap (λ m. fold (λ best s. max best (free_bytes pinned (passed ++ o ∷ os) s)) (max best m) (stretches (end_of o) end (filter (λ o. pinned o.at) os))) free
      ∙ later (end_of o) 0 (max best (o.at - from - held)) (omega arith) none
    where
      passed_by : (x : Object) → x.at < end_of o → since (end_of o) x ≡ false
      passed_by x lt = and_right (not (pinned x.at)) (leb (end_of o) x.at) (lt-leb (end_of o) x.at lt)
  at_test from held best low passed o os le stand below is later false is_pinned =
      let counts : since from o ≡ true = let above : leb from o.at ≡ true = le-leb from o.at (omega (arith, stand.0)) in rw (is_pinned, above) refl in
      let more : held + o.size ≡ bytes_if (since from) (passed ++ o ∷ []) = omega (arith, is, bytes_if-append (since from) passed (o ∷ []), bytes_if-one (since from) o counts) in
      later from (held + o.size) best (omega (arith, stand.0)) more

  pub stretches-room_from : (from held best low : ℕ) (passed left : List Object) → from ≤ low → StandFrom count size low left → Each (λ o. o.at < low) passed → Each (λ o. o.at < end) (passed ++ left) → held ≡ bytes_if (since from) passed → fold (λ best s. max best (free_bytes pinned (passed ++ left) s)) best (stretches from end (filter (λ o. pinned o.at) left)) ≡ room_from pinned from held end best left
  stretches-room_from from held best low passed [] le stand below within is =
      let all : bytes_if (in_stretch from end) (passed ++ []) ≡ bytes_if (since from) passed = in_stretch-since from end passed [] (Each-left (λ o. o.at < end) passed [] within) tt in
      rw (all, ← is) refl
  stretches-room_from from held best low passed (o ∷ os) le stand below within is =
      let more = passed ++ o ∷ [] in
      let joined : more ++ os ≡ passed ++ o ∷ os = append_assoc passed (o ∷ []) os in
      let below_more : Each (λ x. x.at < end_of o) more = Each-append (λ x. x.at < end_of o) passed (o ∷ []) (Each-weaker (λ x. x.at < low) _ (λ x lt. omega (arith, lt, stand.0)) passed below) (omega (arith, stand.2), tt) in
      let within_more : Each (λ x. x.at < end) (more ++ os) = subst (λ xs. Each (λ x. x.at < end) xs) (sym joined) within in
      let later = λ (from held best : ℕ) (le : from ≤ end_of o) (is : held ≡ bytes_if (since from) more). subst (λ xs. fold (λ best s. max best (free_bytes pinned xs s)) best (stretches from end (filter (λ o. pinned o.at) os)) ≡ room_from pinned from held end best os) joined (stretches-room_from from held best (end_of o) more os le stand.3 below_more within_more is) in
      at_test from held best low passed o os le stand below is later (pinned o.at) refl
