-- Where objects have slid, so many bytes fit just where some sub-heap has as much room; and an object that is put at the lowest place
-- that fits leaves them so.
use Rattle.std.proofs.Common.{◌≡◌, ℕ, ◌+◌, ◌-◌, ◌*◌, ◌/◌, ◌%◌, ◌<◌, ◌≤◌, ◌⊎◌, Bool, true, false, cond, ltb, List, [], ◌∷◌, refl, inl, inr, arith}
use Rattle.std.specs.List.{AllByRecursion as Each}
use Rattle.std.proofs.lemmas.Bool.{cases_lt, ltb-true, ltb-false}
use Rattle.std.proofs.lemmas.List.Elements.{recursion_from_All, All-from_recursion}
use Rattle.sub_heaps.specs.declared.objects.Object.{Object}
use Rattle.sub_heaps.specs.ByPlace.{end_of, with_object}
use Rattle.sub_heaps.specs.SubHeaps.{SubHeaps, FitsAt, IsApartFrom, IsLowestFit, IsSound, StandFrom}
use Rattle.sub_heaps.proofs.Blocks.{mod_below, number_is, place_parts}
use Rattle.sub_heaps.proofs.Standing.{Each-weaker, start_above}
use Rattle.move_plan.specs.Sliding.{HaveSlid, IsSlid}
use Rattle.move_plan.specs.Stretches.{room_in, room_of}
use Rattle.move_plan.proofs.Longest.{IsLongestGap-room}
use Rattle.move_plan.proofs.Numbered.{each-le-greatest, greatest_is}

-- ---- an object more

-- one place lower is as far into the sub-heap, less 1
one_lower : (size at : ℕ) → 0 < at % size → 0 < size → (at - 1) % size + 1 ≡ at % size
one_lower size at in_it some =
    let parts = place_parts size some at in
    let same : (at - 1) / size ≡ at / size = number_is size some (at / size) (at - 1) (omega (arith, parts, in_it)) (omega (arith, parts, mod_below size some at)) in
    let below : at / size * size + (at - 1) % size ≡ at - 1 = rw same at (place_parts size some (at - 1)) in
    omega (arith, parts, below, in_it)

module _ (pinned : ℕ → Bool) (count size : ℕ) (some : 0 < size) (new : Object) (has : 0 < new.size) (inside : new.at % size + new.size ≤ size) where
  -- no lower place from there on would do
  abbrev NoneLower : (below : ℕ) → List Object → Type 0
  NoneLower below xs = (other : ℕ) → below ≤ other → other % size + new.size ≤ size → Each (IsApartFrom new.size other) xs → new.at ≤ other

  -- it starts where its lower neighbour ends, or at its sub-heap's start
  starts_low : (below : ℕ) (xs : List Object) → below ≤ new.at → Each (λ o. new.at + new.size ≤ o.at) xs → NoneLower below xs → (new.at ≡ below) ⊎ (new.at % size ≡ 0)
  starts_low below xs above over lowest = elim (cases_lt 0 (new.at % size)) [
    | inr start ↦ inr (omega (arith, start))
    | inl in_it ↦ elim (cases_lt below new.at) [
      | inr at_below ↦ inl (omega (arith, at_below, above))
      | inl gap ↦
          let lower = one_lower size new.at in_it some in
          let apart : Each (IsApartFrom new.size (new.at - 1)) xs = Each-weaker (λ o. new.at + new.size ≤ o.at) (IsApartFrom new.size (new.at - 1)) (λ o high. inr (omega (arith, high))) xs over in
          absurd (omega (arith, gap, lowest (new.at - 1) (omega (arith, gap)) (omega (arith, lower, inside)) apart))
    ]
  ]

  -- what has slid has still slid with it
  pub slid_with : (below : ℕ) (xs : List Object) → StandFrom count size below xs → HaveSlid pinned size below xs → below ≤ new.at → Each (IsApartFrom new.size new.at) xs → NoneLower below xs → HaveSlid pinned size below (with_object new xs)
  slid_with below [] stand slid above apart lowest = ((λ free. starts_low below [] above tt lowest), tt)
  slid_with below (o ∷ os) stand slid above apart lowest =
      elim (ltb new.at o.at) as (λ t. ltb new.at o.at ≡ t → HaveSlid pinned size below (cond t (new ∷ o ∷ os) (o ∷ with_object new os))) [
        | true ↦ λ is.
            let over : new.at + new.size ≤ o.at = at_first (ltb-true new.at o.at is) apart.0 in
            let all : Each (λ x. new.at + new.size ≤ x.at) (o ∷ os) = (over, Each-weaker (λ x. end_of o ≤ x.at) (λ x. new.at + new.size ≤ x.at) (λ x high. omega (arith, high, over)) os (start_above count size (end_of o) os stand.3)) in
            ((λ free. starts_low below (o ∷ os) above all lowest), ((λ free. behind over (slid.0 free)), slid.1))
        | false ↦ λ is.
            let ends : end_of o ≤ new.at = at_later (ltb-false new.at o.at is) apart.0 in
            (slid.0, slid_with (end_of o) os stand.3 slid.1 ends apart.1 (λ other high within clear. lowest other (omega (arith, high, stand.0)) within (inl high, clear)))
      ] refl
    where
      at_first : new.at < o.at → IsApartFrom new.size new.at o → new.at + new.size ≤ o.at
      at_first below_it (inl ends) = omega (arith, below_it, ends)
      at_first below_it (inr over) = over

      at_later : o.at ≤ new.at → IsApartFrom new.size new.at o → end_of o ≤ new.at
      at_later le (inl ends) = ends
      at_later le (inr over) = absurd (omega (arith, le, over, has))

      behind : new.at + new.size ≤ o.at → (o.at ≡ below) ⊎ (o.at % size ≡ 0) → (o.at ≡ end_of new) ⊎ (o.at % size ≡ 0)
      behind over (inl at_below) = absurd (omega (arith, over, at_below, above, has))
      behind over (inr start) = inr start

module _ (pinned : ℕ → Bool) (h : SubHeaps) (sound : IsSound h) where
  has_bytes : 0 < h.size
  has_bytes = omega (arith, sound.shape.size_least)

  -- an object at the lowest place leaves the sub-heaps slid
  pub IsSlid-placed : IsSlid pinned h → (new : Object) → 0 < new.size → IsLowestFit h new.size new.at → IsSlid pinned (record h { objects = with_object new h.objects })
  IsSlid-placed slid new has is =
      slid_with pinned h.count h.size has_bytes new has is.fits.inside.1 0 h.objects sound.stand slid (omega arith) (recursion_from_All (IsApartFrom new.size new.at) h.objects is.fits.clear) lowest
    where
      lowest : (other : ℕ) → 0 ≤ other → other % h.size + new.size ≤ h.size → Each (IsApartFrom new.size other) h.objects → new.at ≤ other
      lowest other low within clear = elim (cases_lt other new.at) [
        | inl lower ↦ is.lowest other (record { inside = (omega (arith, lower, is.fits.inside.0), within); clear = All-from_recursion (IsApartFrom new.size other) h.objects clear })
        | inr above ↦ above
      ]

  -- ---- the room tells what fits

  -- where bytes fit, fewer do
  fewer_fit : (more fewer at : ℕ) → fewer ≤ more → FitsAt h more at → FitsAt h fewer at
  fewer_fit more fewer at le fits = record {
    inside = (fits.inside.0, omega (arith, le, fits.inside.1));
    clear = λ k d below. elim (fits.clear k d below) [ inl ends ↦ inl ends | inr over ↦ inr (omega (arith, le, over)) ];
  }

  -- each sub-heap has less room
  abbrev pub HasLess : (bytes : ℕ) → Type 0
  HasLess bytes = (number : ℕ) → number < h.count → room_in pinned h number < bytes

  below_greatest : (bytes : ℕ) → 0 < bytes → HasLess bytes → room_of pinned h < bytes
  below_greatest bytes has less = elim (greatest_is (room_in pinned h) 0 0 h.count) [
    | inl none ↦ omega (arith, none, has)
    | inr most ↦ omega (arith, most.2, less most.0 (omega (arith, most.1)))
  ]

  pub less_fits_nowhere : IsSlid pinned h → (bytes : ℕ) → 0 < bytes → HasLess bytes → (at : ℕ) → ¬ FitsAt h bytes at
  less_fits_nowhere slid bytes has less at fits =
      omega (arith, (IsLongestGap-room pinned h sound slid).none_longer at bytes fits, below_greatest bytes has less)

  pub nowhere_is_less : IsSlid pinned h → (bytes : ℕ) → ((at : ℕ) → ¬ FitsAt h bytes at) → HasLess bytes
  nowhere_is_less slid bytes none number below = elim (cases_lt (room_in pinned h number) bytes) [
    | inl less ↦ less
    | inr enough ↦
        let gap = (IsLongestGap-room pinned h sound slid).is_there in
        let most = each-le-greatest (room_in pinned h) 0 0 h.count number (omega arith) (omega (arith, below)) in
        absurd (none gap.0 (fewer_fit (room_of pinned h) bytes gap.0 (omega (arith, enough, most)) gap.1))
  ]
