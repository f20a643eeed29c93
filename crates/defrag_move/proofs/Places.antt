-- A set with places more: its members, its length, and the places that the words which are left name.
use Rattle.std.proofs.Common.{◌≡◌, ℕ, zero, suc, ◌+◌, ◌<◌, ◌≤◌, ◌⊎◌, ◌↔◌, Bool, true, false, cond, ◌||◌, List, [], ◌∷◌, length, get_or, drop, Option, Some, None, Contains, refl, sym, ap, ◌∙◌, subst, inl, inr, arith}
use Rattle.std.specs.Cmp.{nat_cmp_total, unsigned_tied}
use Rattle.std.specs.FinSet as set
use Rattle.std.specs.List.{cons_option}
use Rattle.std.specs.Ordering.{nat_cmp, eq_by_cmp}
use Rattle.std.proofs.lemmas.Bool.{cases_eq, eq-eqb, ne_eqb}
use Rattle.std.proofs.lemmas.List.{drop_more}
use Rattle.arena_meaning.specs.Arena.{Storage, place_named, places_named}
use Rattle.arena_meaning.specs.Changes.{with_places}

abbrev Places : Type 0
Places = set.FinSet nat_cmp

-- ---- how many there are

len-insert_le : (s : Places) (p : ℕ) → set.len s ≤ set.len (set.insert s p)
len-insert_le s p =
    elim (set.contains s p) as (λ b. set.len (set.insert s p) ≡ cond b (set.len s) (set.len s + 1) → set.len s ≤ set.len (set.insert s p)) [
      | true ↦ λ is. omega (arith, is)
      | false ↦ λ is. omega (arith, is)
    ] (set.len-insert nat_cmp_total s p)

len-with_places : (ps : List ℕ) (s : Places) → set.len s ≤ set.len (with_places ps s)
len-with_places [] s = omega arith
len-with_places (p ∷ ps) s = omega (arith, len-insert_le s p, len-with_places ps (set.insert s p))

-- ---- which there are

first_in : (p : ℕ) (ps : List ℕ) → Contains (p ∷ ps) p
first_in p ps = (0, omega arith, refl)

later_in : (p q : ℕ) (ps : List ℕ) → Contains ps q → Contains (p ∷ ps) q
later_in p q ps within = (suc within.0, omega (arith, within.1), within.2)

either_in : (p q : ℕ) (ps : List ℕ) → Contains (p ∷ ps) q → (p ≡ q) ⊎ Contains ps q
either_in p q ps (zero, below, is) = inl is
either_in p q ps (suc k, below, is) = inr (k, omega (arith, below), is)

inserted : (s : Places) (p q : ℕ) → (set.contains (set.insert s p) q ≡ true) ↔ ((p ≡ q) ⊎ (set.contains s q ≡ true))
inserted s p q =
    let is : set.contains (set.insert s p) q ≡ (eq_by_cmp nat_cmp q p || set.contains s q) = set.contains-insert nat_cmp_total s p q in
    elim (cases_eq q p) [
      | inl same ↦
          let tied : eq_by_cmp nat_cmp q p ≡ true = unsigned_tied q p ∙ eq-eqb q p same in
          (λ there. inl (sym same), λ either. is ∙ ap (λ b. b || set.contains s q) tied)
      | inr other ↦
          let tied : eq_by_cmp nat_cmp q p ≡ false = unsigned_tied q p ∙ ne_eqb q p other in
          let same : set.contains (set.insert s p) q ≡ set.contains s q = is ∙ ap (λ b. b || set.contains s q) tied in
          (λ there. inr (sym same ∙ there), λ either. elim either [ inl equal ↦ absurd (other (sym equal)) | inr there ↦ same ∙ there ])
    ]

pub members-with_places : (ps : List ℕ) (s : Places) (q : ℕ) → (set.contains (with_places ps s) q ≡ true) ↔ ((set.contains s q ≡ true) ⊎ Contains ps q)
members-with_places [] s q = (inl, λ either. elim either [ inl there ↦ there | inr none ↦ absurd (omega (arith, none.1)) ])
members-with_places (p ∷ ps) s q =
    let more = members-with_places ps (set.insert s p) q in
    let one = inserted s p q in (
      λ there. elim (more.0 there) [
        | inl now ↦ elim (one.0 now) [ inl equal ↦ inr (subst (Contains (p ∷ ps)) equal (first_in p ps)) | inr before ↦ inl before ]
        | inr later ↦ inr (later_in p q ps later)
      ],
      λ either. elim either [
        | inl before ↦ more.1 (inl (one.1 (inr before)))
        | inr within ↦ elim (either_in p q ps within) [ inl equal ↦ more.1 (inl (one.1 (inl equal))) | inr later ↦ more.1 (inr later) ]
      ],
    )

-- ---- the words that are left

module _ (s : Storage) (words : List ℕ) (i : ℕ) (within : i < length words) (r : Option ℕ) (named : r ≡ place_named s (get_or words i 0)) (now old : Places) where
  -- they name what the next one does, and what the others do
  next_named : with_places (places_named s (drop i words)) now ≡ with_places (cons_option r (places_named s (drop (i + 1) words))) now
  next_named =
      ap (λ ws. with_places (places_named s ws) now) (drop_more words i 0 within)
      ∙ ap (λ q. with_places (cons_option q (places_named s (drop (i + 1) words))) now) (sym named)

  module _ (kept : with_places (places_named s (drop i words)) now ≡ with_places (places_named s words) old) where
    pub kept_next : with_places (cons_option r (places_named s (drop (i + 1) words))) now ≡ with_places (places_named s words) old
    kept_next = sym next_named ∙ kept

    -- a place that isn't there yet has room
    pub place_room : (place room : ℕ) → r ≡ Some place → set.len (with_places (places_named s words) old) ≤ room → set.contains now place ≡ false → set.len now < room
    place_room place room is fits absent =
        let whole : with_places (places_named s (drop (i + 1) words)) (set.insert now place) ≡ with_places (places_named s words) old = ap (λ q. with_places (cons_option q (places_named s (drop (i + 1) words))) now) (sym is) ∙ kept_next in
        let more : set.len (set.insert now place) ≡ set.len now + 1 = set.len-insert nat_cmp_total now place ∙ ap (λ b. cond b (set.len now) (set.len now + 1)) absent in
        omega (arith, more, len-with_places (places_named s (drop (i + 1) words)) (set.insert now place), ap set.len whole, fits)

-- ---- at most as many as there are words

len-with_places_le : (ps : List ℕ) (s : Places) → set.len (with_places ps s) ≤ set.len s + length ps
len-with_places_le [] s = omega arith
len-with_places_le (p ∷ ps) s =
    let one : set.len (set.insert s p) ≤ set.len s + 1 = insert_le (set.contains s p) (set.len-insert nat_cmp_total s p) in
    omega (arith, one, len-with_places_le ps (set.insert s p))
  where
    insert_le : (b : Bool) → set.len (set.insert s p) ≡ cond b (set.len s) (set.len s + 1) → set.len (set.insert s p) ≤ set.len s + 1
    insert_le true is = omega (arith, is)
    insert_le false is = omega (arith, is)

length-places_named : (s : Storage) (words : List ℕ) → length (places_named s words) ≤ length words
length-places_named s [] = omega arith
length-places_named s (w ∷ ws) =
    elim (place_named s w) as (λ r. length (cons_option r (places_named s ws)) ≤ suc (length ws)) [
      | None ↦ omega (arith, length-places_named s ws)
      | Some at ↦ omega (arith, length-places_named s ws)
    ]

pub len-places_named : (s : Storage) (words : List ℕ) (places : Places) → set.len (with_places (places_named s words) places) ≤ set.len places + length words
len-places_named s words places = omega (arith, len-with_places_le (places_named s words) places, length-places_named s words)
