-- A new object: it is the one at its place, the others stay, and what it is filled with.
use Rattle.std.proofs.Common.{◌≡◌, ℕ, ◌+◌, ◌*◌, ◌^◌, ◌≤◌, min, true, false, cond, nat_le, eqb, List, [], ◌∷◌, length, take, replicate, Option, Some, None, IsSome, IfSome, is_some, refl, sym, ap, ◌∙◌, subst, inl, inr, arith}
use Rattle.std.specs.List.{AllByRecursion as Each, find}
use Rattle.std.specs.Option.{option_map}
use Rattle.std.proofs.lemmas.Bool.{cases_lt, eq-eqb, ne_eqb, false≢true, le-leb}
use Rattle.std.proofs.lemmas.List.{take-take, take_all, length-take}
use Rattle.std.proofs.lemmas.List.Elements.{recursion_from_All}
use Rattle.std.proofs.lemmas.Option.{none-some, same_Some}
use Rattle.handle_words.specs.Handle.{id_of, offset_of}
use Rattle.flat_store.specs.Flat.{first_address, bytes_from, with_bytes}
use Rattle.sub_heaps.specs.declared.objects.Object.{Object}
use Rattle.sub_heaps.specs.ByPlace.{end_of, object_at, with_object}
use Rattle.sub_heaps.specs.SubHeaps.{FitsAt, IsApartFrom, StandFrom, rounded}
use Rattle.sub_heaps.proofs.Taken.{found_at}
use Rattle.arena_meaning.specs.Arena.{IsConsistent, IsLiveStart, Storage, object_of}
use Rattle.arena_meaning.specs.Changes.{bytes_named, first_bytes_of, is_live_start, with_filled, with_new}
use Rattle.defrag_move.proofs.Bytes.{length-with_bytes}
use Rattle.defrag_move.proofs.Kept.{IsConsistent-changed, end_within, has_size, matches, object_within}
use Rattle.defrag_move.proofs.Owners.{find-with_object_new, find-with_object_other, find_each, object_at-owned, value_in}
use Rattle.defrag_move.proofs.Turns.{find-placed}

-- ---- the size that is asked for

pub size_of : (r : Option Object) (o : Object) (size : ℕ) → r ≡ Some o → IfSome r (λ x. size ≡ x.size) → size ≡ o.size
size_of r o size is told = subst (λ q. IfSome q (λ x. size ≡ x.size)) is told

module _ (s now : Storage) (same : s ≡ now) (consistent : IsConsistent s) (place : ℕ) (there : IsSome (object_at place now.heaps.objects)) where
  its : (o : Object) × (object_at place now.heaps.objects ≡ Some o)
  its = value_in (object_at place now.heaps.objects) there

  -- the lowest object from its place on
  its_find : find (λ x. nat_le place x.at) s.heaps.objects ≡ Some its.0
  its_find = find-placed s.heaps.count s.heaps.size 0 place s.heaps.objects its.0 consistent.heaps.stand (ap (λ (t : Storage). object_at place t.heaps.objects) same ∙ its.1)

  pub next_there : None ≡ find (λ x. nat_le place x.at) s.heaps.objects → ⊥
  next_there none = none-some its.0 (none ∙ its_find)

  pub next_size : (o : Object) → Some o ≡ find (λ x. nat_le place x.at) s.heaps.objects → IfSome (object_at place now.heaps.objects) (λ x. o.size ≡ x.size)
  next_size o next = subst (λ r. IfSome r (λ x. o.size ≡ x.size)) (sym its.1) (ap (λ (x : Object). x.size) (same_Some o its.0 (next ∙ its_find)))

-- ---- a part of a part

pub part_of_part : (n size : ℕ) (xs : List ℕ) → take n (take size xs) ≡ take (min size n) xs
part_of_part n size xs = elim (cases_lt n size) [
  | inl less ↦
      let least : min size n ≡ n = omega arith in
      take-take n size xs (omega arith) ∙ ap (λ k. take k xs) (sym least)
  | inr more ↦
      let least : min size n ≡ size = omega arith in
      take_all n (take size xs) (omega (arith, length-take size xs)) ∙ ap (λ k. take k xs) (sym least)
]

-- ---- storage with bytes written into its sub-heaps

pub IsConsistent-filled : (s : Storage) → IsConsistent s → (at : ℕ) (bytes : List ℕ) → at + length bytes ≤ s.heaps.count * s.heaps.size → IsConsistent (with_filled s at bytes)
IsConsistent-filled s consistent at bytes within =
    let low : first_address ≤ s.start + at = omega (arith, consistent.above) in
    IsConsistent-changed s consistent s.table s.heaps.objects (with_bytes s.bytes (s.start + at) bytes) refl (length-with_bytes s.bytes bytes (s.start + at) low (omega (arith, consistent.whole, within))) consistent.heaps (matches s consistent)

-- the bytes of an object, as far as it reaches
length-first_bytes_of : (s : Storage) (n : ℕ) (r : Option Object) → length (first_bytes_of s n r) ≤ n
length-first_bytes_of s n None = omega arith
length-first_bytes_of s n (Some o) = omega (arith, length-take n (bytes_from s.bytes (s.start + o.at) o.size))

pub length-bytes_named : (s : Storage) (word n : ℕ) → length (bytes_named s word n) ≤ n
length-bytes_named s word n =
    elim (is_live_start s word) as (λ b. length (cond b (first_bytes_of s n (object_of (id_of word) s.heaps.objects)) []) ≤ n) [
      | true ↦ length-first_bytes_of s n (object_of (id_of word) s.heaps.objects)
      | false ↦ omega arith
    ]

-- ---- a new object among the others

module _ (s : Storage) (consistent : IsConsistent s) (id place bytes : ℕ) (fits : FitsAt s.heaps (rounded bytes) place) where
  abbrev new : Object
  new = record { at = place; size = rounded bytes; owner = id }

  large : 16 ≤ rounded bytes
  large = omega arith

  -- no other starts where it does
  others : Each (λ o. eqb o.at place ≡ false) s.heaps.objects
  others = apart 0 s.heaps.objects consistent.heaps.stand (recursion_from_All (IsApartFrom (rounded bytes) place) s.heaps.objects fits.clear)
    where
      differs : (o : Object) → 16 ≤ o.size → IsApartFrom (rounded bytes) place o → o.at ≡ place → ⊥
      differs o some (inl below) same = absurd (omega (arith, below, same))
      differs o some (inr above) same = absurd (omega (arith, above, same, large))

      apart : (from : ℕ) (os : List Object) → StandFrom s.heaps.count s.heaps.size from os → Each (IsApartFrom (rounded bytes) place) os → Each (λ o. eqb o.at place ≡ false) os
      apart from [] stand clear = tt
      apart from (o ∷ os) stand clear = (ne_eqb o.at place (differs o stand.2.0 clear.0), apart (end_of o) os stand.3 clear.1)

  new_there : object_at place (with_object new s.heaps.objects) ≡ Some new
  new_there = find-with_object_new (λ o. eqb o.at place) new s.heaps.objects (eq-eqb place place refl) others

  other_there : (from : ℕ) (o : Object) → object_at from s.heaps.objects ≡ Some o → object_at from (with_object new s.heaps.objects) ≡ Some o
  other_there from o there =
      let other = find_each (λ x. eqb x.at place ≡ false) (λ x. eqb x.at from) s.heaps.objects o others there in
      let differs : eqb place from ≡ false = ne_eqb place from (λ same. false≢true (sym other.0 ∙ eq-eqb o.at place (found_at from s.heaps.objects o there ∙ sym same))) in
      find-with_object_other (λ x. eqb x.at from) new s.heaps.objects differs ∙ there

  module _ (now : Storage) (is : now ≡ with_new s new) where
    -- it is there, of its size, within the sub-heaps
    found : object_at place now.heaps.objects ≡ Some new
    found = ap (λ (t : Storage). object_at place t.heaps.objects) is ∙ new_there

    pub new_is_there : IsSome (object_at place now.heaps.objects)
    new_is_there = ap is_some found

    pub new_size : (size : ℕ) → IfSome (object_at place now.heaps.objects) (λ o. size ≡ o.size) → size ≡ rounded bytes
    new_size size told = size_of (object_at place now.heaps.objects) new size found told

    pub new_within : (n : ℕ) → n ≤ rounded bytes → place + n ≤ now.heaps.count * now.heaps.size
    new_within n few =
        let whole : now.heaps.count * now.heaps.size ≡ s.heaps.count * s.heaps.size = ap (λ (t : Storage). t.heaps.count * t.heaps.size) is in
        omega (arith, end_within s.heaps.count s.heaps.size (has_size s consistent) (rounded bytes) place fits.inside, whole, few)

    -- cleared, as far as it reaches
    pub new_cleared : (size : ℕ) (after : Storage) → IfSome (object_at place now.heaps.objects) (λ o. size ≡ o.size) → after ≡ with_filled now place (replicate size 0) → after ≡ with_filled (with_new s new) place (replicate (rounded bytes) 0)
    new_cleared size after told cleared = cleared ∙ (λ i. with_filled (is i) place (replicate (new_size size told i) 0))

    -- ---- the old object

    module _ (word from : ℕ) (live : IsLiveStart s word) (named : Some from ≡ option_map (λ o. o.at) (object_of (id_of word) s.heaps.objects)) where
      old : (o : Object) × (object_of (id_of word) s.heaps.objects ≡ Some o) × (o.at ≡ from)
      old = elim (object_of (id_of word) s.heaps.objects) as (λ r. object_of (id_of word) s.heaps.objects ≡ r → Some from ≡ option_map (λ o. o.at) r → (o : Object) × (object_of (id_of word) s.heaps.objects ≡ Some o) × (o.at ≡ from)) [
        | None ↦ λ none at. absurd (false≢true (sym (ap is_some at)))
        | Some o ↦ λ found at. (o, found, sym (same_Some from o.at at))
      ] refl named

      old_there : object_at from now.heaps.objects ≡ Some old.0
      old_there =
          let placed : object_at from s.heaps.objects ≡ Some old.0 = ap (λ n. object_at n s.heaps.objects) (sym old.2) ∙ object_at-owned s.start s.table s.heaps.objects (matches s consistent) s.heaps.count s.heaps.size 0 consistent.heaps.stand (id_of word) old.0 old.1 in
          ap (λ (t : Storage). object_at from t.heaps.objects) is ∙ other_there from old.0 placed

      pub old_is_there : IsSome (object_at from now.heaps.objects)
      old_is_there = ap is_some old_there

      is_live : is_live_start s word ≡ true
      is_live =
          let marked : nat_le (2 ^ 63) word ≡ true = le-leb (2 ^ 63) word live.handle in
          let start : eqb (offset_of word) 0 ≡ true = eq-eqb (offset_of word) 0 live.start in
          rw (marked, start) live.in_use

      named_are : (n : ℕ) → bytes_named s word n ≡ bytes_from s.bytes (s.start + from) (min old.0.size n)
      named_are n =
          ap (λ b. cond b (first_bytes_of s n (object_of (id_of word) s.heaps.objects)) []) is_live
          ∙ ap (first_bytes_of s n) old.1
          ∙ ap (λ at. take n (bytes_from s.bytes (s.start + at) old.0.size)) old.2
          ∙ part_of_part n old.0.size _

      module _ (first second size : ℕ) (first_told : IfSome (object_at from now.heaps.objects) (λ o. first ≡ o.size)) (second_told : IfSome (object_at place now.heaps.objects) (λ o. second ≡ o.size)) (size_is : size ≡ min first second) where
        first_is : first ≡ old.0.size
        first_is = size_of (object_at from now.heaps.objects) old.0 first old_there first_told

        least : size ≡ min old.0.size (rounded bytes)
        least = size_is ∙ (λ i. min (first_is i) (new_size second second_told i))

        pub to_within : place + size ≤ now.heaps.count * now.heaps.size
        to_within = new_within size (omega (arith, least))

        pub from_within : from + size ≤ now.heaps.count * now.heaps.size
        from_within =
            let whole : now.heaps.count * now.heaps.size ≡ s.heaps.count * s.heaps.size = ap (λ (t : Storage). t.heaps.count * t.heaps.size) is in
            omega (arith, object_within s consistent (id_of word) old.0 old.1, old.2, whole, least)

        -- copied, as far as both reach
        pub new_copied : (after : Storage) → after ≡ with_filled now place (bytes_from now.bytes (now.start + from) size) → after ≡ with_filled (with_new s new) place (bytes_named s word (rounded bytes))
        new_copied after copied =
            copied ∙ (λ i. with_filled (is i) place (bytes_from (is i).bytes ((is i).start + from) (least i))) ∙ ap (with_filled (with_new s new) place) (sym (named_are (rounded bytes)))
