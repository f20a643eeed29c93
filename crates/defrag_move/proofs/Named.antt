-- The object that an id or a word leads to, and its place.
use Rattle.std.proofs.Common.{◌≡◌, ℕ, ◌+◌, ◌-◌, ◌%◌, ◌^◌, ◌<◌, ◌≤◌, true, nat_le, length, Option, Some, None, IsSome, is_some, refl, sym, ap, ◌∙◌, arith}
use Rattle.std.specs.Option.{option_map}
use Rattle.std.proofs.lemmas.Bool.{le-leb, false≢true}
use Rattle.handle_words.specs.Handle.{IsHandle, id_of, offset_of}
use Rattle.handle_table.specs.Table.{IsFree, IsInUse, address_of, translated}
use Rattle.sub_heaps.specs.declared.objects.Object.{Object}
use Rattle.arena_meaning.specs.Arena.{IsConsistent, Storage, object_of}
use Rattle.defrag_move.proofs.Counts.{as_many, in_use_count-free}
use Rattle.defrag_move.proofs.Kept.{matches, object_starts}
use Rattle.defrag_move.proofs.Owners.{owner_found, value_in}

module _ (s : Storage) (consistent : IsConsistent s) where
  -- where an id is free, there may be one object more
  pub fewer : (id : ℕ) → IsFree s.table id → length s.heaps.objects < s.heaps.most
  fewer id free =
      omega (arith, as_many s.start s.heaps.count s.heaps.size 0 s.table s.heaps.objects consistent.heaps.stand (matches s consistent), in_use_count-free s.table id free, consistent.ids)

  -- an id that isn't in use has no object, and no place
  pub place-unused : (id : ℕ) → (IsInUse s.table id → ⊥) → None ≡ option_map (λ o. o.at) (object_of id s.heaps.objects)
  place-unused id unused =
      elim (object_of id s.heaps.objects) as (λ r. object_of id s.heaps.objects ≡ r → None ≡ option_map (λ o. o.at) r) [
        | None ↦ λ none. refl
        | Some o ↦ λ found. absurd (unused (ap is_some (owner_found s.start s.table s.heaps.objects (matches s consistent) id o found).1))
      ] refl

  -- an id with an object is in use
  pub in_use-object : (id at : ℕ) → Some at ≡ option_map (λ o. o.at) (object_of id s.heaps.objects) → IsInUse s.table id
  in_use-object id at is =
      elim (object_of id s.heaps.objects) as (λ r. object_of id s.heaps.objects ≡ r → Some at ≡ option_map (λ o. o.at) r → IsInUse s.table id) [
        | None ↦ λ none is. absurd (false≢true (sym (ap is_some is)))
        | Some o ↦ λ found is. ap is_some (owner_found s.start s.table s.heaps.objects (matches s consistent) id o found).1
      ] refl is

  module _ (id : ℕ) (in_use : IsInUse s.table id) where
    its : (o : Object) × (object_of id s.heaps.objects ≡ Some o)
    its = value_in (object_of id s.heaps.objects) (consistent.owned id in_use)

    address : address_of s.table id ≡ Some (s.start + its.0.at)
    address = (owner_found s.start s.table s.heaps.objects (matches s consistent) id its.0 its.1).1

    small : s.start + its.0.at < 2 ^ 32
    small = omega (arith, object_starts s consistent id its.0 its.1, consistent.small)

    -- what its handle without an offset is translated to
    module _ (w looked : ℕ) (handle : IsHandle w) (is : id_of w ≡ id) (start : offset_of w ≡ 0) (looked_up : looked ≡ translated s.table w) where
      looked_is : looked ≡ s.start + its.0.at
      looked_is =
          let marked : nat_le (2 ^ 63) w ≡ true = le-leb (2 ^ 63) w handle in
          let below : (s.start + its.0.at + 0) % 2 ^ 64 ≡ s.start + its.0.at = omega (arith, small) in
          looked_up ∙ rw (marked, is, address, start) below

      pub looked-above : s.start ≤ looked
      looked-above = omega (arith, looked_is)

      pub looked-below : looked - s.start < 2 ^ 32
      looked-below = omega (arith, looked_is, small)

      pub place-looked : Some (looked - s.start) ≡ option_map (λ o. o.at) (object_of id s.heaps.objects)
      place-looked =
          let place : looked - s.start ≡ its.0.at = omega (arith, looked_is) in
          ap Some place ∙ sym (ap (option_map (λ o. o.at)) its.1)

  -- there is a place exactly where the id is in use
  pub in_use-place : (id : ℕ) (r : Option ℕ) → r ≡ option_map (λ o. o.at) (object_of id s.heaps.objects) → (IsSome r → IsInUse s.table id) × (IsInUse s.table id → IsSome r)
  in_use-place id r is = (
    λ some. let found = value_in r some in in_use-object id found.0 (sym found.1 ∙ is),
    λ used. let found = value_in (object_of id s.heaps.objects) (consistent.owned id used) in ap is_some (is ∙ ap (option_map (λ o. o.at)) found.1),
  )
