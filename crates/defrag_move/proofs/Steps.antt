-- What the steps of a method make together, in the method's terms: `s` is made of the fields as they were.
use Rattle.std.proofs.Common.{◌≡◌, ℕ, ◌+◌, false, List, Option, Some, None, IsSome, is_some, set, refl, sym, ap, ◌∙◌, subst, set-set}
use Rattle.std.proofs.lemmas.Bool.{false≢true}
use Rattle.std.proofs.lemmas.List.{set-get_or}
use Rattle.std.proofs.lemmas.Option.{same_Some}
use Rattle.std.specs.Option.{option_map}
use Rattle.handle_table.specs.Table.{IsFree, address_of}
use Rattle.sub_heaps.specs.declared.objects.Object.{Object}
use Rattle.sub_heaps.specs.ByPlace.{object_at, with_object, without}
use Rattle.sub_heaps.specs.SubHeaps.{SubHeaps, IsSound}
use Rattle.arena_meaning.specs.Arena.{IsConsistent, Storage, object_of}
use Rattle.arena_meaning.specs.Changes.{with_new, without_id, without_owner}
use Rattle.defrag_move.proofs.Kept.{IsConsistent-with_new, IsConsistent-without_id, matches}
use Rattle.defrag_move.proofs.Owners.{object_at-owned, without-object}

none_from : (r : Option ℕ) → is_some r ≡ false → r ≡ None
none_from None none = refl
none_from (Some a) none = absurd (false≢true (sym none))

-- ---- alloc

-- an id that was taken and given back leaves the table as it was
pub given_back : (table taken given : List (Option ℕ)) (id : ℕ) → IsFree table id → taken ≡ set table id (Some 0) → given ≡ set taken id None → given ≡ table
given_back table taken given id free taken_is given_is =
    given_is ∙ ap (λ t. set t id None) taken_is ∙ set-set table id (Some 0) None ∙ ap (set table id) (sym (none_from (address_of table id) free.1)) ∙ set-get_or table id None

module _ (s : Storage) (consistent : IsConsistent s) (id place at size : ℕ) (taken table : List (Option ℕ)) (heaps : SubHeaps) (taken_is : taken ≡ set s.table id (Some 0)) (table_is : table ≡ set taken id (Some (s.start + at))) (at_is : at ≡ place) (heaps_are : heaps ≡ record s.heaps { objects = with_object (record { at = place; size = size; owner = id }) s.heaps.objects }) where
  pub placed_is : record { start = s.start; table = table; heaps = heaps; bytes = s.bytes } ≡ with_new s (record { at = place; size = size; owner = id })
  placed_is =
      let entry : table ≡ set s.table id (Some (s.start + place)) = table_is ∙ ap (λ t. set t id (Some (s.start + at))) taken_is ∙ set-set s.table id (Some 0) (Some (s.start + at)) ∙ ap (λ n. set s.table id (Some (s.start + n))) at_is in
      λ i. record { start = s.start; table = entry i; heaps = heaps_are i; bytes = s.bytes }

  pub IsConsistent-placed : IsFree s.table id → IsSound heaps → IsConsistent (record { start = s.start; table = table; heaps = heaps; bytes = s.bytes })
  IsConsistent-placed free sound = subst IsConsistent (sym placed_is) (IsConsistent-with_new s consistent (record { at = place; size = size; owner = id }) free (subst IsSound heaps_are sound))

-- ---- free

module _ (s : Storage) (consistent : IsConsistent s) (id place : ℕ) (named : Some place ≡ option_map (λ o. o.at) (object_of id s.heaps.objects)) where
  -- the object of the id starts at the place
  its : (o : Object) × (object_of id s.heaps.objects ≡ Some o) × (o.at ≡ place)
  its = elim (object_of id s.heaps.objects) as (λ r. object_of id s.heaps.objects ≡ r → Some place ≡ option_map (λ o. o.at) r → (o : Object) × (object_of id s.heaps.objects ≡ Some o) × (o.at ≡ place)) [
    | None ↦ λ none is. absurd (false≢true (sym (ap is_some is)))
    | Some o ↦ λ found is. (o, found, sym (same_Some place o.at is))
  ] refl named

  there : object_at its.0.at s.heaps.objects ≡ Some its.0
  there = object_at-owned s.start s.table s.heaps.objects (matches s consistent) s.heaps.count s.heaps.size 0 consistent.heaps.stand id its.0 its.1

  pub starts_there : IsSome (object_at place s.heaps.objects)
  starts_there = ap (λ n. is_some (object_at n s.heaps.objects)) (sym its.2) ∙ ap is_some there

  without_is : without place s.heaps.objects ≡ without_owner id s.heaps.objects
  without_is = ap (λ n. without n s.heaps.objects) (sym its.2) ∙ without-object s.start s.table s.heaps.objects (matches s consistent) s.heaps.count s.heaps.size 0 consistent.heaps.stand id its.0 its.1 there

  module _ (freed : ℕ) (table : List (Option ℕ)) (heaps : SubHeaps) (freed_is : freed ≡ id) (table_is : table ≡ set s.table freed None) (heaps_are : heaps ≡ record s.heaps { objects = without place s.heaps.objects }) where
    gone_are : heaps ≡ record s.heaps { objects = without_owner id s.heaps.objects }
    gone_are = heaps_are ∙ ap (λ (xs : List Object). record s.heaps { objects = xs }) without_is

    pub freed_storage : record { start = s.start; table = table; heaps = heaps; bytes = s.bytes } ≡ without_id s id
    freed_storage =
        let entry : table ≡ set s.table id None = table_is ∙ ap (λ n. set s.table n None) freed_is in
        λ i. record { start = s.start; table = entry i; heaps = gone_are i; bytes = s.bytes }

    pub IsConsistent-freed : IsSound heaps → IsConsistent (record { start = s.start; table = table; heaps = heaps; bytes = s.bytes })
    IsConsistent-freed sound = subst IsConsistent (sym freed_storage) (IsConsistent-without_id s consistent id (subst IsSound gone_are sound))
