-- Whichever free id and fitting place a new object takes, and whichever id is freed, the sub-heaps stay sound.
use Rattle.std.proofs.Common.{ℕ, suc, ◌≤◌, true, false, cond, eqb, not, List, [], ◌∷◌, length, arith}
use Rattle.handle_table.specs.Table.{IsFree}
use Rattle.sub_heaps.specs.declared.objects.Object.{Object}
use Rattle.sub_heaps.specs.ByPlace.{end_of}
use Rattle.sub_heaps.specs.SubHeaps.{FitsAt, IsRounded, StandFrom, rounded}
use Rattle.sub_heaps.proofs.Kept.{IsSound-with_object}
use Rattle.arena_meaning.specs.Arena.{IsConsistent, Storage}
use Rattle.arena_meaning.specs.Changes.{with_new, without_id, without_owner}
use Rattle.defrag_move.proofs.Kept.{IsConsistent-with_new, IsConsistent-without_id}
use Rattle.defrag_move.proofs.Named.{fewer}

length-without_owner : (id : ℕ) (xs : List Object) → length (without_owner id xs) ≤ length xs
length-without_owner id [] = omega arith
length-without_owner id (x ∷ xs) =
    elim (eqb x.owner id) as (λ t. length (cond (not t) (x ∷ without_owner id xs) (without_owner id xs)) ≤ suc (length xs)) [
      | true ↦ omega (arith, length-without_owner id xs)
      | false ↦ omega (arith, length-without_owner id xs)
    ]

module _ (count size : ℕ) where
  lower : (low from : ℕ) (xs : List Object) → low ≤ from → StandFrom count size from xs → StandFrom count size low xs
  lower low from [] le stand = tt
  lower low from (x ∷ xs) le stand = (omega (arith, stand.0), stand.1, stand.2, stand.3)

  stand-without_owner : (low id : ℕ) (xs : List Object) → StandFrom count size low xs → StandFrom count size low (without_owner id xs)
  stand-without_owner low id [] stand = tt
  stand-without_owner low id (x ∷ xs) stand =
      elim (eqb x.owner id) as (λ t. StandFrom count size low (cond (not t) (x ∷ without_owner id xs) (without_owner id xs))) [
        | true ↦ lower low (end_of x) (without_owner id xs) (omega (arith, stand.0)) (stand-without_owner (end_of x) id xs stand.3)
        | false ↦ (stand.0, stand.1, stand.2, stand-without_owner (end_of x) id xs stand.3)
      ]

module _ (s : Storage) (consistent : IsConsistent s) where
  -- an object with any free id, at any place where it fits
  pub chosen_new : (id at bytes : ℕ) → IsFree s.table id → FitsAt s.heaps (rounded bytes) at → IsConsistent (with_new s (record { at = at; size = rounded bytes; owner = id }))
  chosen_new id at bytes free fits =
      let new : Object = record { at = at; size = rounded bytes; owner = id } in
      let round : IsRounded (rounded bytes) = (omega arith, omega arith) in
      IsConsistent-with_new s consistent new free (IsSound-with_object s.heaps new consistent.heaps (fewer s consistent id free) round fits)

  -- any id free
  pub chosen_free : (id : ℕ) → IsConsistent (without_id s id)
  chosen_free id =
      IsConsistent-without_id s consistent id (record {
        shape = consistent.heaps.shape;
        few = omega (arith, length-without_owner id s.heaps.objects, consistent.heaps.few);
        stand = stand-without_owner s.heaps.count s.heaps.size 0 id s.heaps.objects consistent.heaps.stand;
      })
