-- Storage stays consistent as objects come, go and move, and moves keep each object with its bytes.
use Rattle.std.proofs.Common.{◌≡◌, ◌≢◌, ℕ, ◌+◌, ◌*◌, ◌/◌, ◌<◌, ◌≤◌, ◌⊎◌, Bool, eqb, List, [], ◌∷◌, length, Option, Some, None, is_some, set, refl, sym, ap, ◌∙◌, subst, inl, inr, arith, get_or-set_same, get_or-set_other, length-set}
use Rattle.std.specs.List.{All, AllByRecursion as Each}
use Rattle.std.proofs.Math.Nat.{div-lt_iff_lt-mul}
use Rattle.std.proofs.lemmas.Bool.{cases_eq, eq-eqb, ne_eqb, true≢false}
use Rattle.std.proofs.lemmas.List.Elements.{All-from_recursion, All-head, All-tail, recursion_from_All}
use Rattle.std.proofs.lemmas.Nat.{mul-le}
use Rattle.std.proofs.lemmas.Option.{same_Some}
use Rattle.handle_table.specs.Table.{IsFree, IsInUse, address_of}
use Rattle.flat_store.specs.Flat.{first_address, byte_at, bytes_from, with_bytes}
use Rattle.sub_heaps.specs.declared.objects.Object.{Object}
use Rattle.sub_heaps.specs.ByPlace.{end_of, object_at, without, shifted}
use Rattle.sub_heaps.specs.SubHeaps.{IsSound, IsApartFrom, LiesInOne, StandFrom}
use Rattle.sub_heaps.specs.declared.moves.Move.{Move}
use Rattle.sub_heaps.specs.Moving.{AreLegal, IsAllowed, after_moves, destination}
use Rattle.move_plan.proofs.Turns.{IsSound-after_move, allowed_object}
use Rattle.sub_heaps.proofs.Edits.{without-Each}
use Rattle.sub_heaps.proofs.Taken.{found_at}
use Rattle.arena_meaning.specs.Arena.{IsConsistent, Storage, object_of}
use Rattle.arena_meaning.specs.Changes.{with_new, without_id}
use Rattle.arena_meaning.specs.Moves.{IsCarried, KeepsObjects, after_plan, moved, moved_with}
use Rattle.defrag_move.proofs.Bytes.{byte_at-below, bytes_from-apart, bytes_from-with_bytes, length-bytes_from, length-with_bytes}
use Rattle.defrag_move.proofs.Owners.{Matches, Matches-gone, Matches-moved, Matches-new, find_each, in_use_within, object_at-owned, object_of-moved, object_of-placed, object_of-unmoved, owner_found}

-- ---- objects lie within the bytes

module _ (count size : ℕ) (some : 0 < size) where
  pub end_within : (bytes at : ℕ) → LiesInOne count size bytes at → at + bytes ≤ count * size
  end_within bytes at lies =
      let number : at / size < count = (div-lt_iff_lt-mul some).1 lies.0 in
      omega (arith, lies.1, mul-le (at / size + 1) size count size (omega arith) (omega arith))

  each_within : (from : ℕ) (os : List Object) → StandFrom count size from os → Each (λ o. end_of o ≤ count * size) os
  each_within from [] stand = tt
  each_within from (o ∷ os) stand = (end_within o.size o.at stand.1, each_within (end_of o) os stand.3)

  each_starts : (from : ℕ) (os : List Object) → StandFrom count size from os → Each (λ o. o.at < count * size) os
  each_starts from [] stand = tt
  each_starts from (o ∷ os) stand = (stand.1.0, each_starts (end_of o) os stand.3)

-- ---- consistent storage

pub IsConsistent-parts : (s : Storage) → IsConsistent s → Matches s.start s.table s.heaps.objects
IsConsistent-parts s consistent = record {
  owned = consistent.owned;
  addressed = recursion_from_All (λ o. address_of s.table o.owner ≡ Some (s.start + o.at)) s.heaps.objects consistent.addressed;
}

-- with other bytes, as many, and with other ids and objects that match
pub IsConsistent-changed : (s : Storage) → IsConsistent s → (table : List (Option ℕ)) (objects : List Object) (bytes : List ℕ) → length table ≡ length s.table → length bytes ≡ length s.bytes → IsSound (record s.heaps { objects = objects }) → Matches s.start table objects
    → IsConsistent (record { start = s.start; table = table; heaps = record s.heaps { objects = objects }; bytes = bytes })
IsConsistent-changed s consistent table objects bytes ids size sound matches = record {
  heaps = sound;
  ids = ids ∙ consistent.ids;
  above = consistent.above;
  whole = ap (λ n. first_address + n) size ∙ consistent.whole;
  small = consistent.small;
  owned = matches.owned;
  addressed = All-from_recursion (λ o. address_of table o.owner ≡ Some (s.start + o.at)) objects matches.addressed;
}

module _ (s : Storage) (consistent : IsConsistent s) where
  pub matches : Matches s.start s.table s.heaps.objects
  matches = IsConsistent-parts s consistent

  pub has_size : 0 < s.heaps.size
  has_size = omega (arith, consistent.heaps.shape.size_least)

  -- an object of an id lies within the sub-heaps
  pub object_within : (id : ℕ) (o : Object) → object_of id s.heaps.objects ≡ Some o → end_of o ≤ s.heaps.count * s.heaps.size
  object_within id o found = (find_each (λ x. end_of x ≤ s.heaps.count * s.heaps.size) (λ x. eqb x.owner id) s.heaps.objects o (each_within s.heaps.count s.heaps.size has_size 0 s.heaps.objects consistent.heaps.stand) found).0

  pub object_starts : (id : ℕ) (o : Object) → object_of id s.heaps.objects ≡ Some o → o.at < s.heaps.count * s.heaps.size
  object_starts id o found = (find_each (λ x. x.at < s.heaps.count * s.heaps.size) (λ x. eqb x.owner id) s.heaps.objects o (each_starts s.heaps.count s.heaps.size has_size 0 s.heaps.objects consistent.heaps.stand) found).0

  pub IsConsistent-with_new : (o : Object) → IsFree s.table o.owner → IsSound (with_new s o).heaps → IsConsistent (with_new s o)
  IsConsistent-with_new o free sound =
      IsConsistent-changed s consistent (with_new s o).table (with_new s o).heaps.objects s.bytes (length-set s.table o.owner (Some (s.start + o.at))) refl sound (Matches-new s.start s.table s.heaps.objects matches o free)

  pub IsConsistent-without_id : (id : ℕ) → IsSound (without_id s id).heaps → IsConsistent (without_id s id)
  IsConsistent-without_id id sound =
      IsConsistent-changed s consistent (without_id s id).table (without_id s id).heaps.objects s.bytes (length-set s.table id None) refl sound (Matches-gone s.start s.table s.heaps.objects matches id)

  -- ---- one move

  module _ (pinned : ℕ → Bool) (m : Move) (allowed : IsAllowed pinned s.heaps m) where
    -- the object that it is of
    pub moving : (o : Object) × (object_at m.from s.heaps.objects ≡ Some o) × (o.size ≡ m.size)
    moving = allowed_object pinned s.heaps m allowed

    abbrev pub mover : Object
    mover = moving.0

    pub moved_is : moved m s ≡ moved_with (Some mover) m s
    moved_is = ap (λ r. moved_with r m s) moving.1

    pub starts : mover.at ≡ m.from
    starts = found_at m.from s.heaps.objects mover moving.1

    pub owned : object_of mover.owner s.heaps.objects ≡ Some mover
    owned = object_of-placed s.start s.table s.heaps.objects matches s.heaps.count s.heaps.size 0 consistent.heaps.stand m.from mover moving.1

    -- both where it stood and where it goes lie within the bytes
    pub from_within : s.start + m.from + mover.size ≤ first_address + length s.bytes
    from_within = omega (arith, object_within mover.owner mover owned, starts, consistent.whole)

    pub to_within : s.start + m.to + mover.size ≤ first_address + length s.bytes
    to_within = omega (arith, end_within s.heaps.count s.heaps.size has_size m.size m.to allowed.fits.inside, moving.2, consistent.whole)

    abbrev its_bytes : List ℕ
    its_bytes = bytes_from s.bytes (s.start + m.from) mover.size

    as_many : length its_bytes ≡ mover.size
    as_many = length-bytes_from s.bytes (s.start + m.from) mover.size (omega (arith, consistent.above)) from_within

    low : first_address ≤ s.start + m.to
    low = omega (arith, consistent.above)

    fits : s.start + m.to + length its_bytes ≤ first_address + length s.bytes
    fits = omega (arith, to_within, as_many)

    pub IsConsistent-moved_with : IsConsistent (moved_with (Some mover) m s)
    IsConsistent-moved_with =
        IsConsistent-changed s consistent (set s.table mover.owner (Some (s.start + m.to))) (shifted m.from m.to s.heaps.objects) (with_bytes s.bytes (s.start + m.to) its_bytes)
        (length-set s.table mover.owner (Some (s.start + m.to))) (length-with_bytes s.bytes its_bytes (s.start + m.to) low fits) (IsSound-after_move pinned s.heaps m consistent.heaps allowed)
        (Matches-moved s.start s.table s.heaps.objects matches s.heaps.count s.heaps.size 0 consistent.heaps.stand m.from m.to mover moving.1)

    pub IsConsistent-moved : IsConsistent (moved m s)
    IsConsistent-moved = subst IsConsistent (sym moved_is) IsConsistent-moved_with

    -- the object that moves has its bytes at its new place
    carried_mover : IsCarried s (moved_with (Some mover) m s) mover m.to
    carried_mover = record {
      object = object_of-moved s.start s.table s.heaps.objects matches s.heaps.count s.heaps.size 0 consistent.heaps.stand m.from m.to mover moving.1;
      address = get_or-set_same s.table mover.owner (Some (s.start + m.to)) None (in_use_within s.table mover.owner (ap is_some (owner_found s.start s.table s.heaps.objects matches mover.owner mover owned).1));
      bytes =
          ap (bytes_from (with_bytes s.bytes (s.start + m.to) its_bytes) (s.start + m.to)) (sym as_many)
          ∙ bytes_from-with_bytes s.bytes its_bytes (s.start + m.to) low fits
          ∙ ap (λ at. bytes_from s.bytes (s.start + at) mover.size) (sym starts);
    }

    -- and each other one stays with its own
    carried_other : (id : ℕ) (o : Object) → object_of id s.heaps.objects ≡ Some o → o.at ≢ m.from → IsCarried s (moved_with (Some mover) m s) o o.at
    carried_other id o found other =
        let owner = owner_found s.start s.table s.heaps.objects matches id o found in
        let differs : o.owner ≢ mover.owner = λ same. other (ap (λ (x : Object). x.at) (same_Some o mover (sym found ∙ ap (λ k. object_of k s.heaps.objects) (sym owner.0 ∙ same) ∙ owned)) ∙ starts) in
        let found_by_owner : object_of o.owner s.heaps.objects ≡ Some o = ap (λ k. object_of k s.heaps.objects) owner.0 ∙ found in
        let apart = (find_each (λ x. x.at ≢ m.from → IsApartFrom m.size m.to x) (λ x. eqb x.owner id) s.heaps.objects o (without-Each (IsApartFrom m.size m.to) m.from s.heaps.objects (recursion_from_All (IsApartFrom m.size m.to) (without m.from s.heaps.objects) allowed.fits.clear)) found).0 other in
        record {
          object = object_of-unmoved s.start s.table s.heaps.objects matches s.heaps.count s.heaps.size 0 consistent.heaps.stand m.from m.to mover moving.1 o.owner differs ∙ found_by_owner;
          address = get_or-set_other s.table mover.owner o.owner (Some (s.start + m.to)) None differs ∙ ap (address_of s.table) owner.0 ∙ owner.1;
          bytes = bytes_from-apart s.bytes its_bytes (s.start + m.to) low fits (s.start + o.at) o.size (omega (arith, consistent.above)) (omega (arith, object_within id o found, consistent.whole)) (side o apart);
        }
      where
        side : (o : Object) → IsApartFrom m.size m.to o → (s.start + o.at + o.size ≤ s.start + m.to) ⊎ (s.start + m.to + length its_bytes ≤ s.start + o.at)
        side o (inl below) = inl (omega arith)
        side o (inr above) = inr (omega (arith, above, as_many, moving.2))

    -- an id is in use after it just where it was before
    pub in_use_moved : (id : ℕ) → (IsInUse (moved_with (Some mover) m s).table id → IsInUse s.table id) × (IsInUse s.table id → IsInUse (moved_with (Some mover) m s).table id)
    in_use_moved id =
        let owner = owner_found s.start s.table s.heaps.objects matches mover.owner mover owned in
        elim (cases_eq id mover.owner) [
          | inl same ↦ (
            λ after. ap is_some (ap (address_of s.table) same ∙ owner.1),
            λ before. ap is_some (ap (address_of (moved_with (Some mover) m s).table) same ∙ carried_mover.address),
          )
          | inr other ↦
              let entry = get_or-set_other s.table mover.owner id (Some (s.start + m.to)) None other in
              (λ after. ap is_some (sym entry) ∙ after, λ before. ap is_some entry ∙ before)
        ]

    -- the bytes below the sub-heaps stay, and there are as many
    outside_moved : (address : ℕ) → first_address ≤ address → address < s.start → byte_at (moved_with (Some mover) m s).bytes address ≡ byte_at s.bytes address
    outside_moved address above below = byte_at-below s.bytes its_bytes (s.start + m.to) low fits address above (omega arith)

    size_moved : length (moved_with (Some mover) m s).bytes ≡ length s.bytes
    size_moved = length-with_bytes s.bytes its_bytes (s.start + m.to) low fits

-- ---- all moves

-- an object that is carried twice is carried
carried_twice : (old between new : Storage) (o : Object) (to further : ℕ) → IsCarried old between o to → IsCarried between new (record o { at = to }) further → IsCarried old new o further
carried_twice old between new o to further first second = record { object = second.object; address = second.address; bytes = second.bytes ∙ first.bytes }

module _ (pinned : ℕ → Bool) where
  -- what is kept by a move and by those that follow it
  keeps_more : (m : Move) (ms : List Move) (s : Storage) (consistent : IsConsistent s) (allowed : IsAllowed pinned s.heaps m) → All (λ later. later.from ≢ m.to) ms
      → (new : Storage) → KeepsObjects pinned ms (moved_with (Some (mover s consistent pinned m allowed)) m s) new → KeepsObjects pinned (m ∷ ms) s new
  keeps_more m ms s consistent allowed once new kept = record {
    ids = λ id. let one = in_use_moved s consistent pinned m allowed id in (λ after. one.0 ((kept.ids id).0 after), λ before. (kept.ids id).1 (one.1 before));
    carried = λ id o found. elim (cases_eq m.from o.at) [
      | inl here ↦
          let there = object_at-owned s.start s.table s.heaps.objects (matches s consistent) s.heaps.count s.heaps.size 0 consistent.heaps.stand id o found in
          let same : mover s consistent pinned m allowed ≡ o = same_Some _ o (sym (moving s consistent pinned m allowed).1 ∙ ap (λ n. object_at n s.heaps.objects) here ∙ there) in
          let goes : destination (m ∷ ms) o.at ≡ m.to = rw (eq-eqb m.from o.at here) refl in
          let first = carried_mover s consistent pinned m allowed in
          let second = kept.carried (mover s consistent pinned m allowed).owner (record (mover s consistent pinned m allowed) { at = m.to }) first.object in
          let whole = carried_twice s (moved_with (Some (mover s consistent pinned m allowed)) m s) new (mover s consistent pinned m allowed) m.to (destination ms m.to) first second in
          subst (λ n. IsCarried s new o n) (kept.others m.to once ∙ sym goes) (subst (λ x. IsCarried s new x (destination ms m.to)) same whole)
      | inr other ↦
          let goes : destination (m ∷ ms) o.at ≡ destination ms o.at = rw (ne_eqb m.from o.at other) refl in
          let first = carried_other s consistent pinned m allowed id o found (λ same. other (sym same)) in
          let second = kept.carried o.owner o first.object in
          subst (λ n. IsCarried s new o n) (sym goes) (carried_twice s (moved_with (Some (mover s consistent pinned m allowed)) m s) new o o.at (destination ms o.at) first second)
    ];
    others = λ at apart. rw (ne_eqb m.from at (All-head (λ (x : Move). x.from ≢ at) m ms apart)) (kept.others at (All-tail (λ (x : Move). x.from ≢ at) m ms apart));
    unpinned = λ at is. rw (ne_eqb m.from at (λ same. true≢false (sym is ∙ ap pinned (sym same) ∙ allowed.unpinned))) (kept.unpinned at is);
    outside = λ address has below. kept.outside address (has.0, omega (arith, has.1, size_moved s consistent pinned m allowed)) below ∙ outside_moved s consistent pinned m allowed address has.0 below;
    start = kept.start;
    size = kept.size ∙ size_moved s consistent pinned m allowed;
  }

  pub keeps_all : (ms : List Move) (s : Storage) → IsConsistent s → AreLegal pinned s.heaps ms → KeepsObjects pinned ms s (after_plan ms s)
  keeps_all [] s consistent legal = record {
    ids = λ id. (λ same. same, λ same. same);
    carried = λ id o found.
        let owner = owner_found s.start s.table s.heaps.objects (matches s consistent) id o found in
        record { object = ap (λ k. object_of k s.heaps.objects) owner.0 ∙ found; address = ap (address_of s.table) owner.0 ∙ owner.1; bytes = refl };
    others = λ at apart. refl;
    unpinned = λ at is. refl;
    outside = λ address has below. refl;
    start = refl;
    size = refl;
  }
  keeps_all (m ∷ ms) s consistent legal =
      let next = moved_with (Some (mover s consistent pinned m legal.0)) m s in
      let after = keeps_all ms next (IsConsistent-moved_with s consistent pinned m legal.0) legal.2 in
      subst (λ t. KeepsObjects pinned (m ∷ ms) s (after_plan ms t)) (sym (moved_is s consistent pinned m legal.0)) (keeps_more m ms s consistent legal.0 legal.1 (after_plan ms next) after)

  -- the objects are those that the moves give
  pub heaps_after : (ms : List Move) (s : Storage) → IsConsistent s → AreLegal pinned s.heaps ms → (after_plan ms s).heaps ≡ after_moves ms s.heaps
  heaps_after [] s consistent legal = refl
  heaps_after (m ∷ ms) s consistent legal =
      ap (λ t. (after_plan ms t).heaps) (moved_is s consistent pinned m legal.0)
      ∙ heaps_after ms (moved_with (Some (mover s consistent pinned m legal.0)) m s) (IsConsistent-moved_with s consistent pinned m legal.0) legal.2

  -- and the storage is as sound as it was
  pub IsConsistent-after_plan : (ms : List Move) (s : Storage) → IsConsistent s → AreLegal pinned s.heaps ms → IsConsistent (after_plan ms s)
  IsConsistent-after_plan [] s consistent legal = consistent
  IsConsistent-after_plan (m ∷ ms) s consistent legal =
      subst (λ t. IsConsistent (after_plan ms t)) (sym (moved_is s consistent pinned m legal.0))
      (IsConsistent-after_plan ms (moved_with (Some (mover s consistent pinned m legal.0)) m s) (IsConsistent-moved_with s consistent pinned m legal.0) legal.2)
