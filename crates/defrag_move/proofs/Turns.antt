-- One turn of a plan: the move is allowed, and what it makes is the storage after it.
use Rattle.std.proofs.Common.{◌≡◌, ℕ, ◌+◌, ◌^◌, ◌<◌, ◌≤◌, Bool, false, eqb, leb, List, [], ◌∷◌, length, drop, slice_get, Option, Some, None, IsSomeAnd, is_some, set, refl, sym, ap, ◌∙◌, subst, inl, inr, arith}
use Rattle.std.specs.List.{find}
use Rattle.std.proofs.lemmas.Bool.{cases_eq, eq-eqb, ne_eqb, le-leb, lt-leb}
use Rattle.std.proofs.lemmas.List.{drop_all, drop_more}
use Rattle.std.proofs.lemmas.Option.{same_Some, slice_get_within, get_or_from_slice_get, none-some}
use Rattle.handle_table.specs.Table.{IsInUse}
use Rattle.flat_store.specs.Flat.{HasBytes, bytes_from, with_bytes}
use Rattle.sub_heaps.specs.declared.objects.Object.{Object}
use Rattle.sub_heaps.specs.ByPlace.{end_of, object_at, without, shifted}
use Rattle.sub_heaps.specs.SubHeaps.{SubHeaps, StandFrom, FitsAt}
use Rattle.sub_heaps.specs.declared.moves.Move.{Move}
use Rattle.sub_heaps.specs.Moving.{AreLegal, IsAllowed, after_move}
use Rattle.move_plan.proofs.Turns.{allowed_object}
use Rattle.sub_heaps.proofs.Taken.{found_at}
use Rattle.arena_meaning.specs.Arena.{IsConsistent, Storage}
use Rattle.arena_meaning.specs.Moves.{after_plan, moved, moved_with}
use Rattle.defrag_move.proofs.Kept.{IsConsistent-moved, from_within, matches, moved_is, mover, moving, owned, to_within}
use Rattle.defrag_move.proofs.Owners.{each_above, find_each, owner_found}

-- ---- the moves that are left

-- the next of them
pub drop_got : {X : Type 0} (xs : List X) (i : ℕ) (x : X) → slice_get xs i ≡ Some x → drop i xs ≡ x ∷ drop (i + 1) xs
drop_got xs i x got = drop_more xs i x (slice_get_within xs i x got) ∙ ap (λ y. y ∷ drop (i + 1) xs) (get_or_from_slice_get xs i x x got)

module _ (pinned : ℕ → Bool) (ms : List Move) (i : ℕ) (m : Move) (got : slice_get ms i ≡ Some m) (s : Storage) (legal : AreLegal pinned s.heaps (drop i ms)) where
  turn : AreLegal pinned s.heaps (m ∷ drop (i + 1) ms)
  turn = subst (λ (rest : List Move). AreLegal pinned s.heaps rest) (drop_got ms i m got) legal

  -- it is allowed, whatever is pinned
  pub next_allowed : IsAllowed (λ _. false) s.heaps m
  next_allowed = record { object = turn.0.object; unpinned = refl; fits = turn.0.fits }

  heaps_moved : (moved m s).heaps ≡ after_move m s.heaps
  heaps_moved = ap (λ r. (moved_with r m s).heaps) (allowed_object pinned s.heaps m turn.0).1

  -- the others are legal after it
  pub next_legal : (now : Storage) → now ≡ moved m s → AreLegal pinned now.heaps (drop (i + 1) ms)
  next_legal now is = subst (λ (h : SubHeaps). AreLegal pinned h (drop (i + 1) ms)) (sym (ap (λ (t : Storage). t.heaps) is ∙ heaps_moved)) turn.2

-- and lead where all do
pub next_same : (ms : List Move) (i : ℕ) (m : Move) → slice_get ms i ≡ Some m → (s now whole : Storage) → after_plan (drop i ms) s ≡ whole → now ≡ moved m s → after_plan (drop (i + 1) ms) now ≡ whole
next_same ms i m got s now whole same is = ap (after_plan (drop (i + 1) ms)) is ∙ sym (ap (λ rest. after_plan rest s) (drop_got ms i m got)) ∙ same

-- after the last one the storage is what all lead to
pub arrived : (ms : List Move) (i : ℕ) (s whole : Storage) → length ms ≤ i → after_plan (drop i ms) s ≡ whole → s ≡ whole
arrived ms i s whole past same = ap (λ rest. after_plan rest s) (sym (drop_all i ms past)) ∙ same

-- ---- one move

-- the first object at or above a place where one starts is that one
pub find-placed : (count size from at : ℕ) (xs : List Object) (o : Object) → StandFrom count size from xs → object_at at xs ≡ Some o → find (λ x. leb at x.at) xs ≡ Some o
find-placed count size from at [] o stand found = absurd (none-some o found)
find-placed count size from at (x ∷ xs) o stand found = elim (cases_eq x.at at) [
  | inl here ↦
      let is : Some x ≡ Some o = rw (eq-eqb x.at at here) at found in
      rw (le-leb at x.at (omega (arith, here))) is
  | inr other ↦
      let later : object_at at xs ≡ Some o = rw (ne_eqb x.at at other) at found in
      let above = find_each (λ y. end_of x ≤ y.at) (λ y. eqb y.at at) xs o (each_above count size (end_of x) xs stand.3 (end_of x) (omega arith)) later in
      let below : leb at x.at ≡ false = lt-leb at x.at (omega (arith, above.0, found_at at xs o later, stand.2.0)) in
      rw below (find-placed count size (end_of x) at xs o stand.3 later)
]

module _ (s now : Storage) (same : s ≡ now) (consistent : IsConsistent s) (m : Move) (allowed_now : IsAllowed (λ _. false) now.heaps m) where
  pub allowed : IsAllowed (λ _. false) s.heaps m
  allowed = subst (λ (t : Storage). IsAllowed (λ _. false) t.heaps m) (sym same) allowed_now

  -- the object that moves
  abbrev it : Object
  it = mover s consistent (λ _. false) m allowed

  its : (object_at m.from s.heaps.objects ≡ Some it) × (it.size ≡ m.size)
  its = let one = moving s consistent (λ _. false) m allowed in (one.1, one.2)

  its_find : find (λ x. leb m.from x.at) s.heaps.objects ≡ Some it
  its_find = find-placed s.heaps.count s.heaps.size 0 m.from s.heaps.objects it consistent.heaps.stand its.0

  -- there is one
  pub not_none : None ≡ find (λ x. leb m.from x.at) s.heaps.objects → ⊥
  not_none none = none-some it (none ∙ its_find)

  module _ (object : Object) (next : Some object ≡ find (λ x. leb m.from x.at) s.heaps.objects) where
    pub is_it : object ≡ it
    is_it = same_Some object it (next ∙ its_find)

    pub shift_allowed : IsSomeAnd (object_at m.from s.heaps.objects) (λ o. FitsAt (record s.heaps { objects = without m.from s.heaps.objects }) o.size m.to)
    shift_allowed =
        let there : IsSomeAnd (Some it) (λ o. FitsAt (record s.heaps { objects = without m.from s.heaps.objects }) o.size m.to) = subst (λ n. FitsAt (record s.heaps { objects = without m.from s.heaps.objects }) n m.to) (sym its.1) allowed.fits in
        subst (λ r. IsSomeAnd r (λ o. FitsAt (record s.heaps { objects = without m.from s.heaps.objects }) o.size m.to)) (sym its.0) there

    pub owner_in_use : IsInUse s.table object.owner
    owner_in_use =
        let used : IsInUse s.table it.owner = ap is_some (owner_found s.start s.table s.heaps.objects (matches s consistent) it.owner it (owned s consistent (λ _. false) m allowed)).1 in
        subst (λ (x : Object). IsInUse s.table x.owner) (sym is_it) used

    -- the two addresses are no large numbers, and there are bytes at both
    pub from_small : s.start + m.from < 2 ^ 64
    from_small = omega (arith, from_within s consistent (λ _. false) m allowed, consistent.whole, consistent.small)

    pub to_small : s.start + m.to < 2 ^ 64
    to_small = omega (arith, to_within s consistent (λ _. false) m allowed, consistent.whole, consistent.small)

    size_is : object.size ≡ it.size
    size_is = ap (λ (x : Object). x.size) is_it

    module _ (from to size : ℕ) (from_is : from ≡ s.start + m.from) (to_is : to ≡ s.start + m.to) (size_of : size ≡ object.size) where
      pub has_to : HasBytes s.bytes to size
      has_to k below = (omega (arith, consistent.above, to_is), omega (arith, to_within s consistent (λ _. false) m allowed, to_is, size_of, size_is, below))

      pub has_from : HasBytes s.bytes from size
      has_from k below = (omega (arith, consistent.above, from_is), omega (arith, from_within s consistent (λ _. false) m allowed, from_is, size_of, size_is, below))

      module _ (table : List (Option ℕ)) (heaps : SubHeaps) (bytes : List ℕ) (table_is : table ≡ set s.table object.owner (Some to)) (heaps_are : heaps ≡ record s.heaps { objects = shifted m.from m.to s.heaps.objects }) (bytes_are : bytes ≡ with_bytes s.bytes to (bytes_from s.bytes from size)) where
        made : record { start = s.start; table = table; heaps = heaps; bytes = bytes } ≡ moved_with (Some it) m s
        made =
            let entry : table ≡ set s.table it.owner (Some (s.start + m.to)) = table_is ∙ (λ i. set s.table (is_it i).owner (Some (to_is i))) in
            let written : bytes ≡ with_bytes s.bytes (s.start + m.to) (bytes_from s.bytes (s.start + m.from) it.size) = bytes_are ∙ (λ i. with_bytes s.bytes (to_is i) (bytes_from s.bytes (from_is i) ((size_of ∙ size_is) i))) in
            λ i. record { start = s.start; table = entry i; heaps = heaps_are i; bytes = written i }

        pub moved_storage : record { start = s.start; table = table; heaps = heaps; bytes = bytes } ≡ moved m now
        moved_storage = made ∙ sym (moved_is s consistent (λ _. false) m allowed) ∙ ap (moved m) same

        pub IsConsistent-moved_storage : IsConsistent (record { start = s.start; table = table; heaps = heaps; bytes = bytes })
        IsConsistent-moved_storage = subst IsConsistent (sym (made ∙ sym (moved_is s consistent (λ _. false) m allowed))) (IsConsistent-moved s consistent (λ _. false) m allowed)
