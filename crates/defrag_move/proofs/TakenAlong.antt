-- Moves in rising order whose objects are found where they stand before all: what the bytes and the addresses come to is the storage after the plan.
use Rattle.std.proofs.Common.{◌≡◌, ◌≢◌, ℕ, suc, ◌+◌, ◌<◌, ◌≤◌, Bool, false, leb, List, [], ◌∷◌, length, Option, Some, None, IsSome, IsSomeAnd, set, refl, sym, ap, ◌∙◌, subst, arith}
use Rattle.std.specs.List.{All, AllByRecursion as Each, AllPairs, find}
use Rattle.std.specs.Option.{option_map}
use Rattle.std.proofs.lemmas.List.Elements.{All-from_recursion, recursion_from_All}
use Rattle.std.proofs.lemmas.Option.{same_Some}
use Rattle.handle_table.specs.Table.{IsInUse}
use Rattle.flat_store.specs.Flat.{bytes_from, with_bytes}
use Rattle.sub_heaps.specs.declared.objects.Object.{Object}
use Rattle.sub_heaps.specs.ByPlace.{object_at}
use Rattle.sub_heaps.specs.SubHeaps.{SubHeaps, IsSound}
use Rattle.sub_heaps.specs.declared.moves.Move.{Move}
use Rattle.sub_heaps.specs.Moving.{AreLegal, IsAllowed, after_move, after_moves, carried, owner_at}
use Rattle.sub_heaps.proofs.Fits.{objects_in_order}
use Rattle.sub_heaps.proofs.Noted.{as_many_objects}
use Rattle.sub_heaps.proofs.Standing.{Each-weaker}
use Rattle.move_plan.specs.Sliding.{IsSlide}
use Rattle.move_plan.proofs.Plans.{RiseFrom, IsSound-after_moves, rise_above, rise_from_AllPairs, rising_objects}
use Rattle.move_plan.proofs.Turns.{Each-three, object_at-shifted}
use Rattle.arena_meaning.specs.Arena.{IsConsistent, Storage}
use Rattle.arena_meaning.specs.Moves.{after_plan}
use Rattle.defrag_move.specs.inner.Carrying.{HasBoth}
use Rattle.defrag_move.proofs.Kept.{IsConsistent-after_plan, heaps_after, keeps_all, mover, moving}
use Rattle.defrag_move.proofs.Turns.{IsConsistent-moved_storage, allowed, find-placed, from_small, has_from, has_to, moved_storage, owner_in_use, to_small}

abbrev pub storage : ℕ → List (Option ℕ) → SubHeaps → List ℕ → Storage
storage start table heaps bytes = record { start = start; table = table; heaps = heaps; bytes = bytes }

-- the moves that are left lead where all do, from the sub-heaps as the moves so far leave them; and each of their objects is where it stood before all
pub record Carries (pinned : ℕ → Bool) (start : ℕ) (table : List (Option ℕ)) (before : SubHeaps) (bytes : List ℕ) (rest : List Move) (whole : Storage) : Type 0 where
  pub so_far : SubHeaps
  pub consistent : IsConsistent (storage start table so_far bytes)
  pub legal : AreLegal pinned so_far rest
  pub same : after_plan rest (storage start table so_far bytes) ≡ whole
  pub low : ℕ
  pub rises : RiseFrom low rest
  pub there : Each (λ m. object_at m.from so_far.objects ≡ object_at m.from before.objects) rest

all_there : (h : SubHeaps) (ms : List Move) → Each (λ m. object_at m.from h.objects ≡ object_at m.from h.objects) ms
all_there h [] = tt
all_there h (m ∷ ms) = (refl, all_there h ms)

pub Carries-all : (pinned : ℕ → Bool) (start : ℕ) (table : List (Option ℕ)) (h : SubHeaps) (bytes : List ℕ) (ms : List Move) → IsConsistent (storage start table h bytes) → AreLegal pinned h ms → AllPairs (λ a b. a.from < b.from) ms → Carries pinned start table h bytes ms (after_plan ms (storage start table h bytes))
Carries-all pinned start table h bytes ms consistent legal rising = record {
  so_far = h;
  consistent = consistent;
  legal = legal;
  same = refl;
  low = 0;
  rises = rise_from_AllPairs 0 ms (λ d has. omega arith) rising;
  there = all_there h ms;
}

module _ (pinned : ℕ → Bool) (start : ℕ) (table : List (Option ℕ)) (before : SubHeaps) (bytes : List ℕ) (m : Move) (ms : List Move) (whole : Storage) (c : Carries pinned start table before bytes (m ∷ ms) whole) where
  abbrev s : Storage
  s = storage start table c.so_far bytes

  next_allowed : IsAllowed (λ _. false) c.so_far m
  next_allowed = record { object = c.legal.0.object; unpinned = refl; fits = c.legal.0.fits }

  abbrev may : IsAllowed (λ _. false) c.so_far m
  may = allowed s s refl c.consistent m next_allowed

  abbrev it : Object
  it = mover s c.consistent (λ _. false) m may

  found_now : object_at m.from c.so_far.objects ≡ Some it
  found_now = (moving s c.consistent (λ _. false) m may).1

  find_now : Some it ≡ find (λ x. leb m.from x.at) c.so_far.objects
  find_now = sym (find-placed c.so_far.count c.so_far.size 0 m.from c.so_far.objects it c.consistent.heaps.stand found_now)

  as_large : m.size ≡ it.size
  as_large = sym (moving s c.consistent (λ _. false) m may).2

  module _ (owner : ℕ) (owned : owner_at m.from before.objects ≡ Some owner) where
    its_owner : owner ≡ it.owner
    its_owner = same_Some owner it.owner (sym owned ∙ ap (λ (r : Option Object). option_map (λ o. o.owner) r) (sym c.there.0 ∙ found_now))

    pub carry_in_use : IsInUse table owner
    carry_in_use = subst (IsInUse table) (sym its_owner) (owner_in_use s s refl c.consistent m next_allowed it find_now)

    pub carry_both : HasBoth start m bytes
    carry_both = record {
      small_from = from_small s s refl c.consistent m next_allowed it find_now;
      small_to = to_small s s refl c.consistent m next_allowed it find_now;
      from = has_from s s refl c.consistent m next_allowed it find_now (start + m.from) (start + m.to) m.size refl refl as_large;
      to = has_to s s refl c.consistent m next_allowed it find_now (start + m.from) (start + m.to) m.size refl refl as_large;
    }

    abbrev its_table : List (Option ℕ)
    its_table = set table owner (Some (start + m.to))

    abbrev its_bytes : List ℕ
    its_bytes = with_bytes bytes (start + m.to) (bytes_from bytes (start + m.from) m.size)

    table_is : its_table ≡ set table it.owner (Some (start + m.to))
    table_is = ap (λ n. set table n (Some (start + m.to))) its_owner

    pub Carries-next : Carries pinned start its_table before its_bytes ms whole
    Carries-next = record {
      so_far = after_move m c.so_far;
      consistent = IsConsistent-moved_storage s s refl c.consistent m next_allowed it find_now (start + m.from) (start + m.to) m.size refl refl as_large its_table (after_move m c.so_far) its_bytes table_is refl refl;
      legal = c.legal.2;
      same = ap (after_plan ms) (moved_storage s s refl c.consistent m next_allowed it find_now (start + m.from) (start + m.to) m.size refl refl as_large its_table (after_move m c.so_far) its_bytes table_is refl refl) ∙ c.same;
      low = suc m.from;
      rises = c.rises.1;
      there = Each-three (λ n. object_at n.from c.so_far.objects ≡ object_at n.from before.objects) (λ n. suc m.from ≤ n.from) (λ n. n.from ≢ m.to) (λ n. object_at n.from (after_move m c.so_far).objects ≡ object_at n.from before.objects)
          (λ n same high apart. object_at-shifted n.from m.from m.to c.so_far.objects (omega (arith, high)) apart ∙ same)
          ms c.there.1 (rise_above (suc m.from) ms c.rises.1) (recursion_from_All (λ n. n.from ≢ m.to) ms c.legal.1);
    }

-- ---- the sub-heaps after moves that keep the order

pub after_moves_is : (ms : List Move) (h : SubHeaps) → after_moves ms h ≡ record h { objects = (after_moves ms h).objects }
after_moves_is [] h = refl
after_moves_is (m ∷ ms) h = after_moves_is ms (after_move m h)

-- ---- a slide

is_there : (r : Option Object) (P : Object → Type 0) → IsSomeAnd r P → IsSome r
is_there None P holds = absurd holds
is_there (Some o) P holds = refl

module _ (pinned : ℕ → Bool) (ms : List Move) (s : Storage) (consistent : IsConsistent s) (slide : IsSlide pinned s.heaps ms) where
  pub objects_there : All (λ m. IsSome (object_at m.from s.heaps.objects)) ms
  objects_there =
      All-from_recursion (λ m. IsSome (object_at m.from s.heaps.objects)) ms
      (Each-weaker (λ m. IsSomeAnd (object_at m.from s.heaps.objects) (λ o. o.size ≡ m.size)) (λ m. IsSome (object_at m.from s.heaps.objects)) (λ m there. is_there (object_at m.from s.heaps.objects) _ there) ms
      (rising_objects pinned 0 ms s.heaps (rise_from_AllPairs 0 ms (λ d has. omega arith) slide.rising) slide.legal))

  -- there are no more moves than objects may live
  pub few_moves : length ms ≤ s.heaps.most
  few_moves = omega (arith, as_many_objects 0 ms s.heaps.objects (objects_in_order s.heaps consistent.heaps) slide.rising (recursion_from_All (λ m. IsSome (object_at m.from s.heaps.objects)) ms objects_there), consistent.heaps.few)

  pub carried_is : record s.heaps { objects = carried ms s.heaps.objects } ≡ after_moves ms s.heaps
  carried_is = sym (after_moves_is ms s.heaps ∙ ap (λ (xs : List Object). record s.heaps { objects = xs }) slide.same_order)

  pub carried_stand : IsSound (record s.heaps { objects = carried ms s.heaps.objects })
  carried_stand = subst IsSound (sym carried_is) (IsSound-after_moves pinned ms s.heaps consistent.heaps slide.legal)

  pub slid_storage : (t : List (Option ℕ)) (h : SubHeaps) (b : List ℕ) → t ≡ (after_plan ms s).table → h ≡ record s.heaps { objects = carried ms s.heaps.objects } → b ≡ (after_plan ms s).bytes → storage s.start t h b ≡ after_plan ms s
  slid_storage t h b table_is heaps_are bytes_are =
      let start_is : s.start ≡ (after_plan ms s).start = sym (keeps_all pinned ms s consistent slide.legal).start in
      let stand : h ≡ (after_plan ms s).heaps = heaps_are ∙ carried_is ∙ sym (heaps_after pinned ms s consistent slide.legal) in
      λ i. record { start = start_is i; table = table_is i; heaps = stand i; bytes = bytes_are i }

  pub slid_consistent : IsConsistent (after_plan ms s)
  slid_consistent = IsConsistent-after_plan pinned ms s consistent slide.legal
