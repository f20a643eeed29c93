-- Where an allocation gets null: what is chosen where, and how act tells it.
use Rattle.std.proofs.Common.{◌≡◌, ℕ, zero, suc, ◌+◌, ◌*◌, ◌%◌, ◌<◌, ◌≤◌, ◌⊎◌, ◌↔◌, Bool, true, false, cond, eqb, ltb, List, [], length, map, replicate, Option, Some, None, refl, sym, ap, ◌∙◌, subst, inl, inr, arith}
use Rattle.std.specs.Prelude.{IsSome, is_none, is_some, nat_lt}
use Rattle.std.specs.List.{find, position_or_len, range_with_len}
use Rattle.std.proofs.lemmas.Bool.{cases_eq, cases_lt, ltb-true, ltb-false, lt-ltb}
use Rattle.std.proofs.lemmas.List.{length-replicate}
use Rattle.std.proofs.lemmas.List.Sums.{fails_before_first}
use Rattle.handle_table.specs.Table.{IsFull, address_of}
use Rattle.sub_heaps.specs.SubHeaps.{SubHeaps, FitsAt, IsLowestFit, IsSound, rounded}
use Rattle.sub_heaps.specs.declared.objects.Object.{Object}
use Rattle.move_plan.specs.Sliding.{IsSlid}
use Rattle.arena_meaning.specs.Arena.{IsConsistent, Storage}
use Rattle.arena_meaning.specs.Changes.{bytes_named, is_live_start, with_filled}
use Rattle.defrag_move.proofs.Choices.{chosen_new}
use Rattle.defrag_move.proofs.Filled.{IsConsistent-filled, length-bytes_named}
use Rattle.defrag_move.proofs.Kept.{end_within, has_size}
use Rattle.struct_ir.specs.Nodes.{Action, Place, Step}
use Rattle.flat_meaning.specs.Accesses as actions
use Rattle.flat_meaning.specs.Accesses.{null, wait, allocated, zeroed, renewed, guarded, with_object, with_copy}
use Rattle.flat_meaning.specs.Actions.{acted_on_memory}
use Rattle.flat_meaning.specs.Image.{Layout}
use Rattle.flat_meaning.specs.Memory.{Memory, left_by, with_storage}
use Rattle.flat_meaning.specs.Words.{Words, target_of, word_at}
use Rattle.flat_machine.specs.Choices.{action_choice, fits_at, got_or, is_renewable, least_free, lowest_fit, malloc_choice, room_or, served_choice, sized_choice}
use Rattle.flat_machine.specs.Nulls.{HasNoRoom}
use Rattle.flat_machine.specs.Sweeping.{object_got}
use Rattle.flat_machine.specs.lemmas.Waiting.{IsSized, Operands, of_malloc, of_calloc, of_realloc}
use Rattle.flat_machine.proofs.Allowed.{fits_is, free_is}
use Rattle.flat_machine.proofs.Choices.{Decides-fits, none_free, none_fits}
use Rattle.flat_machine.proofs.Rooms.{IsSlid-placed, less_fits_nowhere, nowhere_is_less}

-- ---- what is found first

none_by : (p : ℕ → Bool) (a n : ℕ) (b : Bool) → p a ≡ b → (find p (range_with_len (a + 1) n) ≡ None → (j : ℕ) → a + 1 ≤ j → j < a + 1 + n → p j ≡ false) → cond b (Some a) (find p (range_with_len (a + 1) n)) ≡ None → (j : ℕ) → a ≤ j → j < a + suc n → p j ≡ false
none_by p a n true is rest e j low high = absurd cc
none_by p a n false is rest e j low high = elim (cases_eq j a) [ inl here ↦ rw here is | inr further ↦ rest e j (omega arith) (omega arith) ]

-- where none is found, each fails
none_found : (p : ℕ → Bool) (a n : ℕ) → find p (range_with_len a n) ≡ None → (j : ℕ) → a ≤ j → j < a + n → p j ≡ false
none_found p a zero e j low high = absurd (omega arith)
none_found p a (suc n) e j low high = none_by p a n (p a) refl (none_found p (a + 1) n) e j low high

first_by : (p : ℕ → Bool) (a n k : ℕ) (b : Bool) → p a ≡ b → (find p (range_with_len (a + 1) n) ≡ Some k → (j : ℕ) → a + 1 ≤ j → j < k → p j ≡ false) → cond b (Some a) (find p (range_with_len (a + 1) n)) ≡ Some k → (j : ℕ) → a ≤ j → j < k → p j ≡ false
first_by p a n k true is rest e j low high = let here : a ≡ k = cc in absurd (omega (arith, here))
first_by p a n k false is rest e j low high = elim (cases_eq j a) [ inl here ↦ rw here is | inr further ↦ rest e j (omega arith) high ]

-- each before the first that is found fails
fails_before : (p : ℕ → Bool) (a n k : ℕ) → find p (range_with_len a n) ≡ Some k → (j : ℕ) → a ≤ j → j < k → p j ≡ false
fails_before p a zero k e j low high = absurd cc
fails_before p a (suc n) k e j low high = first_by p a n k (p a) refl (fails_before p (a + 1) n k) e j low high

-- ---- ids and places

used : (o : Option ℕ) → is_none o ≡ false → IsSome o
used None e = absurd cc
used (Some a) e = refl

-- where no id is found, none is free
full_is : (table : List (Option ℕ)) → least_free table ≡ None → IsFull table
full_is table e id below = by (nat_lt (position_or_len is_none table) (length table)) refl e where
  by : (b : Bool) → nat_lt (position_or_len is_none table) (length table) ≡ b → cond b (Some (position_or_len is_none table)) None ≡ None → IsSome (address_of table id)
  by true is e = absurd cc
  by false is e = used (address_of table id) (fails_before_first is_none table id None (omega (arith, below, ltb-false (position_or_len is_none table) (length table) is)))

module _ (h : SubHeaps) (bytes : ℕ) where
  -- where no place is found, the bytes fit nowhere
  nowhere_is : lowest_fit h bytes ≡ None → (at : ℕ) → ¬ FitsAt h bytes at
  nowhere_is e at fits =
      let fails = none_found (fits_at h bytes) 0 (h.count * h.size) e at (omega arith) (omega (arith, fits.inside.0)) in
      let passes = (Decides-fits h bytes at fits.inside.0).1 fits in
      absurd cc

  -- the place that is found is the lowest
  lowest_is : (at : ℕ) → lowest_fit h bytes ≡ Some at → IsLowestFit h bytes at
  lowest_is at e = record { fits = fits_is h bytes at e; lowest = lowest }
    where
      lowest : (other : ℕ) → FitsAt h bytes other → at ≤ other
      lowest other fits = elim (cases_lt other at) [
        | inr above ↦ above
        | inl lower ↦
            let fails = fails_before (fits_at h bytes) 0 (h.count * h.size) at e other (omega arith) lower in
            let passes = (Decides-fits h bytes other fits.inside.0).1 fits in
            absurd cc
      ]

-- ---- act's choice

-- what is above a sub-heap, which is a multiple of 16, is above it when it is rounded, and the other way round
rounded_above : (size bytes : ℕ) → size % 16 ≡ 0 → 16 ≤ size → size < rounded bytes → size < bytes
rounded_above size bytes multiple least above = omega arith

above_rounded : (size bytes : ℕ) → size < bytes → size < rounded bytes
above_rounded size bytes above = omega arith

waits_or_got : (o q : Option ℕ) → got_or o q wait ≡ null → ⊥
waits_or_got None q e = absurd cc
waits_or_got (Some id) None e = absurd cc
waits_or_got (Some id) (Some place) e = absurd cc

pub sized_null : (s : Storage) → IsSound s.heaps → (size : ℕ) → (sized_choice s size ≡ null) ↔ (s.heaps.size < size)
sized_null s sound size = (there, back)
  where
    by : (b : Bool) → ltb s.heaps.size (rounded size) ≡ b → cond b null (room_or s size wait) ≡ null → s.heaps.size < size
    by true is e = rounded_above s.heaps.size size sound.shape.size_multiple sound.shape.size_least (ltb-true s.heaps.size (rounded size) is)
    by false is e = absurd (waits_or_got (least_free s.table) (lowest_fit s.heaps (rounded size)) e)

    there : sized_choice s size ≡ null → s.heaps.size < size
    there e = by (ltb s.heaps.size (rounded size)) refl e

    back : s.heaps.size < size → sized_choice s size ≡ null
    back above = let is : ltb s.heaps.size (rounded size) ≡ true = lt-ltb s.heaps.size (rounded size) (above_rounded s.heaps.size size above) in rw is refl

-- of a word that may be one of a realloc
pub renewable_choice : (s : Storage) (word size : ℕ) → is_renewable s word ≡ true → malloc_choice s word size ≡ sized_choice s size
renewable_choice s word size is = rw is refl

-- ---- barrier's choice

-- where nothing is got, there is no id or no place
none_got : (o q : Option ℕ) → object_got (got_or o q null) ≡ None → (q ≡ None) ⊎ (o ≡ None)
none_got None q e = inr refl
none_got (Some id) None e = inl refl
none_got (Some id) (Some place) e = absurd cc

no_id_got : (o q : Option ℕ) → o ≡ None → object_got (got_or o q null) ≡ None
no_id_got None q e = refl
no_id_got (Some id) q e = absurd cc

no_place_got : (o q : Option ℕ) → q ≡ None → object_got (got_or o q null) ≡ None
no_place_got None q e = refl
no_place_got (Some id) None e = refl
no_place_got (Some id) (Some place) e = absurd cc

-- sound storage whose objects have slid
pub record IsSlidStorage (pinned : ℕ → Bool) (s : Storage) : Type 0 where
  pub kept : IsConsistent s
  pub slid : IsSlid pinned s.heaps

module _ (pinned : ℕ → Bool) (s : Storage) (is : IsSlidStorage pinned s) (word size : ℕ) where
  some : 0 < rounded size
  some = omega arith

  there : object_got (served_choice s word size) ≡ None → HasNoRoom pinned s.heaps size ⊎ IsFull s.table
  there e = elim (none_got (least_free s.table) (lowest_fit s.heaps (rounded size)) e) [
    | inl no_place ↦ inl (nowhere_is_less pinned s.heaps is.kept.heaps is.slid (rounded size) (nowhere_is s.heaps (rounded size) no_place))
    | inr no_id ↦ inr (full_is s.table no_id)
  ]

  back : HasNoRoom pinned s.heaps size ⊎ IsFull s.table → object_got (served_choice s word size) ≡ None
  back (inl no_room) = no_place_got (least_free s.table) (lowest_fit s.heaps (rounded size)) (none_fits s.heaps (rounded size) (less_fits_nowhere pinned s.heaps is.kept.heaps is.slid (rounded size) some no_room))
  back (inr full) = no_id_got (least_free s.table) (lowest_fit s.heaps (rounded size)) (none_free s.table full)

  pub served_null : (object_got (served_choice s word size) ≡ None) ↔ (HasNoRoom pinned s.heaps size ⊎ IsFull s.table)
  served_null = (there, back)

-- what serving leaves is such storage again
abbrev storage_of : Memory → actions.Done → Storage
storage_of m (actions.went word after) = after.storage
storage_of m actions.waits = m.storage
storage_of m actions.unfit = m.storage
storage_of m (actions.over f) = m.storage

module _ (pinned : ℕ → Bool) (m : Memory) (is : IsSlidStorage pinned m.storage) where
  abbrev Stays : actions.Done → Type 0
  Stays d = IsSlidStorage pinned (storage_of m d)

  -- with bytes written into the sub-heaps
  filled : (t : Storage) → IsSlidStorage pinned t → (at : ℕ) (bytes : List ℕ) → at + length bytes ≤ t.heaps.count * t.heaps.size → IsSlidStorage pinned (with_filled t at bytes)
  filled t h at bytes within = record { kept = IsConsistent-filled t h.kept at bytes within; slid = h.slid }

  module _ (id place size : ℕ) (e : least_free m.storage.table ≡ Some id) (at : lowest_fit m.storage.heaps (rounded size) ≡ Some place) where
    abbrev new : Object
    new = record { at = place; size = rounded size; owner = id }

    with_one : IsSlidStorage pinned (with_object m.storage id place size)
    with_one = record {
      kept = chosen_new m.storage is.kept id place size (free_is m.storage.table id e) (fits_is m.storage.heaps (rounded size) place at);
      slid = IsSlid-placed pinned m.storage.heaps is.kept.heaps is.slid new (omega arith) (lowest_is m.storage.heaps (rounded size) place at);
    }

    inside : place + rounded size ≤ m.storage.heaps.count * m.storage.heaps.size
    inside = end_within m.storage.heaps.count m.storage.heaps.size (has_size m.storage is.kept) (rounded size) place (fits_is m.storage.heaps (rounded size) place at).inside

    with_zeros : IsSlidStorage pinned (with_filled (with_object m.storage id place size) place (replicate (rounded size) 0))
    with_zeros = filled (with_object m.storage id place size) with_one place (replicate (rounded size) 0) (omega (arith, inside, length-replicate {A = ℕ} (rounded size) 0))

    with_its : (word : ℕ) → IsSlidStorage pinned (with_copy m.storage id place word size)
    with_its word = filled (with_object m.storage id place size) with_one place (bytes_named m.storage word (rounded size)) (omega (arith, inside, length-bytes_named m.storage word (rounded size)))

  allocated_stays : (size : ℕ) (o q : Option ℕ) → least_free m.storage.table ≡ o → lowest_fit m.storage.heaps (rounded size) ≡ q → Stays (allocated (got_or o q null) size m)
  allocated_stays size None q e at = is
  allocated_stays size (Some id) None e at = is
  allocated_stays size (Some id) (Some place) e at = with_one id place size e at

  zeroed_stays : (size : ℕ) (o q : Option ℕ) → least_free m.storage.table ≡ o → lowest_fit m.storage.heaps (rounded size) ≡ q → Stays (zeroed (got_or o q null) size m)
  zeroed_stays size None q e at = is
  zeroed_stays size (Some id) None e at = is
  zeroed_stays size (Some id) (Some place) e at = with_zeros id place size e at

  -- while the barrier serves, the old object of a realloc stays
  renewed_stays : (words : List ℕ) → m.leaving ≡ Some words → (word size : ℕ) (o q : Option ℕ) → least_free m.storage.table ≡ o → lowest_fit m.storage.heaps (rounded size) ≡ q → Stays (renewed (got_or o q null) word size m)
  renewed_stays words serves word size None q e at = is
  renewed_stays words serves word size (Some id) None e at = is
  renewed_stays words serves word size (Some id) (Some place) e at =
      let new : Memory = with_storage m (with_copy m.storage id place word size) in
      subst (λ (leaving : Option (List ℕ)). IsSlidStorage pinned (cond (is_live_start m.storage word) (left_by leaving word new) new).storage) (sym serves) (either (is_live_start m.storage word) (left_by (Some words) word new) new (with_its id place size e at word) (with_its id place size e at word))
    where
      either : (b : Bool) (one two : Memory) → IsSlidStorage pinned one.storage → IsSlidStorage pinned two.storage → IsSlidStorage pinned (cond b one two).storage
      either true one two h k = h
      either false one two h k = k

  either_stays : (b : Bool) (d e : actions.Done) → Stays d → Stays e → Stays (cond b d e)
  either_stays true d e h k = h
  either_stays false d e h k = k

  stays : (x : Layout) (n : ℕ) (l : Words) (words : List ℕ) → m.leaving ≡ Some words → (a : Action) (temps : List ℕ) → Operands a temps → Stays (acted_on_memory x n (action_choice (served_choice m.storage) l a temps) a [] (map (word_at l) temps) m)
  stays x n l words serves _ _ (of_malloc size) = allocated_stays (word_at l size) _ _ refl refl
  stays x n l words serves _ _ (of_calloc count size) = zeroed_stays (word_at l count * word_at l size) _ _ refl refl
  stays x n l words serves _ _ (of_realloc word size) =
      let w = word_at l word in
      let k = word_at l size in
      let choice = served_choice m.storage w k in
      either_stays (eqb w 0) (allocated choice k m) (guarded m.leaving w m.storage (renewed choice w k m)) (allocated_stays k _ _ refl refl)
      (subst (λ (leaving : Option (List ℕ)). Stays (guarded leaving w m.storage (renewed choice w k m))) (sym serves) (renewed_stays words serves w k _ _ refl refl))

pub some_words : (leaving : Option (List ℕ)) → is_some leaving ≡ true → (words : List ℕ) × (leaving ≡ Some words)
some_words None some = absurd cc
some_words (Some words) some = (words, refl)

pub served_stays : (pinned : ℕ → Bool) (x : Layout) (n : ℕ) (l : Words) (temps : ℕ) (s : Step) → IsSized temps s → (m after : Memory) (word : Option ℕ) → is_some m.leaving ≡ true → IsSlidStorage pinned m.storage
    → acted_on_memory x n (action_choice (served_choice m.storage) l s.action s.temps) s.action (map (target_of l) s.places) (map (word_at l) s.temps) m ≡ actions.went word after → IsSlidStorage pinned after.storage
served_stays pinned x n l temps s h m after word some is done =
    let none : acted_on_memory x n (action_choice (served_choice m.storage) l s.action s.temps) s.action [] (map (word_at l) s.temps) m ≡ actions.went word after =
    ap (λ (places : List Place). acted_on_memory x n (action_choice (served_choice m.storage) l s.action s.temps) s.action (map (target_of l) places) (map (word_at l) s.temps) m) (sym h.no_places) ∙ done in
    let serves = some_words m.leaving some in
    subst (IsSlidStorage pinned) (ap (storage_of m) none) (stays pinned m is x n l serves.0 serves.1 s.action s.temps h.operands)
