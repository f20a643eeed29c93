-- Moves are legal exactly where their spans keep clear of one another and of the objects.
use Rattle.std.proofs.Common.{◌≡◌, ◌≢◌, ℕ, suc, ◌+◌, ◌<◌, ◌≤◌, ◌⊎◌, Bool, List, [], ◌∷◌, ◌++◌, length, Some, None, Option, IsSomeAnd, refl, sym, subst, inl, inr, arith}
use Rattle.std.specs.List.{All, AllByRecursion as Each}
use Rattle.std.proofs.lemmas.Bool.{cases_eq, cases_lt}
use Rattle.std.proofs.lemmas.List.{append-nil, append_assoc}
use Rattle.std.proofs.lemmas.List.Elements.{recursion_from_All, All-from_recursion}
use Rattle.sub_heaps.specs.declared.objects.Object.{Object}
use Rattle.sub_heaps.specs.ByPlace.{object_at, with_object}
use Rattle.sub_heaps.specs.SubHeaps.{SubHeaps, IsSound, IsRounded, IsApartFrom}
use Rattle.sub_heaps.proofs.Edits.{Each-with_object, with_object-Each, object_at-with_object}
use Rattle.sub_heaps.proofs.Standing.{Each-weaker, Each-both, Each-append, Each-left, Each-right, each_rounded}
use Rattle.sub_heaps.proofs.Taken.{found_at, found_each}
use Rattle.sub_heaps.specs.declared.moves.Move.{Move}
use Rattle.sub_heaps.specs.Moving.{AreLegal}
use Rattle.move_plan.specs.inner.Spans.{origin, target, origins_of, targets_of, AreInOrder, IsClearOf, IsWithin, KeepClear}
use Rattle.move_plan.proofs.Judged.{AreApart, KeepsClearOf, StaysClearOf, MayFollow, legal_append-left, legal_passes, passes_legal}
use Rattle.move_plan.proofs.Spans.{origins_push, targets_push, each_span, span_each, turns_below, order_with, with_order, none_at, at_none, object_at-with_new}
use Rattle.move_plan.proofs.Turns.{Each-three}

-- what holds of no moves, and of one move more, holds of all
each_push : (P : List Move → Type 0) → ((ms : List Move) (m : Move) → P ms → P (ms ++ m ∷ [])) → (front back : List Move) → P front → P (front ++ back)
each_push P more front [] holds = subst P (sym (append-nil front)) holds
each_push P more front (m ∷ ms) holds = subst P (append_assoc front (m ∷ []) ms) (each_push P more (front ++ m ∷ []) ms (more front m holds))

-- two bytes at different places are apart
apart_bytes : (a b : ℕ) → a ≢ b → (a + 1 ≤ b) ⊎ (b + 1 ≤ a)
apart_bytes a b other = elim (cases_lt a b) [
  | inl lower ↦ inl (omega arith)
  | inr higher ↦ inr (omega arith)
]

bytes_differ : (a b : ℕ) → (a + 1 ≤ b) ⊎ (b + 1 ≤ a) → a ≢ b
bytes_differ a b (inl lower) = λ same. absurd (omega arith)
bytes_differ a b (inr higher) = λ same. absurd (omega arith)

-- what is found with one span more, where that has a place of its own
found_more : (new : Object) (xs : List Object) (P : Object → Type 0) (at : ℕ) → Each (λ s. s.at ≢ new.at) xs → IsSomeAnd (object_at at xs) P → IsSomeAnd (object_at at (with_object new xs)) P
found_more new xs P at fresh found = elim (cases_eq new.at at) [
  | inl here ↦ absurd (let none = at_none new.at xs fresh in subst (λ r. IsSomeAnd r P) none (subst (λ f. IsSomeAnd (object_at f xs) P) (sym here) found))
  | inr other ↦ subst (λ r. IsSomeAnd r P) (sym (object_at-with_object at new xs other)) found
]

found_less : (new : Object) (xs : List Object) (P : Object → Type 0) (at : ℕ) → Each (λ s. s.at ≢ new.at) xs → (P new → ⊥) → IsSomeAnd (object_at at (with_object new xs)) P → IsSomeAnd (object_at at xs) P
found_less new xs P at fresh not_new found = elim (cases_eq new.at at) [
  | inl here ↦ absurd (not_new (subst (λ r. IsSomeAnd r P) (object_at-with_new new xs fresh) (subst (λ f. IsSomeAnd (object_at f (with_object new xs)) P) (sym here) found)))
  | inr other ↦ subst (λ r. IsSomeAnd r P) (object_at-with_object at new xs other) found
]

some_of : (r : Option Object) (P : Object → Type 0) → IsSomeAnd r P → (o : Object) × (r ≡ Some o) × P o
some_of None P found = absurd found
some_of (Some o) P found = (o, refl, found)

-- the object that a move is of has a byte
has_byte : (h : SubHeaps) → IsSound h → (m : Move) → IsSomeAnd (object_at m.from h.objects) (λ o. o.size ≡ m.size) → 0 < m.size
has_byte h sound m there =
    let o = some_of (object_at m.from h.objects) (λ o. o.size ≡ m.size) there in
    let rounded = found_each (λ o. IsRounded o.size) m.from h.objects o.0 o.1 (each_rounded h.count h.size 0 h.objects sound.stand) in
    omega (arith, o.2, rounded.0)

module _ (pinned : ℕ → Bool) (h : SubHeaps) (sound : IsSound h) where
  -- the same facts, each by recursion on its list
  record Stands (ms : List Move) (starts ends : List Object) : Type 0 where
    within : Each (IsWithin pinned h) ms
    origins : AreInOrder 0 starts
    targets : AreInOrder 0 ends
    clear : Each (λ to. Each (IsClearOf starts to) h.objects) ends

  stands_from : (ms : List Move) → KeepClear pinned h ms → Stands ms (origins_of ms) (targets_of ms)
  stands_from ms keep = record {
    within = recursion_from_All (IsWithin pinned h) ms keep.within;
    origins = keep.origins;
    targets = keep.targets;
    clear = Each-weaker (λ to. All (IsClearOf (origins_of ms) to) h.objects) _ (λ to all. recursion_from_All (IsClearOf (origins_of ms) to) h.objects all) (targets_of ms) (recursion_from_All (λ to. All (IsClearOf (origins_of ms) to) h.objects) (targets_of ms) keep.clear);
  }

  from_stands : (ms : List Move) → Stands ms (origins_of ms) (targets_of ms) → KeepClear pinned h ms
  from_stands ms keep = record {
    within = All-from_recursion (IsWithin pinned h) ms keep.within;
    origins = keep.origins;
    targets = keep.targets;
    clear = All-from_recursion (λ to. All (IsClearOf (origins_of ms) to) h.objects) (targets_of ms) (Each-weaker (λ to. Each (IsClearOf (origins_of ms) to) h.objects) _ (λ to each. All-from_recursion (IsClearOf (origins_of ms) to) h.objects each) (targets_of ms) keep.clear);
  }

  -- no span of an earlier move starts where this one does
  origins_differ : (ms : List Move) (m : Move) → Each (λ e. e.from ≢ m.from) ms → Each (λ s. s.at ≢ m.from) (origins_of ms)
  origins_differ ms m other = each_span origin (λ s. s.at ≢ m.from) (λ e. e.from ≢ m.from) (λ t e o. o) 0 [] ms tt other

  -- ---- a move more

  -- the objects keep clear of the new target, or a move takes them away
  new_clear : (ms : List Move) (m : Move) (o : Object) → StaysClearOf m ms o → IsClearOf (with_object (origin (length ms) m) (origins_of ms)) (target (length ms) m) o
  new_clear ms m o stays = at_found (object_at o.at all) refl
    where
      all : List Object
      all = with_object (origin (length ms) m) (origins_of ms)

      at_found : (r : Option Object) → object_at o.at all ≡ r → IsClearOf all (target (length ms) m) o
      at_found None none =
          let differ = with_object-Each (λ s. s.at ≢ o.at) (origin (length ms) m) (origins_of ms) (none_at o.at all none) in
          let kept = (span_each origin (λ s. s.at ≢ o.at) (λ e. e.from ≢ o.at) (λ t e d. d) 0 [] ms differ.1).1 in
          inl (stays (λ same. differ.0 (sym same)) (All-from_recursion (λ e. e.from ≢ o.at) ms kept))
      at_found (Some s) found =
          let below = Each-with_object (λ s. s.owner < suc (length ms)) (origin (length ms) m) (origins_of ms) (omega arith) (turns_below origin (λ t e. refl) 0 (suc (length ms)) [] ms (omega arith) tt) in
          let turn : s.owner ≤ length ms = omega (arith, found_each (λ s. s.owner < suc (length ms)) o.at all s found below) in
          inr (subst (λ r. IsSomeAnd r (λ s. s.owner ≤ length ms)) (sym found) turn)

  keep_push : (ms : List Move) (m : Move) → KeepClear pinned h ms → MayFollow pinned h ms m → KeepClear pinned h (ms ++ m ∷ [])
  keep_push ms m keep follows =
      let old = stands_from ms keep in
      let n = length ms in
      let O = origins_of ms in
      let T = targets_of ms in
      let clear : Each (KeepsClearOf m) ms = recursion_from_All (KeepsClearOf m) ms follows.clear_of_moved in
      let differ : Each (λ s. s.at ≢ m.from) O = origins_differ ms m (Each-weaker (KeepsClearOf m) (λ e. e.from ≢ m.from) (λ e c. c.0) ms clear) in
      let apart_origins : Each (IsApartFrom 1 m.from) O = each_span origin (IsApartFrom 1 m.from) (KeepsClearOf m) (λ t e c. apart_bytes e.from m.from c.0) 0 [] ms tt clear in
      let apart_targets : Each (IsApartFrom m.size m.to) T = each_span target (IsApartFrom m.size m.to) (KeepsClearOf m) (λ t e c. c.2) 0 [] ms tt clear in
      let origins : AreInOrder 0 (with_object (origin n m) O) = with_order 0 (origin n m) O (omega arith) (record { low = omega arith; order = old.origins; apart = apart_origins }) in
      let targets : AreInOrder 0 (with_object (target n m) T) = with_order 0 (target n m) T (has_byte h sound m follows.object) (record { low = omega arith; order = old.targets; apart = apart_targets }) in
      let O' = with_object (origin n m) O in
      let here : Each (IsClearOf O' (target n m)) h.objects = Each-weaker (StaysClearOf m ms) (IsClearOf O' (target n m)) (λ o stays. new_clear ms m o stays) h.objects (recursion_from_All (StaysClearOf m ms) h.objects follows.clear_of_others) in
      let before : Each (λ to. Each (IsClearOf O' to) h.objects) T = Each-weaker (λ to. Each (IsClearOf O to) h.objects) (λ to. Each (IsClearOf O' to) h.objects) (λ to each. Each-weaker (IsClearOf O to) (IsClearOf O' to) (λ o c. more differ to o c) h.objects each) T old.clear in
      let all : Stands (ms ++ m ∷ []) O' (with_object (target n m) T) = record {
        within = Each-append (IsWithin pinned h) ms (m ∷ []) old.within (record { object = follows.object; unpinned = follows.unpinned; inside = follows.inside }, tt);
        origins = origins;
        targets = targets;
        clear = Each-with_object (λ to. Each (IsClearOf O' to) h.objects) (target n m) T here before;
      } in
      from_stands (ms ++ m ∷ []) (subst (λ xs. Stands (ms ++ m ∷ []) xs (targets_of (ms ++ m ∷ []))) (sym (origins_push ms m)) (subst (λ xs. Stands (ms ++ m ∷ []) O' xs) (sym (targets_push ms m)) all))
    where
      more : Each (λ s. s.at ≢ m.from) (origins_of ms) → (to o : Object) → IsClearOf (origins_of ms) to o → IsClearOf (with_object (origin (length ms) m) (origins_of ms)) to o
      more differ to o (inl apart) = inl apart
      more differ to o (inr taken) = inr (found_more (origin (length ms) m) (origins_of ms) (λ from. from.owner ≤ to.owner) o.at differ taken)

  -- no target begins where an object stood that no move before it took away
  keeps_off : (origins : List Object) (from : ℕ) (b : Object) → b.at ≡ from → 0 < b.size → Each (λ s. s.at ≢ from) origins → (to : Object) → 0 < to.size → IsClearOf origins to b → to.at ≢ from
  keeps_off origins from b is some differ to some_to (inl (inl ends)) = λ same. absurd (omega (arith, is, same, ends))
  keeps_off origins from b is some differ to some_to (inl (inr starts)) = λ same. absurd (omega (arith, is, same, starts))
  keeps_off origins from b is some differ to some_to (inr taken) = λ same. absurd (subst (λ r. IsSomeAnd r (λ s. s.owner ≤ to.owner)) (at_none from origins differ) (subst (λ f. IsSomeAnd (object_at f origins) (λ s. s.owner ≤ to.owner)) is taken))

  record Splits (ms : List Move) (m : Move) : Type 0 where
    keep : KeepClear pinned h ms
    follows : MayFollow pinned h ms m

  push_keep : (ms : List Move) (m : Move) → KeepClear pinned h (ms ++ m ∷ []) → Splits ms m
  push_keep ms m keep =
      let n = length ms in
      let O = origins_of ms in
      let T = targets_of ms in
      let O' = with_object (origin n m) O in
      let all : Stands (ms ++ m ∷ []) O' (with_object (target n m) T) = subst (λ xs. Stands (ms ++ m ∷ []) O' xs) (targets_push ms m) (subst (λ xs. Stands (ms ++ m ∷ []) xs (targets_of (ms ++ m ∷ []))) (origins_push ms m) (stands_from (ms ++ m ∷ []) keep)) in
      let within : Each (IsWithin pinned h) ms = Each-left (IsWithin pinned h) ms (m ∷ []) all.within in
      let own : IsWithin pinned h m = (Each-right (IsWithin pinned h) ms (m ∷ []) all.within).0 in
      let by_origin = order_with 0 (origin n m) O all.origins in
      let by_target = order_with 0 (target n m) T all.targets in
      let other_objects : Each (λ e. e.from ≢ m.from) ms = (span_each origin (IsApartFrom 1 m.from) (λ e. e.from ≢ m.from) (λ t e apart. bytes_differ e.from m.from apart) 0 [] ms by_origin.apart).1 in
      let differ = origins_differ ms m other_objects in
      let apart_moves : Each (λ e. AreApart m e.to e.size) ms = (span_each target (IsApartFrom m.size m.to) (λ e. AreApart m e.to e.size) (λ t e apart. apart) 0 [] ms by_target.apart).1 in
      let split = with_object-Each (λ to. Each (IsClearOf O' to) h.objects) (target n m) T all.clear in
      let turns : Each (λ s. s.owner < n) T = turns_below target (λ t e. refl) 0 n [] ms (omega arith) tt in
      let before : Each (λ to. Each (IsClearOf O to) h.objects) T = Each-both (λ (s : Object). s.owner < n) (λ to. Each (IsClearOf O' to) h.objects) (λ to. Each (IsClearOf O to) h.objects) (λ to turn each. Each-weaker (IsClearOf O' to) (IsClearOf O to) (λ o c. less differ to o turn c) h.objects each) T turns split.1 in
      let off : Each (λ e. e.to ≢ m.from) ms = off_origin own.object differ within before in
      record {
        keep = from_stands ms (record { within = within; origins = by_origin.order; targets = by_target.order; clear = before });
        follows = record {
          object = own.object;
          unpinned = own.unpinned;
          inside = own.inside;
          clear_of_moved = All-from_recursion (KeepsClearOf m) ms (Each-three (λ e. e.from ≢ m.from) (λ e. e.to ≢ m.from) (λ e. AreApart m e.to e.size) (KeepsClearOf m) (λ e f t a. (f, t, a)) ms other_objects off apart_moves);
          clear_of_others = All-from_recursion (StaysClearOf m ms) h.objects (Each-weaker (IsClearOf O' (target n m)) (StaysClearOf m ms) (λ o c. stays o c) h.objects split.0);
        };
      }
    where
      less : Each (λ s. s.at ≢ m.from) (origins_of ms) → (to o : Object) → to.owner < length ms → IsClearOf (with_object (origin (length ms) m) (origins_of ms)) to o → IsClearOf (origins_of ms) to o
      less differ to o turn (inl apart) = inl apart
      less differ to o turn (inr taken) = inr (found_less (origin (length ms) m) (origins_of ms) (λ from. from.owner ≤ to.owner) o.at differ (λ le. absurd (omega (arith, le, turn))) taken)

      stays : (o : Object) → IsClearOf (with_object (origin (length ms) m) (origins_of ms)) (target (length ms) m) o → StaysClearOf m ms o
      stays o (inl apart) other kept = apart
      stays o (inr taken) other kept =
          let none : Each (λ s. s.at ≢ o.at) (with_object (origin (length ms) m) (origins_of ms)) = Each-with_object (λ s. s.at ≢ o.at) (origin (length ms) m) (origins_of ms) (λ same. other (sym same)) (each_span origin (λ s. s.at ≢ o.at) (λ e. e.from ≢ o.at) (λ t e d. d) 0 [] ms tt (recursion_from_All (λ e. e.from ≢ o.at) ms kept)) in
          absurd (subst (λ r. IsSomeAnd r (λ s. s.owner ≤ length ms)) (at_none o.at (with_object (origin (length ms) m) (origins_of ms)) none) taken)

      off_origin : IsSomeAnd (object_at m.from h.objects) (λ o. o.size ≡ m.size) → Each (λ s. s.at ≢ m.from) (origins_of ms) → Each (IsWithin pinned h) ms → Each (λ to. Each (IsClearOf (origins_of ms) to) h.objects) (targets_of ms) → Each (λ e. e.to ≢ m.from) ms
      off_origin there differ within clear =
          let b = some_of (object_at m.from h.objects) (λ o. o.size ≡ m.size) there in
          let some_b : 0 < b.0.size = omega (arith, b.2, has_byte h sound m there) in
          let some_to : Each (λ (to : Object). 0 < to.size) (targets_of ms) = each_span target (λ to. 0 < to.size) (IsWithin pinned h) (λ t e w. has_byte h sound e w.object) 0 [] ms tt within in
          let off : Each (λ (to : Object). to.at ≢ m.from) (targets_of ms) = Each-both (λ (to : Object). 0 < to.size) (λ to. Each (IsClearOf (origins_of ms) to) h.objects) (λ to. to.at ≢ m.from) (λ to some each. keeps_off (origins_of ms) m.from b.0 (found_at m.from h.objects b.0 b.1) some_b differ to some (found_each (IsClearOf (origins_of ms) to) m.from h.objects b.0 b.1 each)) (targets_of ms) some_to clear in
          (span_each target (λ s. s.at ≢ m.from) (λ e. e.to ≢ m.from) (λ t e d. d) 0 [] ms off).1

  -- ---- all moves

  none_keep : KeepClear pinned h []
  none_keep = from_stands [] (record { within = tt; origins = tt; targets = tt; clear = tt })

  pub legal_keep : (ms : List Move) → AreLegal pinned h ms → KeepClear pinned h ms
  legal_keep ms = each_push (λ ms. AreLegal pinned h ms → KeepClear pinned h ms) (λ ms m keep legal. keep_push ms m (keep (legal_append-left pinned ms (m ∷ []) h legal)) (passes_legal pinned ms h m legal)) [] ms (λ _. none_keep)

  pub keep_legal : (ms : List Move) → KeepClear pinned h ms → AreLegal pinned h ms
  keep_legal ms = each_push (λ ms. KeepClear pinned h ms → AreLegal pinned h ms) (λ ms m legal keep. let parts = push_keep ms m keep in legal_passes pinned ms h m (legal parts.keep) parts.follows) [] ms (λ _. tt)
