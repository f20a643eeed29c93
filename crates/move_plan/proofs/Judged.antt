-- Whether one more move is legal, told from the objects as they stood before all moves.
use Rattle.std.proofs.Common.{◌≡◌, ℕ, ◌+◌, ◌≤◌, ◌≢◌, ◌⊎◌, Bool, true, false, cond, eqb, leb, List, [], ◌∷◌, ◌++◌, Some, None, Option, IsSomeAnd, refl, sym, ap, ◌∙◌, subst, inl, inr, arith}
use Rattle.std.specs.List.{All, AllByRecursion as Each, find}
use Rattle.std.proofs.lemmas.Bool.{ne_eqb, leb-true, leb-false, cases_eq}
use Rattle.std.proofs.lemmas.List.Elements.{recursion_from_All, All-from_recursion}
use Rattle.sub_heaps.specs.declared.objects.Object.{Object}
use Rattle.sub_heaps.specs.ByPlace.{end_of, object_at, with_object, without, with_moved, shifted}
use Rattle.sub_heaps.specs.SubHeaps.{SubHeaps, LiesInOne, IsApartFrom, StandFrom}
use Rattle.sub_heaps.proofs.Edits.{object_at-above, Each-with_object, with_object-Each, Each-without, without-Each}
use Rattle.sub_heaps.proofs.Standing.{Each-weaker, Each-append, Each-left, Each-right, start_above}
use Rattle.sub_heaps.specs.declared.moves.Move.{Move}
use Rattle.sub_heaps.specs.Moving.{after_move, after_moves, IsAllowed, AreLegal}
use Rattle.move_plan.proofs.Turns.{Each-three, object_at-shifted, object_at-shifted_from, allowed_object}

-- ---- whether one more move is legal

-- so many bytes from a place on have none in common with those to which a move goes
abbrev pub AreApart : Move → (at size : ℕ) → Type 0
AreApart m at size = (at + size ≤ m.to) ⊎ (m.to + m.size ≤ at)

-- a move is not of the object that an earlier one moved, nor from where that stood, and overlaps it nowhere
abbrev pub KeepsClearOf : Move → Move → Type 0
KeepsClearOf m earlier = (earlier.from ≢ m.from) × (earlier.to ≢ m.from) × AreApart m earlier.to earlier.size

-- a move overlaps an object nowhere, unless it is of that object or an earlier move took it away
abbrev pub StaysClearOf : Move → List Move → Object → Type 0
StaysClearOf m earlier o = o.at ≢ m.from → All (λ e. e.from ≢ o.at) earlier → AreApart m o.at o.size

-- a move may follow earlier ones, told from the sub-heaps as they stood before all: it is of an unpinned object of its size, ends in one sub-heap, and keeps clear of what moved and of what stayed
pub record MayFollow (pinned : ℕ → Bool) (h : SubHeaps) (earlier : List Move) (m : Move) : Type 0 where
  pub object : IsSomeAnd (object_at m.from h.objects) (λ o. o.size ≡ m.size)
  pub unpinned : pinned m.from ≡ false
  pub inside : LiesInOne h.count h.size m.size m.to
  pub clear_of_moved : All (KeepsClearOf m) earlier
  pub clear_of_others : All (StaysClearOf m earlier) h.objects

-- ---- the object at a place, by the first that starts there or above

abbrev pub if_there : ℕ → Option Object → Option Object
if_there at None = None
if_there at (Some o) = cond (eqb o.at at) (Some o) None

pub object_at-first : (count size low at : ℕ) (xs : List Object) → StandFrom count size low xs → object_at at xs ≡ if_there at (find (λ o. leb at o.at) xs)
object_at-first count size low at [] stand = refl
object_at-first count size low at (x ∷ xs) stand =
    elim (leb at x.at) as (λ t. leb at x.at ≡ t → cond (eqb x.at at) (Some x) (object_at at xs) ≡ if_there at (cond t (Some x) (find (λ o. leb at o.at) xs))) [
      | true ↦ λ is. ap (cond (eqb x.at at) (Some x)) (object_at-above at xs (Each-weaker (λ y. end_of x ≤ y.at) _ (λ y high. omega (arith, high, leb-true at x.at is, stand.2)) xs (start_above count size (end_of x) xs stand.3)))
      | false ↦ λ is.
          let other : eqb x.at at ≡ false = ne_eqb x.at at (λ same. absurd (omega (arith, same, leb-false at x.at is))) in
          rw other (object_at-first count size (end_of x) at xs stand.3)
    ] refl

module _ (pinned : ℕ → Bool) where
  -- ---- a move more

  pub legal_append-left : (ms ns : List Move) (h : SubHeaps) → AreLegal pinned h (ms ++ ns) → AreLegal pinned h ms
  legal_append-left [] ns h legal = tt
  legal_append-left (m ∷ ms) ns h legal =
      (legal.0, All-from_recursion (λ later. later.from ≢ m.to) ms (Each-left (λ later. later.from ≢ m.to) ms ns (recursion_from_All (λ later. later.from ≢ m.to) (ms ++ ns) legal.1)), legal_append-left ms ns (after_move m h) legal.2)

  -- it is allowed after the moves before it, and none of those went to its origin
  pub record IsNext (ms : List Move) (h : SubHeaps) (m : Move) : Type 0 where
    pub allowed : IsAllowed pinned (after_moves ms h) m
    pub fresh : Each (λ e. e.to ≢ m.from) ms

  pub legal_push : (ms : List Move) (h : SubHeaps) (m : Move) → AreLegal pinned h ms → IsNext ms h m → AreLegal pinned h (ms ++ m ∷ [])
  legal_push [] h m legal next = (next.allowed, All-from_recursion (λ later. later.from ≢ m.to) [] tt, tt)
  legal_push (e ∷ ms) h m legal next = (
    legal.0,
    All-from_recursion (λ later. later.from ≢ e.to) (ms ++ m ∷ []) (Each-append (λ later. later.from ≢ e.to) ms (m ∷ []) (recursion_from_All (λ later. later.from ≢ e.to) ms legal.1) ((λ same. next.fresh.0 (sym same)), tt)),
    legal_push ms (after_move e h) m legal.2 (record { allowed = next.allowed; fresh = next.fresh.1 }),
  )

  pub push_legal : (ms : List Move) (h : SubHeaps) (m : Move) → AreLegal pinned h (ms ++ m ∷ []) → IsNext ms h m
  push_legal [] h m legal = record { allowed = legal.0; fresh = tt }
  push_legal (e ∷ ms) h m legal =
      let rest = push_legal ms (after_move e h) m legal.2 in
      let last = Each-right (λ later. later.from ≢ e.to) ms (m ∷ []) (recursion_from_All (λ later. later.from ≢ e.to) (ms ++ m ∷ []) legal.1) in
      record { allowed = rest.allowed; fresh = ((λ same. last.0 (sym same)), rest.fresh) }

  -- ---- the objects after the moves

  -- an object at a place to which no move went was there before, and no move was of it
  pub stood_before : (ms : List Move) (h : SubHeaps) (at : ℕ) (Q : Object → Type 0) → Each (λ e. e.to ≢ at) ms → IsSomeAnd (object_at at (after_moves ms h).objects) Q → Each (λ e. e.from ≢ at) ms × IsSomeAnd (object_at at h.objects) Q
  stood_before [] h at Q fresh there = (tt, there)
  stood_before (e ∷ ms) h at Q fresh there = elim (cases_eq e.from at) [
    | inl same ↦
        let gone : object_at at (shifted e.from e.to h.objects) ≡ None = subst (λ f. object_at f (shifted e.from e.to h.objects) ≡ None) same (object_at-shifted_from e.from e.to h.objects (λ stays. fresh.0 (sym stays ∙ same))) in
        absurd (rw gone at (stood_before ms (after_move e h) at Q fresh.1 there).1)
    | inr other ↦
        let rest = stood_before ms (after_move e h) at Q fresh.1 there in
        let kept = object_at-shifted at e.from e.to h.objects (λ same. other (sym same)) (λ same. fresh.0 (sym same)) in
        ((other, rest.0), rw kept at rest.1)
  ]

  pub stands_still : (ms : List Move) (h : SubHeaps) (at : ℕ) → Each (λ e. e.to ≢ at) ms → Each (λ e. e.from ≢ at) ms → object_at at (after_moves ms h).objects ≡ object_at at h.objects
  stands_still [] h at fresh kept = refl
  stands_still (e ∷ ms) h at fresh kept =
      stands_still ms (after_move e h) at fresh.1 kept.1 ∙ object_at-shifted at e.from e.to h.objects (λ same. kept.0 (sym same)) (λ same. fresh.0 (sym same))

  -- what holds of each object after the moves holds of those that no move was of, and of those where the moves went
  module _ (P : (at size : ℕ) → Type 0) where
    abbrev pub IfUnmoved : List Move → Object → Type 0
    IfUnmoved ms o = Each (λ e. e.from ≢ o.at) ms → P o.at o.size

    pub record Holds (ms : List Move) (h : SubHeaps) : Type 0 where
      pub unmoved : Each (IfUnmoved ms) h.objects
      pub moved : Each (λ e. P e.to e.size) ms

    pub each_after : (ms : List Move) (h : SubHeaps) → AreLegal pinned h ms → Holds ms h → Each (λ o. P o.at o.size) (after_moves ms h).objects
    each_after [] h legal holds = Each-weaker (IfUnmoved []) _ (λ o p. p tt) h.objects holds.unmoved
    each_after (e ∷ ms) h legal holds =
        let found = allowed_object pinned h e legal.0 in
        let new : Object = record { at = e.to; size = found.0.size; owner = found.0.owner } in
        let is : shifted e.from e.to h.objects ≡ with_object new (without e.from h.objects) = ap (λ r. with_moved r e.to (without e.from h.objects)) found.1 in
        let at_new : P e.to found.0.size = subst (λ n. P e.to n) (sym found.2) holds.moved.0 in
        let others = Each-without (IfUnmoved ms) e.from h.objects (Each-weaker (IfUnmoved (e ∷ ms)) _ (λ o p other kept. p ((λ same. other (sym same)), kept)) h.objects holds.unmoved) in
        let all = subst (λ xs. Each (IfUnmoved ms) xs) (sym is) (Each-with_object (IfUnmoved ms) new (without e.from h.objects) (λ _. at_new) others) in
        each_after ms (after_move e h) legal.2 (record { unmoved = all; moved = holds.moved.1 })

    pub each_before : (ms : List Move) (h : SubHeaps) → AreLegal pinned h ms → Each (λ o. P o.at o.size) (after_moves ms h).objects → Holds ms h
    each_before [] h legal each = record { unmoved = Each-weaker (λ o. P o.at o.size) (IfUnmoved []) (λ o p _. p) h.objects each; moved = tt }
    each_before (e ∷ ms) h legal each =
        let found = allowed_object pinned h e legal.0 in
        let new : Object = record { at = e.to; size = found.0.size; owner = found.0.owner } in
        let is : shifted e.from e.to h.objects ≡ with_object new (without e.from h.objects) = ap (λ r. with_moved r e.to (without e.from h.objects)) found.1 in
        let rest = each_before ms (after_move e h) legal.2 each in
        let split = with_object-Each (IfUnmoved ms) new (without e.from h.objects) (subst (λ xs. Each (IfUnmoved ms) xs) is rest.unmoved) in
        let at_new : P e.to e.size = subst (λ n. P e.to n) found.2 (split.0 (recursion_from_All (λ later. later.from ≢ e.to) ms legal.1)) in
        record {
          unmoved = Each-weaker _ (IfUnmoved (e ∷ ms)) (λ o p kept. p (λ same. kept.0 (sym same)) kept.1) h.objects (without-Each (IfUnmoved ms) e.from h.objects split.1);
          moved = (at_new, rest.moved);
        }

  -- the moves change neither how many sub-heaps there are nor how long they are
  pub count_after : (ms : List Move) (h : SubHeaps) → (after_moves ms h).count ≡ h.count
  count_after [] h = refl
  count_after (m ∷ ms) h = count_after ms (after_move m h)

  pub size_after : (ms : List Move) (h : SubHeaps) → (after_moves ms h).size ≡ h.size
  size_after [] h = refl
  size_after (m ∷ ms) h = size_after ms (after_move m h)

  -- ---- the tests of one move more

  abbrev apart_unless_it : Move → (at size : ℕ) → Type 0
  apart_unless_it m at size = at ≢ m.from → AreApart m at size

  pub legal_passes : (ms : List Move) (h : SubHeaps) (m : Move) → AreLegal pinned h ms → MayFollow pinned h ms m → AreLegal pinned h (ms ++ m ∷ [])
  legal_passes ms h m legal passes =
      let after = after_moves ms h in
      let clear : Each (KeepsClearOf m) ms = recursion_from_All (KeepsClearOf m) ms passes.clear_of_moved in
      let fresh : Each (λ e. e.to ≢ m.from) ms = Each-weaker (KeepsClearOf m) (λ e. e.to ≢ m.from) (λ e c. c.1) ms clear in
      let still : Each (λ e. e.from ≢ m.from) ms = Each-weaker (KeepsClearOf m) (λ e. e.from ≢ m.from) (λ e c. c.0) ms clear in
      let same = stands_still ms h m.from fresh still in
      let unmoved : Each (IfUnmoved (apart_unless_it m) ms) h.objects = Each-weaker (StaysClearOf m ms) _ (λ o stays kept other. stays other (All-from_recursion (λ e. e.from ≢ o.at) ms kept)) h.objects (recursion_from_All (StaysClearOf m ms) h.objects passes.clear_of_others) in
      let moved : Each (λ e. apart_unless_it m e.to e.size) ms = Each-weaker (KeepsClearOf m) (λ e. apart_unless_it m e.to e.size) (λ e c _. c.2) ms clear in
      let apart = Each-without (IsApartFrom m.size m.to) m.from after.objects (each_after (apart_unless_it m) ms h legal (record { unmoved = unmoved; moved = moved })) in
      let inside : LiesInOne after.count after.size m.size m.to = rw (count_after ms h, size_after ms h) passes.inside in
      legal_push ms h m legal (record {
        allowed = record {
          object = subst (λ r. IsSomeAnd r (λ o. o.size ≡ m.size)) (sym same) passes.object;
          unpinned = passes.unpinned;
          fits = record { inside = inside; clear = All-from_recursion (IsApartFrom m.size m.to) (without m.from after.objects) apart };
        };
        fresh = fresh;
      })

  pub passes_legal : (ms : List Move) (h : SubHeaps) (m : Move) → AreLegal pinned h (ms ++ m ∷ []) → MayFollow pinned h ms m
  passes_legal ms h m legal =
      let after = after_moves ms h in
      let next = push_legal ms h m legal in
      let before = stood_before ms h m.from (λ o. o.size ≡ m.size) next.fresh next.allowed.object in
      let holds = each_before (apart_unless_it m) ms h (legal_append-left ms (m ∷ []) h legal) (without-Each (IsApartFrom m.size m.to) m.from after.objects (recursion_from_All (IsApartFrom m.size m.to) (without m.from after.objects) next.allowed.fits.clear)) in
      let clear : Each (KeepsClearOf m) ms = Each-three (λ e. e.from ≢ m.from) (λ e. e.to ≢ m.from) (λ e. apart_unless_it m e.to e.size) (KeepsClearOf m) (λ e kept new apart. (kept, new, apart new)) ms before.0 next.fresh holds.moved in
      record {
        object = before.1;
        unpinned = next.allowed.unpinned;
        inside = rw (count_after ms h, size_after ms h) at next.allowed.fits.inside;
        clear_of_moved = All-from_recursion (KeepsClearOf m) ms clear;
        clear_of_others = All-from_recursion (StaysClearOf m ms) h.objects (Each-weaker (IfUnmoved (apart_unless_it m) ms) _ (λ o p other kept. p (recursion_from_All (λ e. e.from ≢ o.at) ms kept) other) h.objects holds.unmoved);
      }
