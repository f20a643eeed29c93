-- The pins of a barrier, the moves that slide, and what they leave.
use Rattle.std.proofs.Common.{◌≡◌, ℕ, zero, suc, ◌+◌, ◌≤◌, ◌⊎◌, ◌↔◌, Bool, true, false, eqb, ◌||◌, List, [], ◌∷◌, ◌++◌, length, take, map, Option, Some, None, Contains, refl, sym, ap, ◌∙◌, subst, inl, inr, arith}
use Rattle.std.specs.Prelude.{flat_map, sum_by, count_by, nat_lt}
use Rattle.ak_trace.specs.declared.entry.Entry.{Entry}
use Rattle.std.specs.List.{list_any, range_with_len}
use Rattle.std.proofs.lemmas.Bool.{eq-eqb, eqb-true}
use Rattle.sub_heaps.specs.declared.objects.Object.{Object}
use Rattle.sub_heaps.specs.SubHeaps.{SubHeaps, IsSound, extent_of}
use Rattle.move_plan.specs.Stretches.{room_of}
use Rattle.sub_heaps.specs.declared.moves.Move.{Move}
use Rattle.move_plan.specs.Holding.{PinSet, is_pinned}
use Rattle.sub_heaps.specs.Moving.{after_moves}
use Rattle.move_plan.specs.Sliding.{IsSlide, slid_place}
use Rattle.move_plan.proofs.Slid as lower
use Rattle.move_plan.proofs.Unique.{slide_moves_only}
use Rattle.sub_heaps.specs.ByPlace.{object_at}
use Rattle.arena_meaning.specs.Arena.{Storage, places_named}
use Rattle.arena_meaning.specs.Moves.{after_plan, moved, moved_with}
use Rattle.struct_ir.specs.Instrs.{LinearCode}
use Rattle.struct_ir.specs.Linear.{Spot}
use Rattle.flat_meaning.specs.Allowed.{pinned}
use Rattle.flat_meaning.specs.Events.{MachineState, Serve, after_serves, moved_state, serving_state}
use Rattle.flat_meaning.specs.Image.{Image, limits_for, linear_image}
use Rattle.flat_rules.specs.Entries.{barrier_entry, served_entry}
use Rattle.flat_machine.specs.Shares.{Shared, image_of}
use Rattle.flat_machine.specs.Slides.{move_to, slide_moves}
use Rattle.flat_meaning.specs.Memory.{with_storage, serving, served}
use Rattle.flat_machine.specs.inner.Dones.{with_memory}
use Rattle.flat_machine.specs.Sweeping.{at_home, counted, home_at, last_of, with_barrier, served_of, serves_from, swept_by, sweep_moves, waits_at_home}
use Rattle.flat_machine.specs.inner.Swept.{AreServed, handles_home, shared_slid}
use Rattle.flat_threads.specs.Contexts.{Context}
use Rattle.flat_machine.specs.lemmas.Homes.{handles_of_home, length-stages_home}

-- ---- moves

same_moves : (pinned : ℕ → Bool) (size below : ℕ) (os : List Object) → lower.slide_moves pinned size below os ≡ slide_moves pinned size below os
same_moves pinned size below [] = refl
same_moves pinned size below (o ∷ os) =
    ap (λ (ms : List Move). move_to o (slid_place pinned size below o) ++ ms) (same_moves pinned size (slid_place pinned size below o + o.size) os)

-- the moves that slide are these
pub slide_is : (pinned : ℕ → Bool) (h : SubHeaps) (moves : List Move) → IsSound h → IsSlide pinned h moves → moves ≡ slide_moves pinned h.size 0 h.objects
slide_is pinned h moves sound slide = slide_moves_only pinned h moves sound slide ∙ same_moves pinned h.size 0 h.objects

-- ---- pins

there : (ps : List ℕ) (q : ℕ) → Contains ps q → list_any (λ p. eqb p q) ps ≡ true
there [] q w = absurd (omega (arith, w.1))
there (p ∷ ps) q (zero, below, is) = ap (λ b. b || list_any (λ p. eqb p q) ps) (eq-eqb p q is)
there (p ∷ ps) q (suc k, below, is) =
    let later = there ps q (k, omega (arith, below), is) in
    elim (eqb p q) as (λ b. (b || list_any (λ p. eqb p q) ps) ≡ true) [ true ↦ refl | false ↦ later ]

found : (ps : List ℕ) (q : ℕ) → list_any (λ p. eqb p q) ps ≡ true → Contains ps q
found [] q is = absurd cc
found (p ∷ ps) q is =
    elim (eqb p q) as (λ b. eqb p q ≡ b → (b || list_any (λ p. eqb p q) ps) ≡ true → Contains (p ∷ ps) q) [
      | true ↦ λ e h. (0, omega arith, eqb-true p q e)
      | false ↦ λ e h. let w = found ps q h in (suc w.0, omega (arith, w.1), w.2)
    ] refl is

pub one_bool : (a b : Bool) → (a ≡ true → b ≡ true) → (b ≡ true → a ≡ true) → a ≡ b
one_bool true true f g = refl
one_bool true false f g = sym (f refl)
one_bool false true f g = g refl
one_bool false false f g = refl

-- the pins are these places
pub pins_are : (pins : PinSet) (places : List ℕ) → ((at : ℕ) → (is_pinned pins at ≡ true) ↔ Contains places at) → is_pinned pins ≡ (λ at. list_any (λ p. eqb p at) places)
pins_are pins places named = λ i at. one_bool (is_pinned pins at) (list_any (λ p. eqb p at) places) (λ is. there places at ((named at).0 is)) (λ is. (named at).1 (found places at is)) i

-- those that words name, where none was pinned before
pub only_named : (storage : Storage) (words named : List ℕ) (before now : Bool) (at : ℕ) → before ≡ false → words ≡ named → (now ≡ true) ↔ ((before ≡ true) ⊎ Contains (places_named storage words) at) → (now ≡ true) ↔ Contains (places_named storage named) at
only_named storage words named before now at none same members = (
  (λ is. subst (λ (ws : List ℕ). Contains (places_named storage ws) at) same (elim (members.0 is) [ inl old ↦ absurd (let e = sym none ∙ old in cc) | inr there ↦ there ])),
  (λ there. members.1 (inr (subst (λ (ws : List ℕ). Contains (places_named storage ws) at) (sym same) there))),
)

-- the pins of a sweep are those of the state with all at home
pub pinned_is : (code : LinearCode) (s : Shared) (home : List (Option Context)) (pins : PinSet) (count : ℕ) → count ≡ length s.memory.threads
    → ((at : ℕ) → (is_pinned pins at ≡ true) ↔ Contains (places_named s.memory.storage (flat_map (handles_home code) (take count home))) at) → is_pinned pins ≡ pinned (image_of code s) (at_home s home)
pinned_is code s home pins count all named =
    pins_are pins (places_named s.memory.storage (flat_map (handles_home code) (take count home))) named
    ∙ ap (λ (ws : List ℕ). λ (at : ℕ). list_any (λ p. eqb p at) (places_named s.memory.storage ws)) (ap (λ n. flat_map (handles_home code) (take n home)) all ∙ sym (handles_of_home code s s.memory.threads home))

-- ---- limits

pub plan_keeps : (ms : List Move) (s : Storage) → ((after_plan ms s).heaps.count ≡ s.heaps.count) × ((after_plan ms s).heaps.size ≡ s.heaps.size) × ((after_plan ms s).heaps.most ≡ s.heaps.most)
plan_keeps [] s = (refl, refl, refl)
plan_keeps (m ∷ ms) s =
    let next = one_keeps (object_at m.from s.heaps.objects) m s in
    let rest = plan_keeps ms (moved m s) in
    (rest.0 ∙ next.0, rest.1 ∙ next.1, rest.2 ∙ next.2)
  where
    one_keeps : (o : Option Object) (m : Move) (s : Storage) → ((moved_with o m s).heaps.count ≡ s.heaps.count) × ((moved_with o m s).heaps.size ≡ s.heaps.size) × ((moved_with o m s).heaps.most ≡ s.heaps.most)
    one_keeps None m s = (refl, refl, refl)
    one_keeps (Some o) m s = (refl, refl, refl)

-- ---- the whole barrier

module _ (code : LinearCode) (s : Shared) (home : List (Option Context)) (told : Entry) where
  abbrev pub slid_and_told : Shared
  slid_and_told = record (shared_slid code s home) { made = told ∷ [] }

  abbrev moves : List Move
  moves = sweep_moves (image_of code s) (at_home s home)

  -- it begins to serve
  abbrev pub begun : Shared
  begun = with_memory slid_and_told (serving slid_and_told.memory)

  abbrev slid : MachineState Spot
  slid = serving_state (moved_state moves (at_home s home))

  same_limits : image_of code begun ≡ image_of code s
  same_limits =
      let kept = plan_keeps moves s.memory.storage in
      let old = s.memory.storage.heaps in
      let new = (after_plan moves s.memory.storage).heaps in
      ap (linear_image code) (ap (λ n. limits_for s.output_limit n new.size new.most) kept.0 ∙ ap (λ n. limits_for s.output_limit old.count n new.most) kept.1 ∙ ap (limits_for s.output_limit old.count old.size) kept.2)

  -- what is served in this image, of so many threads
  abbrev serves_in : Image Spot → (count : ℕ) → List Serve
  serves_in x count = serves_from x (range_with_len 0 count) slid

  abbrev left_in : Image Spot → (count : ℕ) → Shared
  left_in x count = record begun { memory = (after_serves x (serves_in x count) slid).memory; made = (told ∷ []) ++ map (λ v. served_entry 0 (served_of v)) (serves_in x count) }

  abbrev home_in : Image Spot → (count : ℕ) → List (Option Context)
  home_in x count = home_at code (after_serves x (serves_in x count) slid).own home

  count_is : length s.memory.threads ≡ length (at_home s home).own
  count_is = sym (length-stages_home s.memory.threads home)

  -- the old objects of reallocs leave
  abbrev without_left : Shared → Shared
  without_left v = with_memory v (served v.memory)

  pub barrier_shared : (given new : Shared) (behind : List (Option Context)) (for_room : Bool) → AreServed code begun given home behind → new ≡ without_left given → told ≡ barrier_entry 0 for_room → for_room ≡ nat_lt 0 (count_by waits_at_home home) → new ≡ (swept_by code s home).shared
  barrier_shared given new behind for_room are left entry room =
      left
      ∙ ap without_left (
      are.shared
      ∙ ap (λ x. left_in x (length s.memory.threads)) same_limits
      ∙ ap (left_in (image_of code s)) count_is
      ∙ ap (λ e. record (left_in (image_of code s) (length (at_home s home).own)) { made = (e ∷ []) ++ map (λ v. served_entry 0 (served_of v)) (serves_in (image_of code s) (length (at_home s home).own)) }) (entry ∙ ap (barrier_entry 0) room)
      )

  pub barrier_home : (new : Shared) (behind : List (Option Context)) → AreServed code begun new home behind → behind ≡ (swept_by code s home).homes
  barrier_home new behind served = served.home_ ∙ ap (λ x. home_in x (length s.memory.threads)) same_limits ∙ ap (home_in (image_of code s)) count_is

-- ---- the slide

-- with these moves and pins
abbrev pub slid_by : Shared → List Move → (ℕ → Bool) → Shared
slid_by s moves pinned = record { memory = with_storage s.memory (after_plan moves s.memory.storage); output_limit = s.output_limit; made = s.made; barriers = with_barrier s.barriers moves (last_of pinned s.memory.storage.heaps moves) }

pub parts_are : (s : Shared) (ms : List Move) (pinned : ℕ → Bool) (storage : Storage) (count objects bytes before after room : ℕ) → storage ≡ after_plan ms s.memory.storage → count ≡ counted (s.barriers.count + 1) → objects ≡ counted (s.barriers.objects + length ms) → bytes ≡ counted (s.barriers.bytes + sum_by (λ m. m.size) ms)
    → before ≡ extent_of s.memory.storage.heaps → after ≡ extent_of (after_moves ms s.memory.storage.heaps) → room ≡ room_of pinned (after_moves ms s.memory.storage.heaps)
    → record { memory = record { storage = storage; output = s.memory.output; threads = s.memory.threads; leaving = s.memory.leaving }; output_limit = s.output_limit; made = s.made; barriers = record { count = count; objects = objects; bytes = bytes; emptied = s.barriers.emptied; last = Some (record { before = before; after = after; room = room }) } } ≡ slid_by s ms pinned
parts_are s ms pinned storage count objects bytes before after room p0 p1 p2 p3 p4 p5 p6 = λ i. record {
  memory = record { storage = p0 i; output = s.memory.output; threads = s.memory.threads; leaving = s.memory.leaving };
  output_limit = s.output_limit;
  made = s.made;
  barriers = record { count = p1 i; objects = p2 i; bytes = p3 i; emptied = s.barriers.emptied; last = Some (record { before = p4 i; after = p5 i; room = p6 i }) };
}

module _ (code : LinearCode) (s : Shared) (home : List (Option Context)) (pins : PinSet) (ms : List Move) where
  abbrev storage : Storage
  storage = s.memory.storage

  module _ (pins_is : is_pinned pins ≡ pinned (image_of code s) (at_home s home)) (sound : IsSound storage.heaps) (slides : IsSlide (is_pinned pins) storage.heaps ms) where
    moves_is : ms ≡ sweep_moves (image_of code s) (at_home s home)
    moves_is = slide_is (is_pinned pins) storage.heaps ms sound slides ∙ ap (λ f. slide_moves f storage.heaps.size 0 storage.heaps.objects) pins_is

    pub slid_by_is : slid_by s ms (is_pinned pins) ≡ shared_slid code s home
    slid_by_is = ap (λ ns. slid_by s ns (is_pinned pins)) moves_is ∙ ap (slid_by s (sweep_moves (image_of code s) (at_home s home))) pins_is

pub few_taken : {A : Type 0} (n : ℕ) (xs : List A) → length (take n xs) ≤ n
few_taken zero xs = omega arith
few_taken (suc n) [] = omega arith
few_taken (suc n) (x ∷ xs) = omega (arith, few_taken n xs)
