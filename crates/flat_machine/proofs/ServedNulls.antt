-- Null at a barrier: the objects have slid when the first thread is served, and stay so while others are.
use Rattle.std.proofs.Common.{◌≡◌, ℕ, zero, suc, ◌+◌, ◌<◌, ◌≤◌, ◌&&◌, ◌⊎◌, ◌↔◌, Bool, true, false, List, [], ◌∷◌, ◌++◌, length, map, add-one, Option, Some, None, refl, sym, ap, ◌∙◌, subst, arith}
use Rattle.std.specs.Prelude.{All, is_some}
use Rattle.std.specs.List.{range_with_len}
use Rattle.std.proofs.lemmas.List.{map-append}
use Rattle.std.proofs.lemmas.List.Elements.{All-append, All-from_recursion}
use Rattle.handle_table.specs.Table.{IsFull}
use Rattle.sub_heaps.specs.declared.objects.Object.{Object}
use Rattle.sub_heaps.specs.ByPlace.{end_of, object_at}
use Rattle.sub_heaps.specs.SubHeaps.{SubHeaps}
use Rattle.sub_heaps.specs.declared.moves.Move.{Move}
use Rattle.sub_heaps.specs.Moving.{after_moves}
use Rattle.move_plan.specs.Sliding.{HaveSlid, IsSlid, IsSlide, holds}
use Rattle.move_plan.proofs.Slid as lower
use Rattle.move_plan.proofs.Slides.{IsSlide-slide_moves}
use Rattle.arena_meaning.specs.Arena.{IsConsistent}
use Rattle.arena_meaning.specs.Moves.{after_plan}
use Rattle.defrag_move.proofs.Kept.{IsConsistent-after_plan, heaps_after}
use Rattle.struct_ir.specs.Instrs.{LinearCode}
use Rattle.struct_ir.specs.Linear.{Spot}
use Rattle.flat_meaning.specs.Allocations.{Allocation}
use Rattle.flat_meaning.specs.Allowed.{pinned}
use Rattle.flat_meaning.specs.Events.{MachineState, Serve, after_serves, moved_state, serving_state}
use Rattle.flat_meaning.specs.Image.{Image}
use Rattle.flat_meaning.specs.Stages.{waiting}
use Rattle.flat_rules.specs.Lawful.{AreHome, IsOfRun}
use Rattle.flat_threads.specs.Belonging.{IsContextOf}
use Rattle.flat_threads.specs.Contexts.{Context}
use Rattle.flat_machine.specs.Machine.{machine_of}
use Rattle.flat_machine.specs.Nulls.{HasNoRoom, IsNullForRoom, NullAtBarrier, old_word}
use Rattle.flat_machine.specs.Shares.{Shared, image_of}
use Rattle.flat_machine.specs.Sweeping.{at_home, object_got, serve_of, served_of, serves_from, serves_if, sweep_moves, sweep_serves, waits_at_home}
use Rattle.flat_machine.specs.lemmas.Homes.{after_serves-append, length-stages_home, none_served}
use Rattle.flat_machine.specs.lemmas.Serving.{room_waits}
use Rattle.flat_machine.proofs.BarrierEvents.{IsTurned, Served, asks_of, begin_turned, made, next_is, of_run, own_is, own_stage, place, served, turn, turn_is}
use Rattle.flat_machine.proofs.Nulls.{IsSlidStorage, served_null, served_stays}
use Rattle.flat_machine.proofs.Serves.{range_push, serves_from-push, turn_of}
use Rattle.flat_machine.proofs.Slid.{slide_is}

-- a pin where no object stands pins nothing
slid_of_held : (pinned : ℕ → Bool) (objects : List Object) (size below : ℕ) (xs : List Object) → HaveSlid (holds pinned objects) size below xs → HaveSlid pinned size below xs
slid_of_held pinned objects size below [] slid = tt
slid_of_held pinned objects size below (o ∷ os) slid = ((λ free. slid.0 (ap (λ b. b && is_some (object_at o.at objects)) free)), slid_of_held pinned objects size (end_of o) os slid.1)

module _ (code : LinearCode) (s : Shared) (home : List (Option Context)) (kept : IsConsistent s.memory.storage) (all : All (IsOfRun (machine_of code) (IsContextOf code)) home) (homes : AreHome (machine_of code) s home) where
  abbrev x : Image Spot
  x = image_of code s

  abbrev here : MachineState Spot
  here = at_home s home

  abbrev pins : ℕ → Bool
  pins = pinned (image_of code s) (at_home s home)

  abbrev h : SubHeaps
  h = s.memory.storage.heaps

  abbrev moves : List Move
  moves = sweep_moves (image_of code s) (at_home s home)

  abbrev moved : MachineState Spot
  moved = serving_state (moved_state (sweep_moves (image_of code s) (at_home s home)) (at_home s home))

  -- ---- the slide

  slide : IsSlide pins h moves
  slide = let walk = IsSlide-slide_moves pins h kept.heaps in subst (IsSlide pins h) (slide_is pins h (lower.slide_moves pins h.size 0 h.objects) kept.heaps walk) walk

  slid_first : IsSlidStorage pins moved.memory.storage
  slid_first =
      let same : (after_plan moves s.memory.storage).heaps ≡ after_moves moves h = heaps_after pins moves s.memory.storage kept slide.legal in
      let after = after_moves moves h in
      record {
        kept = IsConsistent-after_plan pins moves s.memory.storage kept slide.legal;
        slid = subst (IsSlid pins) (sym same) (slid_of_held pins h.objects after.size 0 after.objects slide.slid);
      }

  -- ---- one thread after the other

  -- the serves of so many threads, and the state behind them
  abbrev serves : (count : ℕ) → List Serve
  serves count = serves_from (image_of code s) (range_with_len 0 count) moved

  abbrev behind : (count : ℕ) → MachineState Spot
  behind count = after_serves (image_of code s) (serves count) moved

  abbrev Told : List Serve → Type 0
  Told vs = All (IsNullForRoom (image_of code s) (at_home s home)) (map served_of vs)

  record IsWalked (n : ℕ) : Type 0 where
    turned : IsTurned code s home all homes n (behind n)
    storage : IsSlidStorage pins (behind n).memory.storage
    told : Told (serves n)

  module _ (n : ℕ) (is : IsWalked n) (below : n < length s.memory.threads) where
    abbrev st : MachineState Spot
    st = behind n

    abbrev turn_serves : List Serve
    turn_serves = turn_of x st n

    -- what a thread's turn adds
    record Adds (vs : List Serve) : Type 0 where
      storage : IsSlidStorage pins (after_serves x vs st).memory.storage
      told : Told vs

    -- it doesn't wait
    idle : waits_at_home (place code s home all homes n) ≡ false → Adds turn_serves
    idle none =
        let stage = own_stage code s home all homes n st is.turned below in
        let run = of_run code s home all homes n st is.turned below in
        let no_serves : turn_serves ≡ [] = ap (serves_if x st n) stage ∙ none_served code s st n (made code s home all homes n) (place code s home all homes n) run none in
        subst Adds (sym no_serves) (record { storage = is.storage; told = All-from_recursion (IsNullForRoom x here) [] tt })

    -- it is served
    module _ (c : Context) (at : place code s home all homes n ≡ Some c) (v : Served code s st n c) where
      abbrev serve : Serve
      serve = serve_of x st n (waiting v.thread)

      abbrev asks : Allocation
      asks = asks_of v.thread.top.own v.has.operands

      one : IsNullForRoom x here (served_of serve)
      one = record {
        stage = waiting v.thread;
        waited = sym (is.turned.later n (omega arith)) ∙ own_is code s home all homes n st is.turned below c at v;
        asks = asks;
        asked = v.asked;
        null = subst (λ choice. (object_got choice ≡ None) ↔ (HasNoRoom pins st.memory.storage.heaps asks.bytes ⊎ IsFull st.memory.storage.table)) (sym v.chosen) (served_null pins st.memory.storage is.storage (old_word asks) asks.bytes);
      }

      storage_next : IsSlidStorage pins (after_serves x (serve ∷ []) st).memory.storage
      storage_next =
          subst (λ (t : MachineState Spot). IsSlidStorage pins t.memory.storage) (sym (next_is code s home all homes n st is.turned below c at v))
          (served_stays pins x.layout n v.thread.top.own (length v.thread.top.own.temps) v.node v.has st.memory v.after v.word is.turned.serves is.storage v.done)

      adds_one : Adds turn_serves
      adds_one = subst Adds (sym (turn_is code s home all homes n st is.turned below c at v)) (record { storage = storage_next; told = All-from_recursion (IsNullForRoom x here) (served_of serve ∷ []) (one, tt) })

    adds : Adds turn_serves
    adds = by (waits_at_home (place code s home all homes n)) refl where
      waits_here : (p : Option Context) → place code s home all homes n ≡ p → waits_at_home p ≡ true → Adds turn_serves
      waits_here None at w = absurd cc
      waits_here (Some c) at w =
          let of_ : IsContextOf code c = subst (IsOfRun (machine_of code) (IsContextOf code)) at (of_run code s home all homes n st is.turned below) in
          adds_one c at (served code s st n c of_ (room_waits c.wait w) is.turned.serves)

      by : (b : Bool) → waits_at_home (place code s home all homes n) ≡ b → Adds turn_serves
      by true w = waits_here (place code s home all homes n) refl w
      by false w = idle w

    more : serves (n + 1) ≡ serves n ++ turn_serves
    more = ap (λ (ks : List ℕ). serves_from x ks moved) (ap (range_with_len 0) (add-one n) ∙ range_push 0 n n (omega arith)) ∙ serves_from-push x (range_with_len 0 n) n moved

    behind_next : behind (n + 1) ≡ after_serves x turn_serves st
    behind_next = ap (λ vs. after_serves x vs moved) more ∙ after_serves-append x (serves n) turn_serves moved

    walked_next : IsWalked (n + 1)
    walked_next = record {
      turned = subst (IsTurned code s home all homes (n + 1)) (sym behind_next) (turn code s home all homes n st is.turned below).next;
      storage = subst (λ (t : MachineState Spot). IsSlidStorage pins t.memory.storage) (sym behind_next) adds.storage;
      told = subst Told (sym more) (subst (All (IsNullForRoom x here)) (sym (map-append served_of (serves n) turn_serves)) (All-append (IsNullForRoom x here) (map served_of (serves n)) (map served_of turn_serves) is.told adds.told));
    }

  walked_first : IsWalked 0
  walked_first = record { turned = begin_turned code s home all homes; storage = slid_first; told = All-from_recursion (IsNullForRoom x here) [] tt }

  walked : (n : ℕ) → n ≤ length s.memory.threads → IsWalked n
  walked zero le = walked_first
  walked (suc n) le = subst IsWalked (add-one n) (walked_next n (walked n (omega arith)) (omega arith))

  pub all_told : Told (sweep_serves x here)
  all_told = subst (λ count. Told (serves count)) (sym (length-stages_home s.memory.threads home)) (walked (length s.memory.threads) (omega arith)).told

pub null_at_barrier : NullAtBarrier
null_at_barrier code s home kept all homes = all_told code s home kept all homes
