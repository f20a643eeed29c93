-- What an evacuation leaves, and that it empties a sub-heap just where it moves an object.
use Rattle.std.proofs.Common.{◌≡◌, ℕ, zero, suc, ◌+◌, ◌-◌, ◌<◌, Bool, true, false, cond, List, [], ◌∷◌, ◌++◌, length, take, length-append, Option, Some, None, Contains, ◌↔◌, refl, sym, ap, ◌∙◌, arith}
use Rattle.std.specs.Prelude.{◌==◌, flat_map, nat_lt, not, sum_by, option_and_then, IfSome}
use Rattle.std.specs.List.{find, range_with_len}
use Rattle.std.proofs.lemmas.Bool.Decides.{nat_tests}
use Rattle.sub_heaps.specs.declared.objects.Object.{Object}
use Rattle.sub_heaps.specs.declared.moves.Move.{Move}
use Rattle.sub_heaps.specs.SubHeaps.{SubHeaps, objects_in}
use Rattle.sub_heaps.specs.Moving.{after_move}
use Rattle.evacuate.specs.Evacuation.{Evacuated, emptying, evacuates, evacuates_down, evacuation, has_tail_for, is_thin, then_moves, to_tail, with_moves}
use Rattle.evacuate.proofs.Legal.{and_left}
use Rattle.move_plan.specs.Holding.{PinSet, is_pinned}
use Rattle.arena_meaning.specs.Arena.{Storage, places_named}
use Rattle.arena_meaning.specs.Moves.{after_plan}
use Rattle.struct_ir.specs.Instrs.{LinearCode}
use Rattle.flat_meaning.specs.Allowed.{pinned}
use Rattle.ak_trace.specs.declared.entry.Entry.{Entry}
use Rattle.flat_rules.specs.Entries.{evacuation_entry}
use Rattle.flat_threads.specs.Contexts.{Context}
use Rattle.flat_machine.specs.Clearing.{cleared_by, counted_emptied, evacuation_here, moves_some, shared_cleared}
use Rattle.flat_machine.specs.Shares.{Shared, image_of}
use Rattle.flat_machine.specs.Sweeping.{at_home, counted}
use Rattle.flat_machine.specs.inner.Swept.{handles_home}
use Rattle.flat_machine.proofs.Slid.{pinned_is}

-- ---- a sub-heap is emptied just where an object moves

lt_true : (n : ℕ) → 0 < n → nat_lt 0 n ≡ true
lt_true n below = grind (arith, nat_tests)

lt_some : (n : ℕ) → nat_lt 0 n ≡ true → 0 < n
lt_some n is = grind (arith, nat_tests)

abbrev pub Agrees : Evacuated → Type 0
Agrees e = nat_lt 0 e.emptied ≡ moves_some e

then_some : (m : Move) (r : Option (List Move)) → IfSome (then_moves m r) (λ ms. 0 < length ms)
then_some m None = tt
then_some m (Some ms) = omega arith

-- an object that goes somewhere is a move
emptying_some : (number : ℕ) (os : List Object) (h : SubHeaps) → 0 < length os → IfSome (emptying number os h) (λ ms. 0 < length ms)
emptying_some number [] h some = absurd (omega (arith, some))
emptying_some number (o ∷ os) h some = by (find (has_tail_for h o.size) (range_with_len 0 number)) where
  by : (found : Option ℕ) → IfSome (option_and_then (λ lower. then_moves (to_tail h o lower) (emptying number os (after_move (to_tail h o lower) h))) found) (λ ms. 0 < length ms)
  by None = tt
  by (Some lower) = then_some (to_tail h o lower) (emptying number os (after_move (to_tail h o lower) h))

with_agrees : (o : Option (List Move)) (e : Evacuated) → IfSome o (λ ms. 0 < length ms) → Agrees e → Agrees (with_moves o e)
with_agrees None e some agrees = agrees
with_agrees (Some ms) e some agrees = lt_true (e.emptied + 1) (omega arith) ∙ sym (lt_true (length (e.moves ++ ms)) (let n = length-append e.moves ms in omega (arith, n, some)))

one_agrees : (pinned : ℕ → Bool) (number : ℕ) (e : Evacuated) → Agrees e → Agrees (evacuates pinned number e)
one_agrees pinned number e agrees = by (is_thin pinned e number) refl where
  by : (b : Bool) → is_thin pinned e number ≡ b → Agrees (with_moves (cond b (emptying number (objects_in e.heaps number) e.heaps) None) e)
  by true thin = with_agrees (emptying number (objects_in e.heaps number) e.heaps) e (emptying_some number (objects_in e.heaps number) e.heaps (lt_some (length (objects_in e.heaps number)) (and_left _ _ (and_left _ _ thin)))) agrees
  by false thin = agrees

down_agrees : (pinned : ℕ → Bool) (number : ℕ) (e : Evacuated) → Agrees e → Agrees (evacuates_down pinned number e)
down_agrees pinned zero e agrees = agrees
down_agrees pinned (suc n) e agrees = down_agrees pinned n (evacuates pinned (suc n) e) (one_agrees pinned (suc n) e agrees)

pub empties_where_it_moves : (pinned : ℕ → Bool) (h : SubHeaps) → Agrees (evacuation pinned h)
empties_where_it_moves pinned h = down_agrees pinned (h.count - 1) (record { heaps = h; moves = []; emptied = 0 }) refl

-- ---- what was planned, by the code's pins

pub planned_is : (code : LinearCode) (s now : Shared) (home : List (Option Context)) (pins : PinSet) (heaps : SubHeaps) (count : ℕ) → s ≡ now → count ≡ length s.memory.threads
    → ((at : ℕ) → (is_pinned pins at ≡ true) ↔ Contains (places_named s.memory.storage (flat_map (handles_home code) (take count home))) at) → heaps ≡ s.memory.storage.heaps
    → evacuation (is_pinned pins) heaps ≡ evacuation_here (image_of code now) (at_home now home)
planned_is code s now home pins heaps count now_is all named heaps_are =
    ap (λ p. evacuation p heaps) (pinned_is code s home pins count all named) ∙ ap (evacuation (pinned (image_of code s) (at_home s home))) heaps_are ∙ ap (λ (v : Shared). evacuation_here (image_of code v) (at_home v home)) now_is

-- ---- what is left

no_moves : (ms : List Move) → nat_lt 0 (length ms) ≡ false → ms ≡ []
no_moves [] none = refl
no_moves (m ∷ ms) none = absurd (let bad : true ≡ false = sym (lt_true (suc (length ms)) (omega arith)) ∙ none in cc)

pub none_moves : (e : Evacuated) → moves_some e ≡ false → e.moves ≡ []
none_moves e none = no_moves e.moves none

some_length : (n : ℕ) → nat_lt 0 n ≡ not (n == 0)
some_length zero = refl
some_length (suc n) = let ne : (suc n == 0) ≡ false = grind (arith, nat_tests) in lt_true (suc n) (omega arith) ∙ sym (ap not ne)

-- whether the list of moves is empty says whether there are any
pub some_moves : (e : Evacuated) (moves : List Move) (len : ℕ) (empty : Bool) → len ≡ length moves → moves ≡ e.moves → empty ≡ (len == 0) → moves_some e ≡ not empty
some_moves e moves len empty long same is = some_length (length e.moves) ∙ ap (λ n. not (n == 0)) (sym (long ∙ ap length same)) ∙ ap not (sym is)

module _ (code : LinearCode) (s : Shared) (home : List (Option Context)) (now : Shared) (now_is : s ≡ now) where
  abbrev here : Evacuated
  here = evacuation_here (image_of code s) (at_home s home)

  whole : (cleared_by code s home).shared ≡ (cleared_by code now home).shared
  whole = ap (λ (v : Shared). (cleared_by code v home).shared) now_is

  -- where it moves nothing
  pub stays : (made : List Entry) → moves_some here ≡ false → made ≡ [] → record { memory = s.memory; output_limit = s.output_limit; made = made; barriers = s.barriers } ≡ (cleared_by code now home).shared
  stays made none made_is =
      ap (λ (es : List Entry). record { memory = s.memory; output_limit = s.output_limit; made = es; barriers = s.barriers }) made_is
      ∙ ap (shared_cleared (image_of code s) s (at_home s home)) (sym none)
      ∙ whole

  -- where it moves an object, of what was kept
  pub moves : (storage : Storage) (made : List Entry) (objects bytes emptied : ℕ) → moves_some here ≡ true → s.memory.leaving ≡ None → storage ≡ after_plan here.moves s.memory.storage → made ≡ evacuation_entry 0 ∷ []
      → objects ≡ counted (s.barriers.objects + length here.moves) → bytes ≡ counted (s.barriers.bytes + sum_by (λ m. m.size) here.moves) → emptied ≡ counted_emptied (s.barriers.emptied + here.emptied)
      → record { memory = record { storage = storage; output = s.memory.output; threads = s.memory.threads; leaving = s.memory.leaving }; output_limit = s.output_limit; made = made; barriers = record { count = s.barriers.count; objects = objects; bytes = bytes; emptied = emptied; last = s.barriers.last } } ≡ (cleared_by code now home).shared
  moves storage made objects bytes emptied some idle stored told is_objects is_bytes is_emptied =
      (λ i. record {
        memory = record { storage = stored i; output = s.memory.output; threads = s.memory.threads; leaving = idle i };
        output_limit = s.output_limit;
        made = told i;
        barriers = record { count = s.barriers.count; objects = is_objects i; bytes = is_bytes i; emptied = is_emptied i; last = s.barriers.last };
      })
      ∙ ap (shared_cleared (image_of code s) s (at_home s home)) (sym some)
      ∙ whole
