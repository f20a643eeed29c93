-- The machine and the world over named blocks look at no slot and no list.
use Rattle.std.proofs.Common.{◌≡◌, ℕ, List, [], ◌∷◌, map, Ok, false, refl, ap}
use Rattle.block_store.specs.declared.values.Answer.{Answer}
use Rattle.block_store.specs.Actions.{World as Shared}
use Rattle.struct_ir.specs.Nodes.{Place, Step, Act, set, call, step, look, safepoint, begin_object, end_object, Ir}
use Rattle.struct_ir.specs.Lists.{bare_place, bare_step, bare_act, IgnoresLists}
use Rattle.struct_ir.specs.Erased.{is_kept, LooksAreIdle}
use Rattle.struct_ir.proofs.Erased.{erasure_keeps_turns}
use Rattle.struct_ir.specs.meaning.Blocks.{Fault, Own, known, ends_turn, own_act, blocks_machine}
use Rattle.struct_ir.specs.meaning.Threads.{on_ok, address_of, all_of, action_of, action_with, served_if, serve_step, blocks_world, start_in}
use Rattle.struct_ir.specs.meaning.Laws.{ErasedCodeMeansTheSame}

-- an address is found without the slot
addresses : (place : ℕ) (l : Own) (as_ : List Place) → all_of (address_of place l) (map bare_place as_) ≡ all_of (address_of place l) as_
addresses place l [] = refl
addresses place l (a ∷ as_) = ap (λ r. on_ok (address_of place l a) (λ y. on_ok r (λ ys. Ok (y ∷ ys)))) (addresses place l as_)

action_same : (place : ℕ) (l : Own) (s : Step) → action_of place l (bare_step s) ≡ action_of place l s
action_same place l s = ap (λ r. on_ok r (λ places. on_ok (all_of (λ t. known place (l.temps t)) s.temps) (action_with s.action places))) (addresses place l s.places)

stops_same : (a : Act) → ends_turn (bare_act a) ≡ ends_turn a
stops_same (set to calc) = refl
stops_same (call c) = refl
stops_same (step s) = refl
stops_same (look slot base) = refl
stops_same (safepoint slots) = refl
stops_same (begin_object i) = refl
stops_same (end_object i) = refl

does_same : (p : Ir) (place : ℕ) (a : Act) (l : Own) → own_act p place (bare_act a) l ≡ own_act p place a l
does_same p place (set to calc) l = refl
does_same p place (call c) l = refl
does_same p place (step s) l = refl
does_same p place (look slot base) l = refl
does_same p place (safepoint slots) l = refl
does_same p place (begin_object i) l = refl
does_same p place (end_object i) l = refl

serve_same : (thread : ℕ) (answer : Answer) (place : ℕ) (a : Act) (l : Own) (w : Shared) → serve_step thread answer place (bare_act a) l w ≡ serve_step thread answer place a l w
serve_same thread answer place (set to calc) l w = refl
serve_same thread answer place (call c) l w = refl
serve_same thread answer place (step s) l w = ap (served_if place thread answer l s.to w) (action_same place l s)
serve_same thread answer place (look slot base) l w = refl
serve_same thread answer place (safepoint slots) l w = refl
serve_same thread answer place (begin_object i) l w = refl
serve_same thread answer place (end_object i) l w = refl

pub ignores : (p : Ir) (thread : ℕ) → IgnoresLists (blocks_machine p) (blocks_world p thread)
ignores p thread = record { stops = stops_same; does = λ place a l. does_same p place a l; serve = λ answer place a l w. serve_same thread answer place a l w }

idle_at : (p : Ir) (a : Act) → is_kept a ≡ false → (ends_turn a ≡ false) × ((place : ℕ) (l : Own) → own_act p place a l ≡ Ok l)
idle_at p (set to calc) e = absurd cc
idle_at p (call c) e = absurd cc
idle_at p (step s) e = absurd cc
idle_at p (look slot base) e = (refl, λ place l. refl)
idle_at p (safepoint slots) e = (refl, λ place l. refl)
idle_at p (begin_object i) e = absurd cc
idle_at p (end_object i) e = absurd cc

pub idle : (p : Ir) → LooksAreIdle (blocks_machine p)
idle p a e = idle_at p a e

pub erased_code : ErasedCodeMeansTheSame
erased_code p thread answer t w carry = erasure_keeps_turns Own Fault Shared Answer (blocks_machine p) (blocks_world p thread) (ignores p thread) (idle p) (start_in p) answer t w carry
