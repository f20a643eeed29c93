-- What act does is what an event does, which may come.
use Rattle.std.proofs.Common.{◌≡◌, ℕ, zero, suc, Bool, true, false, List, [], ◌∷◌, ◌++◌, length, map, set, Option, Some, None, refl, sym, ap, ◌∙◌, subst, arith}
use Rattle.std.proofs.lemmas.List.{append-nil, drop_all}
use Rattle.block_store.specs.Runs.{own_at}
use Rattle.struct_ir.specs.Linear.{Spot}
use Rattle.struct_ir.specs.Threads.{Thread}
use Rattle.flat_meaning.specs.declared.endings.Stop.{Stop}
use Rattle.flat_meaning.specs.declared.endings.Stop.TheVariants.{AtStep, Spent, NoRoom}
use Rattle.flat_meaning.specs.Accesses.{Choice, plain}
use Rattle.flat_meaning.specs.Allowed.{AreAllowed, MayStep, MayStepAt, StandsBefore}
use Rattle.flat_meaning.specs.Effects.{Effect, act_effect, look_effect, no_effect}
use Rattle.flat_meaning.specs.Events.{Event, MachineState, act, after_all, new_stages, put, put_if, stage_made}
use Rattle.flat_meaning.specs.Image.{Image}
use Rattle.flat_meaning.specs.Local.{no_room_if, spent_if, stop_at, stop_before}
use Rattle.flat_meaning.specs.Memory.{Memory}
use Rattle.flat_meaning.specs.Stages as stages
use Rattle.flat_meaning.specs.Stages.{Before, Stage, before, going, landed, looks, room_for, starts, steps, thread_at, waiting}
use Rattle.flat_meaning.specs.Words.{Words}
use Rattle.flat_machine.specs.Acting.{choice_for, effect_before}
use Rattle.flat_machine.specs.Choices.{malloc_choice}
use Rattle.flat_machine.specs.Laws.{ActIsItsEvent, IsTheEvent, event_before}
use Rattle.flat_machine.proofs.Allowed.{here_may, malloc_may, malloc_tries}

-- a stage that is put where it stands
set_same : {A : Type 0} (own : List (Option A)) (n : ℕ) (v : A) → own_at own n ≡ Some v → set own n (Some v) ≡ own
set_same [] n v e = refl
set_same (x ∷ own) zero v e = ap (λ o. o ∷ own) (sym e)
set_same (x ∷ own) (suc n) v e = ap (λ (os : List _). x ∷ os) (set_same own n v e)

no_room : (b : Bool) → no_room_if b ≡ Some NoRoom → b ≡ false
no_room true e = absurd cc
no_room false e = refl

no_room_only : (b : Bool) (stop : Stop) → no_room_if b ≡ Some stop → stop ≡ NoRoom
no_room_only true stop e = absurd cc
no_room_only false stop e = let same : NoRoom ≡ stop = cc in sym same

spent_only : (b : Bool) (stop : Stop) → spent_if b ≡ Some stop → stop ≡ Spent
spent_only true stop e = let same : Spent ≡ stop = cc in sym same
spent_only false stop e = absurd cc

module _ (x : Image Spot) (s : MachineState Spot) (number : ℕ) (stage : Stage Spot) (goes_on : s.end ≡ None) (each : length s.own ≡ length s.memory.threads) (own : own_at s.own number ≡ Some stage) where
  abbrev m : Memory
  m = s.memory

  abbrev choice : Choice
  choice = choice_for x s.memory stage

  -- these events may come, and do this
  record AreEvents (events : List Event) (e : Effect Spot) : Type 0 where
    pub allowed : AreAllowed x events s
    pub after : after_all x events s ≡ put s number e

  rest_is : AreEvents [] (no_effect m stage)
  rest_is = record { allowed = tt; after = λ i. record { memory = m; own = sym own_same i; end = s.end } } where
    none_new : new_stages s.own m ≡ []
    none_new = ap (map stage_made) (drop_all (length s.own) m.threads (omega (arith, each)))

    own_same : set s.own number (Some stage) ++ new_stages s.own m ≡ s.own
    own_same = ap (λ (os : List (Option (Stage Spot))). set s.own number (Some stage) ++ os) none_new ∙ append-nil (set s.own number (Some stage)) ∙ set_same s.own number stage own

  look_is : StandsBefore x (Some stage) looks → AreEvents (Rattle.flat_meaning.specs.Events.look number ∷ []) (look_effect x number stage m)
  look_is stands = record {
    allowed = ((goes_on, subst (λ (o : Option (Stage Spot)). StandsBefore x o looks) (sym own) stands), tt);
    after = ap (put_if s number (look_effect x number)) own;
  }

  act_is : (c : Choice) → MayStepAt x m c (Some stage) → AreEvents (act number c ∷ []) (act_effect x number c stage m)
  act_is c may = record {
    allowed = ((goes_on, subst (MayStepAt x m c) (sym own) may), tt);
    after = ap (put_if s number (act_effect x number c)) own;
  }

  -- in a call, by what it stands before
  module _ (most turns : ℕ) (may_step : (c : Choice) → MayStep x m c (thread_at x stage) (before x (thread_at x stage)) → MayStepAt x m c (Some stage)) (may_look : before x (thread_at x stage) ≡ looks → StandsBefore x (Some stage) looks)
      (no_choice : (function : ℕ) → before x (thread_at x stage) ≡ stages.calls function → (c d : Choice) → act_effect x number c stage m ≡ act_effect x number d stage m) where
    abbrev t : Thread Spot Words
    t = thread_at x stage

    by_before : (b : Before) → before x t ≡ b → (stop : Stop) → stop_before x most turns t b ≡ Some stop → AreEvents (event_before number choice stop b) (effect_before x number choice stage m stop b)
    by_before stages.safe is AtStep e = let bad = spent_only _ AtStep e in absurd cc
    by_before stages.safe is Spent e = rest_is
    by_before stages.safe is NoRoom e = let bad = spent_only _ NoRoom e in absurd cc
    by_before looks is AtStep e = look_is (may_look is)
    by_before looks is Spent e = absurd cc
    by_before looks is NoRoom e = absurd cc
    by_before steps is AtStep e = act_is choice (may_step choice (subst (MayStep x m choice t) (sym is) (here_may m.storage (malloc_choice m.storage) (malloc_may m.storage) t.top.own (malloc_tries m.storage) (x.flow.here t.top.at))))
    by_before steps is Spent e = absurd cc
    by_before steps is NoRoom e = absurd cc
    by_before (stages.calls function) is AtStep e = let bad = no_room_only _ AtStep e in absurd cc
    by_before (stages.calls function) is Spent e = let bad = no_room_only _ Spent e in absurd cc
    by_before (stages.calls function) is NoRoom e =
        subst (AreEvents (act number plain ∷ [])) (no_choice function is plain choice) (act_is plain (may_step plain (subst (MayStep x m plain t) (sym is) (no_room (room_for x t function) e, refl))))
    by_before stages.turn_over is stop e = absurd cc
    by_before stages.nothing is stop e = absurd cc

    in_call : (stop : Stop) → stop_before x most turns t (before x t) ≡ Some stop → IsTheEvent x s number stage stop
    in_call stop e = let h = by_before (before x t) refl stop e in record { allowed = h.allowed; after = h.after }

pub act_is_its_event : ActIsItsEvent
act_is_its_event x s number most turns (starts function argument) stop goes_on each own e = by stop (no_room_only _ stop e) e where
  by : (stop : Stop) → stop ≡ NoRoom → stop_at x most turns (starts function argument) ≡ Some stop → IsTheEvent x s number (starts function argument) stop
  by AtStep is e = absurd cc
  by Spent is e = absurd cc
  by NoRoom is e = let h = act_is x s number (starts function argument) goes_on each own plain (no_room _ e, refl) in record { allowed = h.allowed; after = h.after }
act_is_its_event x s number most turns (going t) stop goes_on each own e =
    in_call x s number (going t) goes_on each own most turns (λ c h. h) (λ h. h) (λ function is c d. rw is refl) stop e
act_is_its_event x s number most turns (waiting t) stop goes_on each own e =
    in_call x s number (waiting t) goes_on each own most turns (λ c h. h) (λ h. h) (λ function is c d. rw is refl) stop e
act_is_its_event x s number most turns (landed list t) stop goes_on each own e =
    in_call x s number (landed list t) goes_on each own most turns (λ c h. h) (λ h. h) (λ function is c d. rw is refl) stop e
