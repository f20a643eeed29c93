-- So do steps, Looks and allocations that are served.
use Rattle.std.proofs.Common.{◌≡◌, ℕ, ◌==◌, Bool, true, false, cond, List, [], ◌∷◌, ◌++◌, map, Option, Some, None, refl, sym, ap, subst, inr}
use Rattle.std.specs.Prelude.{slice_get}
use Rattle.struct_ir.specs.Flow.{Here, does, tests, passes, round, returns}
use Rattle.struct_ir.specs.Linear.{Spot}
use Rattle.struct_ir.specs.Machine.{Point}
use Rattle.struct_ir.specs.Nodes.{Action, load, store, copy_bytes, malloc, calloc, realloc, free, change, compare, print, lock, unlock, destroy, start, join, set, call, step, look, safepoint, begin_object, end_object}
use Rattle.struct_ir.specs.Threads.{Thread, serves, refuses, Outcome, went, ended, blocked, broke, unfit, behind, finished, if_fits, left_call, served, stop_at}
use Rattle.flat_meaning.specs.Accesses as actions
use Rattle.flat_meaning.specs.Accesses.{Choice, Done, Fault, is_plain, plain}
use Rattle.flat_meaning.specs.Effects as effects
use Rattle.flat_meaning.specs.Effects.{Effect, act_before, act_effect, end_of, exit_of, landing, look_before, look_effect, no_effect, ends_run, own_list_of, serve_effect, step_effect, stop_of}
use Rattle.flat_meaning.specs.Image.{Image}
use Rattle.flat_meaning.specs.Machine.{given, looked, served_by, words_machine, words_world}
use Rattle.flat_meaning.specs.Memory.{Memory, thread_ended}
use Rattle.flat_meaning.specs.Stages.{Before, Stage, before, calls, can_advance, going, landed, looks, nothing, room_for, safe, starts, steps, thread_at, turn_over, waiting}
use Rattle.flat_meaning.specs.Touched.{Touched, objects_touched_at, touched_at}
use Rattle.flat_meaning.specs.Words.{Words, set_if, target_of, with_temps, word_at}
use Rattle.ak_trace.specs.declared.endings.End.{End}
use Rattle.ak_trace.specs.declared.endings.End.TheVariants as ends
use Rattle.flat_simulation.specs.TouchedAlone.{ChangesWritten, HasItsRoom, HasRoomHere, HasRoomThere, ReadsSame, SameEffect, SameMemory, StepsTouchAlone, TouchesAlone, touched_there, with_other}
use Rattle.flat_simulation.proofs.TouchedAlone.{Both, acts_alone}

module _ (y : Image Spot) (thread : ℕ) (choice : Choice) (t : Thread Spot Words) (m : Memory) where
  -- the memory that an outcome leaves
  abbrev left_by : Outcome Spot Words Fault Memory → Memory
  left_by (went q after) = after
  left_by (ended l after) = after
  left_by blocked = m
  left_by (broke f) = m
  left_by unfit = m

  abbrev OutcomeAlone : List Touched → Outcome Spot Words Fault Memory → Type 0
  OutcomeAlone touched o = ChangesWritten touched m.storage.bytes (left_by o).storage.bytes

  -- the same came of it
  abbrev SameOutcome : List ℕ → Outcome Spot Words Fault Memory → Outcome Spot Words Fault Memory → Type 0
  SameOutcome other (went q after) (went r later) = (r ≡ q) × SameMemory m.storage.bytes other after later
  SameOutcome other (ended l after) (ended k later) = (k ≡ l) × SameMemory m.storage.bytes other after later
  SameOutcome other blocked blocked = Unit {0}
  SameOutcome other (broke f) (broke g) = g ≡ f
  SameOutcome other unfit unfit = Unit {0}
  SameOutcome other o p = ⊥

  still : (touched : List Touched) → ChangesWritten touched m.storage.bytes m.storage.bytes
  still touched = record { size = refl; others = λ address is not. refl }

  module _ (other : List ℕ) where
    abbrev n : Memory
    n = with_other m other

    -- with what is touched, and bytes that are the same where it is read
    abbrev Outcomes : List Touched → Outcome Spot Words Fault Memory → Outcome Spot Words Fault Memory → Type 0
    Outcomes touched o p = OutcomeAlone touched o × SameOutcome other o p

    done : (touched : List Touched) (same : ReadsSame touched m.storage.bytes other) (to : Option ℕ) (d e : Done) → Both touched m other same d e → Outcomes touched (served y.flow t (served_by t.top.own to d)) (served y.flow t (served_by t.top.own to e))
    done touched same to (actions.went None after) (actions.went None later) h = (h.0, (refl, h.1.1))
    done touched same to (actions.went None after) (actions.went (Some v) later) h = let bad = h.1.0 in absurd cc
    done touched same to (actions.went (Some w) after) (actions.went None later) h = let bad = h.1.0 in absurd cc
    done touched same to (actions.went (Some w) after) (actions.went (Some v) later) h =
        let e : v ≡ w = let x = h.1.0 in cc in
        (h.0, (ap (λ (z : ℕ). record { top = behind y.flow t.top (with_temps t.top.own (set_if t.top.own.temps to z)); callers = t.callers }) e, h.1.1))
    done touched same to actions.waits actions.waits h = (still touched, tt)
    done touched same to actions.unfit actions.unfit h = (still touched, tt)
    done touched same to (actions.over f) (actions.over g) h = (still touched, h.1)
    done touched same to (actions.went w after) actions.waits h = absurd h.1
    done touched same to (actions.went w after) actions.unfit h = absurd h.1
    done touched same to (actions.went w after) (actions.over g) h = absurd h.1
    done touched same to actions.waits (actions.went v later) h = absurd h.1
    done touched same to actions.waits actions.unfit h = absurd h.1
    done touched same to actions.waits (actions.over g) h = absurd h.1
    done touched same to actions.unfit (actions.went v later) h = absurd h.1
    done touched same to actions.unfit actions.waits h = absurd h.1
    done touched same to actions.unfit (actions.over g) h = absurd h.1
    done touched same to (actions.over f) (actions.went v later) h = absurd h.1
    done touched same to (actions.over f) actions.waits h = absurd h.1
    done touched same to (actions.over f) actions.unfit h = absurd h.1

    -- the bytes are nothing to it
    same_memory : SameMemory m.storage.bytes other m (with_other m other)
    same_memory = record { is = refl; bytes = λ address is. inr (refl, refl) }

    fits : (b : Bool) (o p : Outcome Spot Words Fault Memory) → Outcomes [] o p → Outcomes [] (if_fits b o) (if_fits b p)
    fits true o p h = h
    fits false o p h = (still [], tt)

    misfit : Outcomes [] unfit unfit
    misfit = (still [], tt)

    -- a first function has returned
    returned : (b : Bool) (l : Words) (word : ℕ) → Outcomes [] (finished (cond b (serves l (thread_ended m thread word)) refuses)) (finished (cond b (serves l (thread_ended (with_other m other) thread word)) refuses))
    returned true l word = (still [], (refl, record { is = refl; bytes = λ address is. inr (refl, refl) }))
    returned false l word = misfit

    leaves : (temp : Option ℕ) (callers : List (Point Spot Words)) → Outcomes [] (left_call y.flow (words_world y.layout thread) choice t.top.own temp m callers) (left_call y.flow (words_world y.layout thread) choice t.top.own temp (with_other m other) callers)
    leaves temp [] = returned (is_plain choice) t.top.own (given t.top.own temp)
    leaves temp (c ∷ callers) = fits (is_plain choice) _ _ (still [], (refl, same_memory))

    served_plain : (b : Bool) (l : Words) → Outcomes [] (served y.flow t (cond b (serves l m) refuses)) (served y.flow t (cond b (serves l (with_other m other)) refuses))
    served_plain true l = (still [], (refl, same_memory))
    served_plain false l = misfit

    -- by what stands there
    by_here : (h : Here) (same : ReadsSame (objects_touched_at choice t.top.own m h ++ touched_at y.layout t.top.own m h) m.storage.bytes other) → HasRoomHere m.storage choice t.top.own h
        → Outcomes (objects_touched_at choice t.top.own m h ++ touched_at y.layout t.top.own m h) (stop_at y.flow (words_machine y.layout thread) (words_world y.layout thread) y.start choice t m h) (stop_at y.flow (words_machine y.layout thread) (words_world y.layout thread) y.start choice t (with_other m other) h)
    by_here (does place (set to calc)) same room = misfit
    by_here (does place (call c)) same room = fits (is_plain choice) _ _ (still [], (refl, same_memory))
    by_here (does place (step s)) same room =
        done (objects_touched_at choice t.top.own m (does place (step s)) ++ touched_at y.layout t.top.own m (does place (step s))) same s.to _ _ (acts_alone y.layout thread choice m other s.action (map (target_of t.top.own) s.places) (map (word_at t.top.own) s.temps) same room)
    by_here (does place (look slot base)) same room = served_plain (is_plain choice) (looked m.storage t.top.own slot (word_at t.top.own base))
    by_here (does place (safepoint slots)) same room = served_plain (is_plain choice) t.top.own
    by_here (does place (begin_object i)) same room = misfit
    by_here (does place (end_object i)) same room = misfit
    by_here (tests place temp) same room = misfit
    by_here passes same room = misfit
    by_here round same room = fits (is_plain choice) _ _ (still [], (refl, same_memory))
    by_here (returns temp) same room = leaves temp t.callers

-- ---- effects

module _ (y : Image Spot) (thread : ℕ) (choice : Choice) (stage : Stage Spot) (t : Thread Spot Words) (m : Memory) where
  abbrev touched : List Touched
  touched = objects_touched_at choice t.top.own m (y.flow.here t.top.at) ++ touched_at y.layout t.top.own m (y.flow.here t.top.at)

  abbrev ExitOf : Memory → Option End
  ExitOf after = cond (thread == 0) (exit_of (slice_get after.threads 0)) None

  module _ (other : List ℕ) where
    unmoved : SameMemory m.storage.bytes other m (with_other m other)
    unmoved = record { is = refl; bytes = λ address is. inr (refl, refl) }

    outcome_same : (list : Option (List ℕ)) (o p : Outcome Spot Words Fault Memory) → SameOutcome y thread choice t m other o p
        → SameEffect m.storage.bytes other (effects.effect_of_outcome thread stage t list m o) (effects.effect_of_outcome thread stage t list (with_other m other) p)
    outcome_same list (went q after) (went r later) h = record { stage = ap (λ (z : Thread Spot Words). Some (landing list z)) h.0; end = refl; memory = h.1 }
    outcome_same list (ended l after) (ended k later) h = record { stage = refl; end = ap ExitOf h.1.is; memory = h.1 }
    outcome_same list blocked blocked h = record { stage = refl; end = refl; memory = unmoved }
    outcome_same list (broke f) (broke g) h = record { stage = refl; end = ap (λ (z : Fault). Some (end_of z)) h; memory = unmoved }
    outcome_same list unfit unfit h = record { stage = refl; end = refl; memory = unmoved }
    outcome_same list (went q after) (ended k later) h = absurd h
    outcome_same list (went q after) blocked h = absurd h
    outcome_same list (went q after) (broke g) h = absurd h
    outcome_same list (went q after) unfit h = absurd h
    outcome_same list (ended l after) (went r later) h = absurd h
    outcome_same list (ended l after) blocked h = absurd h
    outcome_same list (ended l after) (broke g) h = absurd h
    outcome_same list (ended l after) unfit h = absurd h
    outcome_same list blocked (went r later) h = absurd h
    outcome_same list blocked (ended k later) h = absurd h
    outcome_same list blocked (broke g) h = absurd h
    outcome_same list blocked unfit h = absurd h
    outcome_same list (broke f) (went r later) h = absurd h
    outcome_same list (broke f) (ended k later) h = absurd h
    outcome_same list (broke f) blocked h = absurd h
    outcome_same list (broke f) unfit h = absurd h
    outcome_same list unfit (went r later) h = absurd h
    outcome_same list unfit (ended k later) h = absurd h
    outcome_same list unfit blocked h = absurd h
    outcome_same list unfit (broke g) h = absurd h

  acted_memory : (list : Option (List ℕ)) (o : Outcome Spot Words Fault Memory) → (effects.effect_of_outcome thread stage t list m o).memory ≡ left_by y thread choice t m o
  acted_memory list (went q after) = refl
  acted_memory list (ended l after) = refl
  acted_memory list blocked = refl
  acted_memory list (broke f) = refl
  acted_memory list unfit = refl

  -- a step
  step_alone : HasRoomHere m.storage choice t.top.own (y.flow.here t.top.at) → TouchesAlone touched (step_effect y thread choice stage t) m
  step_alone room = record {
    writes = subst (λ (z : Memory). ChangesWritten touched m.storage.bytes z.storage.bytes) (sym (acted_memory (own_list_of (y.flow.here t.top.at)) (stop_of y thread choice t m)))
        (by_here y thread choice t m m.storage.bytes (y.flow.here t.top.at) (record { size = refl; same = λ address is t. refl }) room).0;
    reads = λ other same. outcome_same other (own_list_of (y.flow.here t.top.at)) _ _ (by_here y thread choice t m other (y.flow.here t.top.at) same room).1;
  }

  -- nothing is done to memory
  nothing_done : (e : Memory → Effect Spot) → ((n : Memory) → e n ≡ record { memory = n; stage = (e m).stage; end = (e m).end }) → TouchesAlone touched e m
  nothing_done e is = record {
    writes = subst (λ (z : Memory). ChangesWritten touched m.storage.bytes z.storage.bytes) (sym (ap (λ (f : Effect Spot). f.memory) (is m))) (record { size = refl; others = λ address there not. refl });
    reads = λ other same.
        subst (λ (f : Effect Spot). SameEffect m.storage.bytes other (e m) f) (sym (is (with_other m other)))
        (record { stage = refl; end = refl; memory = subst (λ (z : Memory). SameMemory m.storage.bytes other z (with_other m other)) (sym (ap (λ (f : Effect Spot). f.memory) (is m))) (unmoved other) });
  }

  room_alone : (b : Bool) (end : End) → TouchesAlone touched (λ n. cond b (no_effect n stage) (ends_run n stage end)) m
  room_alone true end = nothing_done (λ n. no_effect n stage) (λ n. refl)
  room_alone false end = nothing_done (λ n. ends_run n stage end) (λ n. refl)

  before_acts : (b : Before) → HasRoomHere m.storage choice t.top.own (y.flow.here t.top.at) → TouchesAlone touched (λ n. act_before y thread choice stage t n b) m
  before_acts safe room = nothing_done (λ n. no_effect n stage) (λ n. refl)
  before_acts looks room = nothing_done (λ n. no_effect n stage) (λ n. refl)
  before_acts steps room = step_alone room
  before_acts (calls function) room = room_alone (room_for y t function) (ends.StackLimit thread)
  before_acts turn_over room = nothing_done (λ n. no_effect n stage) (λ n. refl)
  before_acts nothing room = nothing_done (λ n. no_effect n stage) (λ n. refl)

module _ (y : Image Spot) (thread : ℕ) (stage : Stage Spot) (t : Thread Spot Words) (m : Memory) where
  -- a choice of nothing asks for no room
  no_room : (h : Here) → HasRoomHere m.storage plain t.top.own h
  no_room (does place (step s)) = of_action s.action (map (word_at t.top.own) s.temps)
    where
      of_action : (a : Action) (ws : List ℕ) → HasItsRoom m.storage plain a ws
      of_action calloc [] = tt
      of_action calloc (w ∷ []) = tt
      of_action calloc (w ∷ v ∷ []) = tt
      of_action calloc (w ∷ v ∷ u ∷ ws) = tt
      of_action realloc [] = tt
      of_action realloc (w ∷ []) = tt
      of_action realloc (w ∷ v ∷ []) = tt
      of_action realloc (w ∷ v ∷ u ∷ ws) = tt
      of_action malloc ws = tt
      of_action (load how) ws = tt
      of_action (store how) ws = tt
      of_action (copy_bytes align same) ws = tt
      of_action free ws = tt
      of_action (change how n) ws = tt
      of_action (compare n) ws = tt
      of_action (print pieces) ws = tt
      of_action lock ws = tt
      of_action unlock ws = tt
      of_action destroy ws = tt
      of_action (start function) ws = tt
      of_action join ws = tt
  no_room (does place (set to calc)) = tt
  no_room (does place (call c)) = tt
  no_room (does place (look slot base)) = tt
  no_room (does place (safepoint slots)) = tt
  no_room (does place (begin_object i)) = tt
  no_room (does place (end_object i)) = tt
  no_room (tests place temp) = tt
  no_room passes = tt
  no_room round = tt
  no_room (returns temp) = tt

  before_looks : (b : Before) → TouchesAlone (objects_touched_at plain t.top.own m (y.flow.here t.top.at) ++ touched_at y.layout t.top.own m (y.flow.here t.top.at)) (λ n. look_before y thread stage t n b) m
  before_looks safe = nothing_done y thread plain stage t m (λ n. no_effect n stage) (λ n. refl)
  before_looks looks = step_alone y thread plain stage t m (no_room (y.flow.here t.top.at))
  before_looks steps = nothing_done y thread plain stage t m (λ n. no_effect n stage) (λ n. refl)
  before_looks (calls function) = nothing_done y thread plain stage t m (λ n. no_effect n stage) (λ n. refl)
  before_looks turn_over = nothing_done y thread plain stage t m (λ n. no_effect n stage) (λ n. refl)
  before_looks nothing = nothing_done y thread plain stage t m (λ n. no_effect n stage) (λ n. refl)

-- ---- the law

module _ (y : Image Spot) (thread : ℕ) (choice : Choice) (m : Memory) where
  acts_so : (stage : Stage Spot) → HasRoomThere y m choice stage → TouchesAlone (touched_there y m choice stage) (act_effect y thread choice stage) m
  acts_so (starts function argument) room = room_alone y thread choice (starts function argument) (thread_at y (starts function argument)) m (can_advance y (starts function argument)) (ends.StackLimit thread)
  acts_so (going t) room = before_acts y thread choice (going t) t m (before y t) room
  acts_so (waiting t) room = before_acts y thread choice (waiting t) t m (before y t) room
  acts_so (landed list t) room = before_acts y thread choice (landed list t) t m (before y t) room

  looks_so : (stage : Stage Spot) → TouchesAlone (touched_there y m plain stage) (look_effect y thread stage) m
  looks_so (starts function argument) = nothing_done y thread plain (starts function argument) (thread_at y (starts function argument)) m (λ n. no_effect n (starts function argument)) (λ n. refl)
  looks_so (going t) = before_looks y thread (going t) t m (before y t)
  looks_so (waiting t) = before_looks y thread (waiting t) t m (before y t)
  looks_so (landed list t) = before_looks y thread (landed list t) t m (before y t)

  serves_so : (stage : Stage Spot) → HasRoomThere y m choice stage → TouchesAlone (touched_there y m choice stage) (serve_effect y thread choice stage) m
  serves_so (starts function argument) room = nothing_done y thread choice (starts function argument) (thread_at y (starts function argument)) m (λ n. no_effect n (starts function argument)) (λ n. refl)
  serves_so (going t) room = nothing_done y thread choice (going t) t m (λ n. no_effect n (going t)) (λ n. refl)
  serves_so (waiting t) room = step_alone y thread choice (waiting t) t m room
  serves_so (landed list t) room = nothing_done y thread choice (landed list t) t m (λ n. no_effect n (landed list t)) (λ n. refl)

pub steps_touch_alone : StepsTouchAlone
steps_touch_alone y thread choice stage m = record { acts = acts_so y thread choice m stage; looks = looks_so y thread choice m stage; serves = serves_so y thread choice m stage }
