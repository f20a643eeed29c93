-- Where a call has no room, the source's turn enters it, or breaks a rule.
use Rattle.std.proofs.Common.{◌≡◌, ℕ, List, [], ◌∷◌, Option, Some, None, refl, sym, ap, subst, ◌∙◌, inl, inr}
use Rattle.std.specs.Prelude.{All, if◌then◌else◌}
use Rattle.block_store.specs.declared.values.Answer.TheVariants as answers
use Rattle.block_store.specs.Actions.{World}
use Rattle.block_store.specs.Runs as runs
use Rattle.block_store.specs.Runs.{Pick, own_at, picked}
use Rattle.struct_ir.specs.Nodes.{Call, set, call, step, look, safepoint, begin_object, end_object, Ir}
use Rattle.struct_ir.specs.Flow.{Here, does, tests, passes, round, returns}
use Rattle.struct_ir.specs.Structured.{Position, structured}
use Rattle.struct_ir.specs.Threads.{Thread, Outcome, went, ended, blocked, broke, unfit, stop_at}
use Rattle.struct_ir.specs.meaning.Blocks.{Own, Fault, broken, wrong_kind, blocks_machine}
use Rattle.struct_ir.specs.meaning.Threads.{program_of, turned, start_in, blocks_world}
use Rattle.ak_trace.specs.declared.endings.End.{End}
use Rattle.ak_trace.specs.declared.endings.End.TheVariants as ends
use Rattle.flat_meaning.specs.Image.{Limits, Image, structured_image}
use Rattle.flat_meaning.specs.Words.{Words}
use Rattle.flat_meaning.specs.Memory.{Memory}
use Rattle.flat_meaning.specs.Accesses as flat
use Rattle.flat_meaning.specs.Accesses.{Choice}
use Rattle.flat_meaning.specs.Stages.{Stage, starts, going, waiting, landed, Before, safe, looks, steps, calls, turn_over, nothing, before_here, before_return, before}
use Rattle.flat_meaning.specs.Effects.{own_list_of, stop_of, effect_of_outcome, act_before, act_effect}
use Rattle.flat_meaning.specs.Events.{MachineState, act, put_if, after, end_or}
use Rattle.flat_meaning.specs.Allowed.{MayStep, MayStepAt, IsAllowed}
use Rattle.flat_meaning.specs.Order.{pick, tried_before, tried_at, tried_by}
use Rattle.flat_meaning.specs.Names.{Name}
use Rattle.flat_meaning.specs.Simulation.{AllComeOut}
use Rattle.flat_simulation.specs.Kinds.{TakesRightKinds}
use Rattle.flat_simulation.specs.LinearSteps.{Enters, HasBegun}
use Rattle.flat_simulation.specs.inner.Programs.{IsImage}
use Rattle.flat_simulation.specs.inner.Threads.{ThreadStands, StageStands, StateStands}
use Rattle.flat_simulation.specs.inner.Kept.{source_turn}
use Rattle.flat_simulation.proofs.Later.{fresh_thread}
use Rattle.flat_simulation.proofs.Stopping.{IsStop, Stopped, stops_or_breaks, left}
use Rattle.flat_simulation.proofs.Stepping.{there, turn_stops, turn_breaks}
use Rattle.flat_simulation.proofs.Follow.{one_all, Halts, tried_all, picked_is, is_right}

module _ (p : Ir) (limits : Limits) (image : IsImage (structured_image p limits) p) (names : List Name) (u : runs.State (Thread Position Own)) (s : MachineState Position) (stand : StateStands (structured_image p limits) p names u s)
    (goes_on : s.end ≡ None) (thread : ℕ) (right : TakesRightKinds p u thread) where
  abbrev y : Image Position
  y = structured_image p limits

  abbrev m : Memory
  m = s.memory

  module _ (number : ℕ) (choice : Choice) (k : Thread Position Own) (there_is : own_at u.own thread ≡ Some k) where
    -- what comes of the source's turn
    abbrev its_turn : Outcome Position Own Fault World
    its_turn = source_turn p thread answers.Plain k u.world

    -- this turn enters a call, or breaks a rule
    abbrev Entered : Pick → Type 0
    Entered r = Enters k (picked (program_of p) u r)

    -- ---- a thread before a call

    -- a turn with a fault breaks a rule
    fault_enters : (f : Fault) → its_turn ≡ broke f → Enters k (Some (turned its_turn))
    fault_enters (broken rule place) e = subst (λ o. Enters k (Some (turned o))) (sym e) tt
    fault_enters wrong_kind e = absurd (is_right p limits image names u s stand goes_on thread right answers.Plain k there_is e)

    -- a turn that comes to the call enters it
    call_enters : (q : Thread Position Words) → ThreadStands y p thread names u.world.blocks m.storage k q → (place : ℕ) (c : Call) → structured.here q.top.at ≡ does place (call c) → Enters k (Some (turned its_turn))
    call_enters q its place c here = elim (stops_or_breaks y p image thread names u.world m stand.world k q its stop) [
      | inl t ↦ subst (λ o. Enters k (Some (turned o))) (sym (turn_is t)) refl
      | inr b ↦ fault_enters b.0 (turn_breaks y p image thread (start_in p) names u.world m stand.world k q its stop answers.Plain b.0 b.1)
    ]
      where
        stop : IsStop (structured.here q.top.at)
        stop = subst IsStop (sym here) refl

        at_stop : Stopped y p image thread names u.world m stand.world k q its stop → Here → Outcome Position Own Fault World
        at_stop t h = stop_at structured (blocks_machine p) (blocks_world p thread) (start_in p) answers.Plain (there y p image thread (start_in p) names u.world m stand.world k q its stop t) (left y p image thread names u.world m stand.world k q its stop t) h

        turn_is : (t : Stopped y p image thread names u.world m stand.world k q its stop) → its_turn ≡ at_stop t (does place (call c))
        turn_is t = turn_stops y p image thread (start_in p) names u.world m stand.world k q its stop answers.Plain t ∙ ap (at_stop t) here

    -- a return is no call
    no_call : {A : Type 0} (cs : List A) (function : ℕ) → before_return cs ≡ calls function → ⊥
    no_call [] function e = absurd cc
    no_call (c ∷ cs) function e = absurd cc

    -- by what stands there
    here_enters : (q : Thread Position Words) → ThreadStands y p thread names u.world.blocks m.storage k q → (function : ℕ) (h : Here) → structured.here q.top.at ≡ h → before_here q.callers h ≡ calls function → Enters k (Some (turned its_turn))
    here_enters q its function (does place (call c)) here at = call_enters q its place c here
    here_enters q its function (does place (set to calc)) here at = absurd cc
    here_enters q its function (does place (step st)) here at = absurd cc
    here_enters q its function (does place (look slot base)) here at = absurd cc
    here_enters q its function (does place (safepoint slots)) here at = absurd cc
    here_enters q its function (does place (begin_object i)) here at = absurd cc
    here_enters q its function (does place (end_object i)) here at = absurd cc
    here_enters q its function (tests place temp) here at = absurd cc
    here_enters q its function passes here at = absurd cc
    here_enters q its function round here at = absurd cc
    here_enters q its function (returns temp) here at = absurd (no_call q.callers function at)

    -- ---- a thread that has begun

    module _ (g : Stage Position) (q : Thread Position Words) (its : ThreadStands y p thread names u.world.blocks m.storage k q) where
      -- how the run has ended behind a step
      abbrev end_of : Outcome Position Words flat.Fault Memory → Option End
      end_of o = end_or (effect_of_outcome thread g q (own_list_of (structured.here q.top.at)) m o).end s.end

      -- no step ends it for want of room
      no_step : (o : Outcome Position Words flat.Fault Memory) → end_of o ≡ Some (ends.StackLimit number) → Halts o → ⊥
      no_step (broke (flat.trap word kind)) end halts = absurd cc
      no_step (broke flat.output_limit) end halts = absurd cc
      no_step blocked end halts = (let both : None ≡ Some (ends.StackLimit number) = sym goes_on ∙ end in absurd cc)
      no_step (went r now) end halts = halts
      no_step (ended l now) end halts = halts
      no_step unfit end halts = halts

      begun_enters : (b : Before) → before y q ≡ b → MayStep y m choice q b → end_or (act_before y thread choice g q m b).end s.end ≡ Some (ends.StackLimit number) → AllComeOut p u (Enters k) (tried_before y m thread choice q b)
      begun_enters safe at may end = absurd may
      begun_enters looks at may end = absurd may
      begun_enters steps at may end =
          tried_all Entered thread choice (structured.here q.top.at) (stop_of y thread choice q m) (λ moving halts. absurd (no_step (stop_of y thread choice q m) end halts))
      begun_enters (calls function) at may end =
          let enters : Entered (pick thread answers.Plain) = subst (λ o. Enters k o) (sym (picked_is p limits image names u s stand goes_on thread answers.Plain k there_is)) (here_enters q its function (structured.here q.top.at) refl at) in
          subst (λ b. All Entered (if b then [] else pick thread answers.Plain ∷ [])) (sym may.0) (one_all Entered (pick thread answers.Plain) enters)
      begun_enters turn_over at may end = absurd may
      begun_enters nothing at may end = absurd may

    -- ---- by its stage

    abbrev Its : Stage Position → Type 0
    Its g = StageStands y p thread names u.world.blocks m.storage (Some k) (Some g)

    stage_enters : (g : Stage Position) → Its g → HasBegun g → MayStepAt y m choice (Some g) → (put_if s thread (act_effect y thread choice) (Some g)).end ≡ Some (ends.StackLimit number) → AllComeOut p u (Enters k) (tried_at y m thread choice (Some g))
    stage_enters (starts function argument) its begun may end = absurd begun
    stage_enters (going q) its begun may end = begun_enters (going q) q its (before y q) refl may end
    stage_enters (waiting q) its begun may end = begun_enters (waiting q) q its (before y q) refl may end
    stage_enters (landed list q) its begun may end =
        begun_enters (landed list q) q (fresh_thread y p thread names u.world.blocks m.storage k q stand.world.blocks.names_stand.each its.fresh) (before y q) refl may end

  pub act_enters : (number : ℕ) (choice : Choice) (t : Thread Position Own) (stage : Stage Position) → own_at u.own thread ≡ Some t → own_at s.own thread ≡ Some stage → HasBegun stage
      → IsAllowed y s (act thread choice) → (after y s (act thread choice)).end ≡ Some (ends.StackLimit number) → AllComeOut p u (Enters t) (tried_by y s (act thread choice))
  act_enters number choice t stage source_is e begun may end =
      let its : StageStands y p thread names u.world.blocks m.storage (Some t) (Some stage)
      = subst (λ o. StageStands y p thread names u.world.blocks m.storage o (Some stage)) source_is (subst (λ o. StageStands y p thread names u.world.blocks m.storage (own_at u.own thread) o) e (stand.threads thread)) in
      subst (λ o. AllComeOut p u (Enters t) (tried_at y m thread choice o)) (sym e)
      (stage_enters number choice t source_is stage its begun (subst (λ o. MayStepAt y m choice o) e may.1) (subst (λ o. (put_if s thread (act_effect y thread choice) o).end ≡ Some (ends.StackLimit number)) e end))
