-- Objects and table agree in each state that a journal leads to.
use Rattle.std.proofs.Common.{◌≡◌, Bool, true, false, ℕ, ◌+◌, ◌<◌, List, [], ◌∷◌, length, replicate, set, Option, Some, None, refl, sym, ap, ◌∙◌, subst, arith, inl, inr}
use Rattle.std.specs.Prelude.{◌⊎◌, All, count_by}
use Rattle.ak_trace.specs.declared.entry.Entry.{Entry}
use Rattle.std.proofs.lemmas.List.{length-replicate, length-set}
use Rattle.arena_meaning.specs.Arena.{IsConsistent}
use Rattle.struct_ir.specs.Instrs.{LinearCode}
use Rattle.struct_ir.specs.Linear.{Spot}
use Rattle.flat_meaning.specs.declared.endings.Stop.{Stop}
use Rattle.flat_meaning.specs.Events as events
use Rattle.ak_trace.specs.declared.endings.End.{End}
use Rattle.flat_meaning.specs.Local.{stop_at}
use Rattle.flat_meaning.specs.Stages.{Stage}
use Rattle.flat_rules.specs.Events.{Goes, on, back, away, most_local, turned_by}
use Rattle.flat_rules.specs.Lawful.{AreHome, Clears, IsOfRun, IsOpened, Lives, Sweeps}
use Rattle.flat_rules.specs.Machine.{Machine, cleared, steps, sweep}
use Rattle.flat_rules.specs.Replays.{step, run}
use Rattle.flat_rules.specs.Rules.{Rules}
use Rattle.flat_rules.specs.States.{RunState, out, Mood, free, asked, homes_of, is_out, place_at, start}
use Rattle.flat_rules.specs.inner.Cases.{Cases, Holds, event_holds, same_number}
use Rattle.flat_rules.specs.inner.Steps.{run_keeps, step_cases}
use Rattle.flat_threads.specs.Belonging.{HasStopped, IsContextOf}
use Rattle.flat_threads.specs.Contexts.{Context, own_image}
use Rattle.flat_threads.specs.Going.{gone_on}
use Rattle.flat_rules.proofs.Clearing.{home_on}
use Rattle.world_rules.proofs.Invariant.{Invariant, keeps as invariant_keeps, moved, none_ends, starts}
use Rattle.world_rules.proofs.MoveKeeps.{may_sweep, of_run}
use Rattle.world_rules.proofs.Sits.{Moved, Sit, lives}
use Rattle.flat_machine.specs.Acting.{acted_by, effect_if}
use Rattle.flat_machine.specs.Clearing.{cleared_by, evacuation_of}
use Rattle.flat_machine.specs.Laws.{IsTheBarrier, IsTheEvacuation, IsTheEvent, barrier_of, events_of}
use Rattle.flat_machine.specs.Machine.{machine_of, progress_of}
use Rattle.flat_machine.specs.Shares.{Shared, IsSharedOf, image_of}
use Rattle.flat_machine.specs.Sweeping.{at_home, swept_by}
use Rattle.flat_machine.specs.lemmas.Homes.{own_at_set}
use Rattle.flat_machine.specs.lemmas.MachineIsFlat.{machine_is_flat}
use Rattle.flat_machine.proofs.ActEvents.{act_is_its_event}
use Rattle.flat_machine.proofs.BarrierEvents.{barrier_is_its_event}
use Rattle.flat_machine.proofs.EvacuationEvents.{evacuation_is_its_event}
use Rattle.flat_simulation.proofs.Barriers.{after_all_agrees}
use Rattle.flat_threads.proofs.Settings.{same_stop}

-- ---- a step

-- a context before its pending step has stopped
pub record Pends (c : Context) : Type 0 where
  pub stage : Stage Spot
  pub at_stage : c.stage ≡ Some stage
  pub stop : Stop
  pub stopped : c.stop ≡ Some stop

pub pends : (c : Context) → progress_of c.stage c.stop ≡ steps → Pends c
pends c is = by c.stage c.stop refl refl is where
  by : (stage : Option (Stage Spot)) (stop : Option Stop) → c.stage ≡ stage → c.stop ≡ stop → progress_of stage stop ≡ steps → Pends c
  by None stop p q is = absurd cc
  by (Some stage) None p q is = absurd cc
  by (Some stage) (Some stop) p q is = record { stage = stage; at_stage = p; stop = stop; stopped = q }

module _ (code : LinearCode) (s : Shared) where
  -- a state in which one thread alone has a stage
  abbrev pub alone : (number : ℕ) → Stage Spot → events.MachineState Spot
  alone number stage = record { memory = s.memory; own = set (replicate (length s.memory.threads) None) number (Some stage); end = None }

  none_yet : length (replicate {A = Option (Stage Spot)} (length s.memory.threads) None) ≡ length s.memory.threads
  none_yet = length-replicate (length s.memory.threads) None

  -- its step is an event
  pub step_event : (number : ℕ) (stage : Stage Spot) (stop : Stop) → number < length s.memory.threads → HasStopped (own_image code) (Some stage) stop → IsTheEvent (image_of code s) (alone number stage) number stage stop
  step_event number stage stop below stopped =
      let h = s.memory.storage.heaps in
      let same : stage ≡ stopped.at_stage = let e = stopped.is in cc in
      act_is_its_event (image_of code s) (alone number stage) number stopped.most stopped.turns stage stop refl
      (length-set (replicate (length s.memory.threads) None) number (Some stage) ∙ none_yet)
      (own_at_set (replicate (length s.memory.threads) None) number (Some stage) (omega (arith, below, none_yet)))
      (same_stop code s.output_limit h.count h.size h.most number stopped.most stopped.turns stage ∙ ap (stop_at (own_image code) stopped.most stopped.turns) same ∙ stopped.stops)

  effect_agrees : IsConsistent s.memory.storage → (number : ℕ) (stage : Stage Spot) (stop : Stop) → number < length s.memory.threads → HasStopped (own_image code) (Some stage) stop → IsConsistent (effect_if (image_of code s) number s.memory (Some stage) (Some stop)).memory.storage
  effect_agrees agree number stage stop below stopped =
      let e = step_event number stage stop below stopped in
      subst (λ (st : events.MachineState Spot). IsConsistent st.memory.storage) e.after
      (after_all_agrees (image_of code s) (events_of (image_of code s) number s.memory stage stop) (alone number stage) agree e.allowed)

  -- what act leaves
  pub act_agrees : (c : Context) → Lives (machine_of code) (IsSharedOf code) (IsContextOf code) s c → progress_of c.stage c.stop ≡ steps → IsConsistent s.memory.storage → IsConsistent (acted_by code s c).shared.memory.storage
  act_agrees c lives pending agree =
      let p = pends c pending in
      let stopped : HasStopped (own_image code) (Some p.stage) p.stop = subst (λ (o : Option (Stage Spot)). HasStopped (own_image code) o p.stop) p.at_stage (lives.context.stopped p.stop p.stopped) in
      subst (λ (o : Option (Stage Spot)). IsConsistent (effect_if (image_of code s) c.number s.memory o c.stop).memory.storage) (sym p.at_stage)
      (subst (λ (o : Option Stop). IsConsistent (effect_if (image_of code s) c.number s.memory (Some p.stage) o).memory.storage) (sym p.stopped)
      (effect_agrees agree c.number p.stage p.stop lives.made stopped))

  -- ---- an evacuation

  pub clear_agrees : (home : List (Option Context)) → IsTheEvacuation code s home → IsConsistent s.memory.storage → IsConsistent (cleared_by code s home).shared.memory.storage
  clear_agrees home v agree =
      subst (λ (st : events.MachineState Spot). IsConsistent st.memory.storage) (sym v.after)
      (after_all_agrees (image_of code s) (evacuation_of (image_of code s) (at_home s home) ∷ []) (at_home s home) agree v.allowed)

  -- ---- a barrier

  pub sweep_agrees : (home : List (Option Context)) → IsTheBarrier code s home → IsConsistent s.memory.storage → IsConsistent (swept_by code s home).shared.memory.storage
  sweep_agrees home b agree =
      subst (λ (st : events.MachineState Spot). IsConsistent st.memory.storage) (sym b.after)
      (after_all_agrees (image_of code s) (barrier_of (image_of code s) (at_home s home) ∷ []) (at_home s home) agree b.allowed)

-- ---- all entries

module _ (code : LinearCode) (rules : Rules) where
  abbrev m : Machine Shared Context
  m = machine_of code

  abbrev Held : RunState Shared Context → Type 0
  Held = Invariant m (IsSharedOf code) (IsContextOf code) rules

  abbrev Agrees : RunState Shared Context → Type 0
  Agrees x = IsConsistent x.shared.memory.storage

  module _ (x : RunState Shared Context) (held : Held x) (going : x.ending ≡ None) where
    sits : Sit m (IsContextOf code) x.shared None x.places
    sits = subst (λ (e : Option End). Sit m (IsContextOf code) x.shared e x.places) going held.each

    -- who is at home where none is out
    pub all_here : All (IsOfRun m (IsContextOf code)) (homes_of x.places)
    all_here = of_run m (IsContextOf code) (IsSharedOf code) (machine_is_flat code) x.shared x.places held.of_ held.few sits

    module _ (none : count_by is_out x.places ≡ 0) where
      home_here : AreHome m x.shared (homes_of x.places)
      home_here = may_sweep m (IsContextOf code) (IsSharedOf code) (machine_is_flat code) x.shared x.places held.of_ held.few sits held.places none

      clears_here : Clears m (IsSharedOf code) x.shared (cleared_by code x.shared (homes_of x.places))
      clears_here = (machine_is_flat code).clears x.shared (homes_of x.places) held.of_ all_here home_here

      -- what threads share behind an evacuation is that of the run, and who was at home is there
      pub middle_of_run : (asks : Bool) → IsSharedOf code (cleared m asks x.shared (homes_of x.places)).shared
      middle_of_run false = held.of_
      middle_of_run true = clears_here.of_

      middle_home : (asks : Bool) → AreHome m (cleared m asks x.shared (homes_of x.places)).shared (homes_of x.places)
      middle_home false = home_here
      middle_home true = home_on m (IsSharedOf code) (IsContextOf code) (machine_is_flat code) x.shared (homes_of x.places) home_here (cleared_by code x.shared (homes_of x.places)) clears_here

      -- what a barrier does there
      pub swept_here : (asks : Bool) → Sweeps m (IsSharedOf code) (IsContextOf code) (cleared m asks x.shared (homes_of x.places)).shared (homes_of x.places) (sweep m asks x.shared (homes_of x.places))
      swept_here asks = (machine_is_flat code).sweeps (cleared m asks x.shared (homes_of x.places)).shared (homes_of x.places) (middle_of_run asks) all_here (middle_home asks)

      module _ (agree : Agrees x) where
        -- an evacuation is an event
        pub evacuation_here : IsTheEvacuation code x.shared (homes_of x.places)
        evacuation_here = evacuation_is_its_event code x.shared (homes_of x.places) held.of_ agree.heaps all_here home_here

        pub middle_agrees : (asks : Bool) → IsConsistent (cleared m asks x.shared (homes_of x.places)).shared.memory.storage
        middle_agrees false = agree
        middle_agrees true = clear_agrees code x.shared (homes_of x.places) evacuation_here agree

        -- and so is the barrier behind it
        pub barrier_here : (asks : Bool) → IsTheBarrier code (cleared m asks x.shared (homes_of x.places)).shared (homes_of x.places)
        barrier_here asks = let h : IsConsistent (cleared m asks x.shared (homes_of x.places)).shared.memory.storage = middle_agrees asks in
            barrier_is_its_event code (cleared m asks x.shared (homes_of x.places)).shared (homes_of x.places) (middle_of_run asks) h.heaps all_here (middle_home asks)

    turned_agrees : (w t n k : ℕ) (mood : Mood) (c : Context) → place_at x.places t ≡ out w c n mood → (k ≡ 0) ⊎ (k ≡ most_local) → (g : Goes)
        → Agrees x → Agrees (turned_by m rules x w t (n + 1) mood (acted_by code x.shared (gone_on code k c)) g)
    turned_agrees w t n k mood c there bound g agree =
        by g (act_agrees code x.shared (gone_on code k c) (lives m (IsContextOf code) (IsSharedOf code) (machine_is_flat code) x.shared x.places held.of_ held.few sits w n c (gone_on code k c) mood there_still moved_on.of_ moved_on.progress) moved_on.progress agree)
      where
        moved_on : Moved m (IsContextOf code) t (gone_on code k c)
        moved_on = moved m (IsSharedOf code) (IsContextOf code) rules (machine_is_flat code) x held going w t n k c mood there bound

        there_still : place_at x.places (gone_on code k c).number ≡ out w c n mood
        there_still = ap (place_at x.places) moved_on.thread ∙ there

        by : (g : Goes) → IsConsistent (acted_by code x.shared (gone_on code k c)).shared.memory.storage → Agrees (turned_by m rules x w t (n + 1) mood (acted_by code x.shared (gone_on code k c)) g)
        by on h = h
        by back h = h
        by away h = h

    cases : (w : ℕ) → Agrees x → Cases m rules x w (λ v. Agrees v.after)
    cases w agree = record {
      begins = λ t c calm picked at. agree;
      leaves = λ t c calm picked at. agree;
      sweeps = λ want none. let quiet : count_by is_out x.places ≡ 0 = same_number _ 0 none in
          sweep_agrees code (cleared m rules.evacuates x.shared (homes_of x.places)).shared (homes_of x.places) (barrier_here quiet agree rules.evacuates) (middle_agrees quiet agree rules.evacuates);
      works = λ t n c at. turned_agrees w t n most_local free c at (inr refl) _ agree;
      rests = λ t n c at. turned_agrees w t n 0 asked c at (inl refl) _ agree;
      comes = λ t n c at. agree;
    }

  -- both
  pub record Good (x : RunState Shared Context) : Type 0 where
    pub held : Held x
    pub agrees : Agrees x

  pub good_keeps : (log : List Entry) (x : RunState Shared Context) (e : Entry) (y : RunState Shared Context) → Good x → step m rules x e ≡ Some y → Good y
  good_keeps log x e y good st = record {
    held = invariant_keeps m (IsSharedOf code) (IsContextOf code) rules (machine_is_flat code) log x e y good.held st;
    agrees = step_cases m rules x e y {R = Agrees y}
        (λ n. subst Agrees (sym n.is) good.agrees)
        (λ f. subst Agrees (sym f.is) (subst (Holds m rules x e.worker (λ v. Agrees v.after)) f.event (event_holds m rules x e.worker (λ v. Agrees v.after) (cases x good.held (none_ends x.ending _ f.live) e.worker good.agrees) e.kind e.thread)))
        st;
  }

  pub all_good : (first : Shared) → IsOpened m (IsSharedOf code) first → IsConsistent first.memory.storage → (log : List Entry) (x : RunState Shared Context) → run m rules log (start m rules first) ≡ Some x → Good x
  all_good first opened agree log x ran =
      run_keeps m rules (λ _ z. Good z) good_keeps [] log (start m rules first) x (record { held = starts m (IsSharedOf code) (IsContextOf code) rules (machine_is_flat code) first opened; agrees = agree }) ran
