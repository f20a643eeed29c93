-- The step that may come next touches what the source's turn reaches, where that breaks no rule.
use Rattle.std.proofs.Common.{◌≡◌, ◌≢◌, ℕ, true, List, Some, Result, Ok, Err, refl, sym, ap, subst, ◌∙◌, inl, inr}
use Rattle.block_store.specs.declared.values.Answer.{Answer}
use Rattle.block_store.specs.Actions as actions
use Rattle.block_store.specs.Actions.{World, Reached}
use Rattle.block_store.specs.Runs as runs
use Rattle.block_store.specs.Runs.{picked}
use Rattle.struct_ir.specs.Nodes.{set, call, Step, step, look, safepoint, begin_object, end_object, Ir}
use Rattle.struct_ir.specs.Flow.{Here, does, tests, passes, round, returns}
use Rattle.struct_ir.specs.Structured.{Position, structured}
use Rattle.struct_ir.specs.Valid.{scope_of, is_step}
use Rattle.struct_ir.specs.ValidCode.{is_here}
use Rattle.struct_ir.specs.Threads.{Thread, Outcome, broke, unfit, served, stop_at}
use Rattle.struct_ir.specs.meaning.Blocks.{Own, Fault, broken, wrong_kind, blocks_machine}
use Rattle.struct_ir.specs.meaning.Threads as source
use Rattle.struct_ir.specs.meaning.Threads.{program_of, turned, start_in, action_of, served_if, blocks_world}
use Rattle.flat_meaning.specs.Image.{Limits, Image, structured_image}
use Rattle.flat_meaning.specs.Words.{Words}
use Rattle.flat_meaning.specs.Memory.{Memory}
use Rattle.flat_meaning.specs.Accesses.{Choice, wait}
use Rattle.flat_meaning.specs.Stages.{steps, before_here, before}
use Rattle.flat_meaning.specs.Order.{pick, action_answer, answer_here, answer_of}
use Rattle.flat_meaning.specs.Names.{Name}
use Rattle.flat_meaning.specs.Stands.{PointStands}
use Rattle.flat_meaning.specs.Touched.{Touched, touched_at}
use Rattle.flat_meaning.specs.Reaching.{action_reads, reached_by_turn, StaysInBlocks, StepReaches, Unbroken}
use Rattle.flat_simulation.specs.inner.Programs.{IsImage}
use Rattle.flat_simulation.specs.inner.Worlds.{WorldStands}
use Rattle.flat_simulation.specs.inner.Threads.{ThreadStands}
use Rattle.flat_simulation.specs.inner.Operands.{StaysIf}
use Rattle.flat_simulation.specs.inner.Owning.{StepOwns}
use Rattle.flat_simulation.specs.inner.Kept.{source_turn}
use Rattle.flat_simulation.proofs.Public.{point_stands}
use Rattle.flat_simulation.proofs.Reached.{nothing_stays}
use Rattle.flat_simulation.proofs.Leads.{leads_there}
use Rattle.flat_simulation.proofs.Stays.{step_within}
use Rattle.flat_simulation.proofs.Stopping.{IsStop, Stopped, stops_or_breaks, left, stopped_world, stopped_stands}
use Rattle.flat_simulation.proofs.Stepping.{there, turn_stops, turn_breaks}
use Rattle.flat_simulation.proofs.Programs.{in_range}

module _ (p : Ir) (limits : Limits) (image : IsImage (structured_image p limits) p) (thread : ℕ) (names : List Name) (u : runs.State (Thread Position Own)) (m : Memory) (world : WorldStands (structured_image p limits).layout p names u.world m) (k : Thread Position Own) (q : Thread Position Words)
    (stand : ThreadStands (structured_image p limits) p thread names u.world.blocks m.storage k q) (choice : Choice) (moving : choice ≡ wait → ⊥) where
  abbrev x : Image Position
  x = structured_image p limits

  abbrev w : World
  w = u.world

  abbrev h : Here
  h = structured.here q.top.at

  abbrev answer : Answer
  answer = answer_of x m choice q

  module _ (stop : IsStop (structured.here q.top.at)) (is_picked : picked (program_of p) u (pick thread answer) ≡ Some (turned (source_turn p thread answer k w))) (right : source_turn p thread answer k w ≢ broke wrong_kind)
      (fits : source_turn p thread answer k w ≢ unfit) (unbroken : Unbroken (picked (program_of p) u (pick thread answer))) where
    abbrev Stop : Type 0
    Stop = Stopped x p image thread names w m world k q stand stop

    abbrev left_ : Stop → World
    left_ t = left x p image thread names w m world k q stand stop t

    -- a turn with a fault breaks a rule
    no_fault : (f : Fault) → source_turn p thread answer k w ≡ broke f → ⊥
    no_fault (broken rule place) e = subst Unbroken (is_picked ∙ ap (λ o. Some (turned o)) e) unbroken
    no_fault wrong_kind e = right e

    -- what its turn reaches
    abbrev Within : Stop → Outcome Position Own Fault World → Type 0
    Within t o = StaysInBlocks t.made_names m.storage (touched_at x.layout q.top.own m h) (reached_by_turn w t.own h (Some (turned o)))

    -- ---- at a step

    module _ (place : ℕ) (st : Step) (here : h ≡ does place (step st)) (t : Stop) where
      abbrev n : List Name
      n = t.made_names

      abbrev touched : List Touched
      touched = touched_at x.layout q.top.own m (does place (step st))

      turn_is : source_turn p thread answer k w ≡ served structured (there x p image thread (start_in p) names w m world k q stand stop t) (served_if place thread answer t.own st.to (left_ t) (action_of place t.own st))
      turn_is =
          turn_stops x p image thread (start_in p) names w m world k q stand stop answer t
          ∙ ap (λ z. stop_at structured (blocks_machine p) (blocks_world p thread) (start_in p) answer (there x p image thread (start_in p) names w m world k q stand stop t) (left_ t) z) here

      abbrev Reached_ : Outcome Position Own Fault World → List Reached
      Reached_ o = reached_by_turn w t.own (does place (step st)) (Some (turned o))

      done_within : (action : actions.SharedAction) (d : actions.Done) → action_of place t.own st ≡ Ok action → source_turn p thread answer k w ≡ served structured (there x p image thread (start_in p) names w m world k q stand stop t) (source.served_by place t.own st.to d)
          → StaysIf n m.storage touched (left_ t) action d → StaysInBlocks n m.storage touched (Reached_ (served structured (there x p image thread (start_in p) names w m world k q stand stop t) (source.served_by place t.own st.to d)))
      done_within action (actions.went v to) is e stays = stays
      done_within action actions.blocked is e stays = subst (λ r. StaysInBlocks n m.storage touched (action_reads (left_ t) r)) (sym is) stays
      done_within action actions.unfit is e stays = absurd (fits e)
      done_within action (actions.broke rule) is e stays = absurd (no_fault (broken rule place) e)

      its_action : (r : Result actions.SharedAction Fault) → action_of place t.own st ≡ r → StaysInBlocks n m.storage touched (Reached_ (source_turn p thread answer k w))
      its_action (Err f) is =
          absurd (no_fault f (turn_is ∙ ap (λ r. served structured (there x p image thread (start_in p) names w m world k q stand stop t) (served_if place thread answer t.own st.to (left_ t) r)) is))
      its_action (Ok action) is =
          let world_there = stopped_world x p image thread names w m world k q stand stop t in
          let stands_there = stopped_stands x p image thread names w m world k q stand stop t in
          let ok : is_step (scope_of p stand.frame.func) st ≡ true = subst (λ z. is_here (scope_of p stand.frame.func) z ≡ true) here (in_range x p image q.top.own stand.frame t.stands.way q.top.at t.stands.path) in
          let within = step_within x p thread n (left_ t) m world_there t.own refl q.top.own stands_there.call stand.frame place st choice ok
          (leads_there x p image thread n m.storage (record { at = q.top.at; own = t.own }) q.top world_there.blocks stands_there place st here) action is in
          let told : answer ≡ action_answer x m choice st.action = ap (answer_here x m choice) here in
          let e : source_turn p thread answer k w ≡ served structured (there x p image thread (start_in p) names w m world k q stand stop t) (source.served_by place t.own st.to (actions.acted (left_ t) thread answer action))
          = turn_is ∙ ap (λ r. served structured (there x p image thread (start_in p) names w m world k q stand stop t) (served_if place thread answer t.own st.to (left_ t) r)) is in
          subst (λ o. StaysInBlocks n m.storage touched (Reached_ o)) (sym e)
          (done_within action (actions.acted (left_ t) thread answer action) is e (subst (λ a. StaysIf n m.storage touched (left_ t) action (actions.acted (left_ t) thread a action)) (sym told) within))

      step_stays : Within t (source_turn p thread answer k w)
      step_stays = subst (λ z. StaysInBlocks n m.storage (touched_at x.layout q.top.own m z) (reached_by_turn w t.own z (Some (turned (source_turn p thread answer k w))))) (sym here) (its_action (action_of place t.own st) refl)

    -- by what stands there
    here_stays : (z : Here) → h ≡ z → before_here q.callers z ≡ steps → (t : Stop) → Within t (source_turn p thread answer k w)
    here_stays (does place (set to calc)) e at t = absurd cc
    here_stays (does place (call c)) e at t = absurd cc
    here_stays (does place (step st)) e at t = step_stays place st e t
    here_stays (does place (look slot base)) e at t = absurd cc
    here_stays (does place (safepoint slots)) e at t = absurd cc
    here_stays (does place (begin_object i)) e at t = absurd cc
    here_stays (does place (end_object i)) e at t = absurd cc
    here_stays (tests place temp) e at t = absurd cc
    here_stays passes e at t = absurd cc
    here_stays round e at t = absurd cc
    here_stays (returns temp) e at t =
        subst (λ z. StaysInBlocks t.made_names m.storage (touched_at x.layout q.top.own m z) (reached_by_turn w t.own z (Some (turned (source_turn p thread answer k w))))) (sym e) (nothing_stays t.made_names m.storage _)

    pub step_reaches : before x q ≡ steps → StepOwns x p names u m (pick thread answer) k q
    step_reaches at = elim (stops_or_breaks x p image thread names w m world k q stand stop) [
      | inl t ↦ reaches t
      | inr b ↦ absurd (no_fault b.0 (turn_breaks x p image thread (start_in p) names w m world k q stand stop answer b.0 b.1))
    ]
      where
        reaches : Stop → StepOwns x p names u m (pick thread answer) k q
        reaches t =
            let more = t.far.aged.first in
            let stays : StaysInBlocks t.made_names m.storage (touched_at x.layout q.top.own m h) (reached_by_turn w t.own h (picked (program_of p) u (pick thread answer)))
            = subst (λ o. StaysInBlocks t.made_names m.storage (touched_at x.layout q.top.own m h) (reached_by_turn w t.own h o)) (sym is_picked) (here_stays h refl at t) in
            let step : StepReaches x p names u m (pick thread answer) k q = record {
              made = more.0;
              stop = record { at = q.top.at; own = t.own };
              stops = t.runs;
              stands = subst (λ ns. PointStands x thread ns m.storage (record { at = q.top.at; own = t.own }) q.top) more.1 (point_stands x p thread t.made_names _ m.storage (record { at = q.top.at; own = t.own }) q.top t.stands);
              reaches = subst (λ ns. StaysInBlocks ns m.storage (touched_at x.layout q.top.own m h) (reached_by_turn w t.own h (picked (program_of p) u (pick thread answer)))) more.1 stays;
            } in
            record { step = step; begun = t.far.begun }
