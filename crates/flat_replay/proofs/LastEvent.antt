-- The event that ends a run of the machine is an act, and none comes behind it.
use Rattle.std.proofs.Common.{◌≡◌, ℕ, Bool, true, false, cond, List, [], ◌∷◌, ◌++◌, Option, Some, None, refl, sym, ap, ◌∙◌, subst, inl, inr}
use Rattle.std.specs.Prelude.{◌⊎◌, is_some}
use Rattle.block_store.specs.Runs.{own_at}
use Rattle.struct_ir.specs.Flow.{Here, does, tests, passes, round, returns}
use Rattle.struct_ir.specs.Linear.{Spot}
use Rattle.struct_ir.specs.Nodes.{set, call, step, look, safepoint, begin_object, end_object}
use Rattle.struct_ir.specs.Threads.{Thread, stop_at}
use Rattle.ak_trace.specs.declared.endings.End.{End}
use Rattle.flat_meaning.specs.Accesses.{Choice, plain}
use Rattle.flat_meaning.specs.Allowed.{AreAllowed, IsAllowed, MayCome, MayServe, MayServeAll}
use Rattle.flat_meaning.specs.Effects.{Effect, effect_of_outcome, gone_effect, look_before, look_effect, no_effect, own_list_of, serve_effect}
use Rattle.flat_meaning.specs.Events.{MachineState, Serve, Event, local, look as does_look, act, barrier, after, after_all, after_serve, after_serves, end_or, moved_state, put_if, serving_state}
use Rattle.flat_meaning.specs.Image.{Image}
use Rattle.flat_meaning.specs.Machine.{words_machine, words_world}
use Rattle.flat_meaning.specs.Memory.{Memory}
use Rattle.flat_meaning.specs.Stages.{Stage, starts, going, waiting, landed, Before, safe, looks, steps, calls, turn_over, nothing, before, before_here, can_advance, advanced}
use Rattle.flat_meaning.specs.Words.{Words}
use Rattle.flat_simulation.proofs.StepKinds.{malloc_goes_on}
use Rattle.flat_replay.proofs.Allocations.{still_serves}

module _ (x : Image Spot) where
  -- ---- how events leave the end

  -- what is done of what stands there
  abbrev effect_at : (thread : ℕ) → Choice → Stage Spot → Thread Spot Words → Memory → Here → Effect Spot
  effect_at thread choice stage t m h = effect_of_outcome thread stage t (own_list_of h) m (stop_at x.flow (words_machine x.layout thread) (words_world x.layout thread) x.start choice t m h)

  module _ (thread : ℕ) (stage : Stage Spot) (t : Thread Spot Words) (m : Memory) where
    -- a Look is done
    look_ends : {A : Type 0} (cs : List A) (h : Here) → before_here cs h ≡ looks → (effect_at thread plain stage t m h).end ≡ None
    look_ends cs (does place (set to calc)) e = absurd cc
    look_ends cs (does place (call c)) e = absurd cc
    look_ends cs (does place (step s)) e = absurd cc
    look_ends cs (does place (look slot base)) e = refl
    look_ends cs (does place (safepoint slots)) e = absurd cc
    look_ends cs (does place (begin_object i)) e = absurd cc
    look_ends cs (does place (end_object i)) e = absurd cc
    look_ends cs (tests place temp) e = absurd cc
    look_ends cs passes e = absurd cc
    look_ends cs round e = absurd cc
    look_ends [] (returns temp) e = absurd cc
    look_ends (c ∷ cs) (returns temp) e = absurd cc

    -- by what the thread stands before
    before_ends : (b : Before) → before x t ≡ b → (look_before x thread stage t m b).end ≡ None
    before_ends safe e = refl
    before_ends looks e = look_ends t.callers (x.flow.here t.top.at) e
    before_ends steps e = refl
    before_ends (calls function) e = refl
    before_ends turn_over e = refl
    before_ends nothing e = refl

  -- a Look ends no run
  look_end : (thread : ℕ) (stage : Stage Spot) (m : Memory) → (look_effect x thread stage m).end ≡ None
  look_end thread (starts function argument) m = refl
  look_end thread (going t) m = before_ends thread (going t) t m (before x t) refl
  look_end thread (waiting t) m = before_ends thread (waiting t) t m (before x t) refl
  look_end thread (landed list t) m = before_ends thread (landed list t) t m (before x t) refl

  -- nor does a thread that goes on alone
  gone_end : (thread : ℕ) (stage : Stage Spot) (m : Memory) → (gone_effect x thread stage m).end ≡ None
  gone_end thread stage m = by (can_advance x stage) where
    by : (b : Bool) → (cond b (no_effect m (going (advanced x thread stage).thread)) (no_effect m stage)).end ≡ None
    by true = refl
    by false = refl

  -- so the end stays
  put_end : (s : MachineState Spot) (thread : ℕ) (effect : Stage Spot → Memory → Effect Spot) → ((stage : Stage Spot) → (effect stage s.memory).end ≡ None) → (o : Option (Stage Spot)) → (put_if s thread effect o).end ≡ s.end
  put_end s thread effect none None = refl
  put_end s thread effect none (Some stage) = ap (λ (e : Option End). end_or e s.end) (none stage)

  -- an allocation that is served leaves it, too, and the barrier still serves behind it
  record Serves (s after : MachineState Spot) : Type 0 where
    pub end_ : after.end ≡ s.end
    pub on_ : is_some after.memory.leaving ≡ true

  serve_end : (s : MachineState Spot) (v : Serve) (o : Option (Stage Spot)) → is_some s.memory.leaving ≡ true → MayServe x s.memory v.choice o → Serves s (put_if s v.thread (serve_effect x v.thread v.choice) o)
  serve_end s v None serves may = record { end_ = refl; on_ = serves }
  serve_end s v (Some (starts function argument)) serves may = record { end_ = refl; on_ = serves }
  serve_end s v (Some (going t)) serves may = record { end_ = refl; on_ = serves }
  serve_end s v (Some (waiting t)) serves may = record {
    end_ = ap (λ (e : Option End). end_or e s.end) (malloc_goes_on x v.thread t s.memory v.choice (waiting t) (own_list_of (x.flow.here t.top.at)) (x.flow.here t.top.at) may.0 serves);
    on_ = still_serves x v.thread s.memory (waiting t) t serves v.choice (own_list_of (x.flow.here t.top.at)) (x.flow.here t.top.at) may.0;
  }
  serve_end s v (Some (landed list t)) serves may = record { end_ = refl; on_ = serves }

  -- and so do all of a barrier
  serves_end : (vs : List Serve) (s : MachineState Spot) → is_some s.memory.leaving ≡ true → MayServeAll x vs s → (after_serves x vs s).end ≡ s.end
  serves_end [] s serves may = refl
  serves_end (v ∷ vs) s serves may = let one = serve_end s v (own_at s.own v.thread) serves may.0 in serves_end vs (after_serve x s v) one.on_ may.1 ∙ one.end_

  -- it is an act
  pub record IsAct (e : Event) : Type 0 where
    pub thread : ℕ
    pub choice : Choice
    pub is : e ≡ act thread choice

  -- any event but an act leaves it
  event_end : (s : MachineState Spot) (e : Event) → MayCome x s e → IsAct e ⊎ ((after x s e).end ≡ s.end)
  event_end s (local thread) may = inr (put_end s thread (gone_effect x thread) (λ stage. gone_end thread stage s.memory) (own_at s.own thread))
  event_end s (does_look thread) may = inr (put_end s thread (look_effect x thread) (λ stage. look_end thread stage s.memory) (own_at s.own thread))
  event_end s (act thread choice) may = inl (record { thread = thread; choice = choice; is = refl })
  event_end s (barrier moves served) may = inr (serves_end served (serving_state (moved_state moves s)) refl may.2)

  -- ---- the last event

  -- events that end a run: some that don't, and then an act
  pub record EndsBy (ds : List Event) (s : MachineState Spot) : Type 0 where
    pub before : List Event
    pub thread : ℕ
    pub choice : Choice
    pub is : ds ≡ before ++ act thread choice ∷ []
    pub allowed : AreAllowed x before s
    pub comes : IsAllowed x (after_all x before s) (act thread choice)

  -- none comes behind the end
  none_more : (es : List Event) (s : MachineState Spot) (end : End) → AreAllowed x es s → s.end ≡ Some end → es ≡ []
  none_more [] s end allowed ended = refl
  none_more (e ∷ es) s end allowed ended = let open_ = allowed.0.0 in let bad : Some end ≡ None = sym ended ∙ open_ in absurd cc

  one_act : (e : Event) (s : MachineState Spot) → IsAllowed x s e → IsAct e → EndsBy (e ∷ []) s
  one_act e s may a = record { before = []; thread = a.thread; choice = a.choice; is = ap (λ (d : Event). d ∷ []) a.is; allowed = tt; comes = subst (IsAllowed x s) a.is may }

  after_one : (e : Event) (es : List Event) (s : MachineState Spot) → IsAllowed x s e → EndsBy es (after x s e) → EndsBy (e ∷ es) s
  after_one e es s may r = record { before = e ∷ r.before; thread = r.thread; choice = r.choice; is = ap (λ (ds : List Event). e ∷ ds) r.is; allowed = (may, r.allowed); comes = r.comes }

  by_kind : (e : Event) (es : List Event) (s : MachineState Spot) (now : End) → AreAllowed x (e ∷ es) s → s.end ≡ None → (after x s e).end ≡ Some now → IsAct e ⊎ ((after x s e).end ≡ s.end) → EndsBy (e ∷ es) s
  by_kind e es s now allowed open_ stops (inl a) = subst (λ (fs : List Event). EndsBy (e ∷ fs) s) (sym (none_more es (after x s e) now allowed.1 stops)) (one_act e s allowed.0 a)
  by_kind e es s now allowed open_ stops (inr same) = let bad : Some now ≡ None = sym stops ∙ same ∙ open_ in absurd cc

  by_end : (e : Event) (es : List Event) (s : MachineState Spot) → AreAllowed x (e ∷ es) s → s.end ≡ None → (o : Option End) → (after x s e).end ≡ o → ((after x s e).end ≡ None → EndsBy es (after x s e)) → EndsBy (e ∷ es) s
  by_end e es s allowed open_ None goes_on rest = after_one e es s allowed.0 (rest goes_on)
  by_end e es s allowed open_ (Some now) stops rest = by_kind e es s now allowed open_ stops (event_end s e allowed.0.1)

  -- so an act is the last event
  pub ends_by : (ds : List Event) (s : MachineState Spot) (end : End) → AreAllowed x ds s → s.end ≡ None → (after_all x ds s).end ≡ Some end → EndsBy ds s
  ends_by [] s end allowed open_ ended = let bad : None ≡ Some end = sym open_ ∙ ended in absurd cc
  ends_by (e ∷ es) s end allowed open_ ended = by_end e es s allowed open_ (after x s e).end refl (λ goes_on. ends_by es (after x s e) end allowed.1 goes_on ended)
