-- What an event of a thread comes to, by what the thread stands before.
use Rattle.std.proofs.Common.{◌≡◌, ℕ, [], ◌∷◌, Bool, true, false, Some, refl, sym, ap, subst, ◌∙◌}
use Rattle.std.specs.Prelude.{if◌then◌else◌}
use Rattle.block_store.specs.declared.values.Answer.TheVariants as answers
use Rattle.block_store.specs.Runs.{own_at}
use Rattle.struct_ir.specs.Threads.{Thread}
use Rattle.ak_trace.specs.declared.endings.End.TheVariants as ends
use Rattle.flat_meaning.specs.Image.{Image}
use Rattle.flat_meaning.specs.Words.{Words}
use Rattle.flat_meaning.specs.Memory.{Memory}
use Rattle.flat_meaning.specs.Accesses.{Choice, plain}
use Rattle.flat_meaning.specs.Stages.{Stage, starts, going, waiting, landed, thread_at, Before, looks, steps, calls, before, room_for, past_safepoint, advanced_from, advanced, can_pass, can_advance}
use Rattle.flat_meaning.specs.Effects.{no_effect, ends_run, stop_of, step_effect, act_before, act_effect, look_before, look_effect, gone_effect}
use Rattle.flat_meaning.specs.Events.{MachineState, local, look, act, put, put_if, after}
use Rattle.flat_meaning.specs.Order.{pick, step_picks, act_picks, local_picks, picks_of_local, picks_of_act, picks_of, tried_if, tried_before, tried_at, tried_by}
use Rattle.flat_meaning.specs.Allowed.{MayAct, MayStep, MayStepAt, MayGo, StandsBefore, MayCome}
use Rattle.flat_simulation.specs.LinearSteps.{HasBegun}

module _ {P : Type 0} (x : Image P) where
  pub gone_begun : (thread : ℕ) (g : Stage P) → HasBegun g → advanced x thread g ≡ advanced_from x thread (past_safepoint x (thread_at x g) (before x (thread_at x g)))
  gone_begun thread (starts function argument) h = absurd h
  gone_begun thread (going t) h = refl
  gone_begun thread (waiting t) h = refl
  gone_begun thread (landed list t) h = refl

  pub can_begun : (g : Stage P) → HasBegun g → can_advance x g ≡ can_pass x (thread_at x g) (before x (thread_at x g))
  can_begun (starts function argument) h = absurd h
  can_begun (going t) h = refl
  can_begun (waiting t) h = refl
  can_begun (landed list t) h = refl

  pub stands_begun : (g : Stage P) (b : Before) → StandsBefore x (Some g) b → HasBegun g × (before x (thread_at x g) ≡ b)
  stands_begun (starts function argument) b h = absurd h
  stands_begun (going t) b h = (tt, h)
  stands_begun (waiting t) b h = (tt, h)
  stands_begun (landed list t) b h = (tt, h)

  pub stands_at : (g : Stage P) → HasBegun g → (b : Before) → before x (thread_at x g) ≡ b → StandsBefore x (Some g) b
  stands_at (starts function argument) h b e = absurd h
  stands_at (going t) h b e = e
  stands_at (waiting t) h b e = e
  stands_at (landed list t) h b e = e

module _ {P : Type 0} (x : Image P) (s : MachineState P) (thread : ℕ) (g : Stage P) (at : own_at s.own thread ≡ Some g) where
  -- ---- it goes on alone

  module _ (can : can_advance x g ≡ true) where
    pub after_local : after x s (local thread) ≡ put s thread (no_effect s.memory (going (advanced x thread g).thread))
    after_local =
        ap (put_if s thread (gone_effect x thread)) at
        ∙ ap (λ (b : Bool). put s thread (if b then no_effect s.memory (going (advanced x thread g).thread) else no_effect s.memory g)) can

    pub picks_of-local : picks_of x s (local thread) ≡ local_picks thread (advanced x thread g).turns
    picks_of-local = ap (picks_of_local x thread) at ∙ ap (λ (b : Bool). if b then local_picks thread (advanced x thread g).turns else []) can

    pub may_local : MayCome x s (local thread)
    may_local = subst (MayGo x) (sym at) can

  -- ---- a step, a Look or a call

  step_acts : (choice : Choice) (g : Stage P) → HasBegun g → before x (thread_at x g) ≡ steps → (m : Memory) → act_effect x thread choice g m ≡ step_effect x thread choice g (thread_at x g) m
  step_acts choice (starts function argument) h e m = absurd h
  step_acts choice (going t) h e m = ap (act_before x thread choice (going t) t m) e
  step_acts choice (waiting t) h e m = ap (act_before x thread choice (waiting t) t m) e
  step_acts choice (landed list t) h e m = ap (act_before x thread choice (landed list t) t m) e

  call_acts : (choice : Choice) (function : ℕ) (g : Stage P) → HasBegun g → before x (thread_at x g) ≡ calls function → room_for x (thread_at x g) function ≡ false → (m : Memory)
      → act_effect x thread choice g m ≡ ends_run m g (ends.StackLimit thread)
  call_acts choice function (starts f argument) h e r m = absurd h
  call_acts choice function (going t) h e r m = ap (act_before x thread choice (going t) t m) e ∙ ap (λ (b : Bool). if b then no_effect m (going t) else ends_run m (going t) (ends.StackLimit thread)) r
  call_acts choice function (waiting t) h e r m = ap (act_before x thread choice (waiting t) t m) e ∙ ap (λ (b : Bool). if b then no_effect m (waiting t) else ends_run m (waiting t) (ends.StackLimit thread)) r
  call_acts choice function (landed list t) h e r m = ap (act_before x thread choice (landed list t) t m) e ∙ ap (λ (b : Bool). if b then no_effect m (landed list t) else ends_run m (landed list t) (ends.StackLimit thread)) r

  look_acts : (g : Stage P) → HasBegun g → before x (thread_at x g) ≡ looks → (m : Memory) → look_effect x thread g m ≡ step_effect x thread plain g (thread_at x g) m
  look_acts (starts function argument) h e m = absurd h
  look_acts (going t) h e m = ap (look_before x thread (going t) t m) e
  look_acts (waiting t) h e m = ap (look_before x thread (waiting t) t m) e
  look_acts (landed list t) h e m = ap (look_before x thread (landed list t) t m) e

  act_turns : (choice : Choice) (g : Stage P) → HasBegun g → (m : Memory) → picks_of_act x m thread choice (Some g) ≡ act_picks x m thread choice (thread_at x g) (before x (thread_at x g))
  act_turns choice (starts function argument) h m = absurd h
  act_turns choice (going t) h m = refl
  act_turns choice (waiting t) h m = refl
  act_turns choice (landed list t) h m = refl

  act_tries : (choice : Choice) (g : Stage P) → HasBegun g → (m : Memory) → tried_at x m thread choice (Some g) ≡ tried_before x m thread choice (thread_at x g) (before x (thread_at x g))
  act_tries choice (starts function argument) h m = absurd h
  act_tries choice (going t) h m = refl
  act_tries choice (waiting t) h m = refl
  act_tries choice (landed list t) h m = refl

  may_step_at : (choice : Choice) (g : Stage P) → HasBegun g → (m : Memory) → MayStepAt x m choice (Some g) ≡ MayStep x m choice (thread_at x g) (before x (thread_at x g))
  may_step_at choice (starts function argument) h m = absurd h
  may_step_at choice (going t) h m = refl
  may_step_at choice (waiting t) h m = refl
  may_step_at choice (landed list t) h m = refl

  module _ (begun : HasBegun g) where
    abbrev t : Thread P Words
    t = thread_at x g

    module _ (choice : Choice) where
      -- before a step
      module _ (e : before x t ≡ steps) where
        pub after_step : after x s (act thread choice) ≡ put s thread (step_effect x thread choice g t s.memory)
        after_step = ap (put_if s thread (act_effect x thread choice)) at ∙ ap (put s thread) (step_acts choice g begun e s.memory)

        pub picks_of-step : picks_of x s (act thread choice) ≡ step_picks x s.memory thread choice t
        picks_of-step = ap (picks_of_act x s.memory thread choice) at ∙ act_turns choice g begun s.memory ∙ ap (act_picks x s.memory thread choice t) e

        pub tried_by-step : tried_by x s (act thread choice) ≡ tried_if thread choice (x.flow.here t.top.at) (stop_of x thread choice t s.memory)
        tried_by-step = ap (tried_at x s.memory thread choice) at ∙ act_tries choice g begun s.memory ∙ ap (tried_before x s.memory thread choice t) e

        pub may_step : MayCome x s (act thread choice) ≡ MayAct s.memory.storage t.top.own choice (x.flow.here t.top.at)
        may_step = ap (MayStepAt x s.memory choice) at ∙ may_step_at choice g begun s.memory ∙ ap (MayStep x s.memory choice t) e

      -- before a call without room
      module _ (function : ℕ) (e : before x t ≡ calls function) (none : room_for x t function ≡ false) where
        pub after_full : after x s (act thread choice) ≡ put s thread (ends_run s.memory g (ends.StackLimit thread))
        after_full = ap (put_if s thread (act_effect x thread choice)) at ∙ ap (put s thread) (call_acts choice function g begun e none s.memory)

        pub picks_of-full : picks_of x s (act thread choice) ≡ []
        picks_of-full = ap (picks_of_act x s.memory thread choice) at ∙ act_turns choice g begun s.memory ∙ ap (act_picks x s.memory thread choice t) e

        pub tried_by-full : tried_by x s (act thread choice) ≡ pick thread answers.Plain ∷ []
        tried_by-full =
            ap (tried_at x s.memory thread choice) at ∙ act_tries choice g begun s.memory ∙ ap (tried_before x s.memory thread choice t) e
            ∙ ap (λ (b : Bool). if b then [] else (pick thread answers.Plain ∷ [])) none

        pub may_full : choice ≡ plain → MayCome x s (act thread choice)
        may_full p = subst (λ (T : Type 0). T) (sym (ap (MayStepAt x s.memory choice) at ∙ may_step_at choice g begun s.memory ∙ ap (MayStep x s.memory choice t) e)) (none, p)

    -- before a Look
    module _ (e : before x t ≡ looks) where
      pub after_look : after x s (look thread) ≡ put s thread (step_effect x thread plain g t s.memory)
      after_look = ap (put_if s thread (look_effect x thread)) at ∙ ap (put s thread) (look_acts g begun e s.memory)

      pub may_look : MayCome x s (look thread)
      may_look = subst (λ o. StandsBefore x o looks) (sym at) (stands_at x g begun looks e)

-- the first function of a thread has no room
module _ {P : Type 0} (x : Image P) (s : MachineState P) (thread : ℕ) (choice : Choice) (function argument : ℕ) (at : own_at s.own thread ≡ Some (starts function argument)) (none : can_advance x (starts function argument) ≡ false) where
  pub after_fresh : after x s (act thread choice) ≡ put s thread (ends_run s.memory (starts function argument) (ends.StackLimit thread))
  after_fresh =
      ap (put_if s thread (act_effect x thread choice)) at
      ∙ ap (λ (b : Bool). put s thread (if b then no_effect s.memory (starts function argument) else ends_run s.memory (starts function argument) (ends.StackLimit thread))) none

  pub picks_of-fresh : picks_of x s (act thread choice) ≡ []
  picks_of-fresh = ap (picks_of_act x s.memory thread choice) at

  pub tried_by-fresh : tried_by x s (act thread choice) ≡ pick thread answers.Plain ∷ []
  tried_by-fresh = ap (tried_at x s.memory thread choice) at ∙ ap (λ (b : Bool). if b then [] else (pick thread answers.Plain ∷ [])) none

  pub may_fresh : choice ≡ plain → MayCome x s (act thread choice)
  may_fresh p = subst (λ (T : Type 0). T) (sym (ap (MayStepAt x s.memory choice) at)) (none, p)
