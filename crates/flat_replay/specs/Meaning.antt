-- What a run over named blocks says of a journal: which rule of C is broken first; and where none is, what was printed and how it ended.
-- Of any program of threads: of the source, and of its code.
use Rattle.std.specs.Prelude.{◌≡◌, ◌≢◌, ℕ, suc, ◌+◌, ◌<◌, ◌⊎◌, ℤ, List, [], ◌∷◌, All, Any, length, take, slice_get, Option, Some, None}
use Rattle.ak_words.specs.declared.rule.Rule.{Rule}
use Rattle.ak_words.specs.IntType.{int}
use Rattle.ak_words.specs.Num.{num}
use Rattle.ak_words.specs.Prefix.{IsPrefix}
use Rattle.ak_trace.specs.declared.entry.Entry.{Entry}
use Rattle.block_store.specs.declared.values.Answer.TheVariants as answers
use Rattle.block_store.specs.Actions.{ThreadRecord, running, returned, World}
use Rattle.block_store.specs.Runs.{Pick, Turn, went, ended, blocked, unfit, broke, Program, State, own_at, picked, Run, reaches, breaks, no_run, run}
use Rattle.ak_trace.specs.declared.endings.End.{End}
use Rattle.ak_trace.specs.declared.endings.End.TheVariants as ends
use Rattle.flat_meaning.specs.Journals.{journal_picks}
use Rattle.flat_meaning.specs.Order.{pick}
use Rattle.flat_meaning.specs.Reaching.{Broken}
use Rattle.flat_rules.specs.declared.settings.Settings.{Settings}
use Rattle.flat_rules.specs.States.{kept_free}
use Rattle.flat_machine.specs.Replays.{Final}
use Rattle.flat_replay.specs.Attempts.{attempts_from}

-- ---- threads

-- the thread of this number was made, and is at a stage of which this holds
abbrev pub AtStage : World → (thread : ℕ) → (ThreadRecord → Type 0) → Type 0
AtStage w thread A = (t : ThreadRecord) × (slice_get w.threads thread ≡ Some t) × A t

-- it was made, and hasn't ended
abbrev pub Runs : World → (thread : ℕ) → Type 0
Runs w thread = AtStage w thread (λ t. t.stage ≡ running)

-- main has returned a value, which is this one as an int (C11 5.1.2.2.3)
abbrev pub MainReturned : World → ℤ → Type 0
MainReturned w value = AtStage w 0 (λ t. (z : ℤ) × (t.stage ≡ returned z) × ((num int z).value ≡ value))

-- ---- turns

module _ {A : Type 0} where
  -- the turn goes on, to where this holds of the thread and of the world
  abbrev pub Goes : (A → World → Type 0) → Option (Turn A) → Type 0
  Goes G None = ⊥
  Goes G (Some (went own w)) = G own w
  Goes G (Some (ended w)) = ⊥
  Goes G (Some blocked) = ⊥
  Goes G (Some unfit) = ⊥
  Goes G (Some (broke rule place)) = ⊥

  -- what comes of a turn that was tried: with Got where it doesn't take Plain
  abbrev pub tried_with : (plain got : Option (Turn A)) → Option (Turn A)
  tried_with (Some unfit) got = got
  tried_with plain got = plain

-- the thread of the last entry
abbrev pub last_thread : List Entry → ℕ
last_thread [] = 0
last_thread (e ∷ []) = e.thread
last_thread (e ∷ f ∷ es) = last_thread (f ∷ es)

-- ---- a program's runs: how many calls of a thread wait is told by `depth`

module _ {A : Type 0} (P : Program A) (w : World) (depth : A → ℕ) (log : List Entry) where
  -- the run of the journal's first turns, so many of them
  abbrev pub run_of : (turns : ℕ) → Run A
  run_of turns = run P w (take turns (journal_picks log))

  -- the run of all
  abbrev pub whole_run : Run A
  whole_run = run P w (journal_picks log)

  -- what comes of a thread's next turn, told Plain
  abbrev pub next_turn : State A → (thread : ℕ) → Option (Turn A)
  next_turn u thread = picked P u (pick thread answers.Plain)

  -- and if it is tried
  abbrev pub tried_turn : State A → (thread : ℕ) → Option (Turn A)
  tried_turn u thread = tried_with (next_turn u thread) (picked P u (pick thread answers.Got))

  -- ---- the first break

  -- after so many turns a rule of C is broken: by the next turn; by a turn that the journal tells of as tried there and not done; or, where
  -- the run ended since all threads wait, by a turn for which one of them waits
  pub data BreaksAt (end : Option End) (turns : ℕ) : Type 0 where
    by_turn : (rule : Rule) → whole_run ≡ breaks rule turns → BreaksAt end turns
    by_attempt : (thread : ℕ) (u : State A) → Any (λ (a : ℕ × ℕ). a ≡ (thread, turns)) (attempts_from 0 log) → run_of turns ≡ reaches u → Broken (tried_turn u thread) → BreaksAt end turns
    by_waiting : (thread : ℕ) (u : State A) → end ≡ Some ends.AllBlocked → turns ≡ length (journal_picks log) → whole_run ≡ reaches u → Broken (tried_turn u thread) → BreaksAt end turns

  -- no rule is broken
  abbrev pub IsClean : Option End → Type 0
  IsClean end = (turns : ℕ) → BreaksAt end turns → ⊥

  -- the first rule is broken after so many turns
  abbrev pub IsFirstBreak : Option End → (turns : ℕ) → Type 0
  IsFirstBreak end turns = BreaksAt end turns × ((before : ℕ) → before < turns → BreaksAt end before → ⊥)

  -- ---- the table of ends

  -- a call is entered: one more waits then
  abbrev pub EntersCall : State A → (thread : ℕ) → Type 0
  EntersCall u thread = (own : A) × (own_at u.own thread ≡ Some own) × Goes (λ next v. depth next ≡ suc (depth own)) (next_turn u thread)

  -- the thread has had no turn
  abbrev pub HasNoTurn : (thread : ℕ) → Type 0
  HasNoTurn thread = All (λ (p : Pick). p.thread ≢ thread) (journal_picks log)

  -- how a run without a broken rule ended, in the state that the source's run reaches
  abbrev pub EndsAs : Settings → State A → End → Type 0
  EndsAs s u (ends.Done value) = MainReturned u.world value
  EndsAs s u (ends.Trap word kind) = ⊥
  EndsAs s u ends.AllBlocked = Runs u.world 0 × ((thread : ℕ) → Runs u.world thread → next_turn u thread ≡ Some blocked)
  EndsAs s u ends.TurnLimit = Runs u.world 0 × (s.entries < length log + kept_free)
  EndsAs s u ends.OutputLimit = Runs u.world 0 × Goes (λ next v. s.output < length v.output) (next_turn u (last_thread log))
  EndsAs s u (ends.StackLimit thread) = Runs u.world 0 × Runs u.world thread × (EntersCall u thread ⊎ HasNoTurn thread)

  -- ---- all of it

  -- a clean journal: what was printed is the output of the run of its order, and the end is as in the table
  pub record IsAsMeant (s : Settings) (f : Final) : Type 0 where
    pub reached : State A
    pub reaches_it : whole_run ≡ reaches reached
    pub output : f.output ≡ reached.world.output
    pub ends_as : (end : End) → f.end ≡ Some end → EndsAs s reached end

  -- any other: what the run of the turns before the first break prints is what was printed first
  pub record IsUpToABreak (turns : ℕ) (f : Final) : Type 0 where
    pub reached : State A
    pub reaches_it : run_of turns ≡ reaches reached
    pub output : IsPrefix reached.world.output f.output

  -- what a journal's last state is, by the program's runs
  pub record IsMeaning (s : Settings) (f : Final) : Type 0 where
    pub a_run : (turns : ℕ) → whole_run ≢ no_run turns
    pub clean : IsClean f.end → IsAsMeant s f
    pub broken : (turns : ℕ) → IsFirstBreak f.end turns → IsUpToABreak turns f
