-- What the code's steps come to.
use Rattle.std.specs.Prelude.{ℕ, ◌≡◌, ◌++◌, Bool, true, false, List, length, set, Option, Some, None, IsSome}
use Rattle.std.specs.List.{AllByRecursion}
use Rattle.block_store.specs.declared.values.Answer.{Answer}
use Rattle.block_store.specs.declared.values.Answer.TheVariants as answers
use Rattle.block_store.specs.Actions.{World}
use Rattle.block_store.specs.Runs.{Program, State, Pick, own_at, picked, run, reaches}
use Rattle.c_tree.specs.Typed.{Typed}
use Rattle.c_meaning.specs.Control.{Control}
use Rattle.c_meaning.specs.Meaning.{program}
use Rattle.block_meaning.specs.declared.running.Turned.{Turned}
use Rattle.block_meaning.specs.declared.running.Turned.TheVariants as turneds
use Rattle.block_meaning.specs.Asking.{told, wish}
use Rattle.block_meaning.specs.Running.{answered_if, left_by}
use Rattle.rule_check.specs.declared.choosing.Next.{Next}
use Rattle.rule_check.specs.Seeded.{is_blocked, first_ready, answer_to, pick_for, IsSeeded}

-- each of these threads runs
abbrev pub AllRun : {A : Type 0} → List (Option A) → List ℕ → Type 0
AllRun own threads = AllByRecursion (λ thread. IsSome (own_at own thread)) threads

-- a turn that waits
abbrev pub waits : Turned → Bool
waits turneds.Blocked = true
waits t = false

-- a turn that was tried is the next one of its thread under its own answer, and so came to this; and where it waits, that's since it
-- waits where it's told Plain
pub record IsTried (typed : Typed) (s : State Control) (thread : ℕ) (answer : Answer) (turned : Turned) (after : State Control) : Type 0 where
  pub told_so : answer ≡ answer_to (length s.own) (wish (program typed) s thread)
  pub says : answered_if thread (picked (program typed) s (pick_for (program typed) s thread)) ≡ Some turned
  pub leaves : after ≡ left_by typed s thread (picked (program typed) s (pick_for (program typed) s thread))
  pub as_plain : is_blocked (told (program typed) s thread answers.Plain) ≡ waits turned

-- what was found among these threads: the first that doesn't wait, with its turn; or all wait, and nothing changed
abbrev pub IsFound : Typed → (s : State Control) → (threads : List ℕ) → Option Next → (after : State Control) → Type 0
IsFound typed s threads None after = (first_ready (program typed) s threads ≡ None) × (after ≡ s)
IsFound typed s threads (Some n) after =
    (first_ready (program typed) s threads ≡ Some n.thread) × (waits n.turned ≡ false) × IsTried typed s n.thread n.answer n.turned after

-- behind a turn: its thread's own was set, and new threads began
abbrev pub IsBehind : {A : Type 0} → (thread : ℕ) → (before after : List (Option A)) → Type 0
IsBehind {A} thread before after = (own : Option A) × (begun : List (Option A)) × (after ≡ set before thread own ++ begun)

-- how far a check has come: these turns are the seeded ones, and the run of them comes to this state
pub record HasCome {A : Type 0} (P : Program A) (w : World) (seed : ℕ) (order : List Pick) (s : State A) : Type 0 where
  pub comes : run P w order ≡ reaches s
  pub seeded : IsSeeded P w seed order
