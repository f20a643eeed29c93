-- What a check finds of a program: how its run in the seeded order ends.
use Rattle.std.specs.Prelude.{ℕ, ◌≡◌, ◌≤◌, ◌<◌, ◌↔◌, length, Some, None, IsSome, ℤ}
use Rattle.ak_words.specs.declared.rule.Rule.{Rule}
use Rattle.ak_trace.specs.declared.endings.Verdict.TheVariants as verdicts
use Rattle.block_store.specs.declared.values.Answer.TheVariants as answers
use Rattle.block_store.specs.Actions.{World}
use Rattle.block_store.specs.Runs.{Program, State, Pick, blocked, broke, own_at, picked, run, reaches}
use Rattle.c_tree.specs.Typed.{Typed}
use Rattle.c_meaning.specs.Meaning.{program, start}
use Rattle.block_meaning.specs.Asking.{told}
use Rattle.block_meaning.specs.Running.{ended_with}
use Rattle.rule_check.specs.Reports.{Report}
use Rattle.rule_check.specs.Seeded.{draw_before, chosen, IsSeeded}

-- the turn that this draw chooses breaks a rule at a place
pub record Breaks {A : Type 0} (P : Program A) (draw : ℕ) (s : State A) (rule : Rule) (place : ℕ) : Type 0 where
  pub pick : Pick
  pub is_next : chosen P draw s ≡ Some pick
  pub breaks : picked P s pick ≡ Some (broke rule place)

-- main has ended, with this value
pub record HasEnded {A : Type 0} (s : State A) (exit : ℤ) : Type 0 where
  pub gone : own_at s.own 0 ≡ None
  pub value : ended_with s.world 0 ≡ Some exit

-- main hasn't ended
abbrev pub IsRunning : {A : Type 0} → State A → Type 0
IsRunning s = IsSome (own_at s.own 0)

-- each thread that hasn't ended waits
abbrev pub AllWait : {A : Type 0} → Program A → State A → Type 0
AllWait P s = (thread : ℕ) → IsSome (own_at s.own thread) → told P s thread answers.Plain ≡ Some blocked

-- what a check finds of a program from this world on, by a seed, in so many turns at most: its order is the seeded one, each verdict
-- stands exactly where the run of that order comes to what it says, and its output is that run's
pub record IsCheck {A : Type 0} (P : Program A) (w : World) (seed most : ℕ) (r : Report) : Type 0 where
  pub last : State A
  pub comes : run P w r.order ≡ reaches last
  pub seeded : IsSeeded P w seed r.order
  pub within : length r.order ≤ most
  pub printed : r.output ≡ last.world.output
  -- fewer turns were done, and the next one breaks this rule at this place
  pub broke : (rule : Rule) (place turns : ℕ) → (r.verdict ≡ verdicts.Broke rule place turns) ↔ ((turns ≡ length r.order) × (turns < most) × Breaks P (draw_before seed turns) last rule place)
  -- main has ended
  pub ended : (exit : ℤ) (turns : ℕ) → (r.verdict ≡ verdicts.Ended exit turns) ↔ ((turns ≡ length r.order) × HasEnded last exit)
  -- main hasn't, fewer turns were done, and each thread that hasn't ended waits
  pub all_blocked : (turns : ℕ) → (r.verdict ≡ verdicts.AllBlocked turns) ↔ ((turns ≡ length r.order) × (turns < most) × IsRunning last × AllWait P last)
  -- as many turns were done, and main hasn't ended
  pub spent : (turns : ℕ) → (r.verdict ≡ verdicts.TurnsSpent turns) ↔ ((turns ≡ length r.order) × (turns ≡ most) × IsRunning last)

-- what a check of a C program finds
abbrev pub IsCheckOf : Typed → (seed most : ℕ) → Report → Type 0
IsCheckOf typed seed most r = IsCheck (program typed) (start typed) seed most r
