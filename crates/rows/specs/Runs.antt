-- A run by hand: one thread at a time goes on until it waits or has ended, and the others that were made are at home.
use Rattle.std.specs.Prelude.{◌≡◌, ◌≢◌, ℕ, ◌≤◌, ◌<◌, true, false, List, length, slice_index_or, Option, Some, None}
use Rattle.flat_rules.specs.declared.step.Step.{Step}
use Rattle.flat_rules.specs.declared.step.Step.TheVariants as step
use Rattle.flat_rules.specs.Lawful.{Lives}
use Rattle.flat_rules.specs.Machine.{Machine, works}
use Rattle.flat_rules.specs.States.{most_threads}

module _ {S C : Type 0} (m : Machine S C) (SharedOf : S → Type 0) (ContextOf : C → Type 0) where
  -- a thread that was made and has not ended, which may now go on by itself
  pub record GoesOn (s : S) (t : ℕ) (c : C) : Type 0 where
    pub lives : Lives m SharedOf ContextOf s c
    pub progress : m.progress c ≡ works
    pub thread : m.thread_of c ≡ t

  -- how far a thread is behind a step, by what that answered; where it waits it stands at a safepoint
  abbrev pub Comes : S → (thread : ℕ) → C → Step → Type 0
  Comes s t c step.Went = GoesOn s t c
  Comes s t c step.Busy = GoesOn s t c × (m.stands c ≡ true)
  Comes s t c step.WaitRoom = GoesOn s t c × (m.stands c ≡ true)
  Comes s t c step.Ended = m.has_ended s t ≡ true
  Comes s t c (step.Over end) = Unit {0}

  -- what steps of a thread leave: no thread is unmade, no other has ended by them, and the thread is as far as the last of them says
  pub record Turns (s s' : S) (t : ℕ) (c : C) (last : Step) : Type 0 where
    pub shared : SharedOf s'
    pub more : m.threads s ≤ m.threads s'
    pub most : m.threads s' ≤ most_threads
    pub others : (k : ℕ) → k ≢ t → m.has_ended s' k ≡ m.has_ended s k
    pub comes : Comes s' t c last

  -- the place of a thread that was made: it has ended, or its context is at home
  abbrev pub IsPlace : S → ℕ → Option C → Type 0
  IsPlace s k None = m.has_ended s k ≡ true
  IsPlace s k (Some c) = GoesOn s k c × (m.stands c ≡ true)

  -- between two turns: the first of the threads that were made have their places, and the others have not begun
  pub record IsRun (s : S) (homes : List (Option C)) : Type 0 where
    pub shared : SharedOf s
    pub most : m.threads s ≤ most_threads
    pub short : length homes ≤ m.threads s
    pub places : (k : ℕ) (d : Option C) → k < length homes → IsPlace s k (slice_index_or homes k d)
    pub later : (k : ℕ) → length homes ≤ k → m.has_ended s k ≡ false

  -- the same behind a turn, unless the run is over or was given up
  abbrev pub StaysRun : S → List (Option C) → Step → Type 0
  StaysRun s homes step.Went = Unit {0}
  StaysRun s homes (step.Over end) = Unit {0}
  StaysRun s homes _ = IsRun s homes
