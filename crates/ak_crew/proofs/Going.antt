-- A context that is out, from one step to the next.
use Rattle.std.proofs.Common.{◌≡◌, ℕ, ◌||◌, Bool, true, false, cond, ap, sym, subst, ◌∙◌, refl}
use Rattle.std.specs.Prelude.{◌⊎◌}
use mathlib.Core.Logic.{inl, inr}
use Rattle.turn_lock.specs.declared.lock.Pass.{Pass}
use Rattle.turn_lock.specs.declared.lock.TurnLock.{TurnLock}
use Rattle.turn_lock.specs.Locks.{IsPassOf, first_of, seen_of, worker_of}
use Rattle.ak_trace.specs.declared.endings.End.{End}
use Rattle.flat_rules.specs.Machine.{Machine}
use Rattle.flat_rules.specs.States.{Mood, free, asked}
use Rattle.flat_rules.specs.Events.{mood_after}
use Rattle.flat_rules.specs.Lawful.{IsFlat}
use Rattle.world_rules.specs.declared.calls.Found.{Found}
use Rattle.world_rules.specs.declared.calls.Found.TheVariants as found
use Rattle.world_rules.specs.declared.calls.Acted.{Acted}
use Rattle.world_rules.specs.declared.calls.Acted.TheVariants as acted
use Rattle.world_rules.specs.declared.calls.Call.TheVariants as call
use Rattle.world_rules.specs.Whole.{Whole}
use Rattle.world_rules.specs.Allowed.{IsOut, MovedOn, MayCall, FoundSays, ActedSays}
use Rattle.world_rules.specs.Sound.{MayWork}
use Rattle.ak_world.specs.Turns.{Finds, Acts, FoundWorks, ActedWorks}
use Rattle.ak_crew.specs.Overs.{FoundOver}

-- how a thread goes on that was asked home, or not
abbrev pub mood_of : Bool → Mood
mood_of a = cond a asked free

still_asked : (a asks b : Bool) → b ≡ (a || asks) → mood_after (mood_of a) asks ≡ mood_of b
still_asked true asks b e = ap mood_of (sym e)
still_asked false true b e = ap mood_of (sym e)
still_asked false false b e = ap mood_of (sym e)

pub once_asked : (a asks : Bool) → a ≡ true → a ≡ (a || asks)
once_asked true asks e = refl
once_asked false asks e = absurd (cc e)

pub not_asked : (a asks : Bool) → a ≡ false → asks ≡ (a || asks)
not_asked false asks e = refl
not_asked true asks e = absurd (cc e)

module _ {S K C : Type 0} (machine : K → Machine S C) (shared_of : K → S → Type 0) (context_of : K → C → Type 0) (flat : (code : K) → IsFlat (machine code) (shared_of code) (context_of code)) (first : Whole S K C)
    (k : K) (code : k ≡ first.code) (before : Pass (Whole S K C)) (c d : C) (a : Bool)
    (out : IsOut machine first (seen_of before) (worker_of before) ((machine k).thread_of c) c (mood_of a)) (works : MayWork machine shared_of context_of k c) (moved : d ≡ (machine k).local (cond a 0 1024) c) where
  on_first : d ≡ (machine first.code).local (cond a 0 1024) c
  on_first = moved ∙ (λ i. (machine (code i)).local (cond a 0 1024) c)

  moved_on : (b : Bool) → d ≡ (machine first.code).local (cond b 0 1024) c → MovedOn machine first c (mood_of b) d
  moved_on true e = e
  moved_on false e = e

  abbrev most_of : Bool → ℕ
  most_of b = cond b 0 1024

  bound : (b : Bool) → (most_of b ≡ 0) ⊎ (most_of b ≡ 1024)
  bound true = inl refl
  bound false = inr refl

  same_thread : (machine first.code).thread_of d ≡ (machine k).thread_of c
  same_thread = (λ i. (machine (sym code i)).thread_of (moved i)) ∙ ((flat k).works (most_of a) c works.of_ (bound a) works.begun).thread

  out_as : IsOut machine first (seen_of before) (worker_of before) ((machine first.code).thread_of d) c (mood_of a)
  out_as = subst (λ (t : ℕ). IsOut machine first (seen_of before) (worker_of before) t c (mood_of a)) (sym same_thread) out

  -- its worker may do the step
  pub may_act : MayCall machine first (seen_of before) (worker_of before) (call.Act d)
  may_act = (c, mood_of a, out_as, moved_on a on_first)

  module _ (after : Pass (Whole S K C)) (answer : Acted C) (acts : Acts machine shared_of context_of first before after d answer) where
    says : ActedSays machine (mood_of a) first (seen_of after) (worker_of after) answer
    says = acts.says c (mood_of a) out_as (moved_on a on_first)

    -- where it went on
    pub out_next : (next : C) (asks b : Bool) → answer ≡ acted.Went next asks → b ≡ (a || asks) → IsOut machine first (seen_of after) (worker_of after) ((machine k).thread_of next) next (mood_of b)
    out_next next asks b is e = subst (λ (z : Mood). IsOut machine first (seen_of after) (worker_of after) ((machine k).thread_of next) next z) (still_asked a asks b e)
        (subst (λ (z : K). IsOut machine first (seen_of after) (worker_of after) ((machine z).thread_of next) next (mood_after (mood_of a) asks)) (sym code) (subst (ActedSays machine (mood_of a) first (seen_of after) (worker_of after)) is says))

    pub works_next : (next : C) (asks : Bool) → answer ≡ acted.Went next asks → MayWork machine shared_of context_of k next
    works_next next asks is = subst (λ (z : K). MayWork machine shared_of context_of z next) (sym code) (subst (ActedWorks machine shared_of context_of first) is acts.works)

    -- where it is to come home
    pub rested_home : (next : C) → answer ≡ acted.Rested next → MayCall machine first (seen_of after) (worker_of after) (call.Home next)
    rested_home next is = subst (ActedSays machine (mood_of a) first (seen_of after) (worker_of after)) is says

    pub busy_home : (next : C) → answer ≡ acted.Busy next → MayCall machine first (seen_of after) (worker_of after) (call.Home next)
    busy_home next is = subst (ActedSays machine (mood_of a) first (seen_of after) (worker_of after)) is says

    pub room_home : (next : C) → answer ≡ acted.WaitRoom next → MayCall machine first (seen_of after) (worker_of after) (call.Home next)
    room_home next is = subst (ActedSays machine (mood_of a) first (seen_of after) (worker_of after)) is says

module _ {S K C : Type 0} (machine : K → Machine S C) (shared_of : K → S → Type 0) (context_of : K → C → Type 0) (first : Whole S K C) (before after : Pass (Whole S K C)) (answer : Found C)
    (finds : Finds machine shared_of context_of first before after answer) where
  -- a context that was handed out
  pub out_first : (k : K) → k ≡ first.code → (c : C) → answer ≡ found.Work c → IsOut machine first (seen_of after) (worker_of after) ((machine k).thread_of c) c free
  out_first k code c is = subst (λ (z : K). IsOut machine first (seen_of after) (worker_of after) ((machine z).thread_of c) c free) (sym code) (subst (FoundSays machine first (seen_of after) (worker_of after)) is finds.says)

  pub works_first : (k : K) → k ≡ first.code → (c : C) → answer ≡ found.Work c → MayWork machine shared_of context_of k c
  works_first k code c is = subst (λ (z : K). MayWork machine shared_of context_of z c) (sym code) (subst (FoundWorks machine shared_of context_of first) is finds.works)

-- the worker found the run over
pub over_found : {S K C Call Reply : Type 0} (machine : K → Machine S C) (shared_of : K → S → Type 0) (context_of : K → C → Type 0) (lock : TurnLock (Whole S K C) Call Reply) (before after : Pass (Whole S K C)) (answer : Found C)
    → IsPassOf lock before → worker_of after ≡ worker_of before → Finds machine shared_of context_of (first_of lock) before after answer → (end : End) → answer ≡ found.Over end → FoundOver machine shared_of context_of lock after
over_found machine shared_of context_of lock before after answer of_lock same finds end is =
    record { before = before; of_lock = of_lock; same = same; end = end; finds = subst (Finds machine shared_of context_of (first_of lock) before after) is finds }
