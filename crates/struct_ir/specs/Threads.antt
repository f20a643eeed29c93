-- Threads with calls, over any machine and any shared world. Over named blocks a turn is a run and then what it stopped before; the
-- flat machine's events are these two halves.
use Rattle.std.specs.Prelude.{◌≡◌, ℕ, List, [], ◌∷◌, Option, None, Bool, true, false, Result, Ok, Err}
use Rattle.struct_ir.specs.Nodes.{Act, call}
use Rattle.struct_ir.specs.Flow.{Here, does, tests, passes, round, returns, Flow, IsCall, Shrinks}
use Rattle.struct_ir.specs.Machine.{Machine, Point, ahead, run, Comes, stops}

-- what the world does at a stop: it goes on with what the thread then has; it can't be done yet; the answer doesn't fit; or a fault
pub data Served (L F S : Type 0) : Type 0 where
  serves : (l : L) (s : S) → Served L F S
  waits : Served L F S
  refuses : Served L F S
  fails : (f : F) → Served L F S

-- what is shared, and what becomes of a thread's own at its stops; an answer is what the world chooses
pub record Environment (L F S A : Type 0) : Type 0 where
  -- what a thread sees of what is shared when it goes on, and what it keeps there when it stops
  pub seen : S → L → L
  pub kept : L → S → S
  -- an act that a thread stops before, by its place in the text
  pub serve : A → (place : ℕ) → Act → L → S → Served L F S
  -- the return of a thread's first function
  pub finish : A → L → Option ℕ → S → Served L F S
  -- the answer fits a turn that has no action
  pub is_plain : A → Bool
  -- what a call starts with, and what its caller has after it
  pub entered : (function : ℕ) → L → List ℕ → L
  pub left : (callee : L) → Option ℕ → (caller : L) → Option ℕ → L

-- the call under way, and those that wait, each before its call
pub record Thread (P L : Type 0) : Type 0 where
  pub top : Point P L
  pub callers : List (Point P L)

-- what came of a turn, or of half of one
pub data Outcome (P L F S : Type 0) : Type 0 where
  went : (t : Thread P L) (s : S) → Outcome P L F S
  ended : (l : L) (s : S) → Outcome P L F S
  blocked : Outcome P L F S
  broke : (f : F) → Outcome P L F S
  -- the answer doesn't fit, or the thread doesn't stand at a stop
  unfit : Outcome P L F S

-- the register that takes a call's value
abbrev pub result_to : Here → Option ℕ
result_to (does place (call c)) = c.to
result_to h = None

-- behind what stands at a point
abbrev pub behind : {P L : Type 0} → Flow P → Point P L → L → Point P L
behind C p l = record { at = C.next p.at true; own = l }

-- ---- the thread alone, up to its next stop

-- what came of a run
abbrev pub alone : {P L F S A : Type 0} → Environment L F S A → List (Point P L) → S → Result (Point P L) F → Outcome P L F S
alone W callers s (Ok q) = went (record { top = q; callers = callers }) (W.kept q.own s)
alone W callers s (Err f) = broke f

-- the thread goes on alone, with what it sees of what is shared, up to its next stop
abbrev pub local_event : {P L F S A : Type 0} → Flow P → Machine L F → Environment L F S A → Thread P L → S → Outcome P L F S
local_event C M W t s = alone W t.callers s (run C M (record { at = t.top.at; own = W.seen s t.top.own }))

-- ---- what the thread stops before is done

-- the thread goes on behind an act that the world did
abbrev pub served : {P L F S : Type 0} → Flow P → Thread P L → Served L F S → Outcome P L F S
served C t (serves l s) = went (record { top = behind C t.top l; callers = t.callers }) s
served C t waits = blocked
served C t refuses = unfit
served C t (fails f) = broke f

-- the thread's first function has returned
abbrev pub finished : {P L F S : Type 0} → Served L F S → Outcome P L F S
finished (serves l s) = ended l s
finished waits = blocked
finished refuses = unfit
finished (fails f) = broke f

-- what came of it where the test holds
abbrev pub if_fits : {P L F S : Type 0} → Bool → Outcome P L F S → Outcome P L F S
if_fits true x = x
if_fits false x = unfit

-- a call is entered, and any other act is done by the world
abbrev pub entered_or_served : {P L F S A : Type 0} → Flow P → Environment L F S A → (ℕ → P) → A → Thread P L → S → (place : ℕ) → Act → Outcome P L F S
entered_or_served C W code answer t s place (call c) =
    if_fits (W.is_plain answer) (went (record { top = record { at = code c.function; own = W.entered c.function t.top.own c.temps }; callers = t.top ∷ t.callers }) s)
entered_or_served C W code answer t s place a = served C t (W.serve answer place a t.top.own s)

-- the caller goes on behind its call, with what the callee kept
abbrev pub back_in : {P L F S A : Type 0} → Flow P → Environment L F S A → L → S → Point P L → List (Point P L) → Outcome P L F S
back_in C W l s c callers = went (record { top = behind C c l; callers = callers }) (W.kept l s)

-- a call is left
abbrev pub left_call : {P L F S A : Type 0} → Flow P → Environment L F S A → A → L → Option ℕ → S → List (Point P L) → Outcome P L F S
left_call C W answer l temp s [] = finished (W.finish answer l temp s)
left_call C W answer l temp s (c ∷ callers) = if_fits (W.is_plain answer) (back_in C W (W.left l temp c.own (result_to (C.here c.at))) s c callers)

-- by what stands there
abbrev pub stop_at : {P L F S A : Type 0} → Flow P → Machine L F → Environment L F S A → (ℕ → P) → A → Thread P L → S → Here → Outcome P L F S
stop_at C M W code answer t s (does place a) = if_fits (M.stops a) (entered_or_served C W code answer t s place a)
stop_at C M W code answer t s (tests place temp) = unfit
stop_at C M W code answer t s passes = unfit
stop_at C M W code answer t s round = if_fits (W.is_plain answer) (went (record { top = behind C t.top t.top.own; callers = t.callers }) s)
stop_at C M W code answer t s (returns temp) = left_call C W answer t.top.own temp s t.callers

-- what the thread stops before is done
abbrev pub stop_event : {P L F S A : Type 0} → Flow P → Machine L F → Environment L F S A → (ℕ → P) → A → Thread P L → S → Outcome P L F S
stop_event C M W code answer t s = stop_at C M W code answer t s (C.here t.top.at)

-- ---- a turn: both halves

-- one half, and then the other
abbrev pub and_then : {P L F S : Type 0} → Outcome P L F S → (Thread P L → S → Outcome P L F S) → Outcome P L F S
and_then (went t s) go = go t s
and_then (ended l s) go = ended l s
and_then blocked go = blocked
and_then (broke f) go = broke f
and_then unfit go = unfit

-- a turn
abbrev pub turn : {P L F S A : Type 0} → Flow P → Machine L F → Environment L F S A → (ℕ → P) → A → Thread P L → S → Outcome P L F S
turn C M W code answer t s = and_then (local_event C M W t s) (stop_event C M W code answer)

-- ---- the ways of all calls of a thread

-- it has come from the start of its function
pub record HasCome {P L F : Type 0} (C : Flow P) (M : Machine L F) (code : ℕ → P) (p : Point P L) : Type 0 where
  pub function : ℕ
  pub way : List P
  pub comes : Comes C M (code function) way p

-- it stands before a call
pub record Waits {P L F : Type 0} (C : Flow P) (M : Machine L F) (code : ℕ → P) (p : Point P L) : Type 0 where
  pub come : HasCome C M code p
  pub stands : ahead C M p ≡ stops
  pub calls : IsCall (C.here p.at)

-- each caller waits
abbrev pub AllWait : {P L F : Type 0} → Flow P → Machine L F → (ℕ → P) → List (Point P L) → Type 0
AllWait C M code [] = Unit {0}
AllWait C M code (c ∷ callers) = Waits C M code c × AllWait C M code callers

-- so has each call of the thread
pub record AllCome {P L F : Type 0} (C : Flow P) (M : Machine L F) (code : ℕ → P) (t : Thread P L) : Type 0 where
  pub top : HasCome C M code t.top
  pub callers : AllWait C M code t.callers

-- where the thread went on
abbrev pub IfWent : {P L F S : Type 0} → (Thread P L → Type 0) → Outcome P L F S → Type 0
IfWent A (went t s) = A t
IfWent A (ended l s) = Unit {0}
IfWent A blocked = Unit {0}
IfWent A (broke f) = Unit {0}
IfWent A unfit = Unit {0}

-- each event keeps it
pub record KeepsWays {P L F S A : Type 0} (C : Flow P) (M : Machine L F) (W : Environment L F S A) (code : ℕ → P) : Type 0 where
  pub local : (t : Thread P L) (s : S) → AllCome C M code t → IfWent (AllCome C M code) (local_event C M W t s)
  pub stop : (answer : A) (t : Thread P L) (s : S) → AllCome C M code t → IfWent (AllCome C M code) (stop_event C M W code answer t s)

-- in any code and world
abbrev pub EventsKeepWays : (P L F S A : Type 0) → Type 0
EventsKeepWays P L F S A = (C : Flow P) → Shrinks C → (M : Machine L F) (W : Environment L F S A) (code : ℕ → P) → KeepsWays C M W code
