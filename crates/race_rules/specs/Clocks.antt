-- Clocks: for each thread, one more than the number of its last turn that is known, or 0; and how they go on from turn to turn.
use Rattle.std.specs.Prelude.{◌≡◌, ℕ, zero, suc, ◌-◌, ◌<◌, nat_lt, nat_le, max, ◌==◌, ◌&&◌, Bool, true, false, ◌⊎◌, ◌↔◌, if◌then◌else◌, List, [], ◌∷◌, slice_get, Some}
use Rattle.race_rules.specs.declared.touch.Touch.{Touch}
use Rattle.race_rules.specs.declared.touch.TouchKind.{TouchKind}
use Rattle.race_rules.specs.declared.touch.TouchKind.TheVariants.{Read, Write, AtomicRead, AtomicWrite, Lock, Unlock, Start, Join}
use Rattle.race_rules.specs.Turns.{Turn}
use Rattle.race_rules.specs.Order.{Before}

-- for each thread, one more than the number of its last turn that is known, or 0
abbrev pub Clock : Type 0
Clock = ℕ → ℕ

-- no turn is known
abbrev pub nothing : Clock
nothing t = 0

-- what one of two clocks knows
abbrev pub joined : Clock → Clock → Clock
joined v w t = max (v t) (w t)

-- the turn itself, and what the clock knows
abbrev pub own : (turn thread : ℕ) → Clock → Clock
own turn thread v t = if t == thread then suc turn else v t

-- turn i is turn j, or before it
abbrev pub AtOrBefore : List Turn → ℕ → ℕ → Type 0
AtOrBefore ts i j = (i ≡ j) ⊎ Before ts i j

-- turn i is one of these turns, or before one
pub record UpTo (ts : List Turn) (P : ℕ → Type 0) (i : ℕ) : Type 0 where
  pub turn : ℕ
  pub is : P turn
  pub reach : AtOrBefore ts i turn

-- the clock knows just these turns and what is before them
abbrev pub Knows : (ts : List Turn) → Clock → (ℕ → Type 0) → Type 0
Knows ts v P = (i : ℕ) (x : Turn) → slice_get ts i ≡ Some x → (i < v x.thread) ↔ UpTo ts P i

-- what is known of the turns so far: by the last turn of each thread, by the turns that made it, by those that gave a mutex back, by
-- those that wrote a cell atomically
pub record Clocks : Type 0 where
  pub threads : ℕ → Clock
  pub started : ℕ → Clock
  pub released : (block from to : ℕ) → Clock
  pub written : (block cell : ℕ) → Clock

-- before the first turn
abbrev pub first_clocks : Clocks
first_clocks = record { threads = λ t. nothing; started = λ t. nothing; released = λ b f e. nothing; written = λ b c. nothing }

-- what is known from atomic writes of so many cells
abbrev pub written_over : Clocks → (block from count : ℕ) → Clock
written_over c block from zero = nothing
written_over c block from (suc count) = joined (c.written block from) (written_over c block (suc from) count)

-- what a touch lets its turn know
abbrev pub gained_by : Clocks → (block from to : ℕ) → TouchKind → Clock
gained_by c block from to Read = nothing
gained_by c block from to Write = nothing
gained_by c block from to AtomicRead = written_over c block from (to - from)
gained_by c block from to AtomicWrite = nothing
gained_by c block from to Lock = c.released block from to
gained_by c block from to Unlock = nothing
gained_by c block from to (Start t) = nothing
gained_by c block from to (Join t) = c.threads t

-- the same of the touch as a whole
abbrev pub gained : Clocks → Touch → Clock
gained c a = gained_by c a.block a.from a.to a.kind

-- what the touches let it know
abbrev pub gained_all : Clocks → List Touch → Clock
gained_all c [] = nothing
gained_all c (a ∷ more) = joined (gained c a) (gained_all c more)

-- what turn k knows, at its end
abbrev pub clock_of : Clocks → (k : ℕ) → Turn → Clock
clock_of c k x = own k x.thread (joined (joined (c.threads x.thread) (c.started x.thread)) (gained_all c x.touches))

-- a thread of this number is made: its clock is told
abbrev pub is_start : (thread : ℕ) → TouchKind → Bool
is_start t (Start u) = t == u
is_start t other = false

-- a mutex is given back: its clock is told
abbrev pub is_unlock : TouchKind → Bool
is_unlock Unlock = true
is_unlock other = false

-- cells are written atomically: their clocks are told
abbrev pub is_atomic_write : TouchKind → Bool
is_atomic_write AtomicWrite = true
is_atomic_write other = false

-- the touch is of this cell
abbrev pub is_of : Touch → (block cell : ℕ) → Bool
is_of a block cell = (a.block == block) && (nat_le a.from cell && nat_lt cell a.to)

-- the touch is of these cells
abbrev pub is_of_all : Touch → (block from to : ℕ) → Bool
is_of_all a block from to = (a.block == block) && ((a.from == from) && (a.to == to))

-- with what the turn knows, where that is told
abbrev pub if_told : Bool → Clock → Clock → Clock
if_told b v w = if b then joined w v else w

-- after one touch
abbrev pub told : Clock → Touch → Clocks → Clocks
told v a c = record {
  threads = c.threads;
  started = λ t. if_told (is_start t a.kind) v (c.started t);
  released = λ block from to. if_told (is_unlock a.kind && is_of_all a block from to) v (c.released block from to);
  written = λ block cell. if_told (is_atomic_write a.kind && is_of a block cell) v (c.written block cell);
}

-- after all touches, the first first
abbrev pub told_all : Clock → List Touch → Clocks → Clocks
told_all v [] c = c
told_all v (a ∷ more) c = told_all v more (told v a c)

-- the thread's last turn knows this
abbrev pub in_thread : (thread : ℕ) → Clock → Clocks → Clocks
in_thread thread v c = record {
  threads = λ t. if t == thread then v else c.threads t;
  started = c.started;
  released = c.released;
  written = c.written;
}

-- after turn k
abbrev pub after : Clocks → (k : ℕ) → Turn → Clocks
after c k x = let v = clock_of c k x in in_thread x.thread v (told_all v x.touches c)
