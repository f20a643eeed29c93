-- The seeded order of a program's turns: one draw before each, which says the thread at which is looked first.
use Rattle.std.specs.Prelude.{ℕ, zero, suc, ◌%◌, ◌≡◌, nat_lt, Bool, true, false, if◌then◌else◌, List, [], ◌∷◌, ◌++◌, length, take, drop, slice_get, Option, Some, None}
use Rattle.std.specs.Option.{option_map}
use Rattle.block_store.specs.declared.values.Answer.{Answer}
use Rattle.block_store.specs.declared.values.Answer.TheVariants as answers
use Rattle.block_store.specs.Actions.{World}
use Rattle.block_store.specs.Runs.{Program, State, Pick, Turn, blocked, run, reaches}
use Rattle.block_meaning.specs.Asking.{Wish, nothing, some_bytes, too_many_bytes, a_thread, wish, told}
use Rattle.flat_rules.specs.Draws.{seeded, next_draw, drawn}

-- ---- the draws

-- x after so many draws
abbrev pub x_after : (n x : ℕ) → ℕ
x_after zero x = x
x_after (suc n) x = next_draw (x_after n x)

-- the draw that is made from a seed before the turn that follows so many turns
abbrev pub draw_before : (seed turns : ℕ) → ℕ
draw_before seed turns = drawn (x_after (suc turns) (seeded (Some seed)))

-- ---- which thread does the next turn

-- the threads that were made and haven't ended, of those from the n-th on, counted upwards
abbrev pub running_from : {A : Type 0} → (n : ℕ) → List (Option A) → List ℕ
running_from n [] = []
running_from n (None ∷ own) = running_from (suc n) own
running_from n (Some a ∷ own) = n ∷ running_from (suc n) own

-- all threads that were made and haven't ended, counted upwards
abbrev pub running : {A : Type 0} → List (Option A) → List ℕ
running own = running_from 0 own

-- from the one at this place on, in rising order and round
abbrev pub round_from : (place : ℕ) → List ℕ → List ℕ
round_from place threads = drop place threads ++ take place threads

-- in which order a draw looks at the threads: first at the one at the draw modulo their number
abbrev pub looked_at : (draw : ℕ) → List ℕ → List ℕ
looked_at draw threads = round_from (draw % length threads) threads

-- a turn waits
abbrev pub is_blocked : {A : Type 0} → Option (Turn A) → Bool
is_blocked (Some blocked) = true
is_blocked t = false

-- of these threads the first whose next turn doesn't wait
abbrev pub first_ready : {A : Type 0} → Program A → State A → List ℕ → Option ℕ
first_ready P s [] = None
first_ready P s (thread ∷ threads) = if is_blocked (told P s thread answers.Plain) then first_ready P s threads else Some thread

-- ---- which answer it is told

-- an allocation gets what it asks for up to 16,777,216 bytes, and a new thread is made while fewer than 64 were; all else is told Plain
abbrev pub answer_to : (made : ℕ) → Wish → Answer
answer_to made nothing = answers.Plain
answer_to made (some_bytes n) = if nat_lt 16777216 n then answers.None else answers.Got
answer_to made too_many_bytes = answers.None
answer_to made a_thread = if nat_lt made 64 then answers.Got else answers.None

-- the turn of this thread, with its answer
abbrev pub pick_for : {A : Type 0} → Program A → State A → (thread : ℕ) → Pick
pick_for P s thread = record { thread = thread; answer = answer_to (length s.own) (wish P s thread) }

-- the turn that a draw chooses in a state, if not all wait
abbrev pub chosen : {A : Type 0} → Program A → (draw : ℕ) → State A → Option Pick
chosen P draw s = option_map (pick_for P s) (first_ready P s (looked_at draw (running s.own)))

-- ---- the order

-- each turn of an order is the one that its draw chooses in the state to which the turns before it come
pub record IsSeeded {A : Type 0} (P : Program A) (w : World) (seed : ℕ) (order : List Pick) : Type 0 where
  pub each : (k : ℕ) (p : Pick) → slice_get order k ≡ Some p → (s : State A) → run P w (take k order) ≡ reaches s → chosen P (draw_before seed k) s ≡ Some p
