-- The turns that a journal tells of as tried and not done.
use Rattle.std.specs.Prelude.{ℕ, ◌+◌, ◌==◌, ◌&&◌, ◌||◌, Bool, if◌then◌else◌, List, [], ◌∷◌, ◌++◌, length}
use Rattle.ak_trace.specs.declared.entry.Entry.{Entry}
use Rattle.ak_trace.specs.Hows as how
use Rattle.ak_trace.specs.Kinds as kind
use Rattle.ak_trace.specs.Order.{turns_of}
use Rattle.flat_meaning.specs.Order.{Attempt}

-- a step that was busy, trapped, or would have passed the output's limit, or a call without room
abbrev pub is_attempt : Entry → Bool
is_attempt e = (e.kind == kind.turn) && ((e.how == how.busy) || ((e.how == how.trap) || ((e.how == how.output_limit) || (e.how == how.no_stack))))

-- an attempt's thread, and how many turns were done before it
abbrev pub placed : Attempt → ℕ × ℕ
placed a = (a.turn.thread, a.position)

-- those of an entry, before which so many turns were done: the thread's local turns come first
abbrev pub attempts_at : (turns : ℕ) → Entry → List (ℕ × ℕ)
attempts_at turns e = if is_attempt e then (e.thread, turns + e.local) ∷ [] else []

-- those of entries
abbrev pub attempts_from : (turns : ℕ) → List Entry → List (ℕ × ℕ)
attempts_from turns [] = []
attempts_from turns (e ∷ es) = attempts_at turns e ++ attempts_from (turns + length (turns_of e)) es
