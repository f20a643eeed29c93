-- The order of the turns of the C threads, computed from the entries of a journal alone.
use Rattle.std.specs.Prelude.{ℕ, ◌==◌, ◌||◌, if◌then◌else◌, List, [], ◌∷◌, ◌++◌, map, replicate}
use Rattle.std.specs.List.{flat_map}
use Rattle.ak_trace.specs.declared.entry.Entry.{Entry}
use Rattle.ak_trace.specs.declared.order.Answer.{Answer}
use Rattle.ak_trace.specs.declared.order.Answer.TheVariants.{Plain, Got, None}
use Rattle.ak_trace.specs.Kinds.{turn, served}
use Rattle.ak_trace.specs.Hows.{plain_step, malloc_got, malloc_null, thread_made, thread_refused, end}

-- what the turn was told that a step ends: one answer where the step was done, none where it was only tried, or ends no turn
abbrev pub step_answers : ℕ → List Answer
step_answers how =
    if (how == plain_step) || (how == end) then Plain ∷ []
    else (if (how == malloc_got) || (how == thread_made) then Got ∷ []
    else (if (how == malloc_null) || (how == thread_refused) then None ∷ [] else []))

-- what a malloc was told that was served after a barrier
abbrev pub served_answer : ℕ → Answer
served_answer how = if how == malloc_got then Got else None

-- the turns of one entry: of a Turn its local turns and that of its step, of a Served its malloc's, of any other none
abbrev pub turns_of : Entry → List (ℕ × Answer)
turns_of e =
    if e.kind == turn then replicate e.local (e.thread, Plain) ++ map (λ answer. (e.thread, answer)) (step_answers e.how)
    else (if e.kind == served then (e.thread, served_answer e.how) ∷ [] else [])

-- the turns that a journal tells, in sequence: each a thread, and what that turn was told
abbrev pub order : List Entry → List (ℕ × Answer)
order log = flat_map turns_of log
