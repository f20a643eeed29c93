-- Journals worked by hand, with their numbers written out, and the turns that they tell.
use Rattle.std.specs.Prelude.{ℕ, List, [], ◌∷◌, replicate}
use Rattle.ak_trace.specs.declared.entry.Entry.{Entry}
use Rattle.ak_trace.specs.declared.order.Answer.{Answer}
use Rattle.ak_trace.specs.declared.order.Answer.TheVariants.{Plain, Got, None}

-- an entry by its kind, thread and how, and how many local turns it tells; worker k drives thread k
abbrev pub row : (kind thread how local : ℕ) → Entry
row kind thread how local = record { kind = kind; worker = thread; thread = thread; how = how; local = local; zero = 0; id = 0; place = 0 }

-- out, 2 turns and a look, no turn and a plain step, 3 turns and a rest
abbrev pub local_journal : List Entry
local_journal = row 0 0 0 0 ∷ row 2 0 0 2 ∷ row 2 0 1 0 ∷ row 2 0 8 3 ∷ []

-- these are six turns
abbrev pub local_turns : List (ℕ × Answer)
local_turns = replicate 6 (0, Plain)

-- every kind and every how, of three threads
abbrev pub full_journal : List Entry
full_journal =
    -- out; a look after one turn, a plain step after two
    row 0 0 0 0 ∷ row 2 0 0 1 ∷ row 2 0 1 2
    -- a malloc that got an object, one that got null after one turn, a thread made, a thread refused
    ∷ row 2 0 2 0 ∷ row 2 0 3 1 ∷ row 2 0 4 0 ∷ row 2 0 5 0
    -- thread 1 goes out, finds the mutex held after one turn, and waits for room; thread 2 rests after one turn
    ∷ row 0 1 0 0 ∷ row 2 1 6 1 ∷ row 2 1 7 0 ∷ row 2 2 8 1
    -- all come home; a barrier for room, after which the malloc of thread 1 gets an object and that of thread 2 null
    ∷ row 1 1 0 0 ∷ row 1 2 0 0 ∷ row 3 0 0 0 ∷ row 4 1 2 0 ∷ row 4 2 3 0
    -- a barrier after a set number of turns; thread 1 ends after two turns, thread 2 meets a trap after one
    ∷ row 3 0 1 0 ∷ row 2 1 9 2 ∷ row 2 2 10 1
    -- thread 0 prints too much, and has no stack after one turn
    ∷ row 2 0 11 0 ∷ row 2 0 12 1
    ∷ []

-- their turns
abbrev pub full_turns : List (ℕ × Answer)
full_turns =
    (0, Plain) ∷ (0, Plain) ∷ (0, Plain) ∷ (0, Plain)
    ∷ (0, Got) ∷ (0, Plain) ∷ (0, None) ∷ (0, Got) ∷ (0, None)
    ∷ (1, Plain) ∷ (2, Plain)
    ∷ (1, Got) ∷ (2, None)
    ∷ (1, Plain) ∷ (1, Plain) ∷ (1, Plain) ∷ (2, Plain)
    ∷ (0, Plain)
    ∷ []
