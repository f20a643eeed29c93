-- Code that recurses in place of a loop: worked out turn by turn.
use Rattle.std.proofs.Common.{◌≡◌, refl, ap, ℕ, zero, suc, List, [], ◌∷◌, map, Some}
use Rattle.std.specs.Prelude.{None}
use Rattle.ak_words.specs.Wrapped.{residue, wrapped_value}
use Rattle.block_store.specs.declared.values.Answer.{Answer}
use Rattle.block_store.specs.declared.values.Answer.TheVariants as answers
use Rattle.block_store.specs.Runs.{Program, State, Pick, picked, Shown, it_begins, it_went, it_was_unfit, no_such_turn, shown_then, shown_from}
use Rattle.block_store.specs.Runs as runs
use Rattle.c_tree.specs.Typed.{empty, no_stmts}
use Rattle.c_meaning.specs.Control.{Control, leaves, then_row, round}
use Rattle.c_meaning.specs.Turns.{while_loop}
use Rattle.c_meaning.specs.Meaning.{program, start}
use Rattle.c_meaning.specs.Rows.{k, one}
use Rattle.struct_ir.specs.Structured.{Position}
use Rattle.struct_ir.specs.Machine.{Point, run_within, run}
use Rattle.struct_ir.specs.Threads.{Thread}
use Rattle.struct_ir.specs.meaning.Blocks.{Held, Own}
use Rattle.struct_ir.specs.meaning.Threads.{start_in, program_of}
use Rattle.lower_forms.specs.Programs.{lowered}
use Rattle.lower_turns.specs.Apart.{spins, recurses, without_calls, RecursionIsToldApart}

abbrev the_loop : Program Control
the_loop = program spins

abbrev the_calls : Program (Thread Position Own)
the_calls = program_of (lowered recurses)

-- ---- states behind the first turn, in the first world

-- the loop, before a round
abbrev in_loop : State Control
in_loop = record {
  world = start spins;
  own = Some (record { function = 0; locals = []; point = round (while_loop 0 (k 1) (one empty)) (then_row no_stmts leaves); callers = []; touched = [] }) ∷ [];
}

-- a call of the second function, above these that wait
abbrev in_call : (ℕ → Held) → List (Point Position Own) → State (Thread Position Own)
in_call temps waiting = record {
  world = start spins;
  own = Some (record { top = record { at = start_in (lowered recurses) 1; own = record { function = 1; temps = temps; objects = λ i. None; blocks = [] } }; callers = waiting }) ∷ [];
}

-- they show the same from there on
abbrev Alike : List Pick → Type 0
Alike order = (temps : ℕ → Held) (waiting : List (Point Position Own)) → map without_calls (shown_from the_calls order (in_call temps waiting)) ≡ map without_calls (shown_from the_loop order in_loop)

alike_then : (order : List Pick) → Alike order → (thread : ℕ) (answer : Answer) (temps : ℕ → Held) (waiting : List (Point Position Own))
    → map without_calls (shown_then the_calls (shown_from the_calls order) (in_call temps waiting) thread (picked the_calls (in_call temps waiting) (record { thread = thread; answer = answer })))
    ≡ map without_calls (shown_then the_loop (shown_from the_loop order) in_loop thread (picked the_loop in_loop (record { thread = thread; answer = answer })))
unfolding residue wrapped_value run_within run
alike_then order rest zero answers.Plain temps waiting = ap (λ z. it_went 0 (start spins) ∷ z) (rest _ (_ ∷ waiting))
alike_then order rest zero answers.Got temps waiting = ap (λ z. it_was_unfit ∷ z) (rest temps waiting)
alike_then order rest zero answers.None temps waiting = ap (λ z. it_was_unfit ∷ z) (rest temps waiting)
alike_then order rest (suc n) answer temps waiting = ap (λ z. no_such_turn ∷ z) (rest temps waiting)

alike_from : (order : List Pick) → Alike order
alike_from [] temps waiting = refl
alike_from (p ∷ order) temps waiting = alike_then order (alike_from order) p.thread p.answer temps waiting

-- ---- from the start on

first_then : (order : List Pick) → map without_calls (shown_from the_calls order (runs.first_state the_calls (start spins))) ≡ map without_calls (shown_from the_loop order (runs.first_state the_loop (start spins)))
    → (thread : ℕ) (answer : Answer)
    → map without_calls (shown_then the_calls (shown_from the_calls order) (runs.first_state the_calls (start spins)) thread (picked the_calls (runs.first_state the_calls (start spins)) (record { thread = thread; answer = answer })))
    ≡ map without_calls (shown_then the_loop (shown_from the_loop order) (runs.first_state the_loop (start spins)) thread (picked the_loop (runs.first_state the_loop (start spins)) (record { thread = thread; answer = answer })))
unfolding residue wrapped_value run_within run
first_then order rest zero answers.Plain = ap (λ z. it_went 0 (start spins) ∷ z) (alike_from order _ (_ ∷ []))
first_then order rest zero answers.Got = ap (λ z. it_was_unfit ∷ z) rest
first_then order rest zero answers.None = ap (λ z. it_was_unfit ∷ z) rest
first_then order rest (suc n) answer = ap (λ z. no_such_turn ∷ z) rest

first_alike : (order : List Pick) → map without_calls (shown_from the_calls order (runs.first_state the_calls (start spins))) ≡ map without_calls (shown_from the_loop order (runs.first_state the_loop (start spins)))
first_alike [] = refl
first_alike (p ∷ order) = first_then order (first_alike order) p.thread p.answer

-- ---- how many calls wait behind the first turn

abbrev calls_of : List Shown → ℕ
calls_of (it_begins w ∷ it_went calls v ∷ rest) = calls
calls_of others = 0

turn_apart : (it_begins (start spins) ∷ shown_from the_calls (record { thread = 0; answer = answers.Plain } ∷ []) (runs.first_state the_calls (start spins)))
    ≡ (it_begins (start spins) ∷ shown_from the_loop (record { thread = 0; answer = answers.Plain } ∷ []) (runs.first_state the_loop (start spins))) → ◌≡◌ {A = ℕ} 1 0
unfolding residue wrapped_value run_within run
turn_apart e = ap calls_of e

pub recursion_is_told_apart : RecursionIsToldApart
recursion_is_told_apart = record {
  same_worlds = λ order. ap (λ z. it_begins (start spins) ∷ z) (first_alike order);
  told_apart = λ keeps. let e = turn_apart (keeps (record { thread = 0; answer = answers.Plain } ∷ [])) in cc e;
}
