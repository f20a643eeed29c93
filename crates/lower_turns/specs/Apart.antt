-- Code that recurses in place of a loop: what it shows differs only in how many calls wait, and so it doesn't keep the loop's turns.
use Rattle.std.specs.Prelude.{◌≡◌, List, [], ◌∷◌, map}
use Rattle.block_store.specs.Runs.{Pick, Shown, it_begins, it_went, it_ended, it_blocked, it_was_unfit, it_broke, no_such_turn}
use Rattle.block_store.specs.Runs as runs
use Rattle.c_tree.specs.Typed
use Rattle.c_tree.specs.Typed.{while_, empty, evaluate}
use Rattle.c_meaning.specs.Meaning.{shown}
use Rattle.c_meaning.specs.Rows.{k, one, func, whole, main_only, call_of}
use Rattle.struct_ir.specs.meaning.Start.{start}
use Rattle.struct_ir.specs.meaning.Threads.{program_of}
use Rattle.lower_forms.specs.Programs.{lowered}
use Rattle.lower_turns.specs.Turns.{KeepsEveryTurn}

-- int main(void){while(1);}
abbrev pub spins : Typed.Typed
spins = main_only [] (while_ (k 1) (one empty) ∷ [])

-- int main(void){f();}int f(void){f();}
abbrev pub recurses : Typed.Typed
recurses = whole [] [] (func 0 [] (evaluate (call_of 1 []) ∷ []) ∷ func 0 [] (evaluate (call_of 1 []) ∷ []) ∷ [])

-- what is shown, but for how many calls wait
abbrev pub without_calls : Shown → Shown
without_calls (it_begins w) = it_begins w
without_calls (it_went calls w) = it_went 0 w
without_calls (it_ended w) = it_ended w
without_calls it_blocked = it_blocked
without_calls it_was_unfit = it_was_unfit
without_calls (it_broke rule place) = it_broke rule place
without_calls no_such_turn = no_such_turn

-- under every order the code of the second goes as the first does, in the same worlds; but it doesn't keep the first's every turn
pub record RecursionIsToldApart : Type 0 where
  pub same_worlds : (order : List Pick) → map without_calls (runs.shown (program_of (lowered recurses)) (start (lowered recurses)) order) ≡ map without_calls (shown spins order)
  pub told_apart : KeepsEveryTurn spins (lowered recurses) → ⊥
