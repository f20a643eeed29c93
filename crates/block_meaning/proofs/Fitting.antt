-- A run makes few blocks in each turn.
use Rattle.std.proofs.Common.{◌≡◌, ◌≤◌, ◌+◌, ℕ, zero, suc, List, [], ◌∷◌, ◌++◌, length, set, map, drop, Option, Some, None, refl, subst, arith}
use Rattle.std.specs.Prelude.{slice_get}
use Rattle.block_store.specs.declared.values.Ptr.{Ptr}
use Rattle.block_store.specs.Actions as actions
use Rattle.block_store.specs.Runs.{Turn, went, ended, blocked, unfit, broke, State, Pick, begun, own_at, picked, turn_if, first_state}
use Rattle.c_tree.specs.Typed as tree
use Rattle.c_meaning.specs.Control.{Control}
use Rattle.c_meaning.specs.Meaning.{program, begins_if, start}
use Rattle.block_meaning.specs.Counts.{in_row, FitsControl, FitsOwns, HasFewDeclarations, ReachesFew, MakesFew}
use Rattle.block_meaning.specs.Running.{left_by}
use Rattle.block_meaning.proofs.Counting.{Within}
use Rattle.block_meaning.proofs.Declaring.{turn_makes}

fits_at : (n : ℕ) (all : List (Option Control)) (i : ℕ) (c : Control) → FitsOwns n all → own_at all i ≡ Some c → FitsControl n c
fits_at n [] i c fits e = cc
fits_at n (None ∷ all) zero c fits e = cc
fits_at n (None ∷ all) (suc i) c fits e = fits_at n all i c fits e
fits_at n (Some d ∷ all) zero c fits e = let same : d ≡ c = cc in subst (λ (x : Control). FitsControl n x) same fits.0
fits_at n (Some d ∷ all) (suc i) c fits e = fits_at n all i c fits.1 e

fits_set : (n : ℕ) (all : List (Option Control)) (i : ℕ) (c : Control) → FitsOwns n all → FitsControl n c → FitsOwns n (set all i (Some c))
fits_set n [] i c fits f = tt
fits_set n (None ∷ all) zero c fits f = (f, fits)
fits_set n (None ∷ all) (suc i) c fits f = fits_set n all i c fits f
fits_set n (Some d ∷ all) zero c fits f = (f, fits.1)
fits_set n (Some d ∷ all) (suc i) c fits f = (fits.0, fits_set n all i c fits.1 f)

fits_gone : (n : ℕ) (all : List (Option Control)) (i : ℕ) → FitsOwns n all → FitsOwns n (set all i None)
fits_gone n [] i fits = tt
fits_gone n (None ∷ all) zero fits = fits
fits_gone n (None ∷ all) (suc i) fits = fits_gone n all i fits
fits_gone n (Some d ∷ all) zero fits = fits.1
fits_gone n (Some d ∷ all) (suc i) fits = (fits.0, fits_gone n all i fits.1)

fits_append : (n : ℕ) (all more : List (Option Control)) → FitsOwns n all → FitsOwns n more → FitsOwns n (all ++ more)
fits_append n [] more f g = g
fits_append n (None ∷ all) more f g = fits_append n all more f g
fits_append n (Some c ∷ all) more f g = (f.0, fits_append n all more f.1 g)

-- threads that begin
begins_fits : (n function : ℕ) (argument : Ptr) (found : Option tree.Func) → ((f : tree.Func) → found ≡ Some f → in_row f.body ≤ n) → FitsControl n (begins_if function argument found)
begins_fits n function argument None few = (tt, tt)
begins_fits n function argument (Some f) few = let here : in_row f.body ≤ n = few f refl in ((omega (arith, here), tt), tt)

begun_fits : (n : ℕ) (typed : tree.Typed) (threads : List actions.ThreadRecord) → HasFewDeclarations n typed → FitsOwns n (map (λ (t : actions.ThreadRecord). Some ((program typed).begins t.function t.argument)) threads)
begun_fits n typed [] few = tt
begun_fits n typed (t ∷ threads) few = (begins_fits n t.function t.argument (slice_get typed.funcs t.function) (few t.function), begun_fits n typed threads few)

-- a turn, and the state behind it
abbrev WithinIf : (n b : ℕ) → Option (Turn Control) → Type 0
WithinIf n b None = Unit {0}
WithinIf n b (Some t) = Within n b t

left_makes : (n : ℕ) (typed : tree.Typed) (s : State Control) (thread : ℕ) (t : Option (Turn Control)) → ReachesFew n typed s → WithinIf n (length s.world.blocks + n) t → MakesFew n typed s (left_by typed s thread t)
left_makes n typed s thread None few within = record { made = omega arith; few = few }
left_makes n typed s thread (Some (went own w)) few within = record {
  made = within.0;
  few = record { functions = few.functions; threads = fits_append n (set s.own thread (Some own)) (begun (program typed) (length s.own) w) (fits_set n s.own thread own few.threads within.1) (begun_fits n typed (drop (length s.own) w.threads) few.functions) };
}
left_makes n typed s thread (Some (ended w)) few within = record {
  made = within;
  few = record { functions = few.functions; threads = fits_append n (set s.own thread None) (begun (program typed) (length s.own) w) (fits_gone n s.own thread few.threads) (begun_fits n typed (drop (length s.own) w.threads) few.functions) };
}
left_makes n typed s thread (Some blocked) few within = record { made = omega arith; few = few }
left_makes n typed s thread (Some unfit) few within = record { made = omega arith; few = few }
left_makes n typed s thread (Some (broke rule place)) few within = record { made = omega arith; few = few }

turn_within : (n : ℕ) (typed : tree.Typed) (s : State Control) (p : Pick) (main own : Option Control) → HasFewDeclarations n typed → ((c : Control) → own ≡ Some c → FitsControl n c) → WithinIf n (length s.world.blocks + n) (turn_if (program typed) s p main own)
turn_within n typed s p None own few fits = tt
turn_within n typed s p (Some main) None few fits = tt
turn_within n typed s p (Some main) (Some c) few fits = turn_makes n typed p.thread p.answer c s.world few (fits c refl)

-- a pick makes at most n blocks, and one
pub pick_makes : (n : ℕ) (typed : tree.Typed) (s : State Control) (p : Pick) → ReachesFew n typed s → MakesFew n typed s (left_by typed s p.thread (picked (program typed) s p))
pick_makes n typed s p few =
    left_makes n typed s p.thread (picked (program typed) s p) few (turn_within n typed s p (own_at s.own 0) (own_at s.own p.thread) few.functions (λ c e. fits_at n s.own p.thread c few.threads e))

-- and a run begins so
pub start_reaches : (n : ℕ) (typed : tree.Typed) → HasFewDeclarations n typed → ReachesFew n typed (first_state (program typed) (start typed))
start_reaches n typed few = record { functions = few; threads = begun_fits n typed (start typed).threads few }

-- the same of what the code's run has come to
pub new_reaches : (n : ℕ) (typed t : tree.Typed) (s : State Control) → t ≡ typed → s ≡ first_state (program typed) (start typed) → HasFewDeclarations n typed → ReachesFew n t s
new_reaches n typed t s e f few = rw (e, f) (start_reaches n typed few)

pub run_makes_few : (n : ℕ) (typed : tree.Typed) (s after : State Control) (p : Pick) → after ≡ left_by typed s p.thread (picked (program typed) s p) → ReachesFew n typed s → MakesFew n typed s after
run_makes_few n typed s after p e few = rw e (pick_makes n typed s p few)
