-- Code that keeps every turn of a well formed program takes some answer in each turn.
use Rattle.std.proofs.Common.{◌≡◌, ℕ, zero, suc, List, [], ◌∷◌, Option, Some, None, Ok, Err, sym, subst}
use Rattle.std.specs.Prelude.{Result}
use Rattle.ak_words.specs.declared.rule.Rule.{Rule}
use Rattle.block_store.specs.declared.values.Answer.{Answer}
use Rattle.block_store.specs.declared.values.Answer.TheVariants as answers
use Rattle.block_store.specs.Actions as actions
use Rattle.block_store.specs.Actions.{SharedAction, World}
use Rattle.block_store.specs.Blocks.{Blocks, renewed}
use Rattle.block_store.specs.Runs as runs
use Rattle.block_store.specs.Runs.{State, Pick, own_at}
use Rattle.c_tree.specs.Typed.{Typed}
use Rattle.c_tree.specs.TypedForm.{IsWellFormed}
use Rattle.c_meaning.specs.Control.{Control}
use Rattle.c_meaning.specs.Turns.{turn}
use Rattle.c_meaning.specs.Meaning.{program, start, run, shown}
use Rattle.c_meaning.specs.Kinds.{IsTypedControl}
use Rattle.c_meaning.specs.Sound.{TakesRenewed, Takes, End, breaking, quiet, acting, FitsEnd, IsUnfit, TurnsGoOn, AreTypedThreads, RunsKeepTypes}
use Rattle.alaska_run.proofs.SameTurns.{both_reach, threads_run, turn_unfit}

-- ---- an answer that fits

-- a realloc takes that there is none, unless it breaks a rule
renewed_takes : (size : ℕ) (r : Result Blocks Rule) → (answer : Answer) × TakesRenewed r size answer
renewed_takes size (Ok blocks) = (answers.None, tt)
renewed_takes size (Err rule) = (answers.Plain, tt)

-- an action that asks for something takes that there is none, and each other one takes Plain
action_takes : (w : World) (a : SharedAction) → (answer : Answer) × Takes w a answer
action_takes w (actions.load at how) = (answers.Plain, tt)
action_takes w (actions.store at value) = (answers.Plain, tt)
action_takes w (actions.copy to from n align same) = (answers.Plain, tt)
action_takes w (actions.allocate size first) = (answers.None, tt)
action_takes w (actions.reallocate at size) = renewed_takes size (renewed w.blocks at size)
action_takes w (actions.change at ty how by) = (answers.Plain, tt)
action_takes w (actions.compare at want ty new) = (answers.Plain, tt)
action_takes w (actions.free at) = (answers.Plain, tt)
action_takes w (actions.print parts) = (answers.Plain, tt)
action_takes w (actions.lock at) = (answers.Plain, tt)
action_takes w (actions.unlock at) = (answers.Plain, tt)
action_takes w (actions.destroy at) = (answers.Plain, tt)
action_takes w (actions.start to function argument) = (answers.None, tt)
action_takes w (actions.join thread to) = (answers.Plain, tt)
action_takes w (actions.finish value) = (answers.Plain, tt)

-- and so does each end of a turn
some_fits : (e : End) → (answer : Answer) × FitsEnd e answer
some_fits (breaking rule place) = (answers.Plain, tt)
some_fits (quiet own w) = (answers.Plain, tt)
some_fits (acting place action w) = action_takes w action

-- ---- turns of the program

-- what a thread that runs has of its own is well formed
own_typed : (t : Typed) (all : List (Option Control)) (n : ℕ) (own : Control) → AreTypedThreads t all → own_at all n ≡ Some own → IsTypedControl t own
own_typed t [] n own h e = absurd cc
own_typed t (None ∷ all) zero own h e = absurd cc
own_typed t (Some c ∷ all) zero own h e = let is : c ≡ own = cc in subst (IsTypedControl t) is h.0
own_typed t (None ∷ all) (suc n) own h e = own_typed t all n own h e
own_typed t (Some c ∷ all) (suc n) own h e = own_typed t all n own h.1 e

module _ (t : Typed) (well : IsWellFormed t) (types : RunsKeepTypes) (ends : TurnsGoOn) where
  -- each turn of a thread that runs takes some answer
  turn_takes : (order : List Pick) (v : State Control) → run t order ≡ runs.reaches v → (thread : ℕ) (own : Control) → own_at v.own thread ≡ Some own
      → (answer : Answer) × (turn t thread answer own v.world ≡ runs.unfit → ⊥)
  turn_takes order v e thread own o =
      let h = types t well order v e in
      let g = ends t well thread own v.world (own_typed t v.own thread own h.threads o) h.world in
      let fits = some_fits g.0 in
      (fits.0, λ is. (g.2 fits.0).1 fits.1 (subst IsUnfit (sym is) tt))

  -- and so it does in each program that shows the same
  pub takes_some : {A : Type 0} (P : runs.Program A) (w : actions.World) → ((order : List Pick) → runs.shown P w order ≡ shown t order)
      → (order : List Pick) (u : State A) → runs.run P w order ≡ runs.reaches u → (thread : ℕ) (main own : A) → own_at u.own 0 ≡ Some main → own_at u.own thread ≡ Some own
      → (answer : Answer) × (P.turn thread answer own u.world ≡ runs.unfit → ⊥)
  takes_some P w keeps order u e thread main own m o =
      let r = both_reach P (program t) order 0 (runs.first_state P w) u (runs.first_state (program t) (start t)) (λ rest. let same = keeps rest in cc) e in
      let there = threads_run P (program t) u r.0 r.2 main own m (record { thread = thread; answer = answers.Plain }) o in
      let fits = turn_takes order r.0 r.1 thread there.1 there.3 in
      (fits.0, λ is. fits.1 (turn_unfit P (program t) u r.0 r.2 main own m (record { thread = thread; answer = fits.0 }) o there.0 there.1 there.2 there.3 is))
