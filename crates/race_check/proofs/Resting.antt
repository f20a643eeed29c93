-- No turn of an order reads or writes a block that has ended before it.
use Rattle.std.proofs.Common.{◌≡◌, ℕ, zero, suc, List, [], ◌∷◌, slice_get, Option, Some, None, sym, subst}
use Rattle.block_store.specs.Runs.{Turn, went, ended, blocked, unfit, broke, State, Pick, picked, turn_if, own_at, next_state}
use Rattle.c_tree.specs.Typed.{Typed}
use Rattle.c_meaning.specs.Control.{Control}
use Rattle.c_meaning.specs.Meaning.{program}
use Rattle.c_meaning.specs.Touching.{turns_then, turns_from}
use Rattle.race_rules.specs.Turns as turns
use Rattle.race_rules.specs.Turns.{Has}
use Rattle.race_rules.specs.Histories.{IsAccessOf, StillTouched}
use Rattle.race_rules.proofs.Touching.{no_has}
use Rattle.block_meaning.specs.Running.{HasEnded}
use Rattle.race_check.proofs.EndedExprs.{Spares}
use Rattle.race_check.proofs.EndedTurns.{turn_spares}

module _ (typed : Typed) (gone : ℕ) where
  -- the turn of this index doesn't touch the block
  abbrev Untouched : List turns.Turn → (i : ℕ) → Type 0
  Untouched ts i = (x : turns.Turn) → slice_get ts i ≡ Some x → Has (IsAccessOf gone) x.touches → ⊥

  -- a turn that is picked, if there is one
  abbrev PickSpares : Option (Turn Control) → Type 0
  PickSpares None = Unit {0}
  PickSpares (Some t) = Spares gone t

  pick_spares : (s : State Control) (p : Pick) (main own : Option Control) → HasEnded s.world.blocks gone → PickSpares (turn_if (program typed) s p main own)
  pick_spares s p None own r = tt
  pick_spares s p (Some main) None r = tt
  pick_spares s p (Some main) (Some own) r = turn_spares gone typed p.thread p.answer own s.world r

  this_turn : (x y : turns.Turn) → Some x ≡ Some y → (Has (IsAccessOf gone) x.touches → ⊥) → Has (IsAccessOf gone) y.touches → ⊥
  this_turn x y e never h = let same : x ≡ y = cc e in let F : turns.Turn → Type 0 = λ z. Has (IsAccessOf gone) z.touches in never (subst F (sym same) h)

  then_rests : (go : State Control → List turns.Turn) (s : State Control) (thread : ℕ) (o : Option (Turn Control)) → ((next : State Control) → HasEnded next.world.blocks gone → (i : ℕ) → Untouched (go next) i)
      → PickSpares o → (i : ℕ) → Untouched (turns_then typed go s thread o) i
  then_rests go s thread None rest spares i x e h = absurd (cc e)
  then_rests go s thread (Some (went c w)) rest spares zero x e h = this_turn (record { thread = thread; touches = c.touched }) x e spares.1 h
  then_rests go s thread (Some (went c w)) rest spares (suc i) x e h = rest (next_state (program typed) s thread (Some c) w) spares.0 i x e h
  then_rests go s thread (Some (ended w)) rest spares zero x e h = this_turn (record { thread = thread; touches = [] }) x e (λ t. no_has t) h
  then_rests go s thread (Some (ended w)) rest spares (suc i) x e h = rest (next_state (program typed) s thread None w) spares i x e h
  then_rests go s thread (Some blocked) rest spares i x e h = absurd (cc e)
  then_rests go s thread (Some unfit) rest spares i x e h = absurd (cc e)
  then_rests go s thread (Some (broke rule place)) rest spares i x e h = absurd (cc e)

  turns_rest : (order : List Pick) (s : State Control) → HasEnded s.world.blocks gone → (i : ℕ) → Untouched (turns_from typed order s) i
  turns_rest [] s r i x e h = absurd (cc e)
  turns_rest (p ∷ order) s r i x e h =
      then_rests (turns_from typed order) s p.thread (picked (program typed) s p) (turns_rest order) (pick_spares s p (own_at s.own 0) (own_at s.own p.thread) r) i x e h

  pub ended_rests : (order : List Pick) (s : State Control) → HasEnded s.world.blocks gone → StillTouched (turns_from typed order s) 0 gone → ⊥
  ended_rests order s r still = turns_rest order s r still.turn still.it still.is still.touch
