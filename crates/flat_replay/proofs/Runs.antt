-- Runs of an order's first turns.
use Rattle.std.proofs.Common.{◌≡◌, ℕ, suc, ◌+◌, ◌<◌, List, [], ◌∷◌, length, take, drop, Option, Some, None, sym, ap, subst, ◌∙◌, arith}
use Rattle.std.proofs.lemmas.List.{length-take, take-append-drop}
use Rattle.ak_words.specs.declared.rule.Rule.{Rule}
use Rattle.block_store.specs.Runs.{Turn, went, ended, blocked, unfit, broke, Program, State, Pick, Run, reaches, breaks, no_run, picked, goes_on, run_from, next_state}
use Rattle.flat_simulation.specs.Kinds.{UpTo}
use Rattle.flat_simulation.proofs.SourceRuns.{and_run, run_from-append}

-- a run of which something holds up to where W does is one up to there
pub runs_up_to : {A : Type 0} (r : Run A) (R : State A → Type 0) (W : ℕ → Type 0) → UpTo r R W → (k : ℕ) → r ≡ no_run k → W k
runs_up_to (reaches u) R W h k e = absurd cc
runs_up_to (breaks rule j) R W h k e = absurd cc
runs_up_to (no_run j) R W h k e = let same : j ≡ k = cc in subst W same h

module _ {A : Type 0} (P : Program A) where
  -- what breaks a rule is one of its turns
  breaks_within : (order : List Pick) (k : ℕ) (u : State A) (rule : Rule) (j : ℕ) → run_from P order k u ≡ breaks rule j → j < k + length order
  breaks_within [] k u rule j e = absurd cc
  breaks_within (q ∷ order) k u rule j e = by_turn (λ v f. breaks_within order (suc k) v rule j f) (picked P u q) e where
    later : ((v : State A) → run_from P order (suc k) v ≡ breaks rule j → j < suc k + length order) → (v : State A) → run_from P order (suc k) v ≡ breaks rule j → j < k + length (q ∷ order)
    later rest v e = let h = rest v e in omega arith

    by_turn : ((v : State A) → run_from P order (suc k) v ≡ breaks rule j → j < suc k + length order) → (o : Option (Turn A)) → goes_on P (run_from P order (suc k)) u q.thread k o ≡ breaks rule j → j < k + length (q ∷ order)
    by_turn rest None e = absurd cc
    by_turn rest (Some (went own w)) e = later rest (next_state P u q.thread (Some own) w) e
    by_turn rest (Some (ended w)) e = later rest (next_state P u q.thread None w) e
    by_turn rest (Some blocked) e = absurd cc
    by_turn rest (Some unfit) e = absurd cc
    by_turn rest (Some (broke r place)) e = let same : k ≡ j = cc in omega (arith, same)

  -- if the first turns break a rule, then one of these does, and all of the order come to that
  pub record BreaksEarly (order : List Pick) (n k : ℕ) (u : State A) (rule : Rule) (j : ℕ) : Type 0 where
    pub early : j < k + n
    pub whole : run_from P order k u ≡ breaks rule j

  -- the rest of the order is never run
  pub breaks_early : (order : List Pick) (n k : ℕ) (u : State A) (rule : Rule) (j : ℕ) → run_from P (take n order) k u ≡ breaks rule j → BreaksEarly order n k u rule j
  breaks_early order n k u rule j e = record {
    early = let h = breaks_within (take n order) k u rule j e in omega (arith, h, length-take n order);
    whole =
        ap (λ (qs : List Pick). run_from P qs k u) (sym (take-append-drop n order))
        ∙ run_from-append P (take n order) (drop n order) k u
        ∙ ap (λ (r : Run A). and_run r (λ v. run_from P (drop n order) (k + length (take n order)) v)) e;
  }
