-- Runs of the source, one part of an order after another.
use Rattle.std.proofs.Common.{◌≡◌, ℕ, suc, ◌+◌, List, [], ◌∷◌, ◌++◌, length, Option, Some, None, refl, ap, ◌∙◌, arith}
use Rattle.block_store.specs.Actions.{World}
use Rattle.block_store.specs.Runs.{Turn, went, ended, blocked, unfit, broke, Program, State, Pick, Run, reaches, breaks, no_run, picked, goes_on, run_from, run, first_state, next_state}

-- from where a run comes to on
abbrev pub and_run : {A : Type 0} → Run A → (State A → Run A) → Run A
and_run (reaches u) go = go u
and_run (breaks rule k) go = breaks rule k
and_run (no_run k) go = no_run k

module _ {A : Type 0} (P : Program A) where
  pub run_from-append : (a b : List Pick) (k : ℕ) (u : State A) → run_from P (a ++ b) k u ≡ and_run (run_from P a k u) (λ v. run_from P b (k + length a) v)
  run_from-append [] b k u = ap (λ n. run_from P b n u) (let e : k ≡ k + 0 = omega arith in e)
  run_from-append (q ∷ a) b k u = by_turn (λ v. run_from-append a b (suc k) v) (picked P u q)
    where
      more : suc k + length a ≡ k + length (q ∷ a)
      more = omega arith

      on : ((v : State A) → run_from P (a ++ b) (suc k) v ≡ and_run (run_from P a (suc k) v) (λ v. run_from P b (suc k + length a) v)) → (v : State A) → run_from P (a ++ b) (suc k) v ≡ and_run (run_from P a (suc k) v) (λ v. run_from P b (k + length (q ∷ a)) v)
      on rest v = rest v ∙ ap (λ n. and_run (run_from P a (suc k) v) (λ v. run_from P b n v)) more

      by_turn : ((v : State A) → run_from P (a ++ b) (suc k) v ≡ and_run (run_from P a (suc k) v) (λ v. run_from P b (suc k + length a) v)) → (o : Option (Turn A)) → goes_on P (run_from P (a ++ b) (suc k)) u q.thread k o ≡ and_run (goes_on P (run_from P a (suc k)) u q.thread k o) (λ v. run_from P b (k + length (q ∷ a)) v)
      by_turn rest None = refl
      by_turn rest (Some (went own w)) = on rest (next_state P u q.thread (Some own) w)
      by_turn rest (Some (ended w)) = on rest (next_state P u q.thread None w)
      by_turn rest (Some blocked) = refl
      by_turn rest (Some unfit) = refl
      by_turn rest (Some (broke rule place)) = refl

  -- a state that is reached, and one that is reached from there
  pub reached_then : (w : World) (order picks : List Pick) (u v : State A) → run P w order ≡ reaches u → run_from P picks (length order) u ≡ reaches v → run P w (order ++ picks) ≡ reaches v
  reached_then w order picks u v e f =
      let zero_more : 0 + length order ≡ length order = omega arith in
      run_from-append order picks 0 (first_state P w) ∙ (λ i. and_run (e i) (λ v. run_from P picks (zero_more i) v)) ∙ f
