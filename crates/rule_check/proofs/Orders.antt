-- The order, turn by turn.
use Rattle.std.proofs.Common.{◌≡◌, ◌<◌, ℕ, zero, suc, List, [], ◌∷◌, ◌++◌, length, take, Option, Some, None, refl, sym, ap, subst, inl, inr, ◌⊎◌, ◌∙◌, arith}
use Rattle.std.proofs.lemmas.List.{take-append-le}
use Rattle.std.specs.List.{slice_get}
use Rattle.block_store.specs.Actions.{World}
use Rattle.block_store.specs.Runs.{Program, State, Pick, Turn, went, ended, blocked, unfit, broke, Run, reaches, next_state, first_state, picked, goes_on, run_from, run}
use Rattle.rule_check.specs.Seeded.{chosen, draw_before, IsSeeded}
use Rattle.rule_check.specs.inner.Steps.{HasCome}

-- a turn of this pick comes from a state to another
abbrev pub Moves : {A : Type 0} → Program A → State A → Pick → State A → Type 0
Moves P s p after = (n : ℕ) → goes_on P reaches s p.thread n (picked P s p) ≡ reaches after

-- a run that goes on by another turn behind its last
more_on : {A : Type 0} (P : Program A) (go more : State A → Run A) (s s1 s2 : State A) (thread k : ℕ) (t : Option (Turn A)) → goes_on P go s thread k t ≡ reaches s1 → ((u : State A) → go u ≡ reaches s1 → more u ≡ reaches s2) → goes_on P more s thread k t ≡ reaches s2
more_on P go more s s1 s2 thread k None e f = absurd (cc e)
more_on P go more s s1 s2 thread k (Some (went own w)) e f = f (next_state P s thread (Some own) w) e
more_on P go more s s1 s2 thread k (Some (ended w)) e f = f (next_state P s thread None w) e
more_on P go more s s1 s2 thread k (Some blocked) e f = absurd (cc e)
more_on P go more s s1 s2 thread k (Some unfit) e f = absurd (cc e)
more_on P go more s s1 s2 thread k (Some (broke rule place)) e f = absurd (cc e)

same_state : {A : Type 0} (s u : State A) → reaches s ≡ reaches u → s ≡ u
same_state s u e = cc e

pub run_more : {A : Type 0} (P : Program A) (order : List Pick) (p : Pick) (k : ℕ) (s s1 s2 : State A) → run_from P order k s ≡ reaches s1 → Moves P s1 p s2 → run_from P (order ++ p ∷ []) k s ≡ reaches s2
run_more P [] p k s s1 s2 e m = subst (λ u. goes_on P (run_from P [] (suc k)) u p.thread k (picked P u p) ≡ reaches s2) (sym (same_state s s1 e)) (m k)
run_more P (q ∷ order) p k s s1 s2 e m =
    more_on P (run_from P order (suc k)) (run_from P (order ++ p ∷ []) (suc k)) s s1 s2 q.thread k (picked P s q) e (λ u f. run_more P order p (suc k) u s1 s2 f m)

-- an element of a list and one more
at_more : (order : List Pick) (p q : Pick) (k : ℕ) → slice_get (order ++ p ∷ []) k ≡ Some q → ((k < length order) × (slice_get order k ≡ Some q)) ⊎ ((k ≡ length order) × (p ≡ q))
at_more [] p q zero e = inr (refl, cc e)
at_more [] p q (suc k) e = absurd (cc e)
at_more (x ∷ order) p q zero e = inl (omega arith, e)
at_more (x ∷ order) p q (suc k) e =
    elim (at_more order p q k e) as (λ w. ((suc k < length (x ∷ order)) × (slice_get (x ∷ order) (suc k) ≡ Some q)) ⊎ ((suc k ≡ length (x ∷ order)) × (p ≡ q))) [
      | inl both ↦ inl (omega (arith, both.0), both.1)
      | inr both ↦ inr (omega (arith, both.0), both.1)
    ]

take_whole : (order : List Pick) (p : Pick) → take (length order) (order ++ p ∷ []) ≡ order
take_whole [] p = refl
take_whole (x ∷ order) p = ap (λ l. x ∷ l) (take_whole order p)

-- the seeded order, and one turn more
pub seeded_more : {A : Type 0} (P : Program A) (w : World) (seed : ℕ) (order : List Pick) (p : Pick) (s : State A) → IsSeeded P w seed order → run P w order ≡ reaches s → chosen P (draw_before seed (length order)) s ≡ Some p → IsSeeded P w seed (order ++ p ∷ [])
seeded_more P w seed order p s h comes is = record {
  each = λ k q e u r.
      elim (at_more order p q k e) as (λ z. chosen P (draw_before seed k) u ≡ Some q) [
        | inl both ↦ h.each k q both.1 u (sym (ap (run P w) (take-append-le k order (p ∷ []) (omega (arith, both.0)))) ∙ r)
        | inr both ↦
            let whole : run P w order ≡ reaches u = sym (ap (run P w) (ap (λ n. take n (order ++ p ∷ [])) both.0 ∙ take_whole order p)) ∙ r in
            let same : s ≡ u = same_state s u (sym comes ∙ whole) in
            ap (λ n. chosen P (draw_before seed n) u) both.0 ∙ sym (ap (chosen P (draw_before seed (length order))) same) ∙ is ∙ ap Some both.1
      ];
}

pub come_first : {A : Type 0} (P : Program A) (w : World) (seed : ℕ) → HasCome P w seed [] (first_state P w)
come_first P w seed = record { comes = refl; seeded = record { each = λ k q e u r. absurd (cc e) } }

pub come_more : {A : Type 0} (P : Program A) (w : World) (seed : ℕ) (order : List Pick) (p : Pick) (s after : State A) → HasCome P w seed order s → chosen P (draw_before seed (length order)) s ≡ Some p → Moves P s p after → HasCome P w seed (order ++ p ∷ []) after
come_more P w seed order p s after h is m = record {
  comes = run_more P order p 0 (first_state P w) s after h.comes m;
  seeded = seeded_more P w seed order p s h.seeded h.comes is;
}
