-- Of two programs that show the same under every order, the one takes each answer that the other takes.
use Rattle.std.proofs.Common.{◌≡◌, ℕ, suc, List, [], ◌∷◌, Option, Some, None, refl, sym, ap, ◌∙◌}
use Rattle.block_store.specs.Runs.{Turn, went, ended, blocked, unfit, broke, Program, State, Pick, Run, reaches, next_state, own_at, turn_if, picked, goes_on, run_from, no_such_turn, it_was_unfit, shown_then, shown_from}

module _ {A B : Type 0} (P : Program A) (Q : Program B) where
  -- from these states on, every order shows the same
  abbrev pub ShowTheSame : State A → State B → Type 0
  ShowTheSame s t = (order : List Pick) → shown_from P order s ≡ shown_from Q order t

  -- this run reaches a state, from which on all shows the same as from u on
  abbrev pub ReachesToo : State A → Run B → Type 0
  ReachesToo u r = (v : State B) × (r ≡ reaches v) × ShowTheSame u v

  -- behind a pick that the one run goes on from, the other goes on too
  both_go : (go : State A → Run A) (go_too : State B → Run B) (k : ℕ) (s u : State A) (t : State B) (thread : ℕ) (x : Option (Turn A)) (y : Option (Turn B))
      → ((s' : State A) (t' : State B) → ShowTheSame s' t' → go s' ≡ reaches u → ReachesToo u (go_too t'))
      → ((order : List Pick) → shown_then P (shown_from P order) s thread x ≡ shown_then Q (shown_from Q order) t thread y)
      → goes_on P go s thread k x ≡ reaches u → ReachesToo u (goes_on Q go_too t thread k y)
  both_go go go_too k s u t thread None y rest same e = absurd cc
  both_go go go_too k s u t thread (Some blocked) y rest same e = absurd cc
  both_go go go_too k s u t thread (Some unfit) y rest same e = absurd cc
  both_go go go_too k s u t thread (Some (broke rule place)) y rest same e = absurd cc
  both_go go go_too k s u t thread (Some (went own w)) None rest same e = let d = same [] in absurd cc
  both_go go go_too k s u t thread (Some (went own w)) (Some (went own' w')) rest same e =
      rest (next_state P s thread (Some own) w) (next_state Q t thread (Some own') w') (λ order. let d = same order in cc) e
  both_go go go_too k s u t thread (Some (went own w)) (Some (ended w')) rest same e = let d = same [] in absurd cc
  both_go go go_too k s u t thread (Some (went own w)) (Some blocked) rest same e = let d = same [] in absurd cc
  both_go go go_too k s u t thread (Some (went own w)) (Some unfit) rest same e = let d = same [] in absurd cc
  both_go go go_too k s u t thread (Some (went own w)) (Some (broke rule place)) rest same e = let d = same [] in absurd cc
  both_go go go_too k s u t thread (Some (ended w)) None rest same e = let d = same [] in absurd cc
  both_go go go_too k s u t thread (Some (ended w)) (Some (went own' w')) rest same e = let d = same [] in absurd cc
  both_go go go_too k s u t thread (Some (ended w)) (Some (ended w')) rest same e =
      rest (next_state P s thread None w) (next_state Q t thread None w') (λ order. let d = same order in cc) e
  both_go go go_too k s u t thread (Some (ended w)) (Some blocked) rest same e = let d = same [] in absurd cc
  both_go go go_too k s u t thread (Some (ended w)) (Some unfit) rest same e = let d = same [] in absurd cc
  both_go go go_too k s u t thread (Some (ended w)) (Some (broke rule place)) rest same e = let d = same [] in absurd cc

  -- where the run of an order reaches a state, so does the other's
  pub both_reach : (order : List Pick) (k : ℕ) (s u : State A) (t : State B) → ShowTheSame s t → run_from P order k s ≡ reaches u → ReachesToo u (run_from Q order k t)
  both_reach [] k s u t same e = let is : s ≡ u = cc in (t, refl, λ order. sym (ap (shown_from P order) is) ∙ same order)
  both_reach (p ∷ order) k s u t same e =
      both_go (run_from P order (suc k)) (run_from Q order (suc k)) k s u t p.thread (picked P s p) (picked Q t p)
      (λ s' t' i. both_reach order (suc k) s' u t' i) (λ rest. same (p ∷ rest)) e

  -- ---- turns of the threads that run

  -- a turn shows something
  a_turn : (u : State A) (thread : ℕ) (x : Turn A) → shown_then P (shown_from P []) u thread (Some x) ≡ no_such_turn ∷ [] → ⊥
  a_turn u thread (went own w) d = absurd cc
  a_turn u thread (ended w) d = absurd cc
  a_turn u thread blocked d = absurd cc
  a_turn u thread unfit d = absurd cc
  a_turn u thread (broke rule place) d = absurd cc

  -- main runs, and the thread does
  abbrev BothRun : (main own : Option B) → Type 0
  BothRun m o = (main : B) × (own : B) × (m ≡ Some main) × (o ≡ Some own)

  -- a pick that shows what a turn shows is of a thread that runs
  run_there : (u : State A) (v : State B) (p : Pick) (x : Turn A) (m o : Option B) → shown_then P (shown_from P []) u p.thread (Some x) ≡ shown_then Q (shown_from Q []) v p.thread (turn_if Q v p m o)
      → BothRun m o
  run_there u v p x None o d = absurd (a_turn u p.thread x d)
  run_there u v p x (Some main) None d = absurd (a_turn u p.thread x d)
  run_there u v p x (Some main) (Some own) d = (main, own, refl, refl)

  -- a turn that shows that it doesn't take its answer doesn't
  unfit_there : (u : State A) (v : State B) (thread : ℕ) (x : Turn A) (y : Turn B) → shown_then P (shown_from P []) u thread (Some x) ≡ shown_then Q (shown_from Q []) v thread (Some y)
      → x ≡ unfit → y ≡ unfit
  unfit_there u v thread x y d e = by y (sym (ap (λ (z : Turn A). shown_then P (shown_from P []) u thread (Some z)) e) ∙ d)
    where
      by : (z : Turn B) → it_was_unfit ∷ [] ≡ shown_then Q (shown_from Q []) v thread (Some z) → z ≡ unfit
      by (went own w) i = absurd cc
      by (ended w) i = absurd cc
      by blocked i = absurd cc
      by unfit i = refl
      by (broke rule place) i = absurd cc

  module _ (u : State A) (v : State B) (same : ShowTheSame u v) (main own : A) (m : own_at u.own 0 ≡ Some main) where
    pick_here : (p : Pick) → own_at u.own p.thread ≡ Some own → picked P u p ≡ Some (P.turn p.thread p.answer own u.world)
    pick_here p o = ap (λ (x : Option A). turn_if P u p x (own_at u.own p.thread)) m ∙ ap (turn_if P u p (Some main)) o

    shown_here : (p : Pick) → own_at u.own p.thread ≡ Some own
        → shown_then P (shown_from P []) u p.thread (Some (P.turn p.thread p.answer own u.world)) ≡ shown_then Q (shown_from Q []) v p.thread (picked Q v p)
    shown_here p o = sym (ap (shown_then P (shown_from P []) u p.thread) (pick_here p o)) ∙ same (p ∷ [])

    -- a thread that runs in the one program runs in the other
    pub threads_run : (p : Pick) → own_at u.own p.thread ≡ Some own → BothRun (own_at v.own 0) (own_at v.own p.thread)
    threads_run p o = run_there u v p (P.turn p.thread p.answer own u.world) (own_at v.own 0) (own_at v.own p.thread) (shown_here p o)

    -- and its turn takes its answer in the one where it does in the other
    pub turn_unfit : (p : Pick) → own_at u.own p.thread ≡ Some own → (main' own' : B) → own_at v.own 0 ≡ Some main' → own_at v.own p.thread ≡ Some own'
        → P.turn p.thread p.answer own u.world ≡ unfit → Q.turn p.thread p.answer own' v.world ≡ unfit
    turn_unfit p o main' own' m' o' e =
        let there : picked Q v p ≡ Some (Q.turn p.thread p.answer own' v.world) = ap (λ (x : Option B). turn_if Q v p x (own_at v.own p.thread)) m' ∙ ap (turn_if Q v p (Some main')) o' in
        unfit_there u v p.thread (P.turn p.thread p.answer own u.world) (Q.turn p.thread p.answer own' v.world)
        (shown_here p o ∙ ap (shown_then Q (shown_from Q []) v p.thread) there) e
