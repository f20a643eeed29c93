-- Runs of structured code up to a broken rule or to an operation on a value of a kind that it doesn't take, one part of an order after another.
use Rattle.std.proofs.Common.{◌≡◌, ℕ, suc, ◌+◌, List, [], ◌∷◌, ◌++◌, length, option_map, Option, Some, None, refl, sym, ap, subst, ◌∙◌, arith, append_assoc}
use Rattle.std.proofs.lemmas.List.{length-append}
use Rattle.block_store.specs.declared.values.Answer.{Answer}
use Rattle.block_store.specs.Runs as runs
use Rattle.block_store.specs.Runs.{Pick, Run, reaches, breaks, no_run, own_at, turn_if, picked, goes_on, run_from}
use Rattle.struct_ir.specs.Nodes.{Ir}
use Rattle.struct_ir.specs.Structured.{Position}
use Rattle.struct_ir.specs.Threads.{Thread, broke}
use Rattle.struct_ir.specs.meaning.Blocks.{Own, wrong_kind}
use Rattle.struct_ir.specs.meaning.Start.{start}
use Rattle.struct_ir.specs.meaning.Threads.{program_of, turned}
use Rattle.flat_meaning.specs.Order.{pick}
use Rattle.flat_meaning.specs.Simulation.{UpToABreak, EachTurnTakesAnAnswer}
use Rattle.flat_simulation.specs.Kinds.{outcome_if, TakesWrongKind, TakesRightKinds, MeetsWrongKind, UpTo, UpToAKindFrom}
use Rattle.flat_simulation.specs.inner.Kept.{source_turn}
use Rattle.flat_simulation.proofs.SourceRuns.{and_run, run_from-append}
use Rattle.flat_simulation.proofs.WrongKinds.{right_kind, wrong_whatever}

-- what holds of the state that a run reaches
pub up_to : {A : Type 0} (w : Run A) (B D : runs.State A → Type 0) (W : ℕ → Type 0) → ((v : runs.State A) → w ≡ reaches v → B v → D v) → UpTo w B W → UpTo w D W
up_to (reaches v) B D W f b = f v refl b
up_to (breaks rule k) B D W f b = tt
up_to (no_run k) B D W f b = b

-- up to a broken rule alone, where W never holds
pub never_meets : {A : Type 0} (w : Run A) (B : runs.State A → Type 0) (W : ℕ → Type 0) → ((k : ℕ) → W k → ⊥) → UpTo w B W → UpToABreak w B
never_meets (reaches v) B W never b = b
never_meets (breaks rule k) B W never b = tt
never_meets (no_run k) B W never b = never k b

module _ (p : Ir) where
  abbrev P : runs.Program (Thread Position Own)
  P = program_of p

  abbrev Source : Type 0
  Source = runs.State (Thread Position Own)

  -- ---- one turn

  -- a program's turn, by what comes of it
  picked_as : (u : Source) (k : Pick) (main own : Option (Thread Position Own)) → turn_if P u k main own ≡ option_map turned (outcome_if p u k main own)
  picked_as u k None own = refl
  picked_as u k (Some main) None = refl
  picked_as u k (Some main) (Some own) = refl

  -- of two threads that run
  pub wrong_here : (u : Source) (k : Pick) (main own : Thread Position Own) → own_at u.own 0 ≡ Some main → own_at u.own k.thread ≡ Some own → source_turn p k.thread k.answer own u.world ≡ broke wrong_kind → TakesWrongKind p u k
  wrong_here u k main own m o e = (λ i. outcome_if p u k (m i) (o i)) ∙ ap Some e

  -- whatever it is told
  pub told_whatever : (u : Source) (thread : ℕ) (one other : Answer) → TakesWrongKind p u (pick thread one) → TakesWrongKind p u (pick thread other)
  told_whatever u thread one other wrong = by (own_at u.own 0) (own_at u.own thread) wrong
    where
      by : (main own : Option (Thread Position Own)) → outcome_if p u (pick thread one) main own ≡ Some (broke wrong_kind) → outcome_if p u (pick thread other) main own ≡ Some (broke wrong_kind)
      by None own e = absurd cc
      by (Some main) None e = absurd cc
      by (Some main) (Some own) e = let is : source_turn p thread one own u.world ≡ broke wrong_kind = cc in ap Some (wrong_whatever p thread one other own u.world is)

  -- such an operation ends each run that begins with it
  pub wrong_first : (k : Pick) (more : List Pick) (n : ℕ) (u : Source) (R : Source → Type 0) → TakesWrongKind p u k → UpToAKindFrom p (k ∷ more) n u R
  wrong_first k more n u R wrong =
      let is : picked P u k ≡ Some runs.unfit = picked_as u k (own_at u.own 0) (own_at u.own k.thread) ∙ ap (option_map turned) wrong in
      subst (λ o. UpTo (goes_on P (run_from P more (suc n)) u k.thread n o) R (MeetsWrongKind p (k ∷ more) n u)) (sym is)
      (record { before = []; next = k; rest = more; split = refl; place = omega arith; state = u; reached = refl; wrong = wrong })

  -- ---- turns, and more behind them

  pub met_first : (a b : List Pick) (n : ℕ) (u : Source) (turns : ℕ) → MeetsWrongKind p a n u turns → MeetsWrongKind p (a ++ b) n u turns
  met_first a b n u turns m = record {
    before = m.before;
    next = m.next;
    rest = m.rest ++ b;
    split = ap (λ l. l ++ b) m.split ∙ append_assoc m.before (m.next ∷ m.rest) b;
    place = m.place;
    state = m.state;
    reached = m.reached;
    wrong = m.wrong;
  }

  met_later : (a b : List Pick) (n : ℕ) (u v : Source) (turns : ℕ) → run_from P a n u ≡ reaches v → MeetsWrongKind p b (n + length a) v turns → MeetsWrongKind p (a ++ b) n u turns
  met_later a b n u v turns e m = record {
    before = a ++ m.before;
    next = m.next;
    rest = m.rest;
    split = ap (λ l. a ++ l) m.split ∙ sym (append_assoc a m.before (m.next ∷ m.rest));
    place = (let place = m.place in let sum = length-append a m.before in omega (arith, place, sum));
    state = m.state;
    reached = run_from-append P a m.before n u ∙ ap (λ r. and_run r (λ w. run_from P m.before (n + length a) w)) e ∙ m.reached;
    wrong = m.wrong;
  }

  -- what holds behind both
  pub then_more : (a b : List Pick) (n : ℕ) (u : Source) (B D : Source → Type 0) → UpToAKindFrom p a n u B → ((v : Source) → run_from P a n u ≡ reaches v → B v → UpToAKindFrom p b (n + length a) v D) → UpToAKindFrom p (a ++ b) n u D
  then_more a b n u B D first more =
      subst (λ r. UpTo r D (MeetsWrongKind p (a ++ b) n u)) (sym (run_from-append P a b n u)) (by (run_from P a n u) refl first)
    where
      behind : (v : Source) → run_from P a n u ≡ reaches v → (r : Run (Thread Position Own)) → UpTo r D (MeetsWrongKind p b (n + length a) v) → UpTo r D (MeetsWrongKind p (a ++ b) n u)
      behind v e (reaches w) h = h
      behind v e (breaks rule k) h = tt
      behind v e (no_run k) h = met_later a b n u v k e h

      by : (r : Run (Thread Position Own)) → run_from P a n u ≡ r → UpTo r B (MeetsWrongKind p a n u) → UpTo (and_run r (λ v. run_from P b (n + length a) v)) D (MeetsWrongKind p (a ++ b) n u)
      by (reaches v) e h = behind v e (run_from P b (n + length a) v) (more v e h)
      by (breaks rule k) e h = tt
      by (no_run k) e h = met_first a b n u k h

  -- ---- code of which each turn takes some answer

  module _ (answers : EachTurnTakesAnAnswer p) where
    -- it has no such operation
    pub none_wrong : (order : List Pick) (u : Source) → runs.run P (start p) order ≡ reaches u → (k : Pick) → TakesWrongKind p u k → ⊥
    none_wrong order u reached k wrong = by (own_at u.own 0) (own_at u.own k.thread) refl refl wrong
      where
        by : (main own : Option (Thread Position Own)) → own_at u.own 0 ≡ main → own_at u.own k.thread ≡ own → outcome_if p u k main own ≡ Some (broke wrong_kind) → ⊥
        by None own m o e = absurd cc
        by (Some main) None m o e = absurd cc
        by (Some main) (Some own) m o e =
            let a = answers order u reached k.thread main own m o in
            let is : source_turn p k.thread k.answer own u.world ≡ broke wrong_kind = cc in
            right_kind p k.thread k.answer a.0 own u.world a.1 is

    pub none_met : (order : List Pick) (turns : ℕ) → MeetsWrongKind p order 0 (runs.first_state P (start p)) turns → ⊥
    none_met order turns m = none_wrong m.before m.state m.reached m.next m.wrong

    pub all_right : (order : List Pick) (u : Source) → runs.run P (start p) order ≡ reaches u → (thread : ℕ) → TakesRightKinds p u thread
    all_right order u reached thread answer wrong = none_wrong order u reached (pick thread answer) wrong
