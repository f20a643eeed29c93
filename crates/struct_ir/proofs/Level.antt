-- Where one code mirrors another, threads do the same in both.
use Rattle.std.proofs.Common.{◌≡◌, ℕ, List, [], ◌∷◌, Bool, true, false, Option, Result, Ok, Err, refl, sym, ap, subst}
use Rattle.struct_ir.specs.Nodes.{Act, set, call, step, look, safepoint, begin_object, end_object}
use Rattle.struct_ir.specs.Flow.{Here, does, tests, passes, round, returns, Flow, Stays, IsCall, Shrinks}
use Rattle.struct_ir.specs.Machine.{Machine, Point, run}
use Rattle.struct_ir.specs.Mirrors.{Both, IsMirror, EndAlike}
use Rattle.struct_ir.specs.Threads.{Environment, Thread, Outcome, went, ended, blocked, broke, unfit, Served, serves, waits, refuses, fails, result_to, alone, served, finished, if_fits, entered_or_served, left_call, stop_at, local_event, stop_event, and_then}
use Rattle.struct_ir.specs.Alike.{SameCallers, LevelThreads, SameThreads, SameOutcomes, SameEvents}
use Rattle.struct_ir.proofs.Mirrors.{mirrors_runs}
use Rattle.struct_ir.proofs.Threads.{call_stays}

module _ {P Q L F S A : Type 0} (C : Flow P) (D : Flow Q) (c_shrinks : Shrinks C) (d_shrinks : Shrinks D) (M : Machine L F) (W : Environment L F S A) (R : P → Q → Type 0) (mirror : IsMirror C D M R)
    (code : ℕ → P) (code' : ℕ → Q) (starts : (f : ℕ) → R (code f) (code' f)) where
  abbrev Level : Outcome P L F S → Outcome Q L F S → Type 0
  Level o o' = SameOutcomes (LevelThreads C D R) o o'

  abbrev Same : Outcome P L F S → Outcome Q L F S → Type 0
  Same o o' = SameOutcomes (SameThreads C D R) o o'

  -- ---- alone

  alone_same : (ps : List (Point P L)) (qs : List (Point Q L)) (s : S) → SameCallers C D R ps qs → (x : Result (Point P L) F) (y : Result (Point Q L) F) → EndAlike C D R x y → Same (alone W ps s x) (alone W qs s y)
  alone_same ps qs s cs (Ok p) (Ok q) h = (record { top = record { at = h.1; same = h.2; own = h.0 }; callers = cs }, ap (λ (l : L). W.kept l s) h.0)
  alone_same ps qs s cs (Ok p) (Err g) h = absurd h
  alone_same ps qs s cs (Err f) (Ok q) h = absurd h
  alone_same ps qs s cs (Err f) (Err g) h = h

  pub local_same : (t : Thread P L) (u : Thread Q L) (s : S) → LevelThreads C D R t u → Same (local_event C M W t s) (local_event D M W u s)
  local_same t u s h =
      let l : L = W.seen s t.top.own in
      let e : EndAlike C D R (run C M (record { at = t.top.at; own = l })) (run D M (record { at = u.top.at; own = l })) = mirrors_runs C D c_shrinks d_shrinks M R mirror t.top.at u.top.at l h.top.at in
      subst (λ (x : L). Same (local_event C M W t s) (alone W u.callers s (run D M (record { at = u.top.at; own = W.seen s x })))) (sym h.top.own) (alone_same t.callers u.callers s h.callers _ _ e)

  -- ---- at a stop

  module _ (answer : A) (s : S) (k : P) (j : Q) (l : L) (ps : List (Point P L)) (qs : List (Point Q L)) (b : Both C D R k j) (cs : SameCallers C D R ps qs) where
    abbrev t1 : Thread P L
    t1 = record { top = record { at = k; own = l }; callers = ps }

    abbrev u1 : Thread Q L
    u1 = record { top = record { at = j; own = l }; callers = qs }

    abbrev Nexts : Type 0
    Nexts = R (C.next k true) (D.next j true)

    behind_same : Nexts → (l' : L) (s' : S) → Level (went (record { top = record { at = C.next k true; own = l' }; callers = ps }) s') (went (record { top = record { at = D.next j true; own = l' }; callers = qs }) s')
    behind_same on l' s' = (record { top = record { at = on; own = refl }; callers = cs }, refl)

    served_same : Nexts → (x : Served L F S) → Level (served C t1 x) (served D u1 x)
    served_same on (serves l' s') = behind_same on l' s'
    served_same on waits = tt
    served_same on refuses = tt
    served_same on (fails f) = refl

    finished_same : (x : Served L F S) → Level (finished x) (finished x)
    finished_same (serves l' s') = (refl, refl)
    finished_same waits = tt
    finished_same refuses = tt
    finished_same (fails f) = refl

    if_same : (x : Bool) (o : Outcome P L F S) (o' : Outcome Q L F S) → Level o o' → Level (if_fits x o) (if_fits x o')
    if_same true o o' h = h
    if_same false o o' h = tt

    act_same : (place : ℕ) (a : Act) → C.here k ≡ does place a → Level (entered_or_served C W code answer t1 s place a) (entered_or_served D W code' answer u1 s place a)
    act_same place (call c) e =
        let calls : IsCall (C.here k) = subst IsCall (sym e) refl in
        if_same (W.is_plain answer) _ _ (record { top = record { at = starts c.function; own = refl }; callers = (record { same = b; calls = calls; own = refl }, cs) }, refl)
    act_same place (set to calc) e = served_same (b.next (subst Stays (sym e) tt) true) (W.serve answer place (set to calc) l s)
    act_same place (step x) e = served_same (b.next (subst Stays (sym e) tt) true) (W.serve answer place (step x) l s)
    act_same place (look slot base) e = served_same (b.next (subst Stays (sym e) tt) true) (W.serve answer place (look slot base) l s)
    act_same place (safepoint slots) e = served_same (b.next (subst Stays (sym e) tt) true) (W.serve answer place (safepoint slots) l s)
    act_same place (begin_object i) e = served_same (b.next (subst Stays (sym e) tt) true) (W.serve answer place (begin_object i) l s)
    act_same place (end_object i) e = served_same (b.next (subst Stays (sym e) tt) true) (W.serve answer place (end_object i) l s)

    left_same : (temp : Option ℕ) (xs : List (Point P L)) (ys : List (Point Q L)) → SameCallers C D R xs ys → Level (left_call C W answer l temp s xs) (left_call D W answer l temp s ys)
    left_same temp [] [] h = finished_same (W.finish answer l temp s)
    left_same temp [] (y ∷ ys) h = absurd h
    left_same temp (x ∷ xs) [] h = absurd h
    left_same temp (x ∷ xs) (y ∷ ys) h =
        let own : W.left l temp y.own (result_to (D.here y.at)) ≡ W.left l temp x.own (result_to (C.here x.at)) = λ i. W.left l temp (h.0.own i) (result_to (h.0.same.here i)) in
        if_same (W.is_plain answer) _ _ (record { top = record { at = h.0.same.next (call_stays (C.here x.at) h.0.calls) true; own = own }; callers = h.1 }, ap (λ (z : L). W.kept z s) own)

    here_same : (h : Here) → C.here k ≡ h → Level (stop_at C M W code answer t1 s h) (stop_at D M W code' answer u1 s h)
    here_same (does place a) e = if_same (M.stops a) _ _ (act_same place a e)
    here_same (tests place temp) e = tt
    here_same passes e = tt
    here_same round e = if_same (W.is_plain answer) _ _ (behind_same (b.next (subst Stays (sym e) tt) true) l s)
    here_same (returns temp) e = left_same temp ps qs cs

    pub at_same : Level (stop_event C M W code answer t1 s) (stop_event D M W code' answer u1 s)
    at_same = subst (λ (h : Here). Level (stop_event C M W code answer t1 s) (stop_at D M W code' answer u1 s h)) (sym b.here) (here_same (C.here k) refl)

  pub stop_same : (answer : A) (t : Thread P L) (u : Thread Q L) (s : S) → SameThreads C D R t u → Level (stop_event C M W code answer t s) (stop_event D M W code' answer u s)
  stop_same answer t u s h =
      subst (λ (x : L). Level (stop_event C M W code answer t s) (stop_event D M W code' answer (record { top = record { at = u.top.at; own = x }; callers = u.callers }) s)) (sym h.top.own)
      (at_same answer s t.top.at u.top.at t.top.own t.callers u.callers h.top.same h.callers)

  -- ---- both halves

  then_same : (answer : A) (o : Outcome P L F S) (o' : Outcome Q L F S) → Same o o' → Level (and_then o (stop_event C M W code answer)) (and_then o' (stop_event D M W code' answer))
  then_same answer (went t s) (went u r) h =
      subst (λ (x : S). Level (stop_event C M W code answer t s) (stop_event D M W code' answer u x)) (sym h.1) (stop_same answer t u s h.0)
  then_same answer (ended l s) (ended m r) h = h
  then_same answer blocked blocked h = tt
  then_same answer (broke e) (broke g) h = h
  then_same answer unfit unfit h = tt
  then_same answer _ o' h = absurd h

  pub same_events : SameEvents C D M W R code code'
  same_events = record {
    alone = local_same;
    stop = stop_same;
    turn = λ answer t u s h. then_same answer (local_event C M W t s) (local_event D M W u s) (local_same t u s h);
  }
