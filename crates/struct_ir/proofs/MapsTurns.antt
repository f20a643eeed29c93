-- Maps keep turns.
use Rattle.std.proofs.Common.{◌≡◌, ℕ, List, [], ◌∷◌, Bool, true, false, Option, Result, Ok, Err, refl, sym, ap, subst, ◌∙◌, ◌⊎◌, inl, inr}
use Rattle.struct_ir.specs.Nodes.{Act, set, call, step, look, safepoint, begin_object, end_object}
use Rattle.struct_ir.specs.Flow.{Here, does, tests, passes, round, returns, Flow, Shrinks}
use Rattle.struct_ir.specs.Machine.{Machine, Point, ahead, stops, goes, run}
use Rattle.struct_ir.specs.Maps.{end_mapped, Carries, Vanishes, IsMap}
use Rattle.struct_ir.specs.Threads.{Environment, Thread, Outcome, Served, serves, waits, refuses, fails, went, result_to, alone, served, finished, if_fits, entered_or_served, left_call, stop_at, stop_event, and_then, turn}
use Rattle.struct_ir.specs.MapsTurns.{points_mapped, thread_mapped, AllCarry, IsMapped, MapsMapTurns}
use Rattle.struct_ir.proofs.Runs.{runs_are_steps}
use Rattle.struct_ir.proofs.Maps.{maps_runs}

module _ {P Q L F S A : Type 0} (C : Flow P) (D : Flow Q) (shrinks : Shrinks C) (shrinks' : Shrinks D) (M : Machine L F) (W : Environment L F S A) (f : P → Q) (is_map : IsMap C D M f) (code : ℕ → P) (answer : A) where
  abbrev code' : ℕ → Q
  code' g = f (code g)

  abbrev Same : Outcome P L F S → Outcome Q L F S → Type 0
  Same o o' = IsMapped C D f o o'

  module _ (s : S) (k : P) (l : L) (ps : List (Point P L)) (carry : AllCarry C D f ps) (c : Carries C D f k) where
    abbrev t1 : Thread P L
    t1 = record { top = record { at = k; own = l }; callers = ps }

    abbrev u1 : Thread Q L
    u1 = thread_mapped f t1

    behind_same : (l' : L) (s' : S) → Same (went (record { top = record { at = C.next k true; own = l' }; callers = ps }) s') (went (record { top = record { at = D.next (f k) true; own = l' }; callers = points_mapped f ps }) s')
    behind_same l' s' = (ap (λ (z : Q). record { top = record { at = z; own = l' }; callers = points_mapped f ps }) (c.next true), refl, carry)

    served_same : (r : Served L F S) → Same (served C t1 r) (served D u1 r)
    served_same (serves l' s') = behind_same l' s'
    served_same waits = tt
    served_same refuses = tt
    served_same (fails e) = refl

    finished_same : (r : Served L F S) → Same (finished r) (finished r)
    finished_same (serves l' s') = (refl, refl)
    finished_same waits = tt
    finished_same refuses = tt
    finished_same (fails e) = refl

    if_same : (b : Bool) (o : Outcome P L F S) (o' : Outcome Q L F S) → Same o o' → Same (if_fits b o) (if_fits b o')
    if_same true o o' h = h
    if_same false o o' h = tt

    act_same : (place : ℕ) (a : Act) → Same (entered_or_served C W code answer t1 s place a) (entered_or_served D W code' answer u1 s place a)
    act_same place (call x) = if_same (W.is_plain answer) _ _ (refl, refl, (c, carry))
    act_same place (set to calc) = served_same (W.serve answer place (set to calc) l s)
    act_same place (step x) = served_same (W.serve answer place (step x) l s)
    act_same place (look slot base) = served_same (W.serve answer place (look slot base) l s)
    act_same place (safepoint slots) = served_same (W.serve answer place (safepoint slots) l s)
    act_same place (begin_object i) = served_same (W.serve answer place (begin_object i) l s)
    act_same place (end_object i) = served_same (W.serve answer place (end_object i) l s)

    left_same : (temp : Option ℕ) (qs : List (Point P L)) → AllCarry C D f qs → Same (left_call C W answer l temp s qs) (left_call D W answer l temp s (points_mapped f qs))
    left_same temp [] h = finished_same (W.finish answer l temp s)
    left_same temp (q ∷ qs) h =
        let own : W.left l temp q.own (result_to (D.here (f q.at))) ≡ W.left l temp q.own (result_to (C.here q.at)) = ap (λ z. W.left l temp q.own (result_to z)) h.0.here in
        if_same (W.is_plain answer) _ _ (
          ap (λ (z : Q). record { top = record { at = z; own = W.left l temp q.own (result_to (D.here (f q.at))) }; callers = points_mapped f qs }) (h.0.next true)
              ∙ ap (λ (z : L). record { top = record { at = f (C.next q.at true); own = z }; callers = points_mapped f qs }) own,
          ap (λ (z : L). W.kept z s) own,
          h.1,
        )

    here_same : (h : Here) → Same (stop_at C M W code answer t1 s h) (stop_at D M W code' answer u1 s h)
    here_same (does place a) = if_same (M.stops a) _ _ (act_same place a)
    here_same (tests place v) = tt
    here_same passes = tt
    here_same round = if_same (W.is_plain answer) _ _ (behind_same l s)
    here_same (returns temp) = left_same temp ps carry

    stop_same : Same (stop_event C M W code answer t1 s) (stop_event D M W code' answer u1 s)
    stop_same = subst (λ h. Same (stop_event C M W code answer t1 s) (stop_at D M W code' answer u1 s h)) (sym c.here) (here_same (C.here k))

  carries : (q : Point P L) → ahead C M q ≡ stops → Carries C D f q.at ⊎ Vanishes C M f q.at → Carries C D f q.at
  carries q e (inl c) = c
  carries q e (inr v) = let x : goes (record { at = C.next q.at true; own = q.own }) ≡ stops = sym (v.idle q.own) ∙ e in absurd cc

  run_same : (s : S) (p : Point P L) (ps : List (Point P L)) → AllCarry C D f ps → (r : Result (Point P L) F) → run C M p ≡ r
      → Same (and_then (alone W ps s r) (stop_event C M W code answer)) (and_then (alone W (points_mapped f ps) s (end_mapped f r)) (stop_event D M W code' answer))
  run_same s p ps carry (Ok q) e =
      stop_same (W.kept q.own s) q.at q.own ps carry (carries q ((runs_are_steps P L F C shrinks M).stops_at p q e).1 (is_map q.at))
  run_same s p ps carry (Err x) e = refl

  turn_same : (t : Thread P L) (s : S) → AllCarry C D f t.callers → Same (turn C M W code answer t s) (turn D M W code' answer (thread_mapped f t) s)
  turn_same t s carry =
      let p : Point P L = record { at = t.top.at; own = W.seen s t.top.own } in
      subst (λ r. Same (turn C M W code answer t s) (and_then (alone W (points_mapped f t.callers) s r) (stop_event D M W code' answer))) (sym (maps_runs C D shrinks shrinks' M f is_map p))
      (run_same s p t.callers carry (run C M p) refl)

pub maps_map_turns : (P Q L F S A : Type 0) → MapsMapTurns P Q L F S A
maps_map_turns P Q L F S A C D shrinks shrinks' M W f is_map code answer t s carry = turn_same C D shrinks shrinks' M W f is_map code answer t s carry
