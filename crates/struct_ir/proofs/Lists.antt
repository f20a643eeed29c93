-- Slots and lists change nothing.
use Rattle.std.proofs.Common.{◌≡◌, ℕ, zero, suc, List, [], ◌∷◌, true, Option, refl, ap, ◌∙◌}
use Rattle.struct_ir.specs.Nodes.{Act, set, call, step, look, safepoint, begin_object, end_object}
use Rattle.struct_ir.specs.Flow.{Here, does, tests, passes, round, returns, Flow, GoesOn, Shrinks}
use Rattle.struct_ir.specs.Machine.{Machine, Point, Ahead, goes, stops, breaks, after_act, stopped_or, further, ahead_at, ahead, run_within, run}
use Rattle.struct_ir.specs.Threads.{Environment, Thread, Outcome, went, ended, blocked, broke, unfit, result_to, alone, served, if_fits, entered_or_served, back_in, left_call, stop_at, stop_event, and_then, turn}
use Rattle.struct_ir.specs.Lists.{bare_act, bare_here, listless, IgnoresLists, ListsAreNothing}

module _ {P L F S A : Type 0} (C : Flow P) (M : Machine L F) (W : Environment L F S A) (ignores : IgnoresLists M W) (code : ℕ → P) (answer : A) where
  abbrev D : Flow P
  D = listless C

  at_same : (p : Point P L) (h : Here) → ahead_at D M p (bare_here h) ≡ ahead_at C M p h
  at_same p (does place a) =
      ap (λ b. stopped_or b (after_act (C.next p.at true) (M.does place (bare_act a) p.own))) (ignores.stops a)
      ∙ ap (λ r. stopped_or (M.stops a) (after_act (C.next p.at true) r)) (ignores.does place a p.own)
  at_same p (tests place temp) = refl
  at_same p passes = refl
  at_same p round = refl
  at_same p (returns temp) = refl

  further_same : (n : ℕ) → ((p : Point P L) → run_within D M n p ≡ run_within C M n p) → (p : Point P L) (a : Ahead P L F) → further (run_within D M n) p a ≡ further (run_within C M n) p a
  further_same n go p (goes q) = go q
  further_same n go p stops = refl
  further_same n go p (breaks f) = refl

  within_same : (n : ℕ) (p : Point P L) → run_within D M n p ≡ run_within C M n p
  unfolding run_within
  within_same zero p = refl
  within_same (suc n) p = ap (further (run_within D M n) p) (at_same p (C.here p.at)) ∙ further_same n (within_same n) p (ahead C M p)

  run_same : (p : Point P L) → run D M p ≡ run C M p
  unfolding run
  run_same p = within_same (C.size p.at) p

  result_same : (h : Here) → result_to (bare_here h) ≡ result_to h
  result_same (does place (set to calc)) = refl
  result_same (does place (call c)) = refl
  result_same (does place (step s)) = refl
  result_same (does place (look slot base)) = refl
  result_same (does place (safepoint slots)) = refl
  result_same (does place (begin_object i)) = refl
  result_same (does place (end_object i)) = refl
  result_same (tests place temp) = refl
  result_same passes = refl
  result_same round = refl
  result_same (returns temp) = refl

  left_same : (l : L) (temp : Option ℕ) (s : S) (ps : List (Point P L)) → left_call D W answer l temp s ps ≡ left_call C W answer l temp s ps
  left_same l temp s [] = refl
  left_same l temp s (c ∷ cs) = ap (λ z. if_fits (W.is_plain answer) (back_in C W (W.left l temp c.own z) s c cs)) (result_same (C.here c.at))

  act_same : (t : Thread P L) (s : S) (place : ℕ) (a : Act) → entered_or_served D W code answer t s place (bare_act a) ≡ entered_or_served C W code answer t s place a
  act_same t s place (call c) = refl
  act_same t s place (set to calc) = refl
  act_same t s place (step x) = ap (served C t) (ignores.serve answer place (step x) t.top.own s)
  act_same t s place (look slot base) = refl
  act_same t s place (safepoint slots) = refl
  act_same t s place (begin_object i) = refl
  act_same t s place (end_object i) = refl

  here_same : (t : Thread P L) (s : S) (h : Here) → stop_at D M W code answer t s (bare_here h) ≡ stop_at C M W code answer t s h
  here_same t s (does place a) = ap (λ b. if_fits b (entered_or_served D W code answer t s place (bare_act a))) (ignores.stops a) ∙ ap (if_fits (M.stops a)) (act_same t s place a)
  here_same t s (tests place temp) = refl
  here_same t s passes = refl
  here_same t s round = refl
  here_same t s (returns temp) = left_same t.top.own temp s t.callers

  then_same : (o : Outcome P L F S) → and_then o (stop_event D M W code answer) ≡ and_then o (stop_event C M W code answer)
  then_same (went t s) = here_same t s (C.here t.top.at)
  then_same (ended l s) = refl
  then_same blocked = refl
  then_same (broke f) = refl
  then_same unfit = refl

  turn_same : (t : Thread P L) (s : S) → turn D M W code answer t s ≡ turn C M W code answer t s
  turn_same t s =
      let p : Point P L = record { at = t.top.at; own = W.seen s t.top.own } in
      ap (λ r. and_then (alone W t.callers s r) (stop_event D M W code answer)) (run_same p) ∙ then_same (alone W t.callers s (run C M p))

pub lists_are_nothing : (P L F S A : Type 0) → ListsAreNothing P L F S A
lists_are_nothing P L F S A C M W ignores code answer t s = turn_same C M W ignores code answer t s

goes_too : (h : Here) → GoesOn (bare_here h) → GoesOn h
goes_too (does place a) g = tt
goes_too (tests place temp) g = tt
goes_too passes g = tt
goes_too round g = absurd g
goes_too (returns temp) g = absurd g

pub listless_shrinks : {P : Type 0} (C : Flow P) → Shrinks C → Shrinks (listless C)
listless_shrinks C shrinks k c g = shrinks k c (goes_too (C.here k) g)
