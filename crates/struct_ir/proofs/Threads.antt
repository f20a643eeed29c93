-- Each call of a thread has come by a path of its function.
use Rattle.std.proofs.Common.{◌≡◌, ℕ, List, [], ◌∷◌, Bool, true, false, Option, Result, Ok, Err, refl, sym, ap, subst, ◌∙◌}
use Rattle.struct_ir.specs.Nodes.{Act, call}
use Rattle.struct_ir.specs.Flow.{Here, does, tests, passes, round, returns, Flow, Stays, IsCall, Shrinks}
use Rattle.struct_ir.specs.Machine.{Machine, Point, stops, stopped_or, after_act, ahead_at, ahead, run, Steps, still, more, starts, walks, resumes, changes}
use Rattle.struct_ir.specs.Threads.{Served, serves, waits, refuses, fails, Environment, Thread, Outcome, behind, alone, served, finished, if_fits, entered_or_served, left_call, stop_at, HasCome, Waits, AllWait, AllCome, IfWent, KeepsWays, EventsKeepWays}
use Rattle.struct_ir.proofs.Runs.{runs_are_steps}

-- behind a call the caller goes on
pub call_stays : (h : Here) → IsCall h → Stays h
call_stays (does place a) c = tt
call_stays (tests place temp) c = absurd c
call_stays passes c = absurd c
call_stays round c = absurd c
call_stays (returns temp) c = absurd c

-- it stands at a stop, behind which the call goes on
record Rests {P L F : Type 0} (C : Flow P) (M : Machine L F) (code : ℕ → P) (p : Point P L) : Type 0 where
  come : HasCome C M code p
  stands : ahead C M p ≡ stops
  stays : Stays (C.here p.at)

module _ {P L F S A : Type 0} (C : Flow P) (shrinks : Shrinks C) (M : Machine L F) (W : Environment L F S A) (code : ℕ → P) where
  come_on : (p q : Point P L) → Steps C M p q → HasCome C M code p → HasCome C M code q
  come_on p q still h = h
  come_on p q (more r s before e) h = let m = come_on p r before h in record { function = m.function; way = r.at ∷ m.way; comes = walks m.way r q m.comes e }

  come_past : (p : Point P L) (l : L) → Rests C M code p → HasCome C M code (behind C p l)
  come_past p l w = record {
    function = w.come.function;
    way = p.at ∷ w.come.way;
    comes = changes (p.at ∷ w.come.way) (record { at = C.next p.at true; own = p.own }) l (resumes w.come.way p w.come.comes w.stands w.stays);
  }

  come_changed : (p : Point P L) (l : L) → HasCome C M code p → HasCome C M code (record { at = p.at; own = l })
  come_changed p l h = record { function = h.function; way = h.way; comes = changes h.way p l h.comes }

  local_keeps : (t : Thread P L) (s : S) → AllCome C M code t → (p : Point P L) → HasCome C M code p → (r : Result (Point P L) F) → run C M p ≡ r → IfWent (AllCome C M code) (alone W t.callers s r)
  local_keeps t s a p come (Ok q) e = record { top = come_on p q ((runs_are_steps P L F C shrinks M).stops_at p q e).0 come; callers = a.callers }
  local_keeps t s a p come (Err f) e = tt

  served_keeps : (t : Thread P L) → AllCome C M code t → Rests C M code t.top → (r : Served L F S) → IfWent {F = F} (AllCome C M code) (served C t r)
  served_keeps t a w (serves l s) = record { top = come_past t.top l w; callers = a.callers }
  served_keeps t a w waits = tt
  served_keeps t a w refuses = tt
  served_keeps t a w (fails f) = tt

  finished_keeps : (r : Served L F S) → IfWent {F = F} (AllCome C M code) (finished r)
  finished_keeps (serves l s) = tt
  finished_keeps waits = tt
  finished_keeps refuses = tt
  finished_keeps (fails f) = tt

  if_keeps : (x : Bool) (o : Outcome P L F S) → (x ≡ true → IfWent {F = F} (AllCome C M code) o) → IfWent {F = F} (AllCome C M code) (if_fits x o)
  if_keeps true o h = h refl
  if_keeps false o h = tt

  act_keeps : (answer : A) (t : Thread P L) (s : S) → AllCome C M code t → Rests C M code t.top → (place : ℕ) (a : Act) → C.here t.top.at ≡ does place a → IfWent {F = F} (AllCome C M code) (entered_or_served C W code answer t s place a)
  act_keeps answer t s a w place (call c) e =
      if_keeps (W.is_plain answer) _ (λ fits.
      let caller : Waits C M code t.top = record { come = w.come; stands = w.stands; calls = subst IsCall (sym e) refl } in
      record { top = record { function = c.function; way = []; comes = starts (W.entered c.function t.top.own c.temps) }; callers = (caller, a.callers) })
  act_keeps answer t s a w place _ e = served_keeps t a w _

  left_keeps : (answer : A) (l : L) (temp : Option ℕ) (s : S) (callers : List (Point P L)) → AllWait C M code callers → IfWent {F = F} (AllCome C M code) (left_call C W answer l temp s callers)
  left_keeps answer l temp s [] w = finished_keeps (W.finish answer l temp s)
  left_keeps answer l temp s (c ∷ callers) w = if_keeps (W.is_plain answer) _ (λ e. record { top = come_past c _ (record { come = w.0.come; stands = w.0.stands; stays = call_stays (C.here c.at) w.0.calls }); callers = w.1 })

  stop_keeps : (answer : A) (t : Thread P L) (s : S) → AllCome C M code t → (h : Here) → C.here t.top.at ≡ h → IfWent {F = F} (AllCome C M code) (stop_at C M W code answer t s h)
  stop_keeps answer t s a (does place x) e =
      if_keeps (M.stops x) _ (λ on.
      let stands : ahead C M t.top ≡ stops = ap (ahead_at C M t.top) e ∙ ap (λ (b : Bool). stopped_or b (after_act (C.next t.top.at true) (M.does place x t.top.own))) on in
      act_keeps answer t s a (record { come = a.top; stands = stands; stays = subst Stays (sym e) tt }) place x e)
  stop_keeps answer t s a (tests place temp) e = tt
  stop_keeps answer t s a passes e = tt
  stop_keeps answer t s a round e = if_keeps (W.is_plain answer) _ (λ fits. record { top = come_past t.top t.top.own (record { come = a.top; stands = ap (ahead_at C M t.top) e; stays = subst Stays (sym e) tt }); callers = a.callers })
  stop_keeps answer t s a (returns temp) e = left_keeps answer t.top.own temp s t.callers a.callers

  pub keeps_ways : KeepsWays C M W code
  keeps_ways = record { local = λ t s a. local_keeps t s a (record { at = t.top.at; own = W.seen s t.top.own }) (come_changed t.top (W.seen s t.top.own) a.top) _ refl; stop = λ answer t s a. stop_keeps answer t s a (C.here t.top.at) refl }

pub events_keep_ways : (P L F S A : Type 0) → EventsKeepWays P L F S A
events_keep_ways P L F S A C shrinks M W code = keeps_ways C shrinks M W code
