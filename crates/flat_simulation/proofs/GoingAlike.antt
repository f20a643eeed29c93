-- Threads of two codes of which the second follows the first go on alone alike.
use Rattle.std.proofs.Common.{◌≡◌, ℕ, List, [], ◌∷◌, Bool, true, false, Option, Result, Ok, Err, refl, sym, ap, subst, ◌∙◌}
use Rattle.std.specs.Prelude.{if◌then◌else◌}
use Rattle.struct_ir.specs.Nodes.{Call, Act, set, call, step, look, safepoint, begin_object, end_object}
use Rattle.struct_ir.specs.Flow.{Here, does, tests, passes, round, returns, Flow, Stays, IsCall}
use Rattle.struct_ir.specs.Machine.{Machine, Point, stops, ahead_at, further, run}
use Rattle.struct_ir.specs.Mirrors.{Both, IsMirror, EndAlike}
use Rattle.struct_ir.specs.Marks.{IsUnseen, FollowsAt, both_go, first_goes}
use Rattle.struct_ir.specs.Threads.{Thread, result_to}
use Rattle.struct_ir.specs.Alike.{SameCallers, LevelThreads, SameThreads}
use Rattle.struct_ir.proofs.Mirrors.{mirrors_runs}
use Rattle.struct_ir.proofs.Follows.{follows_mirrors}
use Rattle.struct_ir.proofs.Runs.{unfolds}
use Rattle.struct_ir.proofs.Threads.{call_stays}
use Rattle.flat_meaning.specs.Image.{Layout, Image}
use Rattle.flat_meaning.specs.Words.{Words}
use Rattle.flat_meaning.specs.Accesses.{Fault}
use Rattle.flat_meaning.specs.Machine.{words_machine, left}
use Rattle.flat_meaning.specs.Stages.{Before, safe, looks, steps, calls, turn_over, nothing, before_act, before_return, before_here, before, room_for, Advance, past_safepoint, at_next_stop, turn_done, ending_if, advanced_from, can_pass}
use Rattle.flat_meaning.proofs.Halves.{marks_are_idle, NoFault, no_fault}
use Rattle.flat_meaning.specs.Emitted.{AreOne, IsSafepoint, CallsAreGuarded}
use Rattle.flat_simulation.specs.inner.Level.{image, same, level, GonesMatch}

-- ---- what a thread stands before

safe_stays : {A : Type 0} (callers : List A) (h : Here) → before_here callers h ≡ safe → Stays h
safe_stays callers (does place a) e = tt
safe_stays callers (tests place temp) e = tt
safe_stays callers passes e = tt
safe_stays callers round e = tt
safe_stays [] (returns temp) e = absurd cc
safe_stays (c ∷ callers) (returns temp) e = absurd cc

pub unseen_nothing : {A : Type 0} (callers : List A) (h : Here) → IsUnseen h → before_here callers h ≡ nothing
unseen_nothing callers (does place a) u = by_act a u
  where
    by_act : (a : Act) → IsUnseen (does place a) → before_act a ≡ nothing
    by_act (set to calc) u = refl
    by_act (call c) u = absurd cc
    by_act (step s) u = absurd cc
    by_act (look slot base) u = absurd cc
    by_act (safepoint slots) u = absurd cc
    by_act (begin_object i) u = refl
    by_act (end_object i) u = refl
unseen_nothing callers (tests place temp) u = absurd u
unseen_nothing callers passes u = refl
unseen_nothing callers round u = absurd u
unseen_nothing callers (returns temp) u = absurd u

-- what a turn comes to that ends before what stands there
abbrev ended_at : {P : Type 0} → Image P → Thread P Words → Here → Before → Advance P
ended_at x t h (calls function) = if room_for x t function then record { thread = turn_done x t h; turns = 1 } else record { thread = t; turns = 0 }
ended_at x t h turn_over = record { thread = turn_done x t h; turns = 1 }
ended_at x t h other = record { thread = t; turns = 0 }

ending_is : {P : Type 0} (x : Image P) (t : Thread P Words) (b : Before) → ending_if x t b ≡ ended_at x t (x.flow.here t.top.at) b
ending_is x t safe = refl
ending_is x t looks = refl
ending_is x t steps = refl
ending_is x t (calls function) = refl
ending_is x t turn_over = refl
ending_is x t nothing = refl

module _ {P Q : Type 0} (Y : Layout) (C : Flow P) (D : Flow Q) (code : ℕ → P) (code' : ℕ → Q) (R : P → Q → Type 0) (one : AreOne (image C code Y) (image D code' Y) R) where
  abbrev pub x : Image P
  x = image C code Y

  abbrev pub y : Image Q
  y = image D code' Y

  abbrev pub Level : Thread P Words → Thread Q Words → Type 0
  Level t u = LevelThreads C D R t u

  abbrev pub Same : Thread P Words → Thread Q Words → Type 0
  Same t u = SameThreads C D R t u

  -- the second, with what the first has of its own
  abbrev Beside : Thread P Words → Thread Q Words → Thread Q Words
  Beside t u = record { top = record { at = u.top.at; own = t.top.own }; callers = u.callers }

  beside : (A : Thread Q Words → Type 0) (t : Thread P Words) (u : Thread Q Words) → u.top.own ≡ t.top.own → A (Beside t u) → A u
  beside A t u e a = subst (λ (l : Words). A (record { top = record { at = u.top.at; own = l }; callers = u.callers })) (sym e) a

  return_same : (ps : List (Point P Words)) (qs : List (Point Q Words)) → SameCallers C D R ps qs → before_return qs ≡ before_return ps
  return_same [] [] h = refl
  return_same [] (q ∷ qs) h = absurd h
  return_same (p ∷ ps) [] h = absurd h
  return_same (p ∷ ps) (q ∷ qs) h = refl

  pub here_same : (ps : List (Point P Words)) (qs : List (Point Q Words)) → SameCallers C D R ps qs → (h : Here) → before_here qs h ≡ before_here ps h
  here_same ps qs cs (does place a) = refl
  here_same ps qs cs (tests place temp) = refl
  here_same ps qs cs passes = refl
  here_same ps qs cs round = refl
  here_same ps qs cs (returns temp) = return_same ps qs cs

  -- both stand before the same
  pub before_same : (t : Thread P Words) (u : Thread Q Words) → Same t u → before y u ≡ before x t
  before_same t u s = ap (before_here u.callers) s.top.same.here ∙ here_same t.callers u.callers s.callers (C.here t.top.at)

  alone_same : (t : Thread P Words) (u : Thread Q Words) → u.top.own ≡ t.top.own → (b : Before) → can_pass y u b ≡ can_pass x t b
  alone_same t u e safe = refl
  alone_same t u e looks = refl
  alone_same t u e steps = refl
  alone_same t u e (calls function) = ap (λ (l : Words). room_for y (record { top = record { at = u.top.at; own = l }; callers = u.callers }) function) e
  alone_same t u e turn_over = refl
  alone_same t u e nothing = refl

  pub goes_same : (t : Thread P Words) (u : Thread Q Words) → Same t u → can_pass y u (before y u) ≡ can_pass x t (before x t)
  goes_same t u s = ap (can_pass y u) (before_same t u s) ∙ alone_same t u s.top.own (before x t)

  -- level threads stand before the same, or nothing is to be seen where the first stands
  pub data Lag (t : Thread P Words) (u : Thread Q Words) : Type 0 where
    there : Same t u → Lag t u
    lags : IsUnseen (C.here t.top.at) → Lag t u

  pub lag : (t : Thread P Words) (u : Thread Q Words) → Level t u → Lag t u
  lag t u h = by (one.follows t.top.at u.top.at h.top.at)
    where
      by : FollowsAt C D R t.top.at u.top.at → Lag t u
      by (both_go b) = there (record { top = record { at = h.top.at; same = b; own = h.top.own }; callers = h.callers })
      by (first_goes e on) = lags e

  pub same_level : (t : Thread P Words) (u : Thread Q Words) → Same t u → Level t u
  same_level t u s = record { top = record { at = s.top.at; own = s.top.own }; callers = s.callers }

  -- ---- past a safepoint

  past_at : (t : Thread P Words) (u : Thread Q Words) → Same t u → (b : Before) → before x t ≡ b → Level (past_safepoint x t b) (past_safepoint y u b)
  past_at t u s safe e = record { top = record { at = s.top.same.next (safe_stays t.callers (C.here t.top.at) e) true; own = s.top.own }; callers = s.callers }
  past_at t u s looks e = same_level t u s
  past_at t u s steps e = same_level t u s
  past_at t u s (calls function) e = same_level t u s
  past_at t u s turn_over e = same_level t u s
  past_at t u s nothing e = same_level t u s

  pub past_same : (t : Thread P Words) (u : Thread Q Words) → Same t u → Level (past_safepoint x t (before x t)) (past_safepoint y u (before y u))
  past_same t u s = subst (λ b. Level (past_safepoint x t (before x t)) (past_safepoint y u b)) (sym (before_same t u s)) (past_at t u s (before x t) refl)

  -- ---- a run

  module _ (thread : ℕ) where
    abbrev pub M : Machine Words Fault
    M = words_machine Y thread

    pub mirror : IsMirror C D M R
    mirror = follows_mirrors C D M R (marks_are_idle Y thread) one.follows

    abbrev pub ran : Thread P Words → Thread P Words
    ran t = at_next_stop t (run C M t.top)

    abbrev pub ran' : Thread Q Words → Thread Q Words
    ran' u = at_next_stop u (run D M u.top)

    ran_ends : (t : Thread P Words) (u : Thread Q Words) → SameCallers C D R t.callers u.callers → (o : Result (Point P Words) Fault) (o' : Result (Point Q Words) Fault) → NoFault x thread o → EndAlike C D R o o' → Same (at_next_stop t o) (at_next_stop u o')
    ran_ends t u cs (Ok p) (Ok q) n h = record { top = record { at = h.1; same = h.2; own = h.0 }; callers = cs }
    ran_ends t u cs (Ok p) (Err f) n h = absurd h
    ran_ends t u cs (Err f) o' n h = absurd n

    -- level threads come to the same stop
    pub ran_level : (t : Thread P Words) (u : Thread Q Words) → Level t u → Same (ran t) (ran' u)
    ran_level t u h =
        let e : EndAlike C D R (run C M t.top) (run D M (record { at = u.top.at; own = t.top.own })) = mirrors_runs C D one.shrinks.0 one.shrinks.1 M R mirror t.top.at u.top.at t.top.own h.top.at in
        let f : EndAlike C D R (run C M t.top) (run D M u.top) = subst (λ (l : Words). EndAlike C D R (run C M t.top) (run D M (record { at = u.top.at; own = l }))) (sym h.top.own) e in
        ran_ends t u h.callers (run C M t.top) (run D M u.top) (no_fault x thread t.top) f

  -- ---- the end of a turn

  module _ (guarded : CallsAreGuarded (image D code' Y)) where
    no_safepoint : (h : Here) (j : Q) → D.here j ≡ h → (IsSafepoint h → ⊥) → IsCall (D.here (D.next j true)) → ⊥
    no_safepoint h j e not c = not (subst IsSafepoint e (guarded.behind j true c))

    call_is_no_safepoint : (h : Here) → IsCall h → IsSafepoint h → ⊥
    call_is_no_safepoint (does place (set to calc)) c s = s
    call_is_no_safepoint (does place (call d)) c s = s
    call_is_no_safepoint (does place (step z)) c s = s
    call_is_no_safepoint (does place (look slot base)) c s = s
    call_is_no_safepoint (does place (safepoint slots)) c s = absurd cc
    call_is_no_safepoint (does place (begin_object i)) c s = s
    call_is_no_safepoint (does place (end_object i)) c s = s
    call_is_no_safepoint (tests place temp) c s = s
    call_is_no_safepoint passes c s = s
    call_is_no_safepoint round c s = s
    call_is_no_safepoint (returns temp) c s = s

    module _ (k : P) (j : Q) (l : Words) (ps : List (Point P Words)) (qs : List (Point Q Words)) (r : R k j) (b : Both C D R k j) (cs : SameCallers C D R ps qs) where
      abbrev t1 : Thread P Words
      t1 = record { top = record { at = k; own = l }; callers = ps }

      abbrev u1 : Thread Q Words
      u1 = record { top = record { at = j; own = l }; callers = qs }

      abbrev Gones : Advance P → Advance Q → Type 0
      Gones g h = GonesMatch C D R g h

      still : Gones (record { thread = t1; turns = 0 }) (record { thread = u1; turns = 0 })
      still = (refl, same (record { top = record { at = r; same = b; own = refl }; callers = cs }))

      called : (place : ℕ) (c : Call) → C.here k ≡ does place (call c) → (room : Bool) → Gones (if room then record { thread = turn_done x t1 (does place (call c)); turns = 1 } else record { thread = t1; turns = 0 }) (if room then record { thread = turn_done y u1 (does place (call c)); turns = 1 } else record { thread = u1; turns = 0 })
      called place c e true =
          let is : IsCall (C.here k) = subst IsCall (sym e) refl in
          (refl, level (record { top = record { at = one.starts c.function; own = refl }; callers = (record { same = b; calls = is; own = refl }, cs) }) (guarded.entries c.function))
      called place c e false = still

      act_ends : (place : ℕ) (a : Act) → C.here k ≡ does place a → Gones (ended_at x t1 (does place a) (before_act a)) (ended_at y u1 (does place a) (before_act a))
      act_ends place (set to calc) e = still
      act_ends place (call c) e = called place c e (room_for x t1 c.function)
      act_ends place (step s) e = still
      act_ends place (look slot base) e = still
      act_ends place (safepoint slots) e = still
      act_ends place (begin_object i) e = still
      act_ends place (end_object i) e = still

      back_ends : (temp : Option ℕ) (xs : List (Point P Words)) (ys : List (Point Q Words)) → SameCallers C D R xs ys
          → Gones (ended_at x (record { top = record { at = k; own = l }; callers = xs }) (returns temp) (before_return xs)) (ended_at y (record { top = record { at = j; own = l }; callers = ys }) (returns temp) (before_return ys))
      back_ends temp [] [] h = (refl, same (record { top = record { at = r; same = b; own = refl }; callers = h }))
      back_ends temp [] (q ∷ ys) h = absurd h
      back_ends temp (p ∷ xs) [] h = absurd h
      back_ends temp (p ∷ xs) (q ∷ ys) h =
          let own : left l temp q.own (result_to (D.here q.at)) ≡ left l temp p.own (result_to (C.here p.at)) = λ i. left l temp (h.0.own i) (result_to (h.0.same.here i)) in
          let on = h.0.same.next (call_stays (C.here p.at) h.0.calls) true in
          (refl, level (record { top = record { at = on; own = own }; callers = h.1 }) (no_safepoint (D.here q.at) q.at refl (call_is_no_safepoint (D.here q.at) (subst IsCall (sym h.0.same.here) h.0.calls))))

      at_ends : (h : Here) → C.here k ≡ h → Gones (ended_at x t1 h (before_here ps h)) (ended_at y u1 h (before_here qs h))
      at_ends (does place a) e = act_ends place a e
      at_ends (tests place temp) e = still
      at_ends passes e = still
      at_ends round e = (refl, level (record { top = record { at = b.next (subst Stays (sym e) tt) true; own = refl }; callers = cs }) (no_safepoint round j (b.here ∙ e) (λ s. s)))
      at_ends (returns temp) e = back_ends temp ps qs cs

      pub both_end : Gones (ending_if x t1 (before x t1)) (ending_if y u1 (before y u1))
      both_end =
          let w : ended_at y u1 (D.here j) (before_here qs (D.here j)) ≡ ended_at y u1 (C.here k) (before_here qs (C.here k)) = ap (λ (h : Here). ended_at y u1 h (before_here qs h)) b.here in
          let e : ending_if y u1 (before y u1) ≡ ended_at y u1 (C.here k) (before_here qs (C.here k)) = ending_is y u1 (before y u1) ∙ w in
          subst (λ g. Gones g (ending_if y u1 (before y u1))) (sym (ending_is x t1 (before x t1)))
          (subst (λ h. Gones (ended_at x t1 (C.here k) (before_here ps (C.here k))) h) (sym e) (at_ends (C.here k) refl))

    -- what both threads stand before ends a turn, or doesn't
    pub same_end : (t : Thread P Words) (u : Thread Q Words) → Same t u → GonesMatch C D R (ending_if x t (before x t)) (ending_if y u (before y u))
    same_end t u s =
        beside (λ (v : Thread Q Words). GonesMatch C D R (ending_if x t (before x t)) (ending_if y v (before y v))) t u s.top.own
        (both_end t.top.at u.top.at t.top.own t.callers u.callers s.top.at s.top.same s.callers)

    -- level threads go on alone alike, past nothing
    pub gone_level : (thread : ℕ) (t : Thread P Words) (u : Thread Q Words) → Level t u → GonesMatch C D R (advanced_from x thread t) (advanced_from y thread u)
    gone_level thread t u h = same_end (ran thread t) (ran' thread u) (ran_level thread t u h)

    -- so do threads that stand before the same, past a safepoint
    pub gone_same : (thread : ℕ) (t : Thread P Words) (u : Thread Q Words) → Same t u → GonesMatch C D R (advanced_from x thread (past_safepoint x t (before x t))) (advanced_from y thread (past_safepoint y u (before y u)))
    gone_same thread t u s = gone_level thread (past_safepoint x t (before x t)) (past_safepoint y u (before y u)) (past_same t u s)

    -- ---- a thread that lags

    -- it doesn't go on alone to the end of a turn
    abbrev pub IsHeld : Thread Q Words → Before → Type 0
    IsHeld u safe = Unit {0}
    IsHeld u looks = Unit {0}
    IsHeld u steps = Unit {0}
    IsHeld u (calls function) = room_for y u function ≡ false
    IsHeld u turn_over = ⊥
    IsHeld u nothing = ⊥

    held_stops : (thread : ℕ) (u : Thread Q Words) (h : Here) → IsHeld u (before_here u.callers h) → ahead_at D (M thread) u.top h ≡ stops
    held_stops thread u (does place (set to calc)) e = absurd e
    held_stops thread u (does place (call c)) e = refl
    held_stops thread u (does place (step s)) e = refl
    held_stops thread u (does place (look slot base)) e = refl
    held_stops thread u (does place (safepoint slots)) e = refl
    held_stops thread u (does place (begin_object i)) e = absurd e
    held_stops thread u (does place (end_object i)) e = absurd e
    held_stops thread u (tests place temp) e = absurd e
    held_stops thread u passes e = absurd e
    held_stops thread u round e = refl
    held_stops thread u (returns temp) e = refl

    -- it is where a run of it stops
    held_ran : (thread : ℕ) (u : Thread Q Words) → IsHeld u (before y u) → ran' thread u ≡ u
    held_ran thread u h = ap (at_next_stop u) (unfolds D one.shrinks.1 (M thread) u.top ∙ ap (further (run D (M thread)) u.top) (held_stops thread u (D.here u.top.at) h))

    held_ends : (t : Thread P Words) (u : Thread Q Words) → u.top.own ≡ t.top.own → (b : Before) → IsHeld u b → ending_if x t b ≡ record { thread = t; turns = 0 }
    held_ends t u e safe h = refl
    held_ends t u e looks h = refl
    held_ends t u e steps h = refl
    held_ends t u e (calls function) h =
        ap (λ (z : Bool). if z then record { thread = turn_done x t (C.here t.top.at); turns = 1 } else record { thread = t; turns = 0 })
        (sym (alone_same t u e (calls function)) ∙ h)
    held_ends t u e turn_over h = absurd h
    held_ends t u e nothing h = absurd h

    -- the first thread comes to where the second is held
    pub comes_there : (thread : ℕ) (t : Thread P Words) (u : Thread Q Words) → Level t u → IsHeld u (before y u) → (q : Thread P Words) × (advanced_from x thread t ≡ record { thread = q; turns = 0 }) × Same q u
    comes_there thread t u l h =
        let q = ran thread t in
        let s : Same q u = subst (λ v. Same q v) (held_ran thread u h) (ran_level thread t u l) in
        (q, held_ends q u s.top.own (before x q) (subst (IsHeld u) (before_same q u s) h), s)
