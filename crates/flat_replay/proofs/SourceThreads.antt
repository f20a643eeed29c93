-- Wherever a run comes: main runs or has returned, and nobody has joined it; and each thread that runs has something of its own.
use Rattle.std.proofs.Common.{◌≡◌, ◌≢◌, ℕ, zero, suc, ◌<◌, ◌≤◌, ◌==◌, Bool, true, false, List, [], ◌∷◌, ◌++◌, length, map, set, Option, Some, None, ℤ, refl, sym, ap, ◌∙◌, subst, arith, inl, inr}
use Rattle.std.specs.Prelude.{◌⊎◌, drop, nat_lt, slice_get}
use Rattle.std.proofs.lemmas.Bool.Decides.{nat_tests}
use Rattle.std.proofs.lemmas.List.{length-append, length-drop, length-map, length-set}
use Rattle.block_store.specs.Actions as actions
use Rattle.block_store.specs.Actions.{World, running, returned, joined, at_stage, beginning}
use Rattle.block_store.specs.Runs as runs
use Rattle.block_store.specs.Runs.{Pick, State, Turn, Run, reaches, first_state, goes_on, next_state, own_at, picked, run, run_from, turn_if}
use Rattle.struct_ir.specs.Nodes.{Ir}
use Rattle.struct_ir.specs.Structured.{Position}
use Rattle.struct_ir.specs.Threads.{Thread, Outcome, went, ended, blocked, broke, unfit}
use Rattle.struct_ir.specs.meaning.Blocks.{Own, Fault, broken, wrong_kind}
use Rattle.struct_ir.specs.meaning.Start.{start}
use Rattle.struct_ir.specs.meaning.Threads.{program_of, turned}
use Rattle.flat_rules.specs.inner.Cases.{same_number}
use Rattle.flat_replay.specs.Meaning.{Runs}
use Rattle.flat_simulation.specs.inner.Kept.{source_turn}
use Rattle.flat_replay.proofs.Owns.{own_below, own_other, own_put}
use Rattle.flat_replay.proofs.SourceActs.{Change, Comes, joins_one, more, same, stage_list, turn_comes}
use Rattle.flat_replay.proofs.Standing.{MainIs}

-- ---- threads

-- the thread of this number runs
abbrev RunsIn : List actions.ThreadRecord → ℕ → Type 0
RunsIn ts n = (t : actions.ThreadRecord) × (slice_get ts n ≡ Some t) × (t.stage ≡ running)

-- main runs, or has returned
abbrev MainIn : List actions.ThreadRecord → Type 0
MainIn ts = RunsIn ts 0 ⊎ ((t : actions.ThreadRecord) × (slice_get ts 0 ≡ Some t) × ((z : ℤ) × (t.stage ≡ returned z)))

front : (ts us : List actions.ThreadRecord) (n : ℕ) → n < length ts → slice_get (ts ++ us) n ≡ slice_get ts n
front [] us n below = absurd (omega (arith, below))
front (t ∷ ts) us zero below = refl
front (t ∷ ts) us (suc n) below = front ts us n (omega (arith, below))

other_at : (ts : List actions.ThreadRecord) (number n : ℕ) (t : actions.ThreadRecord) → n ≢ number → slice_get (set ts number t) n ≡ slice_get ts n
other_at [] number n t other = refl
other_at (u ∷ ts) zero zero t other = absurd (other refl)
other_at (u ∷ ts) zero (suc n) t other = refl
other_at (u ∷ ts) (suc number) zero t other = refl
other_at (u ∷ ts) (suc number) (suc n) t other = other_at ts number n t (λ (e : n ≡ number). other (ap suc e))

one_at : (ts : List actions.ThreadRecord) (n : ℕ) (t : actions.ThreadRecord) → n < length ts → slice_get (set ts n t) n ≡ Some t
one_at [] n t below = absurd (omega (arith, below))
one_at (u ∷ ts) zero t below = refl
one_at (u ∷ ts) (suc n) t below = one_at ts n t (omega (arith, below))

at_below : (ts : List actions.ThreadRecord) (n : ℕ) (t : actions.ThreadRecord) → slice_get ts n ≡ Some t → n < length ts
at_below [] n t e = absurd cc
at_below (u ∷ ts) zero t e = omega arith
at_below (u ∷ ts) (suc n) t e = omega (arith, at_below ts n t e)

there_is : (ts : List actions.ThreadRecord) (n : ℕ) → n < length ts → (t : actions.ThreadRecord) × (slice_get ts n ≡ Some t)
there_is [] n below = absurd (omega (arith, below))
there_is (u ∷ ts) zero below = (u, refl)
there_is (u ∷ ts) (suc n) below = there_is ts n (omega (arith, below))

moved : (ts us : List actions.ThreadRecord) (n : ℕ) → slice_get us n ≡ slice_get ts n → RunsIn us n → RunsIn ts n
moved ts us n e r = (r.0, sym e ∙ r.1, r.2)

differ : (n k : ℕ) → (n == k) ≡ false → n ≢ k
differ n k e is = let equal : (n == k) ≡ true = grind (arith, nat_tests) in let bad : true ≡ false = sym equal ∙ e in cc

-- one that doesn't run
set_back : (ts : List actions.ThreadRecord) (number n : ℕ) (t : actions.ThreadRecord) (stage : actions.Stage) → number < length ts → (stage ≡ running → ⊥) → RunsIn (set ts number (at_stage stage t)) n → RunsIn ts n
set_back ts number n t stage below stops r = by (n == number) refl where
  by : (b : Bool) → (n == number) ≡ b → RunsIn ts n
  by true e =
      let is : n ≡ number = same_number n number e in
      let one : Some (at_stage stage t) ≡ Some r.0 = sym (one_at ts number (at_stage stage t) below) ∙ subst (λ (k : ℕ). slice_get (set ts number (at_stage stage t)) k ≡ Some r.0) is r.1 in
      let it : at_stage stage t ≡ r.0 = cc in
      absurd (stops (ap (λ (k : actions.ThreadRecord). k.stage) it ∙ r.2))
  by false e = moved ts (set ts number (at_stage stage t)) n (other_at ts number n (at_stage stage t) (differ n number e)) r

-- who runs behind a change ran before, if made
back : (ts us : List actions.ThreadRecord) → Change ts us → (n : ℕ) → n < length ts → RunsIn us n → RunsIn ts n
back ts _ same n below r = r
back ts _ (more function argument) n below r = moved ts (ts ++ beginning function argument ∷ []) n (front ts (beginning function argument ∷ []) n below) r
back ts _ (joins_one number t z is stage) n below r = set_back ts number n t (joined z) (at_below ts number t is) (λ (e : joined z ≡ running). absurd cc) r

-- main runs on
main_on : (ts us : List actions.ThreadRecord) → Change ts us → RunsIn ts 0 → RunsIn us 0
main_on ts _ same r = r
main_on ts _ (more function argument) r = (r.0, front ts (beginning function argument ∷ []) 0 (at_below ts 0 r.0 r.1) ∙ r.1, r.2)
main_on ts _ (joins_one number t z is stage) r = by (0 == number) refl where
  by : (b : Bool) → (0 == number) ≡ b → RunsIn (set ts number (at_stage (joined z) t)) 0
  by true e =
      let zero_is : 0 ≡ number = same_number 0 number e in
      let one : Some t ≡ Some r.0 = sym is ∙ subst (λ (k : ℕ). slice_get ts k ≡ Some r.0) zero_is r.1 in
      let it : t ≡ r.0 = cc in
      let bad : returned z ≡ running = sym stage ∙ ap (λ (k : actions.ThreadRecord). k.stage) it ∙ r.2 in absurd cc
  by false e = (r.0, other_at ts number 0 (at_stage (joined z) t) (differ 0 number e) ∙ r.1, r.2)

change_long : (ts us : List actions.ThreadRecord) → Change ts us → length ts ≤ length us
change_long ts _ same = omega arith
change_long ts _ (more function argument) = omega (arith, length-append ts (beginning function argument ∷ []))
change_long ts _ (joins_one number t z is stage) = omega (arith, length-set ts number (at_stage (joined z) t))

-- ---- what threads have of their own

module _ {A : Type 0} (begins : actions.ThreadRecord → A) where
  abbrev Has : List (Option A) → ℕ → Type 0
  Has os n = (a : A) × (own_at os n ≡ Some a)

  abbrev fresh : List actions.ThreadRecord → List (Option A)
  fresh ts = map (λ (t : actions.ThreadRecord). Some (begins t)) ts

  fresh_has : (ts : List actions.ThreadRecord) (n : ℕ) → n < length ts → Has (fresh ts) n
  fresh_has [] n below = absurd (omega (arith, below))
  fresh_has (t ∷ ts) zero below = (begins t, refl)
  fresh_has (t ∷ ts) (suc n) below = fresh_has ts n (omega (arith, below))

  new_has : (os : List (Option A)) (ts : List actions.ThreadRecord) (n : ℕ) → length os ≤ n → n < length ts → Has (os ++ fresh (drop (length os) ts)) n
  new_has [] ts n from below = fresh_has ts n below
  new_has (o ∷ os) [] n from below = absurd (omega (arith, below))
  new_has (o ∷ os) (t ∷ ts) zero from below = absurd (omega (arith, from))
  new_has (o ∷ os) (t ∷ ts) (suc n) from below = new_has os ts n (omega (arith, from)) (omega (arith, below))

  -- each thread that runs has something; main runs while it has; and it runs or has returned
  pub record Held (os : List (Option A)) (ts : List actions.ThreadRecord) : Type 0 where
    pub count : length os ≡ length ts
    pub own : (n : ℕ) → RunsIn ts n → Has os n
    pub runs : Has os 0 → RunsIn ts 0
    pub main : MainIn ts

  abbrev put : List (Option A) → ℕ → Option A → List actions.ThreadRecord → List (Option A)
  put os thread v us = set os thread v ++ fresh (drop (length os) us)

  -- it is as long as the threads
  put_long : (os : List (Option A)) (thread : ℕ) (v : Option A) (us : List actions.ThreadRecord) → length os ≤ length us → length (put os thread v us) ≡ length us
  put_long os thread v us le =
      let rest : List actions.ThreadRecord = drop (length os) us in
      omega (arith, le, length-append (set os thread v) (fresh rest), length-set os thread v, length-map rest (λ (t : actions.ThreadRecord). Some (begins t)), length-drop (length os) us)

  -- who was made has something
  put_new : (os : List (Option A)) (thread : ℕ) (v : Option A) (us : List actions.ThreadRecord) (n : ℕ) → length os ≤ n → n < length us → Has (put os thread v us) n
  put_new os thread v us n from below =
      subst (λ (k : ℕ). Has (set os thread v ++ fresh (drop k us)) n) (length-set os thread v) (new_has (set os thread v) us n (omega (arith, from, length-set os thread v)) below)

  -- a thread goes on
  pub goes : (os : List (Option A)) (ts us : List actions.ThreadRecord) (thread : ℕ) (a : A) → Held os ts → Has os 0 → thread < length os → Change ts us → Held (put os thread (Some a) us) us
  goes os ts us thread a held main below change = record {
    count = put_long os thread (Some a) us (omega (arith, held.count, change_long ts us change));
    own = λ n r. by_long n r (nat_lt n (length os)) refl;
    runs = λ h. main_on ts us change (held.runs main);
    main = inl (main_on ts us change (held.runs main));
  } where
    mine : (n : ℕ) → RunsIn us n → n < length os → (b : Bool) → (n == thread) ≡ b → Has (put os thread (Some a) us) n
    mine n r inside true e = (a, subst (λ (k : ℕ). own_at (put os thread (Some a) us) k ≡ Some a) (sym (same_number n thread e)) (own_put os (fresh (drop (length os) us)) thread (Some a) below))
    mine n r inside false e =
        let h : Has os n = held.own n (back ts us change n (omega (arith, inside, held.count)) r) in
        (h.0, own_other os (fresh (drop (length os) us)) thread n (Some a) (differ n thread e) inside ∙ h.1)

    by_long : (n : ℕ) → RunsIn us n → (b : Bool) → nat_lt n (length os) ≡ b → Has (put os thread (Some a) us) n
    by_long n r true e = mine n r (grind (arith, nat_tests)) (n == thread) refl
    by_long n r false e = put_new os thread (Some a) us n (grind (arith, nat_tests)) (at_below us n r.0 r.1)

  -- it ends
  pub over : (os : List (Option A)) (ts : List actions.ThreadRecord) (thread : ℕ) (z : ℤ) (t : actions.ThreadRecord) → Held os ts → Has os 0 → slice_get ts thread ≡ Some t → Held (put os thread None (set ts thread (at_stage (returned z) t))) (set ts thread (at_stage (returned z) t))
  over os ts thread z t held main is = record {
    count = put_long os thread None us (omega (arith, long, held.count));
    own = own_all;
    runs = λ h. still_main h (0 == thread) refl;
    main = is_main (0 == thread) refl;
  } where
    us : List actions.ThreadRecord
    us = set ts thread (at_stage (returned z) t)

    long : length (set ts thread (at_stage (returned z) t)) ≡ length ts
    long = length-set ts thread (at_stage (returned z) t)

    below : thread < length ts
    below = at_below ts thread t is

    not_it : (n : ℕ) → RunsIn us n → n ≢ thread
    not_it n r same_one =
        let one : Some (at_stage (returned z) t) ≡ Some r.0 = sym (one_at ts thread (at_stage (returned z) t) below) ∙ subst (λ (k : ℕ). slice_get us k ≡ Some r.0) same_one r.1 in
        let it : at_stage (returned z) t ≡ r.0 = cc in
        let bad : returned z ≡ running = ap (λ (k : actions.ThreadRecord). k.stage) it ∙ r.2 in cc

    own_all : (n : ℕ) → RunsIn us n → Has (put os thread None us) n
    own_all n r =
        let h : Has os n = held.own n (set_back ts thread n t (returned z) below (λ (e : returned z ≡ running). absurd cc) r) in
        (h.0, own_other os (fresh (drop (length os) us)) thread n None (λ (e : n ≡ thread). not_it n r e) (omega (arith, at_below us n r.0 r.1, long, held.count)) ∙ h.1)

    still_main : Has (put os thread None us) 0 → (b : Bool) → (0 == thread) ≡ b → RunsIn us 0
    still_main h true e =
        let bad : None ≡ Some h.0 = sym (own_put os (fresh (drop (length os) us)) thread None (omega (arith, below, held.count))) ∙ subst (λ (k : ℕ). own_at (put os thread None us) k ≡ Some h.0) (same_number 0 thread e) h.1 in absurd cc
    still_main h false e = let r : RunsIn ts 0 = held.runs main in (r.0, other_at ts thread 0 (at_stage (returned z) t) (differ 0 thread e) ∙ r.1, r.2)

    is_main : (b : Bool) → (0 == thread) ≡ b → MainIn us
    is_main true e = inr (at_stage (returned z) t, subst (λ (k : ℕ). slice_get us k ≡ Some (at_stage (returned z) t)) (sym (same_number 0 thread e)) (one_at ts thread (at_stage (returned z) t) below), (z, refl))
    is_main false e = let r : RunsIn ts 0 = held.runs main in inl (r.0, other_at ts thread 0 (at_stage (returned z) t) (differ 0 thread e) ∙ r.1, r.2)

-- ---- runs

module _ (p : Ir) where
  abbrev begins : actions.ThreadRecord → Thread Position Own
  begins t = (program_of p).begins t.function t.argument

  abbrev HeldOf : State (Thread Position Own) → Type 0
  HeldOf u = Held begins u.own u.world.threads

  -- behind a turn that went or ended its thread
  abbrev NextHeld : State (Thread Position Own) → ℕ → Option (Turn (Thread Position Own)) → Type 0
  NextHeld u thread None = Unit {0}
  NextHeld u thread (Some (runs.went own w)) = HeldOf (next_state (program_of p) u thread (Some own) w)
  NextHeld u thread (Some (runs.ended w)) = HeldOf (next_state (program_of p) u thread None w)
  NextHeld u thread (Some runs.blocked) = Unit {0}
  NextHeld u thread (Some runs.unfit) = Unit {0}
  NextHeld u thread (Some (runs.broke rule place)) = Unit {0}

  comes_held : (u : State (Thread Position Own)) (k : Pick) → HeldOf u → Has begins u.own 0 → (a : Thread Position Own) → own_at u.own k.thread ≡ Some a
      → (o : Outcome Position Own Fault World) → Comes p k.thread k.answer u.world.threads o → NextHeld u k.thread (Some (turned o))
  comes_held u k held main a at (went t w) c = goes begins u.own u.world.threads w.threads k.thread t held main (own_below u.own k.thread a at) c
  comes_held u k held main a at (ended l w) c =
      let there : (t : actions.ThreadRecord) × (slice_get u.world.threads k.thread ≡ Some t) = there_is u.world.threads k.thread (omega (arith, own_below u.own k.thread a at, held.count)) in
      let list : w.threads ≡ set u.world.threads k.thread (at_stage (returned c.0) there.0) = c.1 ∙ ap (stage_list u.world.threads k.thread (returned c.0)) there.1 in
      subst (λ (us : List actions.ThreadRecord). Held begins (put begins u.own k.thread None us) us) (sym list) (over begins u.own u.world.threads k.thread c.0 there.0 held main there.1)
  comes_held u k held main a at blocked c = tt
  comes_held u k held main a at (broke (broken rule place)) c = tt
  comes_held u k held main a at (broke wrong_kind) c = tt
  comes_held u k held main a at unfit c = tt

  if_held : (u : State (Thread Position Own)) (k : Pick) → HeldOf u → (main own : Option (Thread Position Own)) → own_at u.own 0 ≡ main → own_at u.own k.thread ≡ own → NextHeld u k.thread (turn_if (program_of p) u k main own)
  if_held u k held None own e f = tt
  if_held u k held (Some main) None e f = tt
  if_held u k held (Some main) (Some a) e f = comes_held u k held (main, e) a f (source_turn p k.thread k.answer a u.world) (turn_comes p k.thread k.answer a u.world)

  -- behind a turn
  turn_held : (go : State (Thread Position Own) → Run (Thread Position Own)) (u v : State (Thread Position Own)) (thread k : ℕ) → ((u2 : State (Thread Position Own)) → HeldOf u2 → go u2 ≡ reaches v → HeldOf v)
      → (o : Option (Turn (Thread Position Own))) → NextHeld u thread o → goes_on (program_of p) go u thread k o ≡ reaches v → HeldOf v
  turn_held go u v thread k rest None h e = absurd cc
  turn_held go u v thread k rest (Some (runs.went own w)) h e = rest (next_state (program_of p) u thread (Some own) w) h e
  turn_held go u v thread k rest (Some (runs.ended w)) h e = rest (next_state (program_of p) u thread None w) h e
  turn_held go u v thread k rest (Some runs.blocked) h e = absurd cc
  turn_held go u v thread k rest (Some runs.unfit) h e = absurd cc
  turn_held go u v thread k rest (Some (runs.broke rule place)) h e = absurd cc

  -- behind a run
  run_held : (order : List Pick) (k : ℕ) (u v : State (Thread Position Own)) → HeldOf u → run_from (program_of p) order k u ≡ reaches v → HeldOf v
  run_held [] k u v held e = let it : u ≡ v = cc in subst HeldOf it held
  run_held (q ∷ order) k u v held e =
      turn_held (run_from (program_of p) order (suc k)) u v q.thread k (λ u2 h f. run_held order (suc k) u2 v h f) (picked (program_of p) u q) (if_held u q held (own_at u.own 0) (own_at u.own q.thread) refl refl) e

  first_held : HeldOf (first_state (program_of p) (start p))
  first_held = record { count = refl; own = own_first; runs = λ h. (_, refl, refl); main = inl (_, refl, refl) } where
    own_first : (n : ℕ) → RunsIn (start p).threads n → Has begins (first_state (program_of p) (start p)).own n
    own_first zero r = (_, refl)
    own_first (suc n) r = let bad = r.1 in absurd cc

  -- so it holds wherever a run comes
  pub reached_held : (order : List Pick) (u : State (Thread Position Own)) → run (program_of p) (start p) order ≡ reaches u → HeldOf u
  reached_held order u e = run_held order 0 (first_state (program_of p) (start p)) u first_held e

  -- main runs or has returned
  pub main_is : (order : List Pick) (u : State (Thread Position Own)) → run (program_of p) (start p) order ≡ reaches u → MainIs u.world
  main_is order u e = (reached_held order u e).main

  -- and who runs has something
  pub own_is : (order : List Pick) (u : State (Thread Position Own)) → run (program_of p) (start p) order ≡ reaches u → (n : ℕ) → Runs u.world n → (t : Thread Position Own) × (own_at u.own n ≡ Some t)
  own_is order u e n r = (reached_held order u e).own n r
