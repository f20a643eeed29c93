-- A thread that waits for another waits for one that was made.
use Rattle.std.proofs.Common.{◌≡◌, ℕ, zero, suc, ◌<◌, ◌≤◌, Bool, true, false, cond, List, [], ◌∷◌, ◌++◌, length, map, set, Option, Some, None, refl, sym, subst, arith}
use Rattle.std.specs.Prelude.{drop, slice_get}
use Rattle.std.proofs.lemmas.List.{length-append, length-set}
use Rattle.block_store.specs.Runs.{own_at}
use Rattle.struct_ir.specs.Flow.{Here, does, tests, passes, round, returns}
use Rattle.struct_ir.specs.Linear.{Spot}
use Rattle.struct_ir.specs.Machine.{Point}
use Rattle.struct_ir.specs.Nodes.{Action, load, store, copy_bytes, malloc, calloc, realloc, free, change, compare, print, lock, unlock, destroy, start, join, set as sets, call, step, look, safepoint, begin_object, end_object}
use Rattle.struct_ir.specs.Threads.{Thread, Outcome, went, ended, blocked, broke, unfit, finished, if_fits, left_call, refuses, served, serves, stop_at}
use Rattle.flat_meaning.specs.Accesses as choices
use Rattle.flat_meaning.specs.Accesses.{Choice, Done, Fault, is_plain, plain}
use Rattle.flat_meaning.specs.Actions as actions
use Rattle.flat_meaning.specs.Actions.{joined_if}
use Rattle.flat_meaning.specs.Effects.{Effect, act_before, act_effect, effect_of_outcome, ends_run, gone_effect, landing, look_before, look_effect, no_effect, own_list_of, serve_effect, stop_of}
use Rattle.flat_meaning.specs.Events.{MachineState, Serve, Event, local, look as does_look, act, barrier, after, after_all, after_serve, after_serves, first_state, moved_state, serving_state, put_if, stage_made}
use Rattle.flat_meaning.specs.Image.{Image}
use Rattle.flat_meaning.specs.Machine.{given, served_by, words_machine, words_world}
use Rattle.flat_meaning.specs.Memory.{Made, Memory, beginning, ended_if, thread_ended, with_result}
use Rattle.flat_meaning.specs.Stages.{Stage, starts, going, waiting, landed, Before, safe, looks, steps, calls, turn_over, nothing, before, can_advance, advanced, room_for}
use Rattle.flat_meaning.specs.Words.{Target, Words, target_of, word_at}
use Rattle.flat_threads.specs.Waits.{action_waits, waits_here}
use Rattle.flat_threads.specs.declared.wait.Wait.{Wait}
use Rattle.flat_threads.specs.declared.wait.Wait.TheVariants as waits
use Rattle.flat_machine.specs.lemmas.Outcomes.{AreThreads, same, one_more, threads_are}

-- the thread was made for which this waits
abbrev pub IsMade : List Made → Option Wait → Type 0
IsMade ts None = Unit {0}
IsMade ts (Some waits.Room) = Unit {0}
IsMade ts (Some (waits.Mutex address)) = Unit {0}
IsMade ts (Some (waits.Thread number)) = number < length ts

made_more : (ts us : List Made) → length ts ≤ length us → (w : Option Wait) → IsMade ts w → IsMade us w
made_more ts us more None h = tt
made_more ts us more (Some waits.Room) h = tt
made_more ts us more (Some (waits.Mutex address)) h = tt
made_more ts us more (Some (waits.Thread number)) h = omega (arith, more, h)

-- what is there is below the length
pub there_is : (ts : List Made) (n : ℕ) (t : Made) → slice_get ts n ≡ Some t → n < length ts
there_is [] n t e = absurd cc
there_is (u ∷ ts) zero t e = omega arith
there_is (u ∷ ts) (suc n) t e = omega (arith, there_is ts n t e)

-- no thread is unmade
are_more : (a : Action) (limit : ℕ) (ts us : List Made) → AreThreads a limit ts us → length ts ≤ length us
are_more a limit ts _ same = omega arith
are_more a limit ts _ (one_more function argument is few) = omega (arith, length-append ts (beginning function argument ∷ []))

ended_more : (ts : List Made) (n word : ℕ) (o : Option Made) → length ts ≤ length (ended_if ts n word o)
ended_more ts n word None = omega arith
ended_more ts n word (Some t) = omega (arith, length-set ts n (with_result word t))

module _ (x : Image Spot) where
  -- the thread was made for which this stage waits
  abbrev pub StageMade : List Made → Option (Stage Spot) → Type 0
  StageMade ts None = Unit {0}
  StageMade ts (Some (starts function argument)) = Unit {0}
  StageMade ts (Some (going t)) = Unit {0}
  StageMade ts (Some (waiting t)) = IsMade ts (waits_here t.top.own (x.flow.here t.top.at))
  StageMade ts (Some (landed list t)) = Unit {0}

  stage_more : (ts us : List Made) → length ts ≤ length us → (o : Option (Stage Spot)) → StageMade ts o → StageMade us o
  stage_more ts us more None h = tt
  stage_more ts us more (Some (starts function argument)) h = tt
  stage_more ts us more (Some (going t)) h = tt
  stage_more ts us more (Some (waiting t)) h = made_more ts us more (waits_here t.top.own (x.flow.here t.top.at)) h
  stage_more ts us more (Some (landed list t)) h = tt

  -- what an event of a thread leaves
  pub record Leaves (m : Memory) (e : Effect Spot) : Type 0 where
    pub more : length m.threads ≤ length e.memory.threads
    pub made : StageMade e.memory.threads e.stage

  module _ (thread : ℕ) (choice : Choice) (m : Memory) (t : Thread Spot Words) where
    -- what comes of what stands there
    abbrev Comes : Here → Outcome Spot Words Fault Memory → Type 0
    Comes h (went q m2) = length m.threads ≤ length m2.threads
    Comes h (ended l m2) = length m.threads ≤ length m2.threads
    Comes h blocked = IsMade m.threads (waits_here t.top.own h)
    Comes h (broke f) = Unit {0}
    Comes h unfit = Unit {0}

    fits_comes : (h : Here) (b : Bool) (q : Thread Spot Words) → Comes h (if_fits b (went q m))
    fits_comes h true q = omega arith
    fits_comes h false q = tt

    plainly_comes : (h : Here) (b : Bool) (l : Words) → Comes h (served x.flow t (cond b (serves l m) refuses))
    plainly_comes h true l = omega arith
    plainly_comes h false l = tt

    joined_waits : (to : Target) (number : ℕ) (b : Bool) → cond b (joined_if to (slice_get m.threads number) m) choices.unfit ≡ choices.waits → number < length m.threads
    joined_waits to number false e = absurd cc
    joined_waits to number true e = by (slice_get m.threads number) refl e where
      by : (o : Option Made) → slice_get m.threads number ≡ o → joined_if to o m ≡ choices.waits → number < length m.threads
      by None is e = absurd cc
      by (Some u) is e = there_is m.threads number u is

    -- a join waits for a thread that was made
    action_waits_made : (a : Action) (ts : List Target) (ws : List ℕ) → actions.acted_on_memory x.layout thread choice a ts ws m ≡ choices.waits → IsMade m.threads (action_waits a ts ws)
    action_waits_made (load how) ts ws e = tt
    action_waits_made (store how) ts ws e = tt
    action_waits_made (copy_bytes align eq) ts ws e = tt
    action_waits_made malloc ts ws e = tt
    action_waits_made calloc ts ws e = tt
    action_waits_made realloc ts ws e = tt
    action_waits_made free ts ws e = tt
    action_waits_made (change how u) ts ws e = tt
    action_waits_made (compare u) ts ws e = tt
    action_waits_made (print pieces) ts ws e = tt
    action_waits_made lock [] ws e = tt
    action_waits_made lock (a ∷ []) [] e = tt
    action_waits_made lock (a ∷ []) (w ∷ ws) e = tt
    action_waits_made lock (a ∷ b ∷ ts) ws e = tt
    action_waits_made unlock ts ws e = tt
    action_waits_made destroy ts ws e = tt
    action_waits_made (start function) ts ws e = tt
    action_waits_made join [] ws e = tt
    action_waits_made join (to ∷ []) [] e = tt
    action_waits_made join (to ∷ []) (number ∷ []) e = joined_waits to number (is_plain choice) e
    action_waits_made join (to ∷ []) (number ∷ w ∷ ws) e = tt
    action_waits_made join (to ∷ b ∷ ts) ws e = tt

    done_comes : (h : Here) (a : Action) (ts : List Target) (ws : List ℕ) (l : Words) (to : Option ℕ) → waits_here t.top.own h ≡ action_waits a ts ws → (d : Done) → actions.acted_on_memory x.layout thread choice a ts ws m ≡ d → Comes h (served x.flow t (served_by l to d))
    done_comes h a ts ws l to is (choices.went None m2) e = are_more a x.layout.limits.threads m.threads m2.threads (threads_are x.layout thread m choice a ts ws None m2 e)
    done_comes h a ts ws l to is (choices.went (Some word) m2) e = are_more a x.layout.limits.threads m.threads m2.threads (threads_are x.layout thread m choice a ts ws (Some word) m2 e)
    done_comes h a ts ws l to is choices.waits e = subst (IsMade m.threads) (sym is) (action_waits_made a ts ws e)
    done_comes h a ts ws l to is choices.unfit e = tt
    done_comes h a ts ws l to is (choices.over f) e = tt

    finish_comes : (h : Here) (b : Bool) (l : Words) (word : ℕ) → Comes h (finished {P = Spot} (cond b (serves l (thread_ended m thread word)) refuses))
    finish_comes h true l word = ended_more m.threads thread word (slice_get m.threads thread)
    finish_comes h false l word = tt

    left_comes : (h : Here) (temp : Option ℕ) (cs : List (Point Spot Words)) → Comes h (left_call x.flow (words_world x.layout thread) choice t.top.own temp m cs)
    left_comes h temp [] = finish_comes h (is_plain choice) t.top.own (given t.top.own temp)
    left_comes h temp (c ∷ cs) = fits_comes h (is_plain choice) _

    -- by what stands there
    comes_at : (h : Here) → Comes h (stop_at x.flow (words_machine x.layout thread) (words_world x.layout thread) x.start choice t m h)
    comes_at (does place (sets to calc)) = tt
    comes_at (does place (call c)) = fits_comes (does place (call c)) (is_plain choice) _
    comes_at (does place (step s)) = done_comes (does place (step s)) s.action (map (target_of t.top.own) s.places) (map (word_at t.top.own) s.temps) t.top.own s.to refl _ refl
    comes_at (does place (look slot base)) = plainly_comes (does place (look slot base)) (is_plain choice) _
    comes_at (does place (safepoint slots)) = plainly_comes (does place (safepoint slots)) (is_plain choice) _
    comes_at (does place (begin_object i)) = tt
    comes_at (does place (end_object i)) = tt
    comes_at (tests place temp) = tt
    comes_at passes = tt
    comes_at round = fits_comes round (is_plain choice) _
    comes_at (returns temp) = left_comes (returns temp) temp t.callers

    landing_made : (ts : List Made) (list : Option (List ℕ)) (q : Thread Spot Words) → StageMade ts (Some (landing list q))
    landing_made ts None q = tt
    landing_made ts (Some list) q = tt

    acted_leaves : (stage : Stage Spot) (list : Option (List ℕ)) (o : Outcome Spot Words Fault Memory) → StageMade m.threads (Some stage) → Comes (x.flow.here t.top.at) o → Leaves m (effect_of_outcome thread stage t list m o)
    acted_leaves stage list (went q m2) h c = record { more = c; made = landing_made m2.threads list q }
    acted_leaves stage list (ended l m2) h c = record { more = c; made = tt }
    acted_leaves stage list blocked h c = record { more = omega arith; made = c }
    acted_leaves stage list (broke f) h c = record { more = omega arith; made = h }
    acted_leaves stage list unfit h c = record { more = omega arith; made = h }

    step_leaves : (stage : Stage Spot) → StageMade m.threads (Some stage) → Leaves m (effect_of_outcome thread stage t (own_list_of (x.flow.here t.top.at)) m (stop_of x thread choice t m))
    step_leaves stage h = acted_leaves stage (own_list_of (x.flow.here t.top.at)) (stop_of x thread choice t m) h (comes_at (x.flow.here t.top.at))

  still : (m : Memory) (stage : Stage Spot) → StageMade m.threads (Some stage) → Leaves m (no_effect m stage)
  still m stage h = record { more = omega arith; made = h }

  either : (m : Memory) (b : Bool) (e f : Effect Spot) → Leaves m e → Leaves m f → Leaves m (cond b e f)
  either m true e f h k = h
  either m false e f h k = k

  begun_leaves : (thread : ℕ) (choice : Choice) (m : Memory) (t : Thread Spot Words) (stage : Stage Spot) → StageMade m.threads (Some stage) → (b : Before) → Leaves m (act_before x thread choice stage t m b)
  begun_leaves thread choice m t stage h safe = still m stage h
  begun_leaves thread choice m t stage h looks = still m stage h
  begun_leaves thread choice m t stage h steps = step_leaves thread choice m t stage h
  begun_leaves thread choice m t stage h (calls function) = either m (room_for x t function) (no_effect m stage) (ends_run m stage _) (still m stage h) (record { more = omega arith; made = h })
  begun_leaves thread choice m t stage h turn_over = still m stage h
  begun_leaves thread choice m t stage h nothing = still m stage h

  looked_leaves : (thread : ℕ) (m : Memory) (t : Thread Spot Words) (stage : Stage Spot) → StageMade m.threads (Some stage) → (b : Before) → Leaves m (look_before x thread stage t m b)
  looked_leaves thread m t stage h safe = still m stage h
  looked_leaves thread m t stage h looks = step_leaves thread plain m t stage h
  looked_leaves thread m t stage h steps = still m stage h
  looked_leaves thread m t stage h (calls function) = still m stage h
  looked_leaves thread m t stage h turn_over = still m stage h
  looked_leaves thread m t stage h nothing = still m stage h

  act_leaves : (thread : ℕ) (choice : Choice) (m : Memory) (stage : Stage Spot) → StageMade m.threads (Some stage) → Leaves m (act_effect x thread choice stage m)
  act_leaves thread choice m (starts function argument) h = either m (can_advance x (starts function argument)) (no_effect m (starts function argument)) (ends_run m (starts function argument) _) (still m (starts function argument) h) (record { more = omega arith; made = tt })
  act_leaves thread choice m (going t) h = begun_leaves thread choice m t (going t) h (before x t)
  act_leaves thread choice m (waiting t) h = begun_leaves thread choice m t (waiting t) h (before x t)
  act_leaves thread choice m (landed list t) h = begun_leaves thread choice m t (landed list t) h (before x t)

  look_leaves : (thread : ℕ) (m : Memory) (stage : Stage Spot) → StageMade m.threads (Some stage) → Leaves m (look_effect x thread stage m)
  look_leaves thread m (starts function argument) h = still m (starts function argument) h
  look_leaves thread m (going t) h = looked_leaves thread m t (going t) h (before x t)
  look_leaves thread m (waiting t) h = looked_leaves thread m t (waiting t) h (before x t)
  look_leaves thread m (landed list t) h = looked_leaves thread m t (landed list t) h (before x t)

  gone_leaves : (thread : ℕ) (m : Memory) (stage : Stage Spot) → StageMade m.threads (Some stage) → Leaves m (gone_effect x thread stage m)
  gone_leaves thread m stage h = either m (can_advance x stage) (no_effect m (going (advanced x thread stage).thread)) (no_effect m stage) (still m (going (advanced x thread stage).thread) tt) (still m stage h)

  serve_leaves : (thread : ℕ) (choice : Choice) (m : Memory) (stage : Stage Spot) → StageMade m.threads (Some stage) → Leaves m (serve_effect x thread choice stage m)
  serve_leaves thread choice m (starts function argument) h = still m (starts function argument) h
  serve_leaves thread choice m (going t) h = still m (going t) h
  serve_leaves thread choice m (waiting t) h = step_leaves thread choice m t (waiting t) h
  serve_leaves thread choice m (landed list t) h = still m (landed list t) h

  -- ---- of all threads

  -- each thread waits for one that was made
  abbrev pub AllMade : MachineState Spot → Type 0
  AllMade s = (n : ℕ) → StageMade s.memory.threads (own_at s.own n)

  new_made : (ts : List Made) (us : List Made) (n : ℕ) → StageMade ts (own_at (map stage_made us) n)
  new_made ts [] n = tt
  new_made ts (u ∷ us) zero = tt
  new_made ts (u ∷ us) (suc n) = new_made ts us n

  front_made : (ts : List Made) (os : List (Option (Stage Spot))) (us : List Made) → ((n : ℕ) → StageMade ts (own_at os n)) → (n : ℕ) → StageMade ts (own_at (os ++ map stage_made us) n)
  front_made ts [] us h n = new_made ts us n
  front_made ts (o ∷ os) us h zero = h 0
  front_made ts (o ∷ os) us h (suc n) = front_made ts os us (λ k. h (suc k)) n

  put_made : (ts : List Made) (os : List (Option (Stage Spot))) (us : List Made) (thread : ℕ) (v : Option (Stage Spot)) → ((n : ℕ) → StageMade ts (own_at os n)) → StageMade ts v
      → (n : ℕ) → StageMade ts (own_at (set os thread v ++ map stage_made us) n)
  put_made ts [] us thread v h k n = new_made ts us n
  put_made ts (o ∷ os) us zero v h k zero = k
  put_made ts (o ∷ os) us zero v h k (suc n) = front_made ts os us (λ j. h (suc j)) n
  put_made ts (o ∷ os) us (suc thread) v h k zero = h 0
  put_made ts (o ∷ os) us (suc thread) v h k (suc n) = put_made ts os us thread v (λ j. h (suc j)) k n

  -- one thread's event keeps it
  if_made : (s : MachineState Spot) (thread : ℕ) (effect : Stage Spot → Memory → Effect Spot) → ((stage : Stage Spot) → StageMade s.memory.threads (Some stage) → Leaves s.memory (effect stage s.memory)) → AllMade s
      → (o : Option (Stage Spot)) → own_at s.own thread ≡ o → AllMade (put_if s thread effect o)
  if_made s thread effect leaves all None at = all
  if_made s thread effect leaves all (Some stage) at =
      let e : Effect Spot = effect stage s.memory in
      let l : Leaves s.memory e = leaves stage (subst (StageMade s.memory.threads) at (all thread)) in
      put_made e.memory.threads s.own (drop (length s.own) e.memory.threads) thread e.stage (λ n. stage_more s.memory.threads e.memory.threads l.more (own_at s.own n) (all n)) l.made

  serves_made : (vs : List Serve) (s : MachineState Spot) → AllMade s → AllMade (after_serves x vs s)
  serves_made [] s all = all
  serves_made (v ∷ vs) s all = serves_made vs (after_serve x s v) (if_made s v.thread (serve_effect x v.thread v.choice) (serve_leaves v.thread v.choice s.memory) all (own_at s.own v.thread) refl)

  event_made : (s : MachineState Spot) (e : Event) → AllMade s → AllMade (after x s e)
  event_made s (local thread) all = if_made s thread (gone_effect x thread) (gone_leaves thread s.memory) all (own_at s.own thread) refl
  event_made s (does_look thread) all = if_made s thread (look_effect x thread) (look_leaves thread s.memory) all (own_at s.own thread) refl
  event_made s (act thread choice) all = if_made s thread (act_effect x thread choice) (act_leaves thread choice s.memory) all (own_at s.own thread) refl
  event_made s (barrier moves served) all = serves_made served (serving_state (moved_state moves s)) all

  -- events keep it
  pub all_made : (ds : List Event) (s : MachineState Spot) → AllMade s → AllMade (after_all x ds s)
  all_made [] s all = all
  all_made (e ∷ ds) s all = all_made ds (after x s e) (event_made s e all)

  -- it holds at the start
  pub first_made : AllMade (first_state x)
  first_made zero = tt
  first_made (suc n) = tt
