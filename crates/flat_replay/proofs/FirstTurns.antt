-- The first turns that events make are those of fewer events that may come: of the first of them, where the last may be a barrier that
-- serves fewer allocations.
use Rattle.std.proofs.Common.{◌≡◌, ℕ, zero, suc, ◌+◌, ◌-◌, ◌<◌, ◌≤◌, ◌==◌, Bool, true, false, cond, List, [], ◌∷◌, ◌++◌, length, take, Option, Some, None, refl, sym, ap, ◌∙◌, arith, append-nil, inl, inr}
use Rattle.std.specs.Prelude.{◌⊎◌}
use Rattle.std.proofs.Math.Seq.{take-append-add}
use Rattle.std.proofs.lemmas.Bool.{cases_lt}
use Rattle.std.proofs.lemmas.List.{take-append-le}
use Rattle.ak_words.proofs.Prefixes.{prefix_of_itself, prefix_of_prefix}
use Rattle.block_store.specs.declared.values.Answer.{Answer}
use Rattle.block_store.specs.Runs.{Pick, own_at}
use Rattle.struct_ir.specs.Threads.{Thread, Outcome, went, ended, blocked, broke, unfit}
use Rattle.flat_meaning.specs.Accesses.{Fault, Choice}
use Rattle.flat_meaning.specs.Allowed.{AreAllowed, IsAllowed, MayServeAll}
use Rattle.flat_meaning.specs.Effects.{stop_of}
use Rattle.flat_meaning.specs.Events.{MachineState, Serve, Event, local, look, act, barrier, after, after_all, after_serve, after_serves, moved_state, serving_state}
use Rattle.flat_meaning.specs.Image.{Image}
use Rattle.flat_meaning.specs.Memory.{Memory}
use Rattle.flat_meaning.specs.Order.{act_picks, answer_of, local_picks, order_of, pick_if, picks_of, picks_of_act, picks_of_local, picks_of_serve, picks_of_serves}
use Rattle.flat_meaning.specs.Stages.{Stage, starts, going, waiting, landed, Before, safe, looks, steps, calls, turn_over, nothing, before, can_advance, advanced}
use Rattle.flat_meaning.specs.Words.{Words}
use Rattle.flat_replay.proofs.Outputs.{Grows, after_all_grows, after_grows, after_serves_grows}

-- the first elements of two lists, where all of the first list are among them
take_behind : {A : Type 0} (n : ℕ) (xs ys : List A) → length xs ≤ n → take n (xs ++ ys) ≡ xs ++ take (n - length xs) ys
take_behind n xs ys le = let same : n ≡ length xs + (n - length xs) = omega arith in ap (λ (k : ℕ). take k (xs ++ ys)) same ∙ take-append-add xs ys (n - length xs)

-- fewer than all of a list with at most one element
take_few : {A : Type 0} (n : ℕ) (xs : List A) → length xs ≤ 1 → n < length xs → take n xs ≡ []
take_few zero xs one lt = refl
take_few (suc n) xs one lt = absurd (omega arith)

-- of no elements
take_none : (n : ℕ) → take {A = Pick} n [] ≡ []
take_none zero = refl
take_none (suc n) = refl

module _ {P : Type 0} (x : Image P) where
  -- ---- how many turns: one at most, but at a barrier

  pick_few : (k : ℕ) (answer : Answer) (o : Outcome P Words Fault Memory) → length (pick_if k answer o) ≤ 1
  pick_few k answer (went t m) = omega arith
  pick_few k answer (ended l m) = omega arith
  pick_few k answer blocked = omega arith
  pick_few k answer (broke f) = omega arith
  pick_few k answer unfit = omega arith

  step_few : (m : Memory) (k : ℕ) (c : Choice) (t : Thread P Words) → length (pick_if k (answer_of x m c t) (stop_of x k c t m)) ≤ 1
  step_few m k c t = pick_few k (answer_of x m c t) (stop_of x k c t m)

  serve_few : (m : Memory) (v : Serve) (o : Option (Stage P)) → length (picks_of_serve x m v o) ≤ 1
  serve_few m v None = omega arith
  serve_few m v (Some (starts function argument)) = omega arith
  serve_few m v (Some (going t)) = omega arith
  serve_few m v (Some (waiting t)) = step_few m v.thread v.choice t
  serve_few m v (Some (landed list t)) = omega arith

  before_few : (m : Memory) (k : ℕ) (c : Choice) (t : Thread P Words) (b : Before) → length (act_picks x m k c t b) ≤ 1
  before_few m k c t safe = omega arith
  before_few m k c t looks = omega arith
  before_few m k c t steps = step_few m k c t
  before_few m k c t (calls function) = omega arith
  before_few m k c t turn_over = omega arith
  before_few m k c t nothing = omega arith

  act_few : (m : Memory) (k : ℕ) (c : Choice) (o : Option (Stage P)) → length (picks_of_act x m k c o) ≤ 1
  act_few m k c None = omega arith
  act_few m k c (Some (starts function argument)) = omega arith
  act_few m k c (Some (going t)) = before_few m k c t (before x t)
  act_few m k c (Some (waiting t)) = before_few m k c t (before x t)
  act_few m k c (Some (landed list t)) = before_few m k c t (before x t)

  either_few : (b : Bool) (ps qs : List Pick) → length ps ≤ 1 → length qs ≤ 1 → length (cond b ps qs) ≤ 1
  either_few true ps qs h k = h
  either_few false ps qs h k = k

  local_few : (k : ℕ) (o : Option (Stage P)) → length (picks_of_local x k o) ≤ 1
  local_few k None = omega arith
  local_few k (Some stage) = either_few (can_advance x stage) (local_picks k (advanced x k stage).turns) [] (either_few ((advanced x k stage).turns == 0) [] _ (omega arith) (omega arith)) (omega arith)

  -- ---- the first serves

  -- serves that make the first turns of others, and print the first of what these do
  record FirstServes (vs : List Serve) (n : ℕ) (s : MachineState P) : Type 0 where
    pub served : List Serve
    pub may : MayServeAll x served s
    pub picks : picks_of_serves x served s ≡ take n (picks_of_serves x vs s)
    pub grows : Grows (after_serves x served s).memory (after_serves x vs s).memory

  first_serves : (vs : List Serve) (n : ℕ) (s : MachineState P) → MayServeAll x vs s → FirstServes vs n s
  first_serves [] n s may = record { served = []; may = tt; picks = sym (take_none n); grows = prefix_of_itself s.memory.output }
  first_serves (v ∷ vs) zero s may = record { served = []; may = tt; picks = refl; grows = after_serves_grows x (v ∷ vs) s }
  first_serves (v ∷ vs) (suc n) s may =
      let ps : List Pick = picks_of_serve x s.memory v (own_at s.own v.thread) in
      let few = serve_few s.memory v (own_at s.own v.thread) in
      let rest = first_serves vs (suc n - length ps) (after_serve x s v) may.1 in
      record {
        served = v ∷ rest.served;
        may = (may.0, rest.may);
        picks = ap (λ (qs : List Pick). ps ++ qs) rest.picks ∙ sym (take_behind (suc n) ps (picks_of_serves x vs (after_serve x s v)) (omega (arith, few)));
        grows = rest.grows;
      }

  -- ---- the first events

  -- events that may come, make the first turns of others, and print the first of what these do
  pub record FirstTurns (es : List Event) (n : ℕ) (s : MachineState P) : Type 0 where
    pub events : List Event
    pub allowed : AreAllowed x events s
    pub order : order_of x events s ≡ take n (order_of x es s)
    pub grows : Grows (after_all x events s).memory (after_all x es s).memory

  -- of one event, fewer than all
  record FirstOfOne (e : Event) (n : ℕ) (s : MachineState P) : Type 0 where
    pub events : List Event
    pub allowed : AreAllowed x events s
    pub order : order_of x events s ≡ take n (picks_of x s e)
    pub grows : Grows (after_all x events s).memory (after x s e).memory

  -- none, where it makes one at most
  none_of : (e : Event) (n : ℕ) (s : MachineState P) → length (picks_of x s e) ≤ 1 → n < length (picks_of x s e) → FirstOfOne e n s
  none_of e n s few lt = record { events = []; allowed = tt; order = sym (take_few n (picks_of x s e) few lt); grows = after_grows x s e }

  -- of a barrier those of its first serves
  first_of_one : (e : Event) (n : ℕ) (s : MachineState P) → IsAllowed x s e → n < length (picks_of x s e) → FirstOfOne e n s
  first_of_one (local thread) n s allowed lt = none_of (local thread) n s (local_few thread (own_at s.own thread)) lt
  first_of_one (look thread) n s allowed lt = none_of (look thread) n s (omega arith) lt
  first_of_one (act thread choice) n s allowed lt = none_of (act thread choice) n s (act_few s.memory thread choice (own_at s.own thread)) lt
  first_of_one (barrier moves served) n s allowed lt =
      let first = first_serves served n (serving_state (moved_state moves s)) allowed.1.2 in
      record {
        events = barrier moves first.served ∷ [];
        allowed = ((allowed.0, (allowed.1.0, allowed.1.1, first.may)), tt);
        order = append-nil (picks_of_serves x first.served (serving_state (moved_state moves s))) ∙ first.picks;
        grows = first.grows;
      }

  -- an event, and then others, of whose turns these are known
  first_of_all : (e : Event) (es : List Event) (n : ℕ) (s : MachineState P) → IsAllowed x s e → ((k : ℕ) → FirstTurns es k (after x s e)) → FirstTurns (e ∷ es) n s
  first_of_all e es n s allowed rest = by (cases_lt n (length (picks_of x s e))) where
    by : (n < length (picks_of x s e)) ⊎ (length (picks_of x s e) ≤ n) → FirstTurns (e ∷ es) n s
    by (inl lt) =
        let one = first_of_one e n s allowed lt in
        record {
          events = one.events;
          allowed = one.allowed;
          order = one.order ∙ sym (take-append-le n (picks_of x s e) (order_of x es (after x s e)) (omega (arith, lt)));
          grows = prefix_of_prefix (after_all x one.events s).memory.output (after x s e).memory.output (after_all x es (after x s e)).memory.output one.grows (after_all_grows x es (after x s e));
        }
    by (inr le) =
        let more = rest (n - length (picks_of x s e)) in
        record {
          events = e ∷ more.events;
          allowed = (allowed, more.allowed);
          order = ap (λ (qs : List Pick). picks_of x s e ++ qs) more.order ∙ sym (take_behind n (picks_of x s e) (order_of x es (after x s e)) le);
          grows = more.grows;
        }

  -- of all events
  pub first_turns : (es : List Event) (n : ℕ) (s : MachineState P) → AreAllowed x es s → FirstTurns es n s
  first_turns [] n s allowed = record { events = []; allowed = tt; order = sym (take_none n); grows = prefix_of_itself s.memory.output }
  first_turns (e ∷ es) n s allowed = first_of_all e es n s allowed.0 (λ k. first_turns es k (after x s e) allowed.1)
