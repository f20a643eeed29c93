-- The machine is one that the rules of a run are of: what a blank context is, how a thread begins and works, and that no more are served
-- than are at home.
use Rattle.std.proofs.Common.{◌≡◌, ℕ, zero, suc, ◌+◌, ◌<◌, ◌≤◌, Bool, true, false, List, [], ◌∷◌, ◌++◌, length, map, set, Option, Some, None, refl, sym, ap, ◌∙◌, subst, arith, inl, inr}
use Rattle.std.specs.Prelude.{◌⊎◌, All, IsSome, nat_le, slice_get}
use Rattle.std.specs.List.{range_with_len}
use Rattle.std.proofs.lemmas.Bool.Decides.{leb_tells}
use Rattle.std.proofs.lemmas.List.{length-append, length-map, length-set}
use Rattle.block_store.specs.Runs.{own_at}
use Rattle.struct_ir.specs.Instrs.{LinearCode}
use Rattle.struct_ir.specs.Linear.{Spot}
use Rattle.flat_meaning.specs.declared.endings.Stop.{Stop}
use Rattle.flat_meaning.specs.Effects.{Effect, serve_effect}
use Rattle.flat_meaning.specs.Events.{MachineState, Serve, after_serves, moved_state, serving_state, new_stages, put, put_if, stage_made}
use Rattle.flat_meaning.specs.Image.{Image}
use Rattle.flat_meaning.specs.Local.{Came}
use Rattle.flat_meaning.specs.Memory.{Made, Memory}
use Rattle.flat_meaning.specs.Ready as stages
use Rattle.flat_meaning.specs.Stages.{Stage}
use Rattle.flat_rules.specs.Events.{most_local}
use Rattle.flat_rules.specs.Lawful.{Begins, Lives, Works}
use Rattle.flat_rules.specs.Machine.{blank, works, steps}
use Rattle.flat_rules.specs.States.{most_threads}
use Rattle.flat_threads.proofs.GoesOn.{contexts_go_on}
use Rattle.flat_threads.specs.Belonging.{HasStopped, IsContextOf}
use Rattle.flat_threads.specs.Contexts.{Context, blank_context, own_image}
use Rattle.flat_threads.specs.Going.{came_from, gone_on, stopped_at}
use Rattle.flat_threads.specs.Waits.{waits_at}
use Rattle.flat_machine.specs.Machine.{machine_of, progress_of}
use Rattle.flat_machine.specs.Readiness.{begun, stage_of_made, wants_room}
use Rattle.flat_machine.specs.Shares.{Shared, IsSharedOf, image_of}
use Rattle.flat_machine.specs.Sweeping.{at_home, if_wants, serve_of, served_of, serves_from, serves_if, stages_home, sweep_moves, sweep_serves, swept_by}
use Rattle.flat_machine.specs.lemmas.Homes.{own_at_set-later}

-- ---- a context that hasn't begun

module _ (code : LinearCode) where
  pub blank_of : (s : Shared) (k : ℕ) → IsSharedOf code s → k < most_threads → IsContextOf code (blank_context k)
  blank_of s k of_ below = record { program = of_.program; number = below; stage = tt; wait = refl; stopped = λ stop e. absurd cc; turns = omega arith }

  pub blank_stage : (stage : Option (Stage Spot)) (stop : Option Stop) → progress_of stage stop ≡ blank → stage ≡ None
  blank_stage None stop e = refl
  blank_stage (Some stage) None e = absurd cc
  blank_stage (Some stage) (Some stop) e = absurd cc

  -- what hasn't begun hasn't stopped
  not_stopped : (c : Context) → IsContextOf code c → c.stage ≡ None → (stop : Stop) → c.stop ≡ Some stop → ⊥
  not_stopped c of_ none stop e = let h = of_.stopped stop e in let is : None ≡ Some h.at_stage = sym none ∙ h.is in cc

  made_there : (ts : List Made) (k : ℕ) → k < length ts → (t : Made) × (slice_get ts k ≡ Some t)
  made_there [] k below = absurd (omega arith)
  made_there (t ∷ ts) zero below = (t, refl)
  made_there (t ∷ ts) (suc k) below = made_there ts k (omega arith)

  all_there : (P : Made → Type 0) (ts : List Made) (k : ℕ) (t : Made) → All P ts → slice_get ts k ≡ Some t → P t
  all_there P [] k t all is = absurd cc
  all_there P (x ∷ ts) zero t all is = let same : x ≡ t = cc in subst P same (all 0 t (omega arith))
  all_there P (x ∷ ts) (suc k) t all is = all_there P ts k t (λ j d below. all (suc j) d (omega arith)) is

  never : (c : Context) → c.stage ≡ None → c.stop ≡ None → c.wait ≡ None → (t : Made) → (stop : Stop) → (begun (Some t) c).stop ≡ Some stop → HasStopped (own_image code) (begun (Some t) c).stage stop
  never c none going no_wait t stop e = let bad : None ≡ Some stop = sym going ∙ e in absurd cc

  stop_none : (o : Option Stop) → ((stop : Stop) → o ≡ Some stop → ⊥) → o ≡ None
  stop_none None h = refl
  stop_none (Some stop) h = absurd (h stop refl)

  begun_of : (c : Context) → IsContextOf code c → c.stage ≡ None → c.stop ≡ None → c.wait ≡ None → (t : Made) → t.function < length code.funcs → IsContextOf code (begun (Some t) c)
  begun_of c of_ none going no_wait t below = record { program = of_.program; number = of_.number; stage = below; wait = no_wait; stopped = never c none going no_wait t; turns = of_.turns }

  pub begins : (s : Shared) (c : Context) → Lives (machine_of code) (IsSharedOf code) (IsContextOf code) s c → progress_of c.stage c.stop ≡ blank → Begins (machine_of code) (IsContextOf code) s c
  begins s c lives is =
      let none = blank_stage c.stage c.stop is in
      let made = made_there s.memory.threads c.number lives.made in
      let t = made.0 in
      let no_wait : c.wait ≡ None = lives.context.wait ∙ ap (waits_at (own_image code)) none in
      let going = stop_none c.stop (not_stopped c lives.context none) in
      let below : t.function < length code.funcs = all_there (λ (t : Made). t.function < length code.funcs) s.memory.threads c.number t lives.shared.functions made.1 in
      record {
        of_ = subst (λ o. IsContextOf code (begun o c)) (sym made.1) (begun_of c lives.context none going no_wait t below);
        thread = refl;
        progress = ap (λ o. progress_of (stage_of_made o) c.stop) made.1 ∙ ap (progress_of (stage_made t)) going;
        waits = refl;
      }

  -- ---- a thread that works

  pub works_stage : (stage : Option (Stage Spot)) (stop : Option Stop) → progress_of stage stop ≡ works → IsSome stage
  works_stage None stop e = absurd cc
  works_stage (Some stage) None e = refl
  works_stage (Some stage) (Some stop) e = absurd cc

  has_stopped : (stage : Option (Stage Spot)) (stop : Option Stop) → IsSome stage → IsSome stop → progress_of stage stop ≡ steps
  has_stopped None stop e f = absurd cc
  has_stopped (Some stage) None e f = absurd cc
  has_stopped (Some stage) (Some stop) e f = refl

  same_number : (c : Context) (o : Option (Came Spot)) → (stopped_at c o).number ≡ c.number
  same_number c None = refl
  same_number c (Some came) = refl

  same_wait : (c : Context) (o : Option (Came Spot)) → (stopped_at c o).wait ≡ c.wait
  same_wait c None = refl
  same_wait c (Some came) = refl

  pub works_on : (n : ℕ) (c : Context) → IsContextOf code c → (n ≡ 0) ⊎ (n ≡ most_local) → progress_of c.stage c.stop ≡ works → Works (machine_of code) (IsContextOf code) n c
  works_on n c of_ most is =
      let goes = contexts_go_on code n c of_ (works_stage c.stage c.stop is) most in
      record {
        of_ = goes.of_;
        thread = same_number c (came_from code n c.number c.stage);
        progress = has_stopped (gone_on code n c).stage (gone_on code n c).stop goes.begun goes.stopped;
        waits = ap wants_room (same_wait c (came_from code n c.number c.stage));
      }

-- ---- no more are served than are at home

-- one thread's turn
data Turn (k : ℕ) : List Serve → Type 0 where
  no_turn : Turn k []
  one_turn : (v : Serve) → v.thread ≡ k → Turn k (v ∷ [])

own_at_append : {A : Type 0} (own more : List (Option A)) (k : ℕ) → k < length own → own_at (own ++ more) k ≡ own_at own k
own_at_append [] more k below = absurd (omega arith)
own_at_append (x ∷ own) more zero below = refl
own_at_append (x ∷ own) more (suc k) below = own_at_append own more k (omega arith)

module _ (x : Image Spot) where
  a_turn_if : (s : MachineState Spot) (k : ℕ) (stage : Stage Spot) (b : Bool) → Turn k (if_wants b (serve_of x s k stage))
  a_turn_if s k stage true = one_turn (serve_of x s k stage) refl
  a_turn_if s k stage false = no_turn

  a_turn : (s : MachineState Spot) (k : ℕ) (o : Option (Stage Spot)) → Turn k (serves_if x s k o)
  a_turn s k None = no_turn
  a_turn s k (Some stage) = a_turn_if s k stage (stages.wants_room x stage)

  module _ (most count : ℕ) where
    -- threads from `most` on have no stage
    record AreAway (own : List (Option (Stage Spot))) : Type 0 where
      pub long : count ≤ length own
      pub none : (k : ℕ) → most ≤ k → k < count → own_at own k ≡ None

    away_put : (s : MachineState Spot) (t : ℕ) (e : Effect Spot) → t < most → AreAway s.own → AreAway (put s t e).own
    away_put s t e below away = record {
      long = omega (arith, away.long, length-set s.own t e.stage, length-append (set s.own t e.stage) (new_stages s.own e.memory));
      none = λ k le lt. own_at_append (set s.own t e.stage) (new_stages s.own e.memory) k (omega (arith, away.long, length-set s.own t e.stage)) ∙ own_at_set-later s.own t k e.stage (omega arith) ∙ away.none k le lt;
    }

    away_if : (s : MachineState Spot) (t : ℕ) (effect : Stage Spot → Memory → Effect Spot) (o : Option (Stage Spot)) → t < most → AreAway s.own → AreAway (put_if s t effect o).own
    away_if s t effect None below away = away
    away_if s t effect (Some stage) below away = away_put s t (effect stage s.memory) below away

    away_after : (s : MachineState Spot) (k : ℕ) (vs : List Serve) → Turn k vs → k < most → AreAway s.own → AreAway (after_serves x vs s).own
    away_after s k [] turn below away = away
    away_after s k _ (one_turn v e) below away = away_if s v.thread (serve_effect x v.thread v.choice) (own_at s.own v.thread) (subst (λ j. j < most) (sym e) below) away

    short : (k : ℕ) (vs : List Serve) → Turn k vs → length vs ≤ 1
    short k _ no_turn = omega arith
    short k _ (one_turn v e) = omega arith

    -- none so far, or only of threads before `most`
    abbrev AreFew : ℕ → ℕ → Type 0
    AreFew a served = (served ≡ 0) ⊎ (a + served ≤ most)

    abbrev served_of_all : (a n : ℕ) → MachineState Spot → ℕ
    served_of_all a n s = length (serves_from x (range_with_len a n) s)

    one_more : (a v r : ℕ) → a < most → v ≤ 1 → AreFew (a + 1) r → AreFew a (v + r)
    one_more a v r lt few (inl none) = inr (omega (arith, lt, none, few))
    one_more a v r lt few (inr le) = inr (omega (arith, lt, le, few))

    none_more : (a r : ℕ) → most ≤ a → AreFew (a + 1) r → AreFew a r
    none_more a r le (inl none) = inl none
    none_more a r le (inr few) = absurd (omega (arith, few, le))

    -- of a thread, and of those behind it
    few_step : (n a : ℕ) (s : MachineState Spot) → a < count → AreAway s.own → ((next : MachineState Spot) → AreAway next.own → AreFew (a + 1) (served_of_all (a + 1) n next)) → AreFew a (served_of_all a (suc n) s)
    few_step n a s lt away rest = by (leb_tells most a) where
      by : ((nat_le most a ≡ true) × (most ≤ a)) ⊎ ((nat_le most a ≡ false) × (a < most)) → AreFew a (served_of_all a (suc n) s)
      by (inr h) =
          let vs = serves_if x s a (own_at s.own a) in
          let turn = a_turn s a (own_at s.own a) in
          let next = after_serves x vs s in
          subst (AreFew a) (sym (length-append vs (serves_from x (range_with_len (a + 1) n) next))) (one_more a (length vs) (served_of_all (a + 1) n next) h.1 (short a vs turn) (rest next (away_after s a vs turn h.1 away)))
      by (inl h) =
          let idle : serves_if x s a (own_at s.own a) ≡ [] = ap (serves_if x s a) (away.none a h.1 lt) in
          subst (λ (vs : List Serve). AreFew a (length (vs ++ serves_from x (range_with_len (a + 1) n) (after_serves x vs s)))) (sym idle) (none_more a (served_of_all (a + 1) n s) h.1 (rest s away))

    few_from : (n a : ℕ) (s : MachineState Spot) → a + n ≤ count → AreAway s.own → AreFew a (served_of_all a n s)
    few_from zero a s le away = inl refl
    few_from (suc n) a s le away = few_step n a s (omega (arith, le)) away (λ next still. few_from n (a + 1) next (omega (arith, le)) still)

none_home : (ts : List Made) (home : List (Option Context)) (k : ℕ) → length home ≤ k → own_at (stages_home ts home) k ≡ None
none_home [] home k le = refl
none_home (t ∷ ts) [] zero le = refl
none_home (t ∷ ts) [] (suc k) le = none_home ts [] k (omega arith)
none_home (t ∷ ts) (c ∷ home) zero le = absurd (omega arith)
none_home (t ∷ ts) (c ∷ home) (suc k) le = none_home ts home k (omega arith)

pub few_served : (code : LinearCode) (s : Shared) (home : List (Option Context)) → length (swept_by code s home).served ≤ length home
few_served code s home =
    let here = at_home s home in
    let x = image_of code s in
    let vs = sweep_serves x here in
    let few = few_from x (length home) (length here.own) (length here.own) 0 (serving_state (moved_state (sweep_moves x here) here)) (omega arith) (record { long = omega arith; none = λ k le lt. none_home s.memory.threads home k le }) in
    let long = length-map vs served_of in
    by (length vs) few long
  where
    by : (k : ℕ) → (k ≡ 0) ⊎ (0 + k ≤ length home) → length (map served_of (sweep_serves (image_of code s) (at_home s home))) ≡ k → length (map served_of (sweep_serves (image_of code s) (at_home s home))) ≤ length home
    by k (inl none) long = omega (arith, none, long)
    by k (inr few) long = omega (arith, few, long)
