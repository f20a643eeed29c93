-- Where all threads are blocked, each that hasn't ended is at home and waits, before its step, for a mutex or a thread that isn't there.
use Rattle.std.proofs.Common.{◌≡◌, ℕ, zero, suc, ◌+◌, ◌<◌, ◌&&◌, ◌||◌, not, Bool, true, false, cond, List, [], ◌∷◌, length, map, get_or, Option, Some, None, refl, sym, ap, ◌∙◌, subst, arith}
use Rattle.std.specs.Prelude.{count_by, is_none, nat_lt, slice_get}
use Rattle.std.proofs.lemmas.Bool.{and_parts}
use Rattle.std.proofs.lemmas.Bool.Decides.{nat_tests}
use Rattle.std.proofs.lemmas.List.{get_or-map, length-map}
use Rattle.std.proofs.lemmas.List.Sums.{sum_by-cons}
use Rattle.block_store.specs.Runs.{own_at}
use Rattle.struct_ir.specs.Instrs.{LinearCode}
use Rattle.struct_ir.specs.Linear.{Spot}
use Rattle.struct_ir.specs.Threads.{Thread}
use Rattle.ak_trace.specs.declared.endings.End.{End}
use Rattle.flat_meaning.specs.Memory.{Made}
use Rattle.flat_meaning.specs.Ready.{has_ended}
use Rattle.flat_meaning.specs.Stages.{Stage, starts, going, waiting, landed}
use Rattle.flat_meaning.specs.Words.{Words}
use Rattle.flat_rules.specs.Machine.{Machine}
use Rattle.flat_rules.specs.Rules.{Rules}
use Rattle.flat_rules.specs.States.{Place, unbegun, home, out, gone, RunState, at_home, homes_of, is_blocked, is_due, is_out, is_ready_at, is_wanted, none_out, place_at, ready, ready_from, waits_at, waits_for_room}
use Rattle.flat_rules.specs.inner.Cases.{same_number}
use Rattle.flat_threads.specs.Belonging.{IsContextOf}
use Rattle.flat_threads.specs.Contexts.{Context, own_image}
use Rattle.flat_threads.specs.Waits as stage_waits
use Rattle.flat_threads.specs.declared.wait.Wait.{Wait}
use Rattle.world_rules.proofs.Invariant.{Invariant}
use Rattle.world_rules.proofs.Sits.{SitsAt}
use Rattle.flat_machine.specs.Machine.{machine_of}
use Rattle.flat_machine.specs.Readiness.{is_ready, wants_room}
use Rattle.flat_machine.specs.Shares.{Shared, IsSharedOf}
use Rattle.flat_machine.specs.Sweeping.{stage_home, stage_or}
use Rattle.flat_machine.specs.lemmas.Homes.{own_at_home}
use Rattle.flat_replay.specs.Journals.{context_in, stages_in}

-- where none is counted none is such
none_counted : {A : Type 0} (f : A → Bool) (ps : List A) (d : A) → f d ≡ false → count_by f ps ≡ 0 → (n : ℕ) → f (get_or ps n d) ≡ false
none_counted f [] d none count n = none
none_counted f (p ∷ ps) d none count zero = by (f p) refl where
  by : (b : Bool) → f p ≡ b → f p ≡ false
  by true is = absurd (let c = sum_by-cons (λ a. cond {A = ℕ} (f a) 1 0) p ps in let one : cond {A = ℕ} (f p) 1 0 ≡ 1 = ap (λ (b : Bool). cond {A = ℕ} b 1 0) is in omega (arith, c, one, count))
  by false is = is
none_counted f (p ∷ ps) d none count (suc n) = none_counted f ps d none (let c = sum_by-cons (λ a. cond {A = ℕ} (f a) 1 0) p ps in omega (arith, c, count)) n

or_none : (a b : Bool) → (a || b) ≡ false → a ≡ false
or_none true b e = absurd cc
or_none false b e = refl

module _ (code : LinearCode) (rules : Rules) where
  abbrev m : Machine Shared Context
  m = machine_of code

  first_none : (shared : Shared) (h : Option Context) (hs : List (Option Context)) (from : ℕ) (b : Bool) → is_ready_at m shared from h ≡ b
      → is_none (slice_get (cond b (from ∷ ready_from m shared (from + 1) hs) (ready_from m shared (from + 1) hs)) 0) ≡ true
      → (is_ready_at m shared from h ≡ false) × (is_none (slice_get (ready_from m shared (from + 1) hs) 0) ≡ true)
  first_none shared h hs from true is none = absurd cc
  first_none shared h hs from false is none = (is, none)

  -- where none is ready none at home is
  none_ready : (shared : Shared) (hs : List (Option Context)) (from : ℕ) → is_none (slice_get (ready_from m shared from hs) 0) ≡ true → (k : ℕ) → is_ready_at m shared (from + k) (get_or hs k None) ≡ false
  none_ready shared [] from none k = refl
  none_ready shared (h ∷ hs) from none zero =
      subst (λ (j : ℕ). is_ready_at m shared j h ≡ false) (let same : from ≡ from + 0 = omega arith in same) (first_none shared h hs from (is_ready_at m shared from h) refl none).0
  none_ready shared (h ∷ hs) from none (suc k) =
      subst (λ (j : ℕ). is_ready_at m shared j (get_or hs k None) ≡ false) (let same : (from + 1) + k ≡ from + suc k = omega arith in same)
      (none_ready shared hs (from + 1) (first_none shared h hs from (is_ready_at m shared from h) refl none).1 k)

  module _ (x : RunState Shared Context) (held : Invariant m (IsSharedOf code) (IsContextOf code) rules x) (going_on : x.ending ≡ None) (blocked : is_blocked m rules x ≡ true) where
    -- the thread waits at home
    pub record HomeWaits (n : ℕ) : Type 0 where
      pub thread : Thread Spot Words
      pub own : own_at (stages_in x) n ≡ Some (waiting thread)
      pub ready : is_ready x.shared.memory (stage_waits.waits_at (own_image code) (Some (waiting thread))) ≡ false
      pub room : wants_room (stage_waits.waits_at (own_image code) (Some (waiting thread))) ≡ false

    quiet : (is_none (slice_get (ready m x) 0) ≡ true) × (none_out m rules x ≡ true)
    quiet = and_parts (is_none (slice_get (ready m x) 0)) (none_out m rules x) (and_parts (is_none (slice_get (ready m x) 0) && none_out m rules x) (not (is_wanted m rules x)) blocked).0

    not_wanted : (b : Bool) → not b ≡ true → b ≡ false
    not_wanted true e = absurd cc
    not_wanted false e = refl

    no_room : nat_lt 0 (count_by (waits_at m) x.places) ≡ false
    no_room = or_none (waits_for_room m rules x) (is_due rules.every x.since) (not_wanted (is_wanted m rules x) (and_parts (is_none (slice_get (ready m x) 0) && none_out m rules x) (not (is_wanted m rules x)) blocked).1)

    none_wait : count_by (waits_at m) x.places ≡ 0
    none_wait = let e = no_room in grind (arith, nat_tests)

    not_out : (n : ℕ) → is_out (place_at x.places n) ≡ false
    not_out n = none_counted is_out x.places gone refl (same_number _ 0 quiet.1) n

    not_for_room : (n : ℕ) → waits_at m (place_at x.places n) ≡ false
    not_for_room n = none_counted (waits_at m) x.places gone refl none_wait n

    module _ (n : ℕ) (below : n < length x.shared.memory.threads) (runs : has_ended (slice_get x.shared.memory.threads n) ≡ false) where
      few : n < length x.places
      few = omega (arith, below, held.few, held.places)

      not_ready : is_ready_at m x.shared n (at_home (place_at x.places n)) ≡ false
      not_ready =
          let same : 0 + n ≡ n = omega arith in
          subst (λ (j : ℕ). is_ready_at m x.shared j (at_home (place_at x.places n)) ≡ false) same
          (subst (λ (o : Option Context). is_ready_at m x.shared (0 + n) o ≡ false) (get_or-map at_home x.places n gone None few) (none_ready x.shared (homes_of x.places) 0 quiet.0 n))

      made : nat_lt n (length x.shared.memory.threads) ≡ true
      made = let b = below in grind (arith, nat_tests)

      -- a context that isn't ready waits before a step
      context_waits : (c : Context) → IsContextOf code c → context_in (place_at x.places n) ≡ Some c → is_ready x.shared.memory c.wait ≡ false → wants_room c.wait ≡ false → (o : Option (Stage Spot)) → c.stage ≡ o → HomeWaits n
      context_waits c of_ at not_yet room o is = by o is (subst (λ (w : Option Wait). is_ready x.shared.memory w ≡ false) waits not_yet) (subst (λ (w : Option Wait). wants_room w ≡ false) waits room) where
        waits : c.wait ≡ stage_waits.waits_at (own_image code) o
        waits = of_.wait ∙ ap (stage_waits.waits_at (own_image code)) is

        by : (o : Option (Stage Spot)) → c.stage ≡ o → is_ready x.shared.memory (stage_waits.waits_at (own_image code) o) ≡ false → wants_room (stage_waits.waits_at (own_image code) o) ≡ false → HomeWaits n
        by None is e r = absurd cc
        by (Some (starts function argument)) is e r = absurd cc
        by (Some (going t)) is e r = absurd cc
        by (Some (landed list t)) is e r = absurd cc
        by (Some (waiting t)) is e r =
            let there : (u : Made) × (own_at (stages_in x) n ≡ stage_home u (get_or (map context_in x.places) n None)) = own_at_home x.shared.memory.threads (map context_in x.places) n below (omega (arith, few, length-map x.places context_in)) in
            record {
              thread = t;
              own = there.1 ∙ ap (stage_home there.0) (get_or-map context_in x.places n gone None few ∙ at) ∙ ap (stage_or there.0) is;
              ready = e;
              room = r;
            }

      ready_context : (c : Context) → (nat_lt n (length x.shared.memory.threads) && is_ready x.shared.memory c.wait) ≡ false → is_ready x.shared.memory c.wait ≡ false
      ready_context c e = ap (λ (b : Bool). b && is_ready x.shared.memory c.wait) (sym made) ∙ e

      -- by its place
      place_waits : (p : Place Context) → place_at x.places n ≡ p → SitsAt m (IsContextOf code) x.shared None n p → is_ready_at m x.shared n (at_home p) ≡ false → waits_at m p ≡ false → is_out p ≡ false → HomeWaits n
      place_waits (unbegun c) at sits e r o = context_waits c sits.0.of_ (ap context_in at) (ready_context c e) r c.stage refl
      place_waits (home c) at sits e r o = context_waits c sits.0.of_ (ap context_in at) (ready_context c e) r c.stage refl
      place_waits (out w c k mood) at sits e r o = absurd cc
      place_waits gone at sits e r o = let bad : true ≡ false = sym (sits refl (omega (arith, below, held.few))) ∙ runs in absurd cc

      -- so the thread waits at home
      pub home_waits : HomeWaits n
      home_waits =
          place_waits (place_at x.places n) refl (subst (λ (e : Option End). SitsAt m (IsContextOf code) x.shared e n (place_at x.places n)) going_on (held.each n)) not_ready (not_for_room n) (not_out n)
