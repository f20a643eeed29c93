-- The spare counts the entries, and without a barrier it falls by one at a time.
use Rattle.std.proofs.Common.{◌≡◌, ◌≢◌, ℕ, ◌+◌, ◌≤◌, suc, ◌==◌, Bool, true, false, cond, nat_lt, count_by, is_none, List, [], ◌∷◌, ◌++◌, length, ap, sym, subst, ◌∙◌, refl, arith, Option, Some, None, length-append, length-set}
use Rattle.std.proofs.lemmas.List.{length-map}
use Rattle.std.proofs.lemmas.List.Sums.{sum_by-append}
use Rattle.std.proofs.lemmas.Option.{option_and_then_some}
use Rattle.std.proofs.lemmas.Bool.Decides.{nat_tests}
use Rattle.ak_trace.specs.declared.entry.Entry.{Entry}
use Rattle.ak_trace.specs.Kinds as kind
use Rattle.ak_trace.specs.declared.endings.End.{End}
use Rattle.ak_trace.specs.declared.endings.End.TheVariants.{TurnLimit}
use Rattle.flat_rules.specs.Rules.{Rules}
use Rattle.flat_rules.specs.Machine.{Machine, Acted, Served, cleared, sweep}
use Rattle.flat_rules.specs.Entries.{served_entry, barrier_entry, evacuation_entry, sweep_entries}
use Rattle.flat_rules.specs.States.{RunState, Place, Mood, free, asked, at_home, homes_of, start, or_else, waits_for_room, kept_free}
use Rattle.flat_rules.specs.Events.{Event, Goes, on, back, away, goes, turn_event, turned_by, places_after}
use Rattle.flat_rules.specs.Replays.{event_at, step, run, replay, settled}
use Rattle.flat_rules.specs.Laws.{ServesFew, SpareIsLeft, EventsFit, JournalsFit, TurnLimitAt65}
use Rattle.flat_rules.specs.inner.Cases.{Cases, Holds, event_holds, same_number}
use Rattle.flat_rules.specs.inner.Steps.{IsNext, IsFirst, step_cases, run_keeps, same_kind}

length_after : {C : Type 0} (ps : List (Place C)) (hs : List (Option C)) → length (places_after ps hs) ≡ length ps
length_after [] hs = refl
length_after (p ∷ ps) [] = refl
length_after (p ∷ ps) (h ∷ hs) = let e = length_after ps hs in omega arith

abbrev is_barrier : Entry → Bool
is_barrier e = e.kind == kind.barrier

no_barrier : (log : List Entry) (e : Entry) → count_by is_barrier (log ++ e ∷ []) ≡ 0 → e.kind ≡ kind.barrier → ⊥
no_barrier log e none is = let a = sum_by-append (λ (x : Entry). cond (is_barrier x) 1 0) log (e ∷ []) in let b : (e.kind == kind.barrier) ≡ true = grind (arith, nat_tests) in
    let c : count_by is_barrier (e ∷ []) ≡ 1 = ap (λ (x : Bool). 0 + cond x 1 0) b in omega arith

live_spare : (o : Option End) (b : Bool) (x : Option End) → is_none (or_else o (cond b (Some TurnLimit) x)) ≡ true → b ≡ false
live_spare (Some e) b x h = absurd (cc h)
live_spare None true x h = absurd (cc h)
live_spare None false x h = refl

-- a sweep has two entries beside those of the threads that it serves, and its first is of a barrier's kind
pub sweep_few : (w : ℕ) (moved room : Bool) (ss : List Served) → length (sweep_entries w moved room ss) ≤ 2 + length ss
sweep_few w true room ss = let a = length-map ss (served_entry w) in omega arith
sweep_few w false room ss = let a = length-map ss (served_entry w) in omega arith

pub sweep_first : (w : ℕ) (moved room : Bool) (ss : List Served) (d : Entry) (ds : List Entry) → sweep_entries w moved room ss ≡ d ∷ ds → d.kind ≡ kind.barrier
sweep_first w true room ss d ds e = let same : evacuation_entry w ≡ d = cc e in sym (ap (λ (x : Entry). x.kind) same)
sweep_first w false room ss d ds e = let same : barrier_entry w room ≡ d = cc e in sym (ap (λ (x : Entry). x.kind) same)

module _ {S C : Type 0} (m : Machine S C) (settings : Rules) (few : ServesFew m) where
  -- what an event leaves of the spare and of the places, and how many entries it has
  pub record Modest (s : RunState S C) (v : Event S C) : Type 0 where
    pub spare : v.after.spare ≡ s.spare
    pub places : length v.after.places ≡ length s.places
    pub entries : length v.entries ≤ 2 + length s.places
    pub single : (d : Entry) (ds : List Entry) → v.entries ≡ d ∷ ds → d.kind ≢ kind.barrier → ds ≡ []

  turned_modest : (s : RunState S C) (w t n : ℕ) (mood : Mood) (a : Acted S C) → Modest s (turn_event m settings s w t n mood a)
  turned_modest s w t n mood a = by (goes a.turned)
    where
      by : (g : Goes) → Modest s (record (turn_event m settings s w t n mood a) { after = turned_by m settings s w t (n + 1) mood a g })
      by on = record { spare = refl; places = length-set s.places t _; entries = omega arith; single = λ d ds e other. cc e }
      by back = record { spare = refl; places = length-set s.places t _; entries = omega arith; single = λ d ds e other. cc e }
      by away = record { spare = refl; places = length-set s.places t _; entries = omega arith; single = λ d ds e other. cc e }

  modest : (s : RunState S C) (w : ℕ) → Cases m settings s w (Modest s)
  modest s w = record {
    begins = λ t c calm picked at. record { spare = refl; places = length-set s.places t _; entries = omega arith; single = λ d ds e other. cc e };
    leaves = λ t c calm picked at. record { spare = refl; places = length-set s.places t _; entries = omega arith; single = λ d ds e other. cc e };
    sweeps = λ want none. record {
      spare = refl;
      places = length_after s.places _;
      entries = let a = sweep_few w (cleared m settings.evacuates s.shared (homes_of s.places)).moved (waits_for_room m settings s) (sweep m settings.evacuates s.shared (homes_of s.places)).served in let b = few (cleared m settings.evacuates s.shared (homes_of s.places)).shared (homes_of s.places) in let c = length-map s.places at_home in omega arith;
      single = λ d ds e other. absurd (other (sweep_first w (cleared m settings.evacuates s.shared (homes_of s.places)).moved (waits_for_room m settings s) _ d ds e));
    };
    works = λ t n c at. turned_modest s w t n free (m.act s.shared (m.local 1024 c));
    rests = λ t n c at. turned_modest s w t n asked (m.act s.shared (m.local 0 c));
    comes = λ t n c at. record { spare = refl; places = length-set s.places t _; entries = omega arith; single = λ d ds e other. cc e };
  }

  -- with the entries so far
  pub record Counts (log : List Entry) (s : RunState S C) : Type 0 where
    pub all : s.spare + (length log + length s.due) ≡ settings.entries
    pub places : length s.places ≡ 64
    pub high : 65 ≤ settings.entries → count_by is_barrier log ≡ 0 → 65 ≤ s.spare

  next_counts : (log : List Entry) (s : RunState S C) (e : Entry) (s' : RunState S C) → Counts log s → IsNext m settings s e s' → Counts (log ++ e ∷ []) s'
  next_counts log s e s' c n = subst (Counts (log ++ e ∷ [])) (sym n.is) (record {
    all = let a = length-append log (e ∷ []) in let b = c.all in let d : length s.due ≡ suc (length n.ds) = ap length n.due in omega arith;
    places = c.places;
    high = λ big none. c.high big (let a = sum_by-append (λ (x : Entry). cond (is_barrier x) 1 0) log (e ∷ []) in omega arith);
  })

  first_counts : (log : List Entry) (s : RunState S C) (e : Entry) (s' : RunState S C) → Counts log s → IsFirst m settings s e s' → Counts (log ++ e ∷ []) s'
  first_counts log s e s' c f =
      let v : Modest s f.v = subst (Holds m settings s e.worker (Modest s)) f.event (event_holds m settings s e.worker (Modest s) (modest s e.worker) e.kind e.thread) in
      let low : nat_lt s.spare 66 ≡ false = live_spare s.ending (nat_lt s.spare 66) _ f.live in
      let high : 66 ≤ s.spare = grind (arith, nat_tests) in
      let few : length f.v.entries ≤ 66 = let x = v.entries in let y = c.places in omega arith in
      let one : length f.v.entries ≡ suc (length f.ds) = ap length f.entries in
      let same : f.v.after.spare ≡ s.spare = v.spare in
      subst (Counts (log ++ e ∷ [])) (sym f.is) (record {
        all = let a = length-append log (e ∷ []) in let b = c.all in let d : length s.due ≡ 0 = ap length f.settled in omega arith;
        places = v.places ∙ c.places;
        high = λ big none. let alone : f.ds ≡ [] = v.single f.d f.ds f.entries (λ k. no_barrier log e none (same_kind e f.d f.same ∙ k)) in let l : length f.ds ≡ 0 = ap length alone in omega arith;
      })

  counts : (log : List Entry) (s : RunState S C) (e : Entry) (s' : RunState S C) → Counts log s → step m settings s e ≡ Some s' → Counts (log ++ e ∷ []) s'
  counts log s e s' c st = step_cases m settings s e s' {R = Counts (log ++ e ∷ []) s'} (next_counts log s e s' c) (first_counts log s e s' c) st

  begins_counting : (shared : S) → Counts [] (start m settings shared)
  begins_counting shared = record { all = omega arith; places = refl; high = λ big none. big }

  settled_run : (s s' : RunState S C) → settled m settings s ≡ Some s' → (s ≡ s') × (length s.due ≡ 0)
  settled_run s s' is = at (length s.due == 0) refl is
    where
      at : (b : Bool) → (length s.due == 0) ≡ b → cond b (Some s) None ≡ Some s' → (s ≡ s') × (length s.due ≡ 0)
      at true e is = (cc is, same_number (length s.due) 0 e)
      at false e is = absurd (cc is)

  run_counts : (shared : S) (log : List Entry) (s : RunState S C) → run m settings log (start m settings shared) ≡ Some s → Counts log s
  run_counts shared log s is = run_keeps m settings Counts counts [] log (start m settings shared) s (begins_counting shared) is

  event_fits : (log : List Entry) (s : RunState S C) (k w t : ℕ) (v : Event S C) → Counts log s → event_at m settings s k w t ≡ Some v → length v.entries ≤ kept_free
  event_fits log s k w t v c event =
      let h : Modest s v = subst (Holds m settings s w (Modest s)) event (event_holds m settings s w (Modest s) (modest s w) k t) in
      let a = h.entries in let b = c.places in omega arith

  replay_counts : (shared : S) (log : List Entry) (s : RunState S C) → replay m settings shared log ≡ Some s → Counts log s × (length s.due ≡ 0)
  replay_counts shared log s is = option_and_then_some (settled m settings) (run m settings log (start m settings shared)) s is (λ x ran done. let r = settled_run x s done in let e = r.0 in let d = r.1 in
      (subst (Counts log) e (run_counts shared log x ran), subst (λ (z : RunState S C). length z.due ≡ 0) e d))

pub spare_is_left : (S C : Type 0) → SpareIsLeft S C
spare_is_left S C m settings shared log s few is = let r = replay_counts m settings few shared log s is in let a = r.0.all in let b = r.1 in omega arith

pub events_fit : (S C : Type 0) → EventsFit S C
events_fit S C m settings shared log s kind worker thread v few ran event = event_fits m settings few log s kind worker thread v (run_counts m settings few shared log s ran) event

pub journals_fit : (S C : Type 0) → JournalsFit S C
journals_fit S C m settings shared log s few ran = let a = (run_counts m settings few shared log s ran).all in omega arith

pub turn_limit_at_65 : (S C : Type 0) → TurnLimitAt65 S C
turn_limit_at_65 S C m settings shared log s few big none is low = let r = replay_counts m settings few shared log s is in let a = r.0.all in let b = r.1 in let h = r.0.high big none in omega arith
