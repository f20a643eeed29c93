-- A call adds few entries.
use Rattle.std.proofs.Common.{◌≡◌, ℕ, ◌≤◌, ◌==◌, Bool, true, false, cond, nat_lt, List, length, ap, arith, Option, Some, None}
use Rattle.std.proofs.lemmas.List.{length-map}
use Rattle.ak_trace.specs.declared.entry.Entry.{Entry}
use Rattle.ak_trace.specs.declared.endings.End.{End}
use Rattle.flat_rules.proofs.Spares.{sweep_few}
use Rattle.flat_rules.specs.Machine.{Machine, cleared, sweep}
use Rattle.flat_rules.specs.States.{at_home, homes_of, kept_free}
use Rattle.flat_rules.specs.Lawful.{IsFlat}
use Rattle.world_rules.specs.declared.calls.Call.{Call}
use Rattle.world_rules.specs.declared.calls.Call.TheVariants as call
use Rattle.world_rules.specs.Whole.{Whole, LeadsFromOpening}
use Rattle.world_rules.specs.Calls.{Result, home_at, end_before, is_wanted, pick, hands, hands_out, sweeps, finds_by, acts_by, homes_by, entries_of}
use Rattle.world_rules.proofs.CallsKeep.{stands_of}

module _ (w : ℕ) where
  abbrev Few : List Entry → Type 0
  Few es = length es ≤ kept_free

  module _ {S K C : Type 0} (machine : K → Machine S C) (x : Whole S K C) where
    cond_few : {A : Type 0} (b : Bool) (r r' : Result A S K C) → Few r.1 → Few r'.1 → Few (cond b r r').1
    cond_few true r r' p q = p
    cond_few false r r' p q = q

    hands_few : (t : ℕ) (o : Option C) → Few (hands machine x w t o).1
    hands_few t None = omega arith
    hands_few t (Some c) = omega arith

    hands_out_few : (o : Option ℕ) → Few (hands_out machine x w o).1
    hands_out_few None = omega arith
    hands_out_few (Some t) = hands_few t (home_at x.homes t)

    acts_few : (o : Option End) (d : C) → Few (acts_by machine x w o d).1
    acts_few (Some end) d = omega arith
    acts_few None d = omega arith

    homes_few : (o : Option End) (d : C) → Few (homes_by machine x w o d).1
    homes_few (Some end) d = omega arith
    homes_few None d = omega arith

    module _ (sized : length x.homes ≤ 64) (served : length (sweep (machine x.code) x.settings.evacuates x.shared x.homes).served ≤ length x.homes) where
      sweeps_few : Few (sweeps machine x w (cleared (machine x.code) x.settings.evacuates x.shared x.homes).moved (sweep (machine x.code) x.settings.evacuates x.shared x.homes)).1
      sweeps_few = let a = sweep_few w (cleared (machine x.code) x.settings.evacuates x.shared x.homes).moved (nat_lt 0 x.waiting) (sweep (machine x.code) x.settings.evacuates x.shared x.homes).served in omega arith

      finds_few : (o : Option End) → Few (finds_by machine x w o).1
      finds_few (Some end) = omega arith
      finds_few None = cond_few (is_wanted x) _ _ (cond_few (x.out == 0) _ _ sweeps_few (omega arith)) (hands_out_few (pick machine x))

      pub calls_few : (c : Call C) → Few (entries_of machine x w c)
      calls_few call.Find = finds_few (end_before x)
      calls_few (call.Act d) = acts_few (end_before x) d
      calls_few (call.Home d) = homes_few (end_before x) d

-- in a world that a journal reaches
pub calls_fit : {S K C : Type 0} (machine : K → Machine S C) (SharedOf : K → S → Type 0) (ContextOf : K → C → Type 0) → ((code : K) → IsFlat (machine code) (SharedOf code) (ContextOf code))
    → (first : Whole S K C) (log : List Entry) (x : Whole S K C) (w : ℕ) (c : Call C) → LeadsFromOpening machine SharedOf first log x → length (entries_of machine x w c) ≤ kept_free
calls_fit machine SharedOf ContextOf flat first log x w c r =
    let stands = stands_of machine first (SharedOf first.code) (ContextOf first.code) (flat first.code) log r.replays.state r.opened r.replays.leads in
    let places = stands.places in
    let homes : length x.homes ≡ length (homes_of r.replays.state.places) = ap (λ z. length z.homes) r.replays.is in
    let all = length-map r.replays.state.places at_home in
    calls_few w machine x (omega arith) ((flat x.code).few (cleared (machine x.code) x.settings.evacuates x.shared x.homes).shared x.homes) c
