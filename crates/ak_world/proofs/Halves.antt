-- The two halves of a sweep: what the barrier asks holds behind the evacuation, and both together are what the rules say.
use Rattle.std.proofs.Common.{◌≡◌, ℕ, ◌+◌, ◌-◌, ◌≤◌, nat_lt, Bool, true, false, cond, List, [], ◌∷◌, ◌++◌, map, length, ap, refl, arith, Option, Some, None, append_assoc, length-append}
use Rattle.std.proofs.lemmas.List.{append-nil}
use Rattle.std.proofs.lemmas.Bool.Decides.{nat_tests}
use Rattle.ak_trace.specs.declared.entry.Entry.{Entry}
use Rattle.ak_trace.specs.declared.endings.End.{End}
use Rattle.ak_trace.specs.declared.endings.End.TheVariants.{TurnLimit}
use Rattle.flat_rules.specs.Machine.{Machine, Served, Cleared, cleared, sweep}
use Rattle.flat_rules.specs.States.{or_else}
use Rattle.flat_rules.specs.Entries.{evacuation_entry, barrier_entry, served_entry, sweep_entries}
use Rattle.flat_rules.specs.Lawful.{IsFlat}
use Rattle.flat_rules.proofs.Clearing.{home_on}
use Rattle.world_rules.specs.Whole.{Whole}
use Rattle.world_rules.specs.Calls.{with_entries, end_before, sweeps, waits_for_room}
use Rattle.world_rules.specs.Sound.{IsSound}
use Rattle.ak_world.specs.Sweeping.{MaySweep, behind_evacuation, cleared_world, slid_world}

ahead : (w : ℕ) → Bool → List Entry
ahead w moved = cond moved (evacuation_entry w ∷ []) []

few_ahead : (w : ℕ) (moved : Bool) → length (cond moved (evacuation_entry w ∷ []) []) ≤ 1
few_ahead w true = omega arith
few_ahead w false = omega arith

joined : (w : ℕ) (log : List Entry) (moved room : Bool) (ss : List Served) → (log ++ cond moved (evacuation_entry w ∷ []) []) ++ (barrier_entry w room ∷ map (served_entry w) ss) ≡ log ++ sweep_entries w moved room ss
joined w log true room ss = append_assoc log (evacuation_entry w ∷ []) (barrier_entry w room ∷ map (served_entry w) ss)
joined w log false room ss = ap (λ (l : List Entry). l ++ (barrier_entry w room ∷ map (served_entry w) ss)) (append-nil log)

live_room : (o : Option End) (b : Bool) → or_else o (cond b (Some TurnLimit) None) ≡ None → b ≡ false
live_room (Some e) b h = absurd (cc h)
live_room None true h = absurd (cc h)
live_room None false h = refl

module _ {S K C : Type 0} (machine : K → Machine S C) (shared_of : K → S → Type 0) (context_of : K → C → Type 0) (flat : (code : K) → IsFlat (machine code) (shared_of code) (context_of code)) (x : Whole S K C) (w : ℕ) where
  pub may_on : IsSound machine shared_of context_of x → end_before x ≡ None → x.out ≡ 0 → MaySweep machine shared_of context_of (cleared_world machine x w)
  may_on sound live alone = by x.settings.evacuates
    where
      low : nat_lt (x.log.limit - length x.log.entries) 66 ≡ false
      low = live_room x.ending _ live

      space : (moved : Bool) → length (x.log.entries ++ cond moved (evacuation_entry w ∷ []) []) + 65 ≤ x.log.limit
      space moved = let a = length-append x.log.entries (cond moved (evacuation_entry w ∷ []) []) in let b = few_ahead w moved in let c : 66 ≤ x.log.limit - length x.log.entries = grind (arith, nat_tests) in omega arith

      by : (on : Bool) → MaySweep machine shared_of context_of (behind_evacuation machine x w (cleared (machine x.code) on x.shared x.homes))
      by false = record { shared = sound.shared; contexts = sound.contexts; home = sound.homes live alone; room = sound.room alone; space = space false }
      by true =
          let c = (flat x.code).clears x.shared x.homes sound.shared sound.contexts (sound.homes live alone) in
          let v : Cleared S = (machine x.code).evacuation x.shared x.homes in
          let h = home_on (machine x.code) (shared_of x.code) (context_of x.code) (flat x.code) x.shared x.homes (sound.homes live alone) v c in
          record {
            shared = c.of_;
            contexts = sound.contexts;
            home = h;
            room = sound.room alone;
            space = space v.moved;
          }

  pub both_halves : slid_world machine (cleared_world machine x w) w
      ≡ with_entries (sweeps machine x w (cleared (machine x.code) x.settings.evacuates x.shared x.homes).moved (sweep (machine x.code) x.settings.evacuates x.shared x.homes)).2
      (sweeps machine x w (cleared (machine x.code) x.settings.evacuates x.shared x.homes).moved (sweep (machine x.code) x.settings.evacuates x.shared x.homes)).1
  both_halves = let b = sweep (machine x.code) x.settings.evacuates x.shared x.homes in
      ap (λ (es : List Entry). record x { shared = b.shared; homes = b.homes; waiting = 0; since = 0; log = record x.log { entries = es } })
      (joined w x.log.entries (cleared (machine x.code) x.settings.evacuates x.shared x.homes).moved (waits_for_room x) b.served)
