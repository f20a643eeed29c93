-- A sweep in its two halves: the world behind an evacuation, and behind the barrier.
use Rattle.std.specs.Prelude.{◌≡◌, ℕ, ◌+◌, ◌≤◌, All, if◌then◌else◌, [], ◌∷◌, map, length, count_by}
use Rattle.flat_rules.specs.Machine.{Machine, Cleared, Swept, cleared}
use Rattle.flat_rules.specs.Entries.{evacuation_entry, barrier_entry, served_entry}
use Rattle.flat_rules.specs.Lawful.{AreHome, IsOfRun, waits_at_home}
use Rattle.world_rules.specs.Whole.{Whole}
use Rattle.world_rules.specs.Calls.{with_entries, waits_for_room}

module _ {S K C : Type 0} (machine : K → Machine S C) where
  abbrev pub behind_evacuation : Whole S K C → ℕ → Cleared S → Whole S K C
  behind_evacuation x w v = with_entries (record x { shared = v.shared }) (if v.moved then evacuation_entry w ∷ [] else [])

  abbrev pub cleared_world : Whole S K C → ℕ → Whole S K C
  cleared_world x w = behind_evacuation x w (cleared (machine x.code) x.settings.evacuates x.shared x.homes)

  abbrev pub behind_barrier : Whole S K C → ℕ → Swept S C → Whole S K C
  behind_barrier x w b = with_entries (record x { shared = b.shared; homes = b.homes; waiting = 0; since = 0 }) (barrier_entry w (waits_for_room x) ∷ map (served_entry w) b.served)

  abbrev pub slid_world : Whole S K C → ℕ → Whole S K C
  slid_world x w = behind_barrier x w ((machine x.code).barrier x.shared x.homes)

  -- what the barrier asks of the world
  pub record MaySweep (shared_of : K → S → Type 0) (context_of : K → C → Type 0) (x : Whole S K C) : Type 0 where
    pub shared : shared_of x.code x.shared
    pub contexts : All (IsOfRun (machine x.code) (context_of x.code)) x.homes
    pub home : AreHome (machine x.code) x.shared x.homes
    pub room : x.waiting ≡ count_by (waits_at_home (machine x.code)) x.homes
    pub space : length x.log.entries + 65 ≤ x.log.limit
