-- That the machine's threads come home, and how many Turn entries come between two barriers.
use Rattle.std.specs.Prelude.{◌≡◌, ℕ, ◌+◌, ◌*◌, ◌≤◌, ◌⊎◌, false, count_by, List, [], replicate, Some, None}
use Rattle.ak_trace.specs.declared.entry.Entry.{Entry}
use Rattle.struct_ir.specs.Nodes.{Ir}
use Rattle.struct_ir.specs.Instrs.{LinearCode}
use Rattle.flat_rules.specs.declared.settings.Settings.{Settings}
use Rattle.flat_rules.specs.Rules.{rules_of}
use Rattle.flat_rules.specs.Draws.{seeded}
use Rattle.flat_rules.specs.States.{RunState, homes_of, is_out, is_wanted, most_threads, unbegun_from}
use Rattle.flat_threads.specs.Belonging.{IsContextOf}
use Rattle.flat_threads.specs.Contexts.{Context, IsProgram}
use Rattle.flat_machine.specs.Machine.{machine_of}
use Rattle.flat_machine.specs.Shares.{Shared, IsSharedOf}
use Rattle.flat_machine.specs.Start.{first_shared, settings_limits}
use Rattle.world_rules.specs.declared.calls.Seat.TheVariants as seat
use Rattle.world_rules.specs.Whole.{Whole}
use Rattle.world_rules.specs.Every.{AllComeHome, IsBetween, IsWantedWithin, is_turn}
use Rattle.struct_ir.specs.Looks.{look_count, looks_of_nodes}
use Rattle.struct_ir.specs.Emitted.{IsEmitted}

-- each thread that is asked home does, in two turns more than the code has Looks and steps
abbrev pub ThreadsComeHome : Type 0
ThreadsComeHome = (code : LinearCode) → AllComeHome (machine_of code) (IsSharedOf code) (IsContextOf code) (look_count code.funcs)

-- the world of this machine in which nothing has run
abbrev pub first_world : LinearCode → Settings → Whole Shared LinearCode Context
first_world code s = record {
  code = code;
  settings = rules_of s;
  shared = first_shared code (settings_limits s);
  homes = homes_of (unbegun_from (machine_of code) (rules_of s) 0 most_threads);
  seats = replicate most_threads seat.New;
  out = 0;
  waiting = 0;
  last = 0;
  x = seeded s.schedule;
  since = 0;
  ending = None;
  log = record { entries = []; limit = s.entries };
}

-- With `every` n, of a part of a run's journal that begins behind a barrier or at the start and has no barrier, where the code has so many
-- Looks and steps: as long as no barrier is wanted it has at most n Turn entries; else at most n, and for each thread that was out when the
-- barrier came to be wanted three more than there are Looks and steps
abbrev pub TurnsAreFew : LinearCode → (looks : ℕ) → Type 0
TurnsAreFew code looks =
    (s : Settings) → IsProgram code → (n : ℕ) → s.every ≡ Some n → (log part : List Entry) (z : RunState Shared Context) → IsBetween machine_of (first_world code s) log part z
    → ((is_wanted (machine_of code) (rules_of s) z ≡ false) × (count_by is_turn part ≤ n))
    ⊎ ((w : IsWantedWithin machine_of (first_world code s) log part) × (count_by is_turn part ≤ n + (looks + 3) * count_by is_out w.wanted.places))

-- of the code that runs
abbrev pub TurnsBetweenBarriersAreFew : Type 0
TurnsBetweenBarriersAreFew = (code : LinearCode) → TurnsAreFew code (look_count code.funcs)

-- and so of the code of which it is
abbrev pub TurnsOfStructuredCodeAreFew : Type 0
TurnsOfStructuredCodeAreFew = (p : Ir) (code : LinearCode) → IsEmitted p code → TurnsAreFew code (looks_of_nodes p.funcs)
