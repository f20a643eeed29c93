-- What an evacuation makes of what threads share. The contexts at home stay as they are.
use Rattle.std.specs.Prelude.{ℕ, ◌+◌, ◌-◌, ◌^◌, min, Bool, true, false, nat_lt, List, [], ◌∷◌, length, sum_by, Option}
use Rattle.evacuate.specs.Evacuation.{Evacuated, evacuation}
use Rattle.struct_ir.specs.Instrs.{LinearCode}
use Rattle.struct_ir.specs.Linear.{Spot}
use Rattle.flat_meaning.specs.Image.{Image}
use Rattle.flat_meaning.specs.Events.{MachineState, Event, barrier, after}
use Rattle.flat_meaning.specs.Allowed.{pinned}
use Rattle.flat_rules.specs.Entries.{evacuation_entry}
use Rattle.flat_rules.specs.Machine.{Cleared}
use Rattle.flat_threads.specs.Contexts.{Context}
use Rattle.flat_machine.specs.Shares.{Shared, Barriers, image_of}
use Rattle.flat_machine.specs.Sweeping.{at_home, counted}

-- what empties the thin sub-heaps, where no pinned object moves
abbrev pub evacuation_here : Image Spot → MachineState Spot → Evacuated
evacuation_here x s = evacuation (pinned x s) s.memory.storage.heaps

-- its event: a barrier with just its moves, at which nobody is served
abbrev pub evacuation_of : Image Spot → MachineState Spot → Event
evacuation_of x s = barrier (evacuation_here x s).moves []

-- the state behind it
abbrev pub cleared_state : Image Spot → MachineState Spot → MachineState Spot
cleared_state x s = after x s (evacuation_of x s)

-- a count of 32 bits stays at its greatest number once it is there
abbrev pub counted_emptied : ℕ → ℕ
counted_emptied n = min n (2 ^ 32 - 1)

-- one evacuation more
abbrev pub with_evacuation : Barriers → Evacuated → Barriers
with_evacuation w e = record { count = w.count; objects = counted (w.objects + length e.moves); bytes = counted (w.bytes + sum_by (λ m. m.size) e.moves); emptied = counted_emptied (w.emptied + e.emptied); last = w.last }

-- what threads share behind it, where it moved an object: with its one entry, told with worker 0; and else nothing has changed, and nothing is told
abbrev pub shared_cleared : Image Spot → Shared → MachineState Spot → (moved : Bool) → Shared
shared_cleared x old s true = record { memory = (cleared_state x s).memory; output_limit = old.output_limit; made = evacuation_entry 0 ∷ []; barriers = with_evacuation old.barriers (evacuation_here x s) }
shared_cleared x old s false = record { memory = old.memory; output_limit = old.output_limit; made = []; barriers = old.barriers }

-- it moves an object
abbrev pub moves_some : Evacuated → Bool
moves_some e = nat_lt 0 (length e.moves)

-- what an evacuation comes to
abbrev pub cleared_by : LinearCode → Shared → List (Option Context) → Cleared Shared
cleared_by code s home = let x = image_of code s in let moved = moves_some (evacuation_here x (at_home s home)) in record { moved = moved; shared = shared_cleared x s (at_home s home) moved }
