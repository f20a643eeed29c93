-- The main thread of a small code behind a store to its array: by a name for the array at an address where nothing lies its state doesn't
-- stand for the source's.
use Rattle.std.specs.Prelude.{◌≡◌, ℕ, List, [], ◌∷◌, Some, None}
use Rattle.block_store.specs.declared.values.Answer.TheVariants.{Plain}
use Rattle.block_store.specs.Runs.{run}
use Rattle.struct_ir.specs.Linear.{Spot}
use Rattle.struct_ir.specs.meaning.Start.{start}
use Rattle.struct_ir.specs.meaning.Threads.{program_of}
use Rattle.flat_meaning.specs.Events.{MachineState, first_state}
use Rattle.flat_meaning.specs.Names.{plain}
use Rattle.flat_meaning.specs.Order.{pick}
use Rattle.flat_meaning.specs.Stages.{going}
use Rattle.flat_simulation.specs.TouchRows.{AfterTheStore, machine, source, with_array}
use Rattle.flat_replay.specs.Accesses.{StandsBy}

-- the machine behind the store, with the array at its place
abbrev pub behind_the_store : MachineState Spot
behind_the_store = record { memory = (first_state machine).memory; own = Some (going (with_array 5 4096)) ∷ []; end = None }

-- whatever ids were handed out
abbrev pub OtherNamesDontStand : Type 0
OtherNamesDontStand = AfterTheStore (λ u t. (given : List ℕ) (b : StandsBy machine source given u behind_the_store) → b.names ≡ plain 4104 ∷ [] → ⊥) (run (program_of source) (start source) (pick 0 Plain ∷ []))
