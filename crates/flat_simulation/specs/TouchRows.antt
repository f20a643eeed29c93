-- A store to an array of a call, by a small code, beside the turn of the source that makes the array: where the machine stores behind the
-- array, some names would have the bytes inside it, but none by which the call stands; and where a name has the array elsewhere, the call's
-- objects don't lie by it.
use Rattle.std.specs.Prelude.{◌≡◌, ℕ, pos, List, [], ◌∷◌, ◌++◌, Option, Some, None, Ok}
use Rattle.ak_words.specs.IntType.{int}
use Rattle.block_store.specs.declared.values.Answer.TheVariants.{Plain}
use Rattle.block_store.specs.declared.values.Ptr.TheVariants.{Null}
use Rattle.block_store.specs.Runs as runs
use Rattle.block_store.specs.Runs.{Pick, Run, reaches, breaks, no_run, own_at, picked, run}
use Rattle.struct_ir.specs.Instrs.{LinearCode}
use Rattle.struct_ir.specs.Linear.{Spot}
use Rattle.struct_ir.specs.Machine as machines
use Rattle.struct_ir.specs.Machine.{Point}
use Rattle.struct_ir.specs.Nodes.{constant, object, Act, set, look, begin_object, Ir}
use Rattle.struct_ir.specs.Structured.{Position, structured}
use Rattle.struct_ir.specs.Threads.{Thread}
use Rattle.struct_ir.specs.meaning.Blocks.{Own, blocks_machine}
use Rattle.struct_ir.specs.meaning.Start.{start}
use Rattle.struct_ir.specs.meaning.Threads.{program_of}
use Rattle.flat_meaning.specs.Events.{MachineState, first_state}
use Rattle.flat_meaning.specs.Image.{Image, linear_image}
use Rattle.flat_meaning.specs.Names.{Name, plain}
use Rattle.flat_meaning.specs.Order.{pick}
use Rattle.flat_meaning.specs.Reaching.{StaysInBlocks, reached_by_turn}
use Rattle.flat_meaning.specs.SmallCodes.{row, instrs, small, store_int}
use Rattle.flat_meaning.specs.Stages.{first_thread}
use Rattle.flat_meaning.specs.Stands.{in_blocks}
use Rattle.flat_meaning.specs.Touched.{touched_at}
use Rattle.flat_meaning.specs.Words.{Words}
use Rattle.flat_simulation.specs.LinearSteps.{StackLies, StepTouches, source_image}

-- the array begins; t0 is its address, and t1 is 41, which is stored there, through slot 0
abbrev pub storing : List Act
storing = begin_object 0 ∷ set 0 (object 0) ∷ set 1 (constant int (pos 41)) ∷ look 0 0 ∷ store_int 0 1 ∷ []

-- main with these acts, and an array of eight bytes
abbrev pub source : Ir
source = record { globals = []; literals = []; funcs = record { params = 0; temps = 8; slots = 2; objects = record { size = 8; align = 8 } ∷ []; nodes = row storing (Some 1) } ∷ []; main = 0 }

-- its code for the machine
abbrev pub code : LinearCode
code = record { globals = []; literals = []; funcs = record { params = 0; temps = 8; slots = 2; objects = record { size = 8; align = 8 } ∷ []; instrs = instrs storing (Some 1) } ∷ []; main = 0 }

-- the machine that runs that code
abbrev pub machine : Image Spot
machine = linear_image code (small 10)

-- the source before main's first turn, and that thread
abbrev pub begins : runs.State (Thread Position Own)
begins = runs.first_state (program_of source) (start source)

-- main's thread there
abbrev pub its_thread : Thread Position Own
its_thread = (program_of source).begins 0 Null

-- the machine's thread so far in its code, with this word in its register and in its slot as the array's address
abbrev pub with_array : (index address : ℕ) → Thread Spot Words
with_array index address = record {
  top = record {
    at = record { function = 0; index = index };
    own = record (first_thread machine 0 0).top.own {
      temps = address ∷ 41 ∷ 0 ∷ 0 ∷ 0 ∷ 0 ∷ 0 ∷ 0 ∷ [];
      slots = record { word = address; address = address } ∷ record { word = 0; address = 0 } ∷ [];
    };
  };
  callers = [];
}

-- what is said of a step's bytes by any names
pub record StaysBySomeNames (y : Image Spot) (p : Ir) (names : List Name) (u : runs.State (Thread Position Own)) (s : MachineState Spot) (k : Pick) (t : Thread Position Own) (q : Thread Spot Words) : Type 0 where
  pub made : List Name
  pub stop : Point Position Own
  pub stops : machines.run structured (blocks_machine p) (in_blocks u.world.blocks t.top) ≡ Ok stop
  pub reaches : StaysInBlocks (names ++ made) s.memory.storage (touched_at y.layout q.top.own s.memory (y.flow.here q.top.at)) (reached_by_turn u.world stop.own (structured.here stop.at) (picked (program_of p) u k))

-- what holds of a state and its main thread, if that goes on
abbrev pub OfTheMain : (runs.State (Thread Position Own) → Thread Position Own → Type 0) → runs.State (Thread Position Own) → Option (Thread Position Own) → Type 0
OfTheMain R u None = ⊥
OfTheMain R u (Some t) = R u t

-- so of the state to which a run comes
abbrev pub AfterTheStore : (runs.State (Thread Position Own) → Thread Position Own → Type 0) → Run (Thread Position Own) → Type 0
AfterTheStore R (reaches u) = OfTheMain R u (own_at u.own 0)
AfterTheStore R (breaks rule k) = ⊥
AfterTheStore R (no_run k) = ⊥

-- the array is at 4096: a store at 4104 is to bytes of a block by some names, and by those of the turn's stop it isn't; and behind the store,
-- by a name at 4104, where nothing lies, the call's objects don't lie
pub record OthersAreRefused : Type 0 where
  pub somehow : StaysBySomeNames machine source [] begins (first_state machine) (pick 0 Plain) its_thread (with_array 4 4104)
  pub refused : StepTouches machine source [] begins (first_state machine) (pick 0 Plain) its_thread (with_array 4 4104) → ⊥
  pub elsewhere : AfterTheStore (λ u t. StackLies (source_image source machine.layout) source 0 (plain 4104 ∷ []) u.world.blocks t (with_array 5 4096) → ⊥) (run (program_of source) (start source) (pick 0 Plain ∷ []))
