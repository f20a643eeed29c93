-- What clauses see of what threads share.
use Rattle.std.specs.Prelude.{◌≡◌, ℕ, ◌≤◌, ◌<◌, List, All, length, Option, None}
use Rattle.ak_trace.specs.declared.entry.Entry.{Entry}
use Rattle.struct_ir.specs.Instrs.{LinearCode}
use Rattle.struct_ir.specs.Linear.{Spot}
use Rattle.flat_meaning.specs.Image.{Limits, limits_for, Image, linear_image}
use Rattle.flat_meaning.specs.Memory.{Made, Memory}
use Rattle.flat_threads.specs.Contexts.{IsProgram}
use Rattle.run_report.specs.declared.report.LastBarrier.{LastBarrier}

-- what all barriers and evacuations did: how many barriers there were, all moves with their bytes, each up to 2^64 - 1; how many sub-heaps the
-- evacuations emptied, up to 2^32 - 1; and the last barrier
pub record Barriers : Type 0 where
  pub count : ℕ
  pub objects : ℕ
  pub bytes : ℕ
  pub emptied : ℕ
  pub last : Option LastBarrier

-- what threads share; how many bytes may be printed; the entries of the last act, barrier or evacuation; and what barriers did
pub record Shared : Type 0 where
  pub memory : Memory
  pub output_limit : ℕ
  pub made : List Entry
  pub barriers : Barriers

-- no barrier yet
abbrev pub no_barriers : Barriers
no_barriers = record { count = 0; objects = 0; bytes = 0; emptied = 0; last = None }

-- the limits under which the run is
abbrev pub limits_of : Shared → Limits
limits_of s = let h = s.memory.storage.heaps in limits_for s.output_limit h.count h.size h.most

-- a program as it is loaded for that run
abbrev pub image_of : LinearCode → Shared → Image Spot
image_of code s = linear_image code (limits_of s)

-- what threads share is that of a run of this program: there is a thread, there are 64 at most, and each has a function of the program,
-- with one parameter at most; and no barrier serves
pub record IsSharedOf (code : LinearCode) (s : Shared) : Type 0 where
  pub program : IsProgram code
  pub some : 0 < length s.memory.threads
  pub few : length s.memory.threads ≤ 64
  pub functions : All (λ (t : Made). t.function < length code.funcs) s.memory.threads
  pub idle : s.memory.leaving ≡ None
