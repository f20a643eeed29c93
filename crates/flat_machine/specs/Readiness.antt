-- A context begins, and is ready or not; what that says of its stage.
use Rattle.std.specs.Prelude.{◌≡◌, Bool, true, false, slice_get, Option, Some, None}
use Rattle.struct_ir.specs.Linear.{Spot}
use Rattle.flat_meaning.specs.Image.{Image}
use Rattle.flat_meaning.specs.Memory.{Made, Memory}
use Rattle.flat_meaning.specs.Ready as stages
use Rattle.flat_meaning.specs.Ready.{has_ended, may_lock}
use Rattle.flat_meaning.specs.Stages.{Stage}
use Rattle.flat_meaning.specs.Events.{stage_made}
use Rattle.flat_threads.specs.declared.wait.Wait.{Wait}
use Rattle.flat_threads.specs.declared.wait.Wait.TheVariants.{Room, Mutex, Thread}
use Rattle.flat_threads.specs.Contexts.{Context, standing}
use Rattle.flat_threads.specs.Waits.{waits_at}

-- the stage before a thread's first function, if it was made
abbrev pub stage_of_made : Option Made → Option (Stage Spot)
stage_of_made None = None
stage_of_made (Some t) = stage_made t

-- a context with its thread's first function before it
abbrev pub begun : Option Made → Context → Context
begun t c = standing c (stage_of_made t) c.wait

-- what a thread waits for has come; room comes at a barrier alone
abbrev pub is_ready : Memory → Option Wait → Bool
is_ready m None = true
is_ready m (Some Room) = false
is_ready m (Some (Mutex address)) = may_lock m address
is_ready m (Some (Thread number)) = has_ended (slice_get m.threads number)

-- a thread waits for room
abbrev pub wants_room : Option Wait → Bool
wants_room None = false
wants_room (Some Room) = true
wants_room (Some (Mutex address)) = false
wants_room (Some (Thread number)) = false

-- what a context waits for is what its stage waits for: it is ready where that is, and wants room where that does
pub record WaitsAreTold : Type 0 where
  pub ready : (x : Image Spot) (m : Memory) (stage : Stage Spot) → is_ready m (waits_at x (Some stage)) ≡ stages.is_ready x m stage
  pub room : (x : Image Spot) (stage : Stage Spot) → wants_room (waits_at x (Some stage)) ≡ stages.wants_room x stage
