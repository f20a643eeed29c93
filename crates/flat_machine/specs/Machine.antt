-- The machine, as the rules of a run see it.
use Rattle.std.specs.Prelude.{Bool, true, length, slice_get, Option, Some, None}
use Rattle.struct_ir.specs.Instrs.{LinearCode}
use Rattle.struct_ir.specs.Linear.{Spot}
use Rattle.flat_meaning.specs.declared.endings.Stop.{Stop}
use Rattle.flat_meaning.specs.Allowed as stages
use Rattle.flat_meaning.specs.Ready.{has_ended}
use Rattle.flat_meaning.specs.Stages.{Stage}
use Rattle.flat_rules.specs.Machine.{Machine, Progress, blank, works, steps}
use Rattle.flat_threads.specs.Contexts.{Context, blank_context, own_image}
use Rattle.flat_threads.specs.Going.{gone_on}
use Rattle.flat_machine.specs.Acting.{acted_by}
use Rattle.flat_machine.specs.Clearing.{cleared_by}
use Rattle.flat_machine.specs.Readiness.{begun, is_ready, wants_room}
use Rattle.flat_machine.specs.Shares.{Shared}
use Rattle.flat_machine.specs.Sweeping.{swept_by}

-- how far a context is: it hasn't begun; it goes on alone; or it has stopped before its pending step
abbrev pub progress_of : Option (Stage Spot) → Option Stop → Progress
progress_of None stop = blank
progress_of (Some stage) None = works
progress_of (Some stage) (Some stop) = steps

-- a thread stands at a safepoint; one that hasn't begun does
abbrev pub stands_of : LinearCode → Option (Stage Spot) → Bool
stands_of code None = true
stands_of code (Some stage) = stages.stands (own_image code).flow stage

-- the machine with this program
abbrev pub machine_of : LinearCode → Machine Shared Context
machine_of code = record {
  blank = blank_context;
  thread_of = λ c. c.number;
  begin = λ s c. begun (slice_get s.memory.threads c.number) c;
  local = gone_on code;
  act = acted_by code;
  barrier = swept_by code;
  evacuation = cleared_by code;
  is_ready = λ s c. is_ready s.memory c.wait;
  waits = λ c. wants_room c.wait;
  threads = λ s. length s.memory.threads;
  made = λ s. s.made;
  progress = λ c. progress_of c.stage c.stop;
  stands = λ c. stands_of code c.stage;
  has_ended = λ s k. has_ended (slice_get s.memory.threads k);
}
