-- What the parts of act leave.
use Rattle.std.specs.Prelude.{◌≡◌, ◌<◌, All, length, true, Option, Some, None}
use Rattle.std.specs.Option.{ForSome}
use Rattle.struct_ir.specs.Nodes.{Step}
use Rattle.struct_ir.specs.Valid.{Scope, counts_of, has_counts, is_action}
use Rattle.struct_ir.specs.Instrs.{LinearCode}
use Rattle.struct_ir.specs.Linear.{Spot}
use Rattle.flat_meaning.specs.declared.endings.Stop.{Stop}
use Rattle.flat_meaning.specs.declared.endings.Stop.TheVariants.{AtStep}
use Rattle.flat_meaning.specs.Stages.{Stage}
use Rattle.flat_meaning.specs.Words.{Words}
use Rattle.flat_threads.specs.Contexts.{Context, IsListFor, own_image, standing}
use Rattle.flat_threads.specs.Deeds.{ArePlacesOf, landed_stage, waiting_stage}
use Rattle.flat_threads.specs.declared.wait.Wait.{Wait}
use Rattle.flat_threads.specs.declared.wait.Wait.TheVariants as waits
use Rattle.flat_threads.specs.Waits.{waits_at}
use Rattle.flat_rules.specs.Machine as turns
use Rattle.flat_machine.specs.declared.done.Done.{Done}
use Rattle.flat_machine.specs.declared.done.Done.TheVariants as dones
use Rattle.flat_machine.specs.declared.turned.Turned.{Turned}
use Rattle.flat_machine.specs.Acting.{effect_if}
use Rattle.flat_machine.specs.Shares.{Shared, image_of}
use Rattle.flat_machine.specs.Turns.{turned_of}
use Rattle.flat_machine.specs.inner.Dones.{with_memory}
use Rattle.flat_machine.specs.inner.Turneds.{turned_view}

-- the step, the Look or the return before which a thread stands is done
pub record StepIsDone (code : LinearCode) (old new : Shared) (c behind : Context) (turned : Turned) : Type 0 where
  pub shared : new ≡ with_memory old (effect_if (image_of code old) c.number old.memory c.stage (Some AtStep)).memory
  pub context : behind ≡ standing c behind.stage (waits_at (own_image code) behind.stage)
  pub stage : behind.stage ≡ (effect_if (image_of code old) c.number old.memory c.stage (Some AtStep)).stage
  pub turned_ : turned_view turned ≡ turned_of (image_of code old) c.number old.memory c.stage (Some AtStep)

-- what a thread does that has stopped for this reason
pub record TurnIsDone (code : LinearCode) (stop : Option Stop) (old new : Shared) (c behind : Context) (turned : Turned) : Type 0 where
  pub shared : new ≡ with_memory old (effect_if (image_of code old) c.number old.memory c.stage stop).memory
  pub context : behind ≡ standing c (effect_if (image_of code old) c.number old.memory c.stage stop).stage (waits_at (own_image code) (effect_if (image_of code old) c.number old.memory c.stage stop).stage)
  pub turned_ : turned_view turned ≡ turned_of (image_of code old) c.number old.memory c.stage stop

-- ---- a step that was done, or not

-- a valid step of a call: it has just what its action takes, and each number is one of the call's
pub record IsStepOf (l : Words) (s : Step) : Type 0 where
  pub scope : Scope
  pub action : is_action scope s.action ≡ true
  pub counts : has_counts (counts_of s.action) s ≡ true
  pub places : ArePlacesOf l s.places
  pub temps : All (λ r. r < length l.temps) s.temps
  pub to : ForSome s.to (λ r. r < length l.temps)
  pub list : IsListFor l s.slots

-- its stage
abbrev pub settled_stage : Step → Option (Stage Spot) → Done → Option (Stage Spot)
settled_stage s stage (dones.Went word turned) = landed_stage s stage word
settled_stage s stage (dones.Waits for) = waiting_stage stage
settled_stage s stage (dones.Trap word kind) = stage
settled_stage s stage dones.Full = stage

-- what the thread waits for
abbrev pub settled_wait : (before : Option Wait) → Done → Option Wait
settled_wait before (dones.Went word turned) = None
settled_wait before (dones.Waits for) = Some for
settled_wait before (dones.Trap word kind) = before
settled_wait before dones.Full = before

-- a wait, as it is told
abbrev pub wait_turned : Wait → turns.Turned
wait_turned waits.Room = turns.wants_room
wait_turned (waits.Mutex address) = turns.found_busy
wait_turned (waits.Thread number) = turns.found_busy

-- how the step went
abbrev pub settled_turned : Done → turns.Turned
settled_turned (dones.Went word turned) = turned_view turned
settled_turned (dones.Waits for) = wait_turned for
settled_turned (dones.Trap word kind) = turns.trapped word kind
settled_turned dones.Full = turns.passed_limit

-- the context is left as what its step came to says, and the turn ended so
pub record IsSettled (s : Step) (done : Done) (c behind : Context) (turned : Turned) : Type 0 where
  pub context : behind ≡ standing c (settled_stage s c.stage done) (settled_wait c.wait done)
  pub turned_ : turned_view turned ≡ settled_turned done
