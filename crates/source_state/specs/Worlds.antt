-- What the code's world and actions are: those of the table of the actions.
use Rattle.std.specs.Prelude.{◌≡◌, map}
use Rattle.block_store.specs.Actions as actions
use Rattle.source_state.specs.declared.world.SharedAction.{SharedAction}
use Rattle.source_state.specs.declared.world.SharedAction.TheVariants as acts
use Rattle.source_state.specs.declared.world.Done.{Done}
use Rattle.source_state.specs.declared.world.Done.TheVariants as dones
use Rattle.source_state.specs.declared.world.Printed.{Printed}
use Rattle.source_state.specs.declared.world.Printed.TheVariants as parts
use Rattle.source_state.specs.declared.world.Reached.{Reached}
use Rattle.source_state.specs.declared.world.Stage.{Stage}
use Rattle.source_state.specs.declared.world.Stage.TheVariants as stages
use Rattle.source_state.specs.declared.world.ThreadRecord.{ThreadRecord}
use Rattle.source_state.specs.declared.world.World.{World}

-- how far a thread is, as the table says it
abbrev pub stage_of : Stage → actions.Stage
stage_of stages.Running = actions.running
stage_of (stages.Returned z) = actions.returned z
stage_of (stages.Joined z) = actions.joined z

-- a thread: its first function, its argument and how far it is
abbrev pub thread_of : ThreadRecord → actions.ThreadRecord
thread_of t = record { function = t.function; argument = t.argument; stage = stage_of t.stage }

-- bytes of a block that were reached
abbrev pub reached_of : Reached → actions.Reached
reached_of r = record { block = r.block; offset = r.offset; bytes = r.bytes; writes = r.writes }

-- what threads share, as it is now
abbrev pub world_of : World → actions.World
world_of w = record { blocks = w.store.now; output = w.output.items; threads = map thread_of w.threads.items; reached = map reached_of w.reached.items }

-- a part of what one call prints (C11 7.21.6.1)
abbrev pub printed_of : Printed → actions.Printed
printed_of (parts.Bytes all) = actions.bytes all.items
printed_of (parts.Text at) = actions.text at

-- an action of the table, with its operands (C11 5.1.2.3 p2)
abbrev pub action_of : SharedAction → actions.SharedAction
action_of (acts.Load at how) = actions.load at how
action_of (acts.Store at v) = actions.store at v
action_of (acts.Copy to from n align same) = actions.copy to from n align same
action_of (acts.Allocate size first) = actions.allocate size first
action_of (acts.Reallocate at size) = actions.reallocate at size
action_of (acts.Free at) = actions.free at
action_of (acts.Change at how by) = actions.change at by.ty how by.value
action_of (acts.Compare at want new) = actions.compare at want new.ty new.value
action_of (acts.Print all) = actions.print (map printed_of all.items)
action_of (acts.Lock at) = actions.lock at
action_of (acts.Unlock at) = actions.unlock at
action_of (acts.Destroy at) = actions.destroy at
action_of (acts.Start to function argument) = actions.start to function argument
action_of (acts.Join number to) = actions.join number to
action_of (acts.Finish value) = actions.finish value

-- what comes of an action, with the world that it leaves
abbrev pub done_of : Done → actions.World → actions.Done
done_of (dones.Went v) w = actions.went v w
done_of dones.Blocked w = actions.blocked
done_of dones.Unfit w = actions.unfit
done_of (dones.Broke rule) w = actions.broke rule

-- an action that isn't done changes nothing
abbrev pub Untouched : Done → (before after : World) → Type 0
Untouched (dones.Went v) before after = Unit {0}
Untouched dones.Blocked before after = after ≡ before
Untouched dones.Unfit before after = after ≡ before
Untouched (dones.Broke rule) before after = after ≡ before
