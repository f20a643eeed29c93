-- What the code's answers of actions are.
use Rattle.std.specs.Prelude.{◌≡◌, Option, Some}
use Rattle.flat_rules.specs.Machine as turns
use Rattle.flat_meaning.specs.Memory.{Memory}
use Rattle.flat_meaning.specs.Accesses as actions
use Rattle.flat_meaning.specs.Accesses.{trap, output_limit}
use Rattle.flat_machine.specs.declared.done.Done.{Done}
use Rattle.flat_machine.specs.declared.done.Done.TheVariants as dones
use Rattle.flat_threads.specs.declared.wait.Wait.{Wait}
use Rattle.flat_machine.specs.Shares.{Shared}
use Rattle.flat_machine.specs.inner.Turneds.{turned_view}

-- what came of an action that has left this memory
abbrev pub done_view : Memory → Done → actions.Done
done_view m (dones.Went word turned) = actions.went word m
done_view m (dones.Waits for) = actions.waits
done_view m (dones.Trap word kind) = actions.over (trap word kind)
done_view m dones.Full = actions.over output_limit

-- an action that was done went so
abbrev pub Went : Done → turns.Turned → Type 0
Went (dones.Went word turned) t = turned_view turned ≡ t
Went (dones.Waits for) t = Unit {0}
Went (dones.Trap word kind) t = Unit {0}
Went dones.Full t = Unit {0}

-- what it waits for
abbrev pub WaitsFor : Done → Option Wait → Type 0
WaitsFor (dones.Went word turned) wait = Unit {0}
WaitsFor (dones.Waits for) wait = wait ≡ Some for
WaitsFor (dones.Trap word kind) wait = Unit {0}
WaitsFor dones.Full wait = Unit {0}

-- the memory behind an action
abbrev pub memory_after : Memory → actions.Done → Memory
memory_after m (actions.went word after) = after
memory_after m actions.waits = m
memory_after m actions.unfit = m
memory_after m (actions.over f) = m

-- with this memory
abbrev pub with_memory : Shared → Memory → Shared
with_memory s m = record { memory = m; output_limit = s.output_limit; made = s.made; barriers = s.barriers }

-- the code did what the action does, and changed nothing else
pub record Does (old new : Shared) (result : Done) (d : actions.Done) : Type 0 where
  pub done_ : done_view new.memory result ≡ d
  pub left : new ≡ with_memory old (memory_after old.memory d)
