-- Objects and table agree in what comes of actions, steps and events.
use Rattle.arena_meaning.specs.Arena.{IsConsistent}
use Rattle.struct_ir.specs.Threads.{Served, serves, waits, refuses, fails, Outcome, went, ended, blocked, broke, unfit}
use Rattle.flat_meaning.specs.Words.{Words}
use Rattle.flat_meaning.specs.Memory.{Memory}
use Rattle.flat_meaning.specs.Accesses as actions
use Rattle.flat_meaning.specs.Accesses.{Fault, Done}
use Rattle.flat_meaning.specs.Effects.{Effect}
use Rattle.flat_meaning.specs.Events.{MachineState}

-- in what threads share
abbrev pub Agree : Memory → Type 0
Agree m = IsConsistent m.storage

-- where an action is done
abbrev pub AgreeIfDone : Done → Type 0
AgreeIfDone (actions.went word m) = Agree m
AgreeIfDone actions.waits = Unit {0}
AgreeIfDone actions.unfit = Unit {0}
AgreeIfDone (actions.over f) = Unit {0}

-- where what a thread stops before is done
abbrev pub AgreeIfServed : Served Words Fault Memory → Type 0
AgreeIfServed (serves l m) = Agree m
AgreeIfServed waits = Unit {0}
AgreeIfServed refuses = Unit {0}
AgreeIfServed (fails f) = Unit {0}

-- where a thread has gone on or ended
abbrev pub AgreeIfGone : {P : Type 0} → Outcome P Words Fault Memory → Type 0
AgreeIfGone (went t m) = Agree m
AgreeIfGone (ended l m) = Agree m
AgreeIfGone blocked = Unit {0}
AgreeIfGone (broke f) = Unit {0}
AgreeIfGone unfit = Unit {0}

-- behind a step
abbrev pub AgreeBehind : {P : Type 0} → Effect P → Type 0
AgreeBehind e = Agree e.memory

-- in a state
abbrev pub AgreeIn : {P : Type 0} → MachineState P → Type 0
AgreeIn s = Agree s.memory
