use Rattle.flat_machine.proofs.ActEvents.{act_is_its_event}
use Rattle.flat_machine.proofs.BarrierEvents.{barrier_is_its_event}
use Rattle.flat_machine.proofs.EvacuationEvents.{evacuation_is_its_event}
use Rattle.flat_machine.proofs.laws.calls_are_events.Goals as goal

pub returns-clause-act : goal.returns-clause-act
returns-clause-act c = act_is_its_event

pub returns-clause-barrier : goal.returns-clause-barrier
returns-clause-barrier c = barrier_is_its_event

pub returns-clause-evacuation : goal.returns-clause-evacuation
returns-clause-evacuation c = evacuation_is_its_event
