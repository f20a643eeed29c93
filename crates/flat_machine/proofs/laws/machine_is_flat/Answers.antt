use Rattle.flat_machine.specs.lemmas.MachineIsFlat.{machine_is_flat}
use Rattle.flat_machine.proofs.laws.machine_is_flat.Goals as goal

pub returns : goal.returns
returns c = machine_is_flat
