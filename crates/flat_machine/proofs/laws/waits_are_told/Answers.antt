use Rattle.flat_machine.specs.lemmas.Waits.{waits_are_told}
use Rattle.flat_machine.proofs.laws.waits_are_told.Goals as goal

pub returns : goal.returns
returns c = waits_are_told
