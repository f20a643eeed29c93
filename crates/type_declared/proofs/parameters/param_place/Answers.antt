use Rattle.std.proofs.Common.{refl}
use Rattle.type_declared.proofs.parameters.param_place.Goals as goal

pub returns-in-Some : goal.returns-in-Some
returns-in-Some c = rw c.in-Some.is refl

pub returns-in-None : goal.returns-in-None
returns-in-None c = rw c.in-None.is (rw c.deref.ensures.value at c.place_of_specs.ensures)
