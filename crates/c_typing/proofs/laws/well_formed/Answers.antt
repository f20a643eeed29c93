use Rattle.c_typing.proofs.WellFormed.{gives_well_formed}
use Rattle.c_typing.proofs.laws.well_formed.Goals as goal

pub returns : goal.returns
returns c = gives_well_formed
