use Rattle.c_typing.proofs.WellFormed.{gives_well_formed}
use Rattle.type_laws.proofs.Written.{file_written}
use Rattle.type_laws.proofs.laws.well_formed.Goals as goal

pub returns : goal.returns
returns c = λ text f t h k. gives_well_formed text f t (file_written f h) k
