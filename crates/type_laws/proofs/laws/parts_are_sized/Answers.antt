use Rattle.type_laws.proofs.TypedSizesProof as sizes
use Rattle.type_laws.proofs.laws.parts_are_sized.Goals as goal

pub returns : goal.returns
returns c = sizes.parts_are_sized
