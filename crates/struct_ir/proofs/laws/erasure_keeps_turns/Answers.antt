use Rattle.struct_ir.proofs.Erased as erased
use Rattle.struct_ir.proofs.laws.erasure_keeps_turns.Goals as goal

pub returns : goal.returns
returns g c = erased.erasure_keeps_turns _ _ _ _
