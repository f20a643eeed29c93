use Rattle.struct_ir.proofs.Sizes.{structured_shrinks}
use Rattle.struct_ir.proofs.laws.structured_code_shrinks.Goals as goal

pub returns : goal.returns
returns c = structured_shrinks
