use Rattle.struct_ir.proofs.Lawful as lawful
use Rattle.struct_ir.proofs.linear_laws.lawful_code_shrinks.Goals as goal

pub returns : goal.returns
returns c = lawful.lawful_code_shrinks
