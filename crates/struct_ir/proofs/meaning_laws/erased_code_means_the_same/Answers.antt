use Rattle.struct_ir.proofs.Bare.{erased_code}
use Rattle.struct_ir.proofs.meaning_laws.erased_code_means_the_same.Goals as goal

pub returns : goal.returns
returns c = erased_code
