use Rattle.struct_ir.proofs.ValidCode.{valid_is_reached, valid_code_is_reached}
use Rattle.struct_ir.proofs.linear_laws.reached_code_is_valid.Goals as goal

pub returns-clause-structured : goal.returns-clause-structured
returns-clause-structured c = valid_is_reached

pub returns-clause-linear : goal.returns-clause-linear
returns-clause-linear c = valid_code_is_reached
