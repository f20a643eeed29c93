use Rattle.struct_ir.proofs.Lawful.{code_is_lawful}
use Rattle.struct_ir.proofs.linear.Code.keeps_lawful.Goals as goal

pub returns : goal.returns
returns c = code_is_lawful c.args.self.now
