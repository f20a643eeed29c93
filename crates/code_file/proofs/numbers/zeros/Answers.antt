use Rattle.code_file.proofs.Zeros.{take_zeros}
use Rattle.code_file.proofs.numbers.zeros.Goals as goal

pub returns : goal.returns
returns c = take_zeros c.args.count 8 c.requires
