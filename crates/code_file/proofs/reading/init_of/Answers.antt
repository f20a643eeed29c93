use Rattle.std.proofs.Common.{◌≡◌, refl, arith}
use Rattle.code_file.proofs.reading.init_of.Goals as goal

pub returns-in-0 : goal.returns-in-0
returns-in-0 c = rw c.in-0.is refl

pub returns-in-1 : goal.returns-in-1
returns-in-1 c = rw c.in-1.is c.number_at_start.ensures

pub returns-in_default : goal.returns-in_default
returns-in_default c = let e : c.args.tag ≡ 2 = omega arith in rw e c.literal_at_start.ensures
