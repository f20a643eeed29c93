use Rattle.std.proofs.Common.{◌≡◌, refl, arith}
use Rattle.code_file.proofs.actions.piece_of.Goals as goal

pub returns-in-0 : goal.returns-in-0
returns-in-0 c = rw c.in-0.is c.bytes_at.ensures

pub returns-in-1 : goal.returns-in-1
returns-in-1 c = rw c.in-1.is c.signed_at.ensures

pub returns-in-2 : goal.returns-in-2
returns-in-2 c = rw c.in-2.is c.unsigned_at.ensures

pub returns-in-3 : goal.returns-in-3
returns-in-3 c = rw c.in-3.is c.hexadecimal_at.ensures

pub returns-in-4 : goal.returns-in-4
returns-in-4 c = rw c.in-4.is refl

pub returns-in_default : goal.returns-in_default
returns-in_default c = let e : c.args.tag ≡ 5 = omega arith in rw e refl
