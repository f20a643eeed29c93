use Rattle.std.proofs.Common.{List, ℕ, subst}
use Rattle.flat_machine.proofs.Digits.{char_is}
use Rattle.flat_machine.proofs.Prints.{PutsBytes}
use Rattle.flat_machine.proofs.shared.Shared.put_number.Goals as goal

pub returns-in_default : goal.returns-in_default
returns-in_default c =
    subst (λ (all : List ℕ). PutsBytes all c.args.self.now c.put_bytes.new.self c.put_bytes.result) (char_is c.args.piece.now c.requires.number c.in_default.not-Signed c.in_default.not-Unsigned c.in_default.not-Hex c.args.word) c.put_bytes.ensures
