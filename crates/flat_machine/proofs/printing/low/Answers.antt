use Rattle.std.proofs.Common.{◌∙◌, ◌^◌, ap, sym, arith, ℕ}
use Rattle.std.specs.Prelude.{pos}
use Rattle.ak_words.specs.Wrapped.{residue}
use Rattle.flat_machine.proofs.Digits.{width_is, low_is, whole_is}
use Rattle.flat_machine.proofs.printing.low.Goals as goal

pub returns-then-bits-eq32 : goal.returns-then-bits-eq32
returns-then-bits-eq32 c = low_is (2 ^ 32) c.args.word (omega arith) ∙ ap (λ (b : ℕ). residue (2 ^ b) (pos c.args.word)) (sym c.if-bits-eq32.true)

pub returns-else-bits-eq32 : goal.returns-else-bits-eq32
returns-else-bits-eq32 c = whole_is c.args.word (omega arith) ∙ ap (λ (b : ℕ). residue (2 ^ b) (pos c.args.word)) (sym (width_is c.args.bits c.requires c.if-bits-eq32.false))
