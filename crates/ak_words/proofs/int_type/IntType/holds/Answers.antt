use Rattle.std.proofs.Common.{arith, subst, sym, ◌↔◌, IsTrue}
use Rattle.ak_words.specs.IntType.{IsInRange}
use Rattle.std.specs.Int.{w128}
use Rattle.std.proofs.lemmas.Int.{ints, to_z-of_z}
use Rattle.ak_words.proofs.Types.{half_small, below_least, is_held-IsInRange}
use Rattle.ak_words.proofs.int_type.IntType.holds.Goals as goal

pub returns-else-half-value-clause-value : goal.returns-else-half-value-clause-value
returns-else-half-value-clause-value c = below_least c.args.self c.args.value _ _ c.if-self.true (to_z-of_z w128 c.args.value c.ranges.value) (omega (arith, ints, half_small c.args.self)) c.if-half-value.false

pub returns-else-half-value-clause-in_range : goal.returns-else-half-value-clause-in_range
returns-else-half-value-clause-in_range c = subst (λ b. IsTrue b ↔ IsInRange c.args.self c.args.value) (sym (returns-else-half-value-clause-value c)) (is_held-IsInRange c.args.self c.args.value)
