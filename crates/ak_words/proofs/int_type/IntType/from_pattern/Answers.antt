use Rattle.std.proofs.Common.{arith, sym, rules}
use Rattle.std.proofs.lemmas.Int.{ints}
use Rattle.ak_words.proofs.Types.{half_twice, half_small}
use Rattle.ak_words.proofs.Wraps.{wrapped_value_is}
use Rattle.ak_words.proofs.int_type.IntType.from_pattern.Goals as goal

pub returns-then-low-half-clause-value : goal.returns-then-low-half-clause-value
returns-then-low-half-clause-value c = sym (wrapped_value_is _ _ _ 0 1 (search rules) (omega (arith, ints, half_twice c.args.self, half_small c.args.self)))

pub returns-else-self-clause-value : goal.returns-else-self-clause-value
returns-else-self-clause-value c = sym (wrapped_value_is _ _ _ 0 0 (search rules) (omega (arith, ints)))
