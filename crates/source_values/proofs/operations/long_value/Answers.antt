use Rattle.std.proofs.Common.{◌∙◌, ap, rules, ℤ}
use Rattle.ak_words.specs.IntType.{long}
use Rattle.ak_words.specs.Num.{num}
use Rattle.block_store.specs.declared.values.Value.TheVariants as values
use Rattle.source_values.proofs.Sizes.{number_at}
use Rattle.source_values.proofs.operations.long_value.Goals as goal

pub returns : goal.returns
returns c = number_at _ _ _ _ c.wrapping.ensures c.long.ensures ∙ ap (λ (z : ℤ). values.Num (num long z)) (search rules)
