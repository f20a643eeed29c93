use Rattle.std.proofs.Common.{◌∙◌, ap, rules, ℕ, pos}
use Rattle.std.proofs.lemmas.List.{length-map}
use Rattle.ak_words.specs.IntType.{unsigned_long}
use Rattle.ak_words.specs.Num.{num}
use Rattle.block_store.specs.declared.values.Value.TheVariants as values
use Rattle.source_state.proofs.Broken.{number_at}
use Rattle.source_state.proofs.world.World.next_number.Goals as goal

pub returns : goal.returns
returns c = number_at _ _ _ _ c.number_of_type.ensures c.unsigned_long.ensures ∙ ap (λ (n : ℕ). values.Num (num unsigned_long (pos n))) (search (rules, length-map))
