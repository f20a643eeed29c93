use Rattle.ak_words.proofs.Replacements.{places_read}
use Rattle.ak_words.proofs.wrapping.places.Goals as goal

pub returns-clause-value : goal.returns-clause-value
returns-clause-value c = places_read c.args.ty c.args.count c.from.result c.rem_euclid.result c.from.ensures (record { sfits = c.rem_euclid.type_inv }) c.rem_euclid.ensures.value
