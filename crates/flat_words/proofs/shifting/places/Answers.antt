use Rattle.flat_words.proofs.Shifts.{places_is, places_below}
use Rattle.flat_words.proofs.shifting.places.Goals as goal

pub returns-clause-value : goal.returns-clause-value
returns-clause-value c = rw c.from.ensures (places_is c.args.t c.args.b)

pub returns-clause-below : goal.returns-clause-below
returns-clause-below c = rw c.from.ensures (places_below c.args.t c.args.b)
