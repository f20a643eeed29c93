use Rattle.flat_store.proofs.Firsts.{outside_meant, none_meant}
use Rattle.flat_store.proofs.laws.first_outside_is_the_least.Goals as goal

pub returns : goal.returns
returns c = record { first = outside_meant; none = none_meant }
