use Rattle.flat_rules.proofs.Spares.{journals_fit}
use Rattle.flat_rules.proofs.laws.journals_are_within_their_limit.Goals as goal

pub returns : goal.returns
returns g c = journals_fit g.row.S.Denot g.row.C.Denot
