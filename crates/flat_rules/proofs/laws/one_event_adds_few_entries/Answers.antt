use Rattle.flat_rules.proofs.Spares.{events_fit}
use Rattle.flat_rules.proofs.laws.one_event_adds_few_entries.Goals as goal

pub returns : goal.returns
returns g c = events_fit g.row.S.Denot g.row.C.Denot
