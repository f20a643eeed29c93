use Rattle.world_rules.proofs.Few.{calls_fit}
use Rattle.world_rules.proofs.laws.calls_add_few_entries.Goals as goal

pub returns : goal.returns
returns g c = calls_fit g.F.Flat.machine g.F.Flat.shared_of g.F.Flat.context_of g.met.F.Flat.lawful
