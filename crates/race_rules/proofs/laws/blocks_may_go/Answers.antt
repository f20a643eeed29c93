use Rattle.race_rules.proofs.Walks as laws
use Rattle.race_rules.proofs.laws.blocks_may_go.Goals as goal

pub returns : goal.returns
returns c = laws.blocks_may_go
