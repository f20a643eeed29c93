use Rattle.flat_meaning.proofs.LiveStarts.{live_starts_are_told}
use Rattle.flat_meaning.proofs.laws.live_starts_are_told.Goals as goal

pub returns : goal.returns
returns c = live_starts_are_told
