use Rattle.flat_replay.proofs.KindRows.{first_stops_are_told}
use Rattle.flat_replay.proofs.laws.first_stops_are_told.Goals as goal

pub returns : goal.returns
returns c = first_stops_are_told c.a_wrong_kind_is_told.ensures.row
