use Rattle.flat_replay.proofs.MeaningRows.{lasts_stand, tries_stand, meanings_stand, ends_stand, breaks_stand}
use Rattle.flat_replay.proofs.laws.small_journals_have_their_meaning.Goals as goal

pub returns : goal.returns
returns c = record { lasts = lasts_stand; tries = tries_stand; meanings = meanings_stand; ends = ends_stand; breaks = breaks_stand }
