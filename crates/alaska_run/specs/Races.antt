-- What is told of the races of a run.
use Rattle.std.specs.Prelude.{Option, Some, None}
use Rattle.race_check.specs.declared.ending.RaceEnd.{RaceEnd}
use Rattle.race_check.specs.declared.ending.RaceEnd.TheVariants as ends
use Rattle.race_check.specs.declared.ending.Side.{Side}
use Rattle.run_notes.specs.declared.races.RaceNote.{RaceNote}
use Rattle.run_notes.specs.declared.races.RaceNote.TheVariants as notes
use Rattle.run_notes.specs.declared.races.RaceSide.{RaceSide}

-- of a turn that races its place and its number are told
abbrev pub side_of : Side → RaceSide
side_of s = record { place = s.place; turn = s.turn }

-- of what was found, the sides of a race, or the broken rule; where memory was wanting nothing was found
abbrev pub note_of : Option RaceEnd → RaceNote
note_of None = notes.NotJudged
note_of (Some ends.Clean) = notes.Clean
note_of (Some (ends.Race first second)) = notes.Race (side_of first) (side_of second)
note_of (Some (ends.Broke rule turns)) = notes.Broke rule turns
