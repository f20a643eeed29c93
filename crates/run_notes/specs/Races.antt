-- The line of what was found of the races of a run, and the status that it makes.
use Rattle.std.specs.Prelude.{ℕ, List, ◌++◌, codes, decimal}
use Rattle.run_notes.specs.declared.races.RaceNote.{RaceNote}
use Rattle.run_notes.specs.declared.races.RaceNote.TheVariants as notes
use Rattle.run_notes.specs.declared.status.Status.{Status}
use Rattle.run_notes.specs.declared.status.Status.TheVariants as statuses
use Rattle.run_notes.specs.Checks.{after, rule_name}
use Rattle.run_notes.specs.Lines.{spot_text}

-- the line, of a text of the file with this name: that no two turns race; or the places of two accesses that do, and the numbers of their turns;
-- or which rule a turn breaks, and after how many turns, of which no two race; or that memory was wanting
abbrev pub race_line : (name text : List ℕ) → RaceNote → List ℕ
race_line name text notes.Clean = codes "race: none\n"
race_line name text (notes.Race first second) =
    codes "race: " ++ spot_text name text first.place ++ codes " and " ++ spot_text name text second.place ++ codes ", turns " ++ decimal first.turn ++ codes " and " ++ decimal second.turn ++ codes "\n"
race_line name text (notes.Broke rule turns) = codes "race: broke " ++ rule_name rule ++ after turns
race_line name text notes.NotJudged = codes "race: not judged\n"

-- what becomes of the status of a run's end: it stays, unless two turns race, or memory was wanting
abbrev pub status_with : RaceNote → Status → Status
status_with notes.Clean status = status
status_with (notes.Race first second) status = statuses.Raced first.place second.place
status_with (notes.Broke rule turns) status = status
status_with notes.NotJudged status = statuses.NoMemory
