use Rattle.flat_simulation.proofs.KindRows.{kind_rows_hold}
use Rattle.flat_simulation.proofs.KindRuns.{told_whatever}
use Rattle.flat_simulation.proofs.laws.a_wrong_kind_is_told.Goals as goal

pub returns-clause-row : goal.returns-clause-row
returns-clause-row c = kind_rows_hold

pub returns-clause-whatever : goal.returns-clause-whatever
returns-clause-whatever c p u thread one other wrong = told_whatever p u thread one other wrong
