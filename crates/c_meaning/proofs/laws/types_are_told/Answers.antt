use Rattle.c_meaning.proofs.KindRows.{values_are_told, operators_are_told, threads_are_told}
use Rattle.c_meaning.proofs.laws.types_are_told.Goals as goal

pub returns : goal.returns
returns c = record { values = values_are_told; operators = operators_are_told; threads = threads_are_told }
