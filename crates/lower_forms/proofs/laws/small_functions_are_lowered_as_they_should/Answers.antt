use Rattle.lower_forms.proofs.RowsProof.{rows_hold}
use Rattle.lower_forms.proofs.laws.small_functions_are_lowered_as_they_should.Goals as goal

pub returns : goal.returns
returns c = rows_hold
