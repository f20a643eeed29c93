use Rattle.flat_machine.proofs.ServedNulls.{null_at_barrier}
use Rattle.flat_machine.proofs.ToldNulls.{null_at_act}
use Rattle.flat_machine.proofs.laws.nulls_have_their_cause.Goals as goal

pub returns-clause-act : goal.returns-clause-act
returns-clause-act c = null_at_act

pub returns-clause-barrier : goal.returns-clause-barrier
returns-clause-barrier c = null_at_barrier
