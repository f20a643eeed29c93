use Rattle.pin_flow.proofs.Bases.{same_bases, slots_are_apart, slots_are_few}
use Rattle.pin_flow.proofs.laws.bases_have_own_slots.Goals as goal

pub returns-clause-kept : goal.returns-clause-kept
returns-clause-kept c = same_bases

pub returns-clause-own : goal.returns-clause-own
returns-clause-own c = λ bases. (slots_are_apart bases, slots_are_few bases)
