use Rattle.c_meaning.proofs.WorkedRows.{rows_stand, rules_stand, orders_stand, switches_stand, allocations_stand, atomics_stand, touches_stand}
use Rattle.c_meaning.proofs.laws.small_programs_mean_what_they_should.Goals as goal

pub returns : goal.returns
returns c = record { rows = rows_stand; rules = rules_stand; orders = orders_stand; switches = switches_stand; allocations = allocations_stand; atomics = atomics_stand; touches = touches_stand }
