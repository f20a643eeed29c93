use Rattle.lower_turns.proofs.WorkedRows.{rows_stand, rules_stand, orders_stand, atomics_stand}
use Rattle.lower_turns.proofs.laws.worked_programs_keep_their_turns.Goals as goal

pub returns : goal.returns
returns c = record { rows = rows_stand; rules = rules_stand; orders = orders_stand; atomics = atomics_stand }
