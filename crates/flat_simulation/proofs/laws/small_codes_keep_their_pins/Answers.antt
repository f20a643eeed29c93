use Rattle.flat_simulation.proofs.PinRows.{reuse_rows_hold, copy_rows_hold, nested_rows_hold}
use Rattle.flat_simulation.proofs.laws.small_codes_keep_their_pins.Goals as goal

pub returns-clause-reuse : goal.returns-clause-reuse
returns-clause-reuse c = reuse_rows_hold

pub returns-clause-copies : goal.returns-clause-copies
returns-clause-copies c = copy_rows_hold

pub returns-clause-nested : goal.returns-clause-nested
returns-clause-nested c = nested_rows_hold
