use Rattle.std.proofs.Common.{ap, sym}
use Rattle.c_typing.specs.Faults.{typed}
use Rattle.c_types.proofs.makers.for_made.Goals as goal

pub returns : goal.returns
returns c = ap typed (sym c.in_ok-whole.ensures)
