use Rattle.struct_ir.proofs.Threads as threads
use Rattle.struct_ir.proofs.laws.events_keep_ways.Goals as goal

pub returns : goal.returns
returns g c = threads.events_keep_ways _ _ _ _ _
