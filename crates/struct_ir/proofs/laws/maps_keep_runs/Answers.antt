use Rattle.struct_ir.proofs.Maps.{maps_map_runs}
use Rattle.struct_ir.proofs.laws.maps_keep_runs.Goals as goal

pub returns : goal.returns
returns g c = maps_map_runs _ _ _ _
