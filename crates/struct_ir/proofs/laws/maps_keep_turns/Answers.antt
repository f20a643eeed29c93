use Rattle.struct_ir.proofs.MapsTurns.{maps_map_turns}
use Rattle.struct_ir.proofs.laws.maps_keep_turns.Goals as goal

pub returns : goal.returns
returns g c = maps_map_turns _ _ _ _ _ _
