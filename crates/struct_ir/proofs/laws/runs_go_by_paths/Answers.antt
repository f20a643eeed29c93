use Rattle.struct_ir.proofs.Runs.{runs_are_steps, ways_are_paths, safe_code_is_pinned}
use Rattle.struct_ir.proofs.laws.runs_go_by_paths.Goals as goal

pub returns : goal.returns
returns g c = record { runs = runs_are_steps _ _ _; paths = ways_are_paths _ _ _; pinned = safe_code_is_pinned _ _ _ }
