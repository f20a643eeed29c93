use Rattle.emit_code.proofs.Emitted as emitted
use Rattle.emit_code.proofs.laws.linear_code_does_the_same.Goals as goal

pub returns : goal.returns
returns g c = record { runs = emitted.linear_code_keeps_runs _ _; events = emitted.linear_code_keeps_events _ _ _ _ }
