use Rattle.lower_turns.proofs.Looks.{erased_code_shows, looks_keep_every_turn}
use Rattle.lower_turns.proofs.Codes.{looks_keep_every_run, erased_keeps_every_turn}
use Rattle.lower_turns.proofs.laws.code_with_looks_keeps_every_turn.Goals as goal

pub returns : goal.returns
returns c = record { erased = erased_code_shows; turns = looks_keep_every_turn; runs = looks_keep_every_run; kept = erased_keeps_every_turn }
