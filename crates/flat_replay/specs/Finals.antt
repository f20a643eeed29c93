-- What a replay comes to, as the definition of a journal's end has it.
use Rattle.flat_machine.specs.Replays.{Final}
use Rattle.flat_replay.specs.declared.replaying.Final.{Final as Replayed}

-- the last state of a replay, as contracts see it
abbrev pub final_view : Replayed → Final
final_view f = record { output = f.output.items; end = f.end; report = f.report }
