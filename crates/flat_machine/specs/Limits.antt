-- How long a journal may be.
use Rattle.std.specs.Prelude.{◌≡◌, ◌≤◌, List, length, Some}
use Rattle.ak_trace.specs.declared.entry.Entry.{Entry}
use Rattle.struct_ir.specs.Instrs.{LinearCode}
use Rattle.flat_rules.specs.declared.settings.Settings.{Settings}
use Rattle.flat_rules.specs.States.{RunState}
use Rattle.flat_threads.specs.Contexts.{Context}
use Rattle.flat_machine.specs.Replays.{replay}
use Rattle.flat_machine.specs.Shares.{Shared}

-- no journal that replays has more entries than the settings allow
abbrev pub JournalsFit : Type 0
JournalsFit = (code : LinearCode) (s : Settings) (log : List Entry) (x : RunState Shared Context) → replay code s log ≡ Some x → length log ≤ s.entries
