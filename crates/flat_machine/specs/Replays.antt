-- What a journal tells of a run of the machine: its last state, where each entry is the one that the rules allow.
use Rattle.std.specs.Prelude.{ℕ, List, length, Option}
use Rattle.std.specs.Option.{option_map}
use Rattle.ak_trace.specs.declared.entry.Entry.{Entry}
use Rattle.struct_ir.specs.Instrs.{LinearCode}
use Rattle.ak_trace.specs.declared.endings.End.{End}
use Rattle.flat_rules.specs.declared.settings.Settings.{Settings}
use Rattle.flat_rules.specs.Rules.{rules_of}
use Rattle.flat_rules.specs.States.{RunState, end_of}
use Rattle.flat_rules.specs.Replays as rules
use Rattle.flat_threads.specs.Contexts.{Context}
use Rattle.run_report.specs.declared.report.Report.{Report}
use Rattle.flat_machine.specs.Machine.{machine_of}
use Rattle.flat_machine.specs.Reports.{report_of}
use Rattle.flat_machine.specs.Shares.{Shared}
use Rattle.flat_machine.specs.Start.{first_shared, settings_limits}

-- the last state of a journal, of this code under these settings
abbrev pub replay : LinearCode → Settings → List Entry → Option (RunState Shared Context)
replay code s log = rules.replay (machine_of code) (rules_of s) (first_shared code (settings_limits s)) log

-- what a run has printed, its end, if it is over, and what is told of it
pub record Final : Type 0 where
  pub output : List ℕ
  pub end : Option End
  pub report : Report

-- in a state, behind a journal
abbrev pub final_at : LinearCode → Settings → List Entry → RunState Shared Context → Final
final_at code s log x = record { output = x.shared.memory.output; end = end_of (machine_of code) (rules_of s) x; report = report_of x.shared (length log) }

-- of a journal
abbrev pub final_of : LinearCode → Settings → List Entry → Option Final
final_of code s log = option_map (final_at code s log) (replay code s log)
