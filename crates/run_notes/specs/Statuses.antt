-- The number of each status, and the status of each end of a run.
use Rattle.std.specs.Prelude.{ℕ}
use Rattle.ak_trace.specs.declared.endings.End.{End}
use Rattle.ak_trace.specs.declared.endings.End.TheVariants as ends
use Rattle.ak_trace.specs.declared.endings.Verdict.{Verdict}
use Rattle.ak_trace.specs.declared.endings.Verdict.TheVariants as verdicts
use Rattle.run_notes.specs.declared.status.Status.{Status}
use Rattle.run_notes.specs.declared.status.Status.TheVariants as statuses

-- a check ends the program with 12 where it found a broken rule, and else with 0
abbrev pub number_of_check : Verdict → ℕ
number_of_check (verdicts.Broke rule place turns) = 12
number_of_check (verdicts.Ended exit turns) = 0
number_of_check (verdicts.AllBlocked turns) = 0
number_of_check (verdicts.TurnsSpent turns) = 0

-- the number that the program ends with
abbrev pub number_of : Status → ℕ
number_of (statuses.Done value) = 0
number_of statuses.Usage = 2
number_of (statuses.Refused place kind) = 3
number_of statuses.ReadFault = 4
number_of statuses.WriteFault = 5
number_of (statuses.Trap word kind) = 6
number_of statuses.AllBlocked = 7
number_of statuses.TurnLimit = 8
number_of statuses.OutputLimit = 9
number_of (statuses.StackLimit thread) = 10
number_of statuses.NoMemory = 11
number_of (statuses.Checked verdict) = number_of_check verdict
number_of (statuses.Raced first second) = 13
number_of statuses.Built = 0
number_of statuses.CodeTooDeep = 14
number_of (statuses.BadCode at) = 15
number_of (statuses.UnsafeCode place why) = 16
number_of statuses.CodeTooLong = 17
number_of statuses.FileTooLong = 18

-- the status of a run that ended so, where all was written
abbrev pub status_of : End → Status
status_of (ends.Done value) = statuses.Done value
status_of (ends.Trap word kind) = statuses.Trap word kind
status_of ends.AllBlocked = statuses.AllBlocked
status_of ends.TurnLimit = statuses.TurnLimit
status_of ends.OutputLimit = statuses.OutputLimit
status_of (ends.StackLimit thread) = statuses.StackLimit thread
