-- The report of a run that ended: eight lines, and a ninth where evacuations are wanted.
use Rattle.std.specs.Prelude.{ℕ, Bool, List, [], ◌++◌, codes, decimal, Option, Some, None, if◌then◌else◌}
use Rattle.std.specs.Fmt.{signed_decimal}
use Rattle.ak_trace.specs.declared.endings.End.{End}
use Rattle.ak_trace.specs.declared.endings.End.TheVariants as ends
use Rattle.ak_trace.specs.declared.endings.TrapKind.{TrapKind}
use Rattle.ak_trace.specs.declared.endings.TrapKind.TheVariants as trap_kinds
use Rattle.run_report.specs.declared.report.LastBarrier.{LastBarrier}
use Rattle.run_report.specs.declared.report.Report.{Report}

-- the name of a kind of trap, in lower case
abbrev pub trap_name : TrapKind → List ℕ
trap_name trap_kinds.Load = codes "load"
trap_name trap_kinds.Store = codes "store"
trap_name trap_kinds.Copy = codes "copy"
trap_name trap_kinds.Free = codes "free"
trap_name trap_kinds.Lock = codes "lock"
trap_name trap_kinds.Print = codes "print"
trap_name trap_kinds.Start = codes "start"
trap_name trap_kinds.Join = codes "join"

-- how the run ended
abbrev pub end_text : End → List ℕ
end_text (ends.Done value) = codes "done " ++ signed_decimal value
end_text (ends.Trap word kind) = codes "trap " ++ trap_name kind ++ codes " " ++ decimal word
end_text ends.AllBlocked = codes "all blocked"
end_text ends.TurnLimit = codes "turn limit"
end_text ends.OutputLimit = codes "output limit"
end_text (ends.StackLimit thread) = codes "stack limit " ++ decimal thread

-- so many objects, and their bytes
abbrev pub objects_text : (objects bytes : ℕ) → List ℕ
objects_text objects bytes = decimal objects ++ codes " objects, " ++ decimal bytes ++ codes " bytes"

-- the extent before a barrier's slide and after it, and the room then
abbrev pub barrier_text : LastBarrier → List ℕ
barrier_text barrier = codes "extent " ++ decimal barrier.before ++ codes " to " ++ decimal barrier.after ++ codes ", room " ++ decimal barrier.room

-- the last barrier, where there was one
abbrev pub last_text : Option LastBarrier → List ℕ
last_text None = codes "none"
last_text (Some barrier) = barrier_text barrier

-- a line: what it is of, what it tells, and the line feed at its end
abbrev pub line : List ℕ → List ℕ → List ℕ
line of told = of ++ codes ": " ++ told ++ codes "\n"

-- so many sub-heaps
abbrev pub sub_heaps_text : ℕ → List ℕ
sub_heaps_text number = decimal number ++ codes " sub-heaps"

-- the line of evacuations, where they are wanted: how many sub-heaps they emptied, each time that they did
abbrev pub evacuated_text : (evacuates : Bool) → ℕ → List ℕ
evacuated_text evacuates emptied = if evacuates then line (codes "evacuated") (sub_heaps_text emptied) else []

-- the eight lines and, where evacuations are wanted, the ninth
unfoldable pub report_text : (evacuates : Bool) → End → Report → List ℕ
report_text evacuates end report = line (codes "ended") (end_text end)
    ++ line (codes "threads") (decimal report.threads)
    ++ line (codes "entries") (decimal report.entries)
    ++ line (codes "barriers") (decimal report.barriers)
    ++ line (codes "moved") (objects_text report.moved_objects report.moved_bytes)
    ++ line (codes "live") (objects_text report.live_objects report.live_bytes)
    ++ line (codes "extent") (decimal report.extent ++ codes " of " ++ decimal report.heap)
    ++ line (codes "last barrier") (last_text report.last)
    ++ evacuated_text evacuates report.emptied
