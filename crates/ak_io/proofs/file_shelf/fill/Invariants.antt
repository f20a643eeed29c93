use Rattle.std.proofs.Common.{◌-◌, ◌≤◌, length, take}
use Rattle.std.specs.Io.KnownBytes.{Consumes}
use Rattle.ak_io.proofs.file_shelf.fill.Given as goal

-- what was read so far stands at the front of the buffer
abbrev pub invariant-filling : goal.invariant-filling
invariant-filling g l =
    record {
      within : l.filled ≤ length l.into;
      bytes : Consumes (g.F.Read.remaining l.fn.file) (g.F.Read.remaining l.file) (take l.filled l.into);
    }

abbrev pub decreases-filling : goal.decreases-filling
decreases-filling g l = length l.into - l.filled
