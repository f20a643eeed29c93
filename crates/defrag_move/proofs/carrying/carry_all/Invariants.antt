use Rattle.std.proofs.Common.{◌≡◌, drop}
use Rattle.defrag_move.specs.inner.Carrying.{CanCarry, addresses_after, bytes_after}
use Rattle.defrag_move.proofs.carrying.carry_all.Given as goal

-- the moves that are left lead where all of them do
abbrev pub invariant-loop-i : goal.invariant-loop-i
invariant-loop-i l = record {
  can : CanCarry l.start (drop l.i l.moves) (drop l.i l.owners) l.table l.bytes;
  table : addresses_after l.start (drop l.i l.moves) (drop l.i l.owners) l.table ≡ addresses_after l.start l.moves l.owners l.fn.table;
  bytes : bytes_after l.start (drop l.i l.moves) l.bytes ≡ bytes_after l.start l.moves l.fn.bytes;
}
