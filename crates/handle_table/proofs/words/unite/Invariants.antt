use Rattle.std.proofs.Common.{◌≡◌, ◌++◌, drop}
use Rattle.handle_table.specs.Frame.{listed_handles}
use Rattle.handle_table.proofs.words.unite.Given as goal

-- what was put there, and what the slots that are left will put there, is all of it
abbrev pub invariant-loop-slot : goal.invariant-loop-slot
invariant-loop-slot l = record {
  room : l.into.room ≡ l.fn.into.room;
  words : l.into.words ++ listed_handles l.slots l.first (drop l.slot-index l.listed) ≡ l.fn.into.words ++ listed_handles l.slots l.first l.listed;
}
