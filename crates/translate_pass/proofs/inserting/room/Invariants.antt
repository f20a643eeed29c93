use Rattle.std.proofs.Common.{◌≤◌, length}
use Rattle.translate_pass.proofs.inserting.room.Given as goal

-- no less than there are nodes
abbrev pub invariant-loop-n : goal.invariant-loop-n
invariant-loop-n l = length l.rows ≤ l.all
