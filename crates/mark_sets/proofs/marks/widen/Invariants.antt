use Rattle.std.proofs.Common.{◌≡◌, ℕ, None, length, get_or}
use Rattle.mark_sets.proofs.marks.widen.Given as goal

-- there are so many places, and no bit more
abbrev pub invariant-room : goal.invariant-room
invariant-room l = record {
  long : length l.held.items ≡ l.k;
  same : (c : ℕ) → get_or l.held.items c None ≡ get_or l.fn.held.items c None;
}
