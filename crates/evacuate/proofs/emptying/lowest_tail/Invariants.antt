use Rattle.std.proofs.Common.{◌≡◌, ◌-◌}
use Rattle.std.specs.List.{find, range_with_len}
use Rattle.evacuate.specs.inner.Tails.{has_room}
use Rattle.evacuate.proofs.emptying.lowest_tail.Given as goal

-- no number before has room
abbrev pub invariant-loop-number : goal.invariant-loop-number
invariant-loop-number l = find (has_room l.size l.bytes l.tails) (range_with_len 0 l.below) ≡ find (has_room l.size l.bytes l.tails) (range_with_len l.number (l.below - l.number))
