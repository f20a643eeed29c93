use Rattle.std.proofs.Common.{◌≡◌, ◌++◌, length}
use Rattle.ak_trace.specs.Order.{order}
use Rattle.ak_trace.specs.Walks.{left_of_entry}
use Rattle.ak_trace.proofs.walk.OrderWalkIterator.next.Given as goal

abbrev pub invariant-loop-turn : goal.invariant-loop-turn
invariant-loop-turn l = left_of_entry l.self-inside.begun ++ order l.self-inside.behind.now ≡ l.fn.self

abbrev pub decreases-loop-turn : goal.decreases-loop-turn
decreases-loop-turn l = length l.self-inside.behind.now
