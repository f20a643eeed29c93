use Rattle.std.proofs.Common.{◌≡◌, ◌++◌, ◌-◌}
use Rattle.mark_sets.specs.Words.{has}
use Rattle.pin_frames.specs.inner.Together.{numbers}
use Rattle.pin_frames.proofs.together.numbers_in.Given as goal

-- with those that are left, it is all of them
abbrev pub invariant-numbers : goal.invariant-numbers
invariant-numbers l = l.out.items ++ numbers (has l.set) l.i (l.count - l.i) ≡ numbers (has l.set) 0 l.count

abbrev pub decreases-numbers : goal.decreases-numbers
decreases-numbers l = l.count - l.i
