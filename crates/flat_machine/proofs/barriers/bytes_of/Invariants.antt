use Rattle.std.proofs.Common.{◌≡◌, take}
use Rattle.std.specs.Prelude.{sum_by}
use Rattle.flat_machine.specs.Sweeping.{counted}
use Rattle.flat_machine.proofs.barriers.bytes_of.Given as goal

-- the bytes of so many moves
abbrev pub invariant-loop-next : goal.invariant-loop-next
invariant-loop-next l = l.sum ≡ counted (sum_by (λ m. m.size) (take l.next-index l.moves))
