use Rattle.std.proofs.Common.{◌≡◌, drop}
use Rattle.pin_checker.specs.inner.Reports.{has_pair}
use Rattle.pin_checker.proofs.pair.has_pair.Given as goal

-- what is left decides
abbrev pub invariant-loop-r : goal.invariant-loop-r
invariant-loop-r l = has_pair l.q (drop l.r-index l.list) ≡ has_pair l.q l.fn.list
