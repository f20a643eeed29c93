use Rattle.std.proofs.Common.{◌≡◌, true, drop}
use Rattle.pin_checker.specs.declared.pair.Pair.{Pair}
use Rattle.pin_checker.specs.inner.Reports.{has_pair}
use Rattle.pin_checker.specs.inner.Uses.{HasHome}
use Rattle.pin_checker.proofs.kept.have_homes.Given as goal

-- where those that are left have homes, all have
abbrev pub invariant-loop-q : goal.invariant-loop-q
invariant-loop-q l = ((q : Pair) → has_pair q (drop l.q-index l.pairs) ≡ true → HasHome l.homes.bases.items q) → (q : Pair) → has_pair q l.pairs ≡ true → HasHome l.homes.bases.items q
