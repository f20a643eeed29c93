use Rattle.std.proofs.Common.{◌≡◌, drop, map}
use Rattle.struct_ir.specs.Views.{place_view}
use Rattle.pin_checker.specs.inner.Reports.{has_bare}
use Rattle.pin_checker.proofs.search.has_bare.Given as goal

-- what is left decides
abbrev pub invariant-loop-a : goal.invariant-loop-a
invariant-loop-a l = has_bare (map place_view (drop l.a-index l.places)) ≡ has_bare (map place_view l.places)
