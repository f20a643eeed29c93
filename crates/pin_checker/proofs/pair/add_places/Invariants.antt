use Rattle.std.proofs.Common.{◌≡◌, drop, map}
use Rattle.struct_ir.specs.Views.{place_view}
use Rattle.pin_checker.specs.inner.Reports.{with_places}
use Rattle.pin_checker.proofs.pair.add_places.Given as goal

-- what is left is added to what was
abbrev pub invariant-loop-a : goal.invariant-loop-a
invariant-loop-a l = with_places (map place_view (drop l.a-index l.places)) l.list.items ≡ with_places (map place_view l.places) l.fn.list.items
