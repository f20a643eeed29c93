use Rattle.std.proofs.Common.{◌≡◌, map, take}
use Rattle.struct_ir.specs.Lists.{bare_place}
use Rattle.struct_ir.specs.Views.{place_view}
use Rattle.struct_ir.proofs.copies.bare_places.Given as goal

-- so far
abbrev pub invariant-loop-a : goal.invariant-loop-a
invariant-loop-a l = map place_view l.out.items ≡ map bare_place (map place_view (take l.a-index l.places))
