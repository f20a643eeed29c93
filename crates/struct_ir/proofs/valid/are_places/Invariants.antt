use Rattle.std.proofs.Common.{◌≡◌, drop, map}
use Rattle.std.specs.List.{list_all}
use Rattle.struct_ir.specs.Views.{place_view}
use Rattle.struct_ir.specs.Valid.{is_place}
use Rattle.struct_ir.specs.ValidViews.{scope_view}
use Rattle.struct_ir.proofs.valid.are_places.Given as goal

-- what is left decides
abbrev pub invariant-loop-a : goal.invariant-loop-a
invariant-loop-a l = list_all (is_place (scope_view l.x)) (map place_view (drop l.a-index l.places)) ≡ list_all (is_place (scope_view l.x)) (map place_view l.places)
