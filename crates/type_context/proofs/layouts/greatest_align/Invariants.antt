use Rattle.std.proofs.Common.{◌≡◌, ◌≤◌, map, drop, max}
use Rattle.c_tree.specs.TypedViews.{type_view, layout_view}
use Rattle.c_tree.specs.TypedLayout.{greatest_align}
use Rattle.type_context.proofs.layouts.greatest_align.Given as goal

-- the greatest so far, or of those from here on, is that of all
abbrev pub invariant-members : goal.invariant-members
invariant-members l = (1 ≤ l.greatest) × (max l.greatest (greatest_align (map layout_view l.structs) (map type_view (drop l.t-index l.types))) ≡ greatest_align (map layout_view l.structs) (map type_view l.types))
