use Rattle.std.proofs.Common.{◌≡◌, map, drop}
use Rattle.c_tree.specs.TypedViews.{type_view, layout_view}
use Rattle.c_tree.specs.TypedLayout.{end_from}
use Rattle.type_context.proofs.layouts.end_of.Given as goal

-- the members from here on end where all do
abbrev pub invariant-members : goal.invariant-members
invariant-members l = end_from (map layout_view l.structs) l.end (map type_view (drop l.t-index l.types)) ≡ end_from (map layout_view l.structs) 0 (map type_view l.types)
