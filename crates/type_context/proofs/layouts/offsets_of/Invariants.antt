use Rattle.std.proofs.Common.{◌≡◌, ◌++◌, map, drop}
use Rattle.c_tree.specs.TypedViews.{type_view, layout_view}
use Rattle.c_tree.specs.TypedLayout.{offsets_from}
use Rattle.type_context.proofs.layouts.offsets_of.Given as goal

-- the offsets so far, and those from here on, are all
abbrev pub invariant-members : goal.invariant-members
invariant-members l = l.offsets.items ++ offsets_from (map layout_view l.structs) l.end (map type_view (drop l.t-index l.types)) ≡ offsets_from (map layout_view l.structs) 0 (map type_view l.types)
