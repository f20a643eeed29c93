use Rattle.std.proofs.Common.{◌≡◌, ◌++◌, drop, map, length}
use Rattle.c_tree.specs.TypedViews.{global_view, layout_view}
use Rattle.block_meaning.proofs.first.make_globals.Given as goal
use Rattle.block_meaning.specs.inner.Starts.{global_in}

abbrev pub invariant-globals : goal.invariant-globals
invariant-globals l =
    l.store ++ map (global_in (map layout_view l.structs) (length l.all)) (map global_view (drop l.g-index l.all))
    ≡ l.initial.store ++ map (global_in (map layout_view l.structs) (length l.all)) (map global_view l.all)
