use Rattle.std.proofs.Common.{◌≡◌, map, drop}
use Rattle.c_tree.specs.TypedViews.{label_view}
use Rattle.c_meaning.specs.Switches.{default_from, equal_from}
use Rattle.source_statements.proofs.labels.chosen.Given as goal

-- none of equal value so far
abbrev pub invariant-loop-number : goal.invariant-loop-number
invariant-loop-number l =
    equal_from l.v (default_from 0 (map label_view l.labels)) l.number (map label_view (drop l.number l.labels))
    ≡ equal_from l.v (default_from 0 (map label_view l.labels)) 0 (map label_view l.labels)
