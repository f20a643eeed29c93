use Rattle.std.proofs.Common.{◌≡◌, map, drop}
use Rattle.c_tree.specs.TypedViews.{label_view}
use Rattle.c_meaning.specs.Switches.{default_from}
use Rattle.source_statements.proofs.labels.default_number.Given as goal

-- no default so far
abbrev pub invariant-loop-number : goal.invariant-loop-number
invariant-loop-number l = default_from l.number (map label_view (drop l.number l.labels)) ≡ default_from 0 (map label_view l.labels)
