use Rattle.std.proofs.Common.{◌≡◌, map, drop}
use Rattle.c_tree.specs.TypedViews.{label_view}
use Rattle.c_meaning.specs.Switches.{default_from}
use Rattle.ir_lower.proofs.labels.default_number.Given as goal

-- no default so far
abbrev pub invariant-loop-i : goal.invariant-loop-i
invariant-loop-i l = default_from l.i (map label_view (drop l.i l.labels)) ≡ default_from 0 (map label_view l.labels)
