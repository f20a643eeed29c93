use Rattle.std.proofs.Common.{◌≡◌, ◌+◌, ◌*◌, drop, map}
use Rattle.c_tree.specs.TypedViews.{stmt_view}
use Rattle.c_tree.specs.Typed.{stmts_of}
use Rattle.lower_forms.specs.Forms.{breaks_among}
use Rattle.ir_lower.proofs.left.+breaks.Given as goal

-- so far
abbrev pub invariant-breaks_among-loop-s : goal.invariant-breaks_among-loop-s
invariant-breaks_among-loop-s l = breaks_among (stmts_of (map stmt_view (drop l.s-index l.all))) ≡ breaks_among (stmts_of (map stmt_view l.all))

-- ---- a statement and its parts

abbrev pub decreases-breaks_in : goal.decreases-breaks_in
decreases-breaks_in l = goal.size-breaks_in l * 4

abbrev pub decreases-breaks_by : goal.decreases-breaks_by
decreases-breaks_by l = goal.size-breaks_by l * 4

abbrev pub decreases-breaks_among : goal.decreases-breaks_among
decreases-breaks_among l = goal.size-breaks_among l * 4 + 1
