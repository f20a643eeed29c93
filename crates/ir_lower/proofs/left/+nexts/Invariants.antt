use Rattle.std.proofs.Common.{◌≡◌, ◌+◌, ◌*◌, drop, map}
use Rattle.c_tree.specs.TypedViews.{stmt_view}
use Rattle.c_tree.specs.Typed.{stmts_of}
use Rattle.lower_forms.specs.Forms.{nexts_among}
use Rattle.ir_lower.proofs.left.+nexts.Given as goal

-- so far
abbrev pub invariant-nexts_among-loop-s : goal.invariant-nexts_among-loop-s
invariant-nexts_among-loop-s l = nexts_among (stmts_of (map stmt_view (drop l.s-index l.all))) ≡ nexts_among (stmts_of (map stmt_view l.all))

-- ---- a statement and its parts

abbrev pub decreases-nexts_in : goal.decreases-nexts_in
decreases-nexts_in l = goal.size-nexts_in l * 4

abbrev pub decreases-nexts_by : goal.decreases-nexts_by
decreases-nexts_by l = goal.size-nexts_by l * 4

abbrev pub decreases-nexts_among : goal.decreases-nexts_among
decreases-nexts_among l = goal.size-nexts_among l * 4 + 1
