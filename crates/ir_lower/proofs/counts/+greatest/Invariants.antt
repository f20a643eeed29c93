use Rattle.std.proofs.Common.{◌≡◌, ◌+◌, ◌*◌, drop, map}
use Rattle.std.specs.Prelude.{max}
use Rattle.c_tree.specs.TypedViews.{stmt_view}
use Rattle.c_tree.proofs.typed.Stmt.TheLaws.{the_size}
use Rattle.lower_forms.specs.Counts.{greatest_row}
use Rattle.ir_lower.proofs.counts.+greatest.Given as goal
use Rattle.c_tree.specs.Typed.{stmts_of}

-- so far
abbrev pub invariant-greatest_row-loop-s : goal.invariant-greatest_row-loop-s
invariant-greatest_row-loop-s l = max l.n (greatest_row (stmts_of (map stmt_view (drop l.s-index l.all)))) ≡ greatest_row (stmts_of (map stmt_view l.all))

-- ---- a statement and its parts

abbrev pub decreases-greatest : goal.decreases-greatest
decreases-greatest l = goal.size-greatest l * 4

abbrev pub decreases-greatest_in : goal.decreases-greatest_in
decreases-greatest_in l = goal.size-greatest_in l * 4

abbrev pub decreases-greater : goal.decreases-greater
decreases-greater l = max (the_size l.a.now) (the_size l.b.now) * 4 + 1

abbrev pub decreases-greatest_under : goal.decreases-greatest_under
decreases-greatest_under l = goal.size-greatest_under l * 4 + 1

abbrev pub decreases-greatest_of_switch : goal.decreases-greatest_of_switch
decreases-greatest_of_switch l = goal.size-greatest_of_switch l * 4 + 2

abbrev pub decreases-greatest_of_if : goal.decreases-greatest_of_if
decreases-greatest_of_if l = max (the_size l.one.now) (the_size l.other.now) * 4 + 2

abbrev pub decreases-greatest_of_for : goal.decreases-greatest_of_for
decreases-greatest_of_for l = max (the_size l.first.now) (max (the_size l.step.now) (the_size l.body.now)) * 4 + 2

abbrev pub decreases-greatest_row : goal.decreases-greatest_row
decreases-greatest_row l = goal.size-greatest_row l * 4 + 1
