use Rattle.std.proofs.Common.{◌≡◌, ◌+◌, ◌*◌, drop, map}
use Rattle.std.specs.Prelude.{max}
use Rattle.c_tree.specs.TypedViews.{stmt_view}
use Rattle.c_tree.proofs.typed.Stmt.TheLaws.{the_size}
use Rattle.lower_forms.specs.Counts.{switches_in}
use Rattle.ir_lower.proofs.counts.+switches.Given as goal
use Rattle.c_tree.specs.Typed.{stmts_of}

-- so far
abbrev pub invariant-switches_in-loop-s : goal.invariant-switches_in-loop-s
invariant-switches_in-loop-s l = l.n + switches_in (stmts_of (map stmt_view (drop l.s-index l.all))) ≡ switches_in (stmts_of (map stmt_view l.all))

-- ---- a statement and its parts

abbrev pub decreases-switches : goal.decreases-switches
decreases-switches l = goal.size-switches l * 4

abbrev pub decreases-switches_by : goal.decreases-switches_by
decreases-switches_by l = goal.size-switches_by l * 4

abbrev pub decreases-switches_of_both : goal.decreases-switches_of_both
decreases-switches_of_both l = max (the_size l.a.now) (the_size l.b.now) * 4 + 1

abbrev pub decreases-switches_of_for : goal.decreases-switches_of_for
decreases-switches_of_for l = max (the_size l.first.now) (max (the_size l.step.now) (the_size l.body.now)) * 4 + 2

abbrev pub decreases-one_more : goal.decreases-one_more
decreases-one_more l = goal.size-one_more l * 4 + 2

abbrev pub decreases-switches_in : goal.decreases-switches_in
decreases-switches_in l = goal.size-switches_in l * 4 + 1
