use Rattle.std.proofs.Common.{◌≡◌, ◌+◌, ◌*◌, drop, map}
use Rattle.std.specs.Prelude.{max}
use Rattle.c_tree.specs.TypedViews.{expr_view}
use Rattle.c_tree.proofs.typed.Expr.TheLaws.{the_size}
use Rattle.lower_forms.specs.Counts.{count_all}
use Rattle.ir_lower.proofs.counts.+counts.Given as goal
use Rattle.c_tree.specs.Typed.{exprs_of}

-- so far
abbrev pub invariant-count_all-loop-e : goal.invariant-count_all-loop-e
invariant-count_all-loop-e l = l.n + count_all (exprs_of (map expr_view (drop l.e-index l.args))) ≡ count_all (exprs_of (map expr_view l.args))

-- ---- an expression and its parts

abbrev pub decreases-count : goal.decreases-count
decreases-count l = goal.size-count l * 4

abbrev pub decreases-count_parts : goal.decreases-count_parts
decreases-count_parts l = goal.size-count_parts l * 4

abbrev pub decreases-count_two : goal.decreases-count_two
decreases-count_two l = max (the_size l.a.now) (the_size l.b.now) * 4 + 1

abbrev pub decreases-count_three : goal.decreases-count_three
decreases-count_three l = max (max (the_size l.a.now) (the_size l.b.now)) (the_size l.c.now) * 4 + 2

abbrev pub decreases-count_all : goal.decreases-count_all
decreases-count_all l = goal.size-count_all l * 4 + 1
