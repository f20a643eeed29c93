use Rattle.std.proofs.Common.{◌≡◌, ◌+◌, ◌*◌, map, take}
use Rattle.std.specs.Prelude.{max}
use Rattle.c_tree.specs.TypedViews.{stmt_view}
use Rattle.c_tree.proofs.typed.Stmt.TheLaws.{the_size}
use Rattle.source_tree.proofs.Views.{shared_stmt}
use Rattle.source_tree.proofs.share_stmts.+share_stmts.Given as goal

abbrev pub invariant-share_row-each : goal.invariant-share_row-each
invariant-share_row-each l = map shared_stmt l.stmts.items ≡ map stmt_view (take l.s-index l.all)

-- ---- a statement and its parts

abbrev pub decreases-share_stmt : goal.decreases-share_stmt
decreases-share_stmt l = goal.size-share_stmt l * 3

abbrev pub decreases-share_node : goal.decreases-share_node
decreases-share_node l = goal.size-share_node l * 3

abbrev pub decreases-share_if_else : goal.decreases-share_if_else
decreases-share_if_else l = max (the_size l.one.now) (the_size l.other.now) * 3 + 1

abbrev pub decreases-share_for : goal.decreases-share_for
decreases-share_for l = max (the_size l.first.now) (max (the_size l.step.now) (the_size l.body.now)) * 3 + 1

abbrev pub decreases-share_switch : goal.decreases-share_switch
decreases-share_switch l = goal.size-share_switch l * 3 + 2

abbrev pub decreases-share_row : goal.decreases-share_row
decreases-share_row l = goal.size-share_row l * 3 + 1
