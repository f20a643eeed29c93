use Rattle.std.proofs.Common.{◌≡◌, ◌≤◌, ◌+◌, ◌*◌, ℕ, drop, length}
use Rattle.std.specs.Prelude.{max}
use Rattle.c_tree.proofs.typed.Expr.TheLaws.{the_size}
use Rattle.source_tree.specs.SharedViews.{args_of}
use Rattle.source_tree.proofs.share_exprs.+share.Given as goal
use Rattle.source_tree.specs.inner.CodeTrees.{exprs_view}

pub record Left (n most : ℕ) (same : Type 0) : Type 0 where
  pub within : n ≤ most
  pub so_far : same

abbrev pub invariant-share_args-back : goal.invariant-share_args-back
invariant-share_args-back l = Left l.n (length l.all) (args_of l.rest.value ≡ exprs_view (drop l.n l.all))

abbrev pub decreases-share_args-back : goal.decreases-share_args-back
decreases-share_args-back l = l.n

-- ---- an expression and its parts

abbrev pub decreases-share_expr : goal.decreases-share_expr
decreases-share_expr l = goal.size-share_expr l * 2

abbrev pub decreases-share_node : goal.decreases-share_node
decreases-share_node l = goal.size-share_node l * 2

abbrev pub decreases-share_two : goal.decreases-share_two
decreases-share_two l = max (the_size l.a.now) (the_size l.b.now) * 2 + 1

abbrev pub decreases-share_either : goal.decreases-share_either
decreases-share_either l = max (the_size l.a.now) (the_size l.b.now) * 2 + 1

abbrev pub decreases-share_args : goal.decreases-share_args
decreases-share_args l = goal.size-share_args l * 2 + 1
