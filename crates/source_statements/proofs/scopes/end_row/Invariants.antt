use Rattle.std.proofs.Common.{◌≡◌, drop}
use Rattle.block_store.specs.Actions as actions
use Rattle.c_meaning.specs.Turns.{ended_locals, declared}
use Rattle.source_tree.specs.SharedViews.{these, row_of}
use Rattle.source_expressions.specs.Progress.{now_in}
use Rattle.source_statements.proofs.scopes.end_row.Given as goal

pub record Ends (here locals store : Type 0) : Type 0 where
  pub here_so : here
  pub locals_so : locals
  pub store_so : store

abbrev pub invariant-ends : goal.invariant-ends
invariant-ends l =
    Ends ((x : actions.World) → ended_locals (declared (these (drop l.s-index l.row.stmts.items))) (now_in l.locals.now l.store.now x) ≡ ended_locals (declared (row_of l.row)) (now_in l.initial.locals.now l.initial.store.now x))
    (l.locals.kept ≡ l.initial.locals.kept)
    (l.store.kept ≡ l.initial.store.kept)
