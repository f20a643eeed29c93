use Rattle.std.proofs.Common.{◌≡◌, ◌++◌, drop, length}
use Rattle.type_locals.specs.inner.Marking.{marked}
use Rattle.type_locals.specs.LocalViews.{params_view}
use Rattle.type_locals.specs.inner.Numbers.{table_from}
use Rattle.type_locals.proofs.locals.table.Given as goal

-- the numbers so far, and the rest
abbrev pub invariant-loop-k : goal.invariant-loop-k
invariant-loop-k l = l.all.items ++ table_from l.k l.next (params_view (drop l.k l.params)) (marked l.addressed) ≡ table_from 0 (length l.params) (params_view l.params) (marked l.addressed)
