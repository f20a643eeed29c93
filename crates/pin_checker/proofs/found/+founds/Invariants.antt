use Rattle.std.proofs.Common.{◌≡◌, drop}
use Rattle.struct_ir.specs.Views.{nodes_view}
use Rattle.pin_flow.specs.Views.{state_view}
use Rattle.pin_checker.specs.inner.SearchViews.{search_view}
use Rattle.pin_checker.specs.inner.Found.{found_in, found_view}
use Rattle.pin_checker.proofs.FoundRows.{followed}
use Rattle.pin_checker.proofs.found.+founds.Given as goal

-- what is ahead, with the nodes that are left, is the row
abbrev pub invariant-found_in-loop-n : goal.invariant-found_in-loop-n
invariant-found_in-loop-n l = followed (search_view l.search) (found_view l.all) (nodes_view (drop l.n-index l.rows)) ≡ found_in (search_view l.search) (nodes_view l.rows) (state_view l.fn.before)
