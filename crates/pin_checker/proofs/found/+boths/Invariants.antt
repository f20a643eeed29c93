use Rattle.std.proofs.Common.{◌≡◌, drop}
use Rattle.struct_ir.specs.Views.{nodes_view}
use Rattle.pin_flow.specs.Marks.{good, bad}
use Rattle.pin_checker.specs.inner.SearchViews.{search_view}
use Rattle.pin_checker.specs.inner.Found.{found_in, found_view}
use Rattle.pin_checker.proofs.FoundRows.{followed}
use Rattle.pin_checker.proofs.found.+boths.Given as goal

-- what is ahead, with the nodes that are left, is the row, from either state
abbrev pub invariant-both_in-loop-n : goal.invariant-both_in-loop-n
invariant-both_in-loop-n l = record {
  good : followed (search_view l.search) (found_view l.both.good) (nodes_view (drop l.n-index l.rows)) ≡ found_in (search_view l.search) (nodes_view l.rows) good;
  bad : followed (search_view l.search) (found_view l.both.bad) (nodes_view (drop l.n-index l.rows)) ≡ found_in (search_view l.search) (nodes_view l.rows) bad;
}
