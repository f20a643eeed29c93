use Rattle.std.proofs.Common.{◌≡◌, drop}
use Rattle.struct_ir.specs.Views.{nodes_view}
use Rattle.pin_checker.specs.inner.Reports.{pairs_of}
use Rattle.pin_checker.proofs.pair.+pairs.Given as goal

-- what is left is added to what was
abbrev pub invariant-add_pairs-loop-n : goal.invariant-add_pairs-loop-n
invariant-add_pairs-loop-n l = pairs_of (nodes_view (drop l.n-index l.nodes)) l.list.items ≡ pairs_of (nodes_view l.nodes) l.fn.list.items
