use Rattle.std.proofs.Common.{◌≡◌, drop, ◌*◌, ◌+◌}
use Rattle.std.specs.Prelude.{nat_le}
use Rattle.struct_ir.specs.Views.{nodes_view}
use Rattle.code_save.specs.Saves.{depth}
use Rattle.code_save.proofs.depth.+within.Given as goal

abbrev pub decreases-are_within : goal.decreases-are_within
decreases-are_within l = 3 * l.levels

abbrev pub decreases-node_is_within : goal.decreases-node_is_within
decreases-node_is_within l = 3 * l.levels + 2

abbrev pub decreases-both_within : goal.decreases-both_within
decreases-both_within l = 3 * l.levels + 1

-- what is left decides
abbrev pub invariant-are_within-loop-n : goal.invariant-are_within-loop-n
invariant-are_within-loop-n l = nat_le (depth (nodes_view (drop l.n-index l.nodes))) l.levels ≡ nat_le (depth (nodes_view l.nodes)) l.levels
