use Rattle.std.proofs.Common.{◌≡◌, ◌-◌, ◌+◌, ◌*◌, map}
use Rattle.formats.specs.Formats.{list, rows}
use Rattle.formats.proofs.Loops.{with_front}
use Rattle.code_file.specs.Files.{node, nodes}
use Rattle.struct_ir.specs.Views.{node_view}
use Rattle.code_file.proofs.nodes.+reads.Given as goal

abbrev pub decreases-nodes_at : goal.decreases-nodes_at
decreases-nodes_at l = 4 * l.depth

abbrev pub decreases-node_at : goal.decreases-node_at
decreases-node_at l = 4 * l.depth + 3

abbrev pub decreases-kind_at : goal.decreases-kind_at
decreases-kind_at l = 4 * l.depth + 2

abbrev pub decreases-if_at : goal.decreases-if_at
decreases-if_at l = 4 * l.depth + 1

abbrev pub decreases-loop_at : goal.decreases-loop_at
decreases-loop_at l = 4 * l.depth + 1

abbrev pub invariant-nodes_at-loop : goal.invariant-nodes_at-loop
invariant-nodes_at-loop l = with_front (map node_view l.out.items) ((rows (node (nodes (l.depth - 1))) (l.count - l.counter)).read l.rest) ≡ (list (node (nodes (l.depth - 1)))).read l.bytes
