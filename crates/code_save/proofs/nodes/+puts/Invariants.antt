use Rattle.std.proofs.Common.{drop, ◌-◌, ◌*◌, ◌+◌}
use Rattle.struct_ir.specs.Views.{node_view}
use Rattle.code_file.specs.Files.{node, nodes}
use Rattle.code_file.specs.Calls.{node_bare}
use Rattle.code_save.specs.inner.Fits.{node_fits}
use Rattle.code_save.proofs.Writing.{WritesAll}
use Rattle.code_save.proofs.nodes.+puts.Given as goal

abbrev pub decreases-put_nodes : goal.decreases-put_nodes
decreases-put_nodes l = 4 * l.levels

abbrev pub decreases-put_node : goal.decreases-put_node
decreases-put_node l = 4 * l.levels + 3

abbrev pub decreases-put_fields : goal.decreases-put_fields
decreases-put_fields l = 4 * l.levels + 2

abbrev pub decreases-put_if : goal.decreases-put_if
decreases-put_if l = 4 * l.levels + 1

abbrev pub decreases-put_loop : goal.decreases-put_loop
decreases-put_loop l = 4 * l.levels + 1

-- what is left makes the whole
abbrev pub invariant-put_nodes-loop-n : goal.invariant-put_nodes-loop-n
invariant-put_nodes-loop-n l = WritesAll (node (nodes (l.levels - 1))) (λ n. node_bare (node_view n)) (λ n. node_fits (l.levels - 1) (node_view n)) (drop l.n-index l.all) l.all l.fn.out l.out
