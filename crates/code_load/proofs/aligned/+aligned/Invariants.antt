use Rattle.std.proofs.Common.{◌≡◌, drop}
use Rattle.struct_ir.specs.Views.{nodes_view}
use Rattle.code_file.specs.Conditions.{are_aligned}
use Rattle.code_load.proofs.aligned.+aligned.Given as goal

-- what is left decides
abbrev pub invariant-are_aligned-loop-n : goal.invariant-are_aligned-loop-n
invariant-are_aligned-loop-n l = are_aligned (nodes_view (drop l.n-index l.nodes)) ≡ are_aligned (nodes_view l.nodes)
