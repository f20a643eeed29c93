-- How many instructions there are.
use Rattle.std.proofs.Common.{◌≡◌, ◌+◌, ◌*◌, ◌≤◌, [], ◌∷◌, length, None, Bool, true, false, arith, length-append, if◌then◌else◌}
use Rattle.struct_ir.specs.Nodes.{Node, plain, if_, loop, break_, next_, ret, Nodes, no_nodes, more_nodes}
use Rattle.struct_ir.specs.Instrs.{leave}
use Rattle.struct_ir.specs.Marks.{is_lifetime_mark}
use Rattle.emit_code.specs.inner.Layout.{node_long, long, emit, instrs_for}
use Rattle.struct_ir.specs.Emitted.{node_count, row_count}
use Rattle.emit_code.proofs.Holding.{row_length}

act_short : (b : Bool) → (if b then 0 else 1) ≤ 2 * 1
act_short true = omega arith
act_short false = omega arith

mutual
  node_short : (n : Node) → node_long n ≤ 2 * node_count n
  node_short (plain place a) = act_short (is_lifetime_mark a)
  node_short (if_ place temp one other) = let a = row_short one in let b = row_short other in omega (arith, a, b)
  node_short (loop place body latch) = let a = row_short body in let b = row_short latch in omega (arith, a, b)
  node_short (break_ place) = omega arith
  node_short (next_ place) = omega arith
  node_short (ret place temp) = omega arith

  row_short : (nodes : Nodes) → long nodes ≤ 2 * row_count nodes
  row_short no_nodes = omega arith
  row_short (more_nodes n rest) = let a = node_short n in let b = row_short rest in omega (arith, a, b)

pub code_length : (nodes : Nodes) → length (instrs_for nodes) ≡ long nodes + 1
code_length nodes =
    let a = length-append (emit 0 (long nodes) (long nodes) nodes) (leave 0 None ∷ []) in
    omega (arith, a, row_length 0 (long nodes) (long nodes) nodes)

pub code_short : (nodes : Nodes) → length (instrs_for nodes) ≤ 2 * row_count nodes + 1
code_short nodes = omega (arith, code_length nodes, row_short nodes)
