-- In structured code what is left to do gets less.
use Rattle.std.proofs.Common.{◌+◌, ◌<◌, ◌≤◌, Bool, true, false, arith}
use Rattle.struct_ir.specs.Nodes.{Node, plain, if_, loop, break_, next_, ret, no_nodes, more_nodes}
use Rattle.struct_ir.specs.Flow.{Shrinks, GoesOn}
use Rattle.struct_ir.specs.Structured.{Position, done, then_, in_body, in_latch, out_of, end_of, kind, leads, node_size, size, structured}

out_smaller : (k : Position) → size (out_of k) ≤ size k
out_smaller done = omega arith
out_smaller (then_ ns k) = omega (arith, out_smaller k)
out_smaller (in_body b t k) = omega arith
out_smaller (in_latch b t k) = omega arith

end_smaller : (k : Position) → size (end_of k) ≤ size k
end_smaller done = omega arith
end_smaller (then_ ns k) = omega (arith, end_smaller k)
end_smaller (in_body b t k) = omega arith
end_smaller (in_latch b t k) = omega arith

node_shrinks : (n : Node) (k : Position) (c : Bool) → GoesOn (kind n) → size (leads n k c) < node_size n + size k + 1
node_shrinks (plain p a) k c g = omega arith
node_shrinks (if_ p t a b) k true g = omega arith
node_shrinks (if_ p t a b) k false g = omega arith
node_shrinks (loop p b s) k c g = omega arith
node_shrinks (break_ p) k c g = omega (arith, out_smaller k)
node_shrinks (next_ p) k c g = omega (arith, end_smaller k)
node_shrinks (ret p t) k c g = absurd g

pub structured_shrinks : Shrinks structured
structured_shrinks done c g = absurd g
structured_shrinks (then_ no_nodes k) c g = omega arith
structured_shrinks (then_ (more_nodes n rest) k) c g = let h = node_shrinks n (then_ rest k) c g in omega arith
structured_shrinks (in_body b t k) c g = omega arith
structured_shrinks (in_latch b t k) c g = absurd g
