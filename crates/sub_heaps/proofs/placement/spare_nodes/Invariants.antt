use Rattle.std.proofs.Common.{◌≡◌, ◌≤◌, vec_len}
use Rattle.std.specs.Vec.{vec_capacity}
use Rattle.sub_heaps.proofs.placement.spare_nodes.Given as goal

abbrev pub invariant-loop-made : goal.invariant-loop-made
invariant-loop-made l = (vec_len l.nodes ≡ l._made) × (l.most ≤ vec_capacity l.nodes)
