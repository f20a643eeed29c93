use Rattle.std.proofs.Common.{◌≡◌, drop, None}
use Rattle.std.specs.Prelude.{option_map}
use Rattle.struct_ir.specs.Valid.{are_placed}
use Rattle.struct_ir.specs.Views.{nodes_view}
use Rattle.struct_ir.proofs.placed.+placed.Given as goal

-- what is left decides
abbrev pub invariant-are_placed-loop-i : goal.invariant-are_placed-loop-i
invariant-are_placed-loop-i l = are_placed (option_map (λ s. s.now) l.before) (nodes_view (drop l.i l.nodes)) ≡ are_placed None (nodes_view l.nodes)
