-- Which programs are safe for moves.
use Rattle.std.specs.Prelude.{◌≡◌, true, None}
use Rattle.std.specs.List.{list_all}
use Rattle.struct_ir.specs.Nodes.{Ir}
use Rattle.struct_ir.specs.Valid.{is_valid, are_placed}
use Rattle.struct_ir.specs.Safe.{EveryFunc, IsPinSafe}

-- each node is valid; safepoints stand around calls and at the ends of loops' steps; and in each function, on every path, each
-- access finds its base's word in its slot, which no list since lacks
pub record IsSafe (p : Ir) : Type 0 where
  pub valid : is_valid p ≡ true
  pub placed : list_all (λ f. are_placed None f.nodes) p.funcs ≡ true
  pub pinned : EveryFunc IsPinSafe p
