-- Functions that are valid, whatever their program has.
use Rattle.std.specs.Prelude.{◌≡◌, true}
use Rattle.struct_ir.specs.Nodes.{Func}
use Rattle.struct_ir.specs.Valid.{Scope, outside, are_nodes}

-- in some scope each node of the function is valid
abbrev pub IsScoped : Func → Type 0
IsScoped f = (x : Scope) × (are_nodes x outside f.nodes ≡ true)
