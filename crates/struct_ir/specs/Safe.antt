-- Programs each of whose functions is safe for moves.
use Rattle.std.specs.List.{AllByRecursion}
use Rattle.struct_ir.specs.Nodes.{Func, Ir}
use Rattle.struct_ir.specs.Structured.{done, then_, structured}
use Rattle.struct_ir.specs.Pins.{PinSafe}

-- each function is so
abbrev pub EveryFunc : (Func → Type 0) → Ir → Type 0
EveryFunc R x = AllByRecursion R x.funcs

-- safe for moves: on every path, each access finds its base's word in its slot, which no list since lacks
abbrev pub IsPinSafe : Func → Type 0
IsPinSafe f = PinSafe structured (then_ f.nodes done)
