-- What is asked of the functions of a program.
use Rattle.struct_ir.specs.Nodes.{Func}
use Rattle.struct_ir.specs.Structured.{done, then_, structured}
use Rattle.pin_flow.specs.Looks as looks
use Rattle.pin_flow.specs.Held.{HoistedThroughout}
use Rattle.pin_flow.specs.Points.{HoistedAtPoints, PinsExactAtPoints}

-- each access has a slot, which is available there for its base
abbrev pub IsCovered : Func → Type 0
IsCovered f = looks.Covered structured (then_ f.nodes done)

-- no Look in a loop is of a register that the loop doesn't assign, and none is of a register for which a slot is available there
abbrev pub IsHoisted : Func → Type 0
IsHoisted f = looks.Hoisted f.nodes

-- the same by the paths to each Look in its own place, also where the same stands behind two branches: such code is hoisted
abbrev pub IsHoistedThroughout : Func → Type 0
IsHoistedThroughout f = HoistedThroughout f.nodes

-- each list has just the slots that are available there and used later, and those that its act uses
abbrev pub IsExact : Func → Type 0
IsExact f = looks.PinsExact f.nodes

-- hoisted at each point of the code by itself, also where the same is left to do at another
abbrev pub IsHoistedAtPoints : Func → Type 0
IsHoistedAtPoints f = HoistedAtPoints f.nodes

-- so are its lists exact
abbrev pub IsExactAtPoints : Func → Type 0
IsExactAtPoints f = PinsExactAtPoints f.nodes
