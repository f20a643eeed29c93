-- What the passes together promise of a program.
use Rattle.std.specs.Prelude.{◌≡◌, ℕ, true}
use Rattle.struct_ir.specs.Nodes.{Ir}
use Rattle.struct_ir.specs.Erased.{ir_erased}
use Rattle.struct_ir.specs.Instrs.{LinearCode}
use Rattle.struct_ir.specs.Linear.{linear, entry_of}
use Rattle.struct_ir.specs.Pins.{PinSafe}
use Rattle.struct_ir.specs.Placed.{all_due}
use Rattle.struct_ir.specs.Safe.{EveryFunc}
use Rattle.pin_flow.specs.Funcs.{IsExact, IsExactAtPoints, IsHoisted, IsHoistedAtPoints, IsHoistedThroughout}
use Rattle.pin_flow.specs.Slots.{HasOwnSlots}
use Rattle.pin_checker.specs.Safe.{IsSafe}
use Rattle.struct_ir.specs.Emitted.{IsEmitted}

-- the code with its Looks, safepoints and lists
pub record IsPrepared (given ready : Ir) : Type 0 where
  -- without them it is the code that was given
  pub erased : ir_erased ready ≡ given
  -- it is safe for moves: safepoints stand where they have to
  pub safe : IsSafe ready
  -- and nowhere else
  pub due : all_due ready ≡ true
  -- each function has one slot for each register that is the base of an access, and no others
  pub slots : EveryFunc HasOwnSlots ready
  -- no Look stands in a loop that doesn't assign its register, and none where a slot is available for it
  pub hoisted : EveryFunc IsHoisted ready
  -- this holds of each Look also by the paths to its own place
  pub throughout : EveryFunc IsHoistedThroughout ready
  -- each list has just the slots that are available there and used later, and those that its act uses
  pub exact : EveryFunc IsExact ready
  -- hoisting and lists are so at each point of the code by itself, also where the same is left to do at another
  pub hoisted_at_points : EveryFunc IsHoistedAtPoints ready
  pub exact_at_points : EveryFunc IsExactAtPoints ready

-- the machine's code is that of such code, and is safe for moves
pub record IsCompiled (given ready : Ir) (code : LinearCode) : Type 0 where
  pub prepared : IsPrepared given ready
  pub emitted : IsEmitted ready code
  pub safe : (f : ℕ) → PinSafe (linear code.funcs) (entry_of f)
