-- Where each function is safe for moves, the code is from each function's start.
use Rattle.std.proofs.Common.{ℕ, zero, suc, List, [], ◌∷◌}
use Rattle.struct_ir.specs.Nodes.{no_nodes, Func}
use Rattle.struct_ir.specs.Structured.{done, then_, structured, start_of}
use Rattle.struct_ir.specs.Pins.{PinSafe}
use Rattle.pin_flow.specs.Held.{held}
use Rattle.std.specs.List.{AllByRecursion}
use Rattle.struct_ir.specs.Safe.{IsPinSafe}
use Rattle.pin_flow.proofs.Fresh.{held_fair}
use Rattle.pin_flow.proofs.Sound.{each_holds}

-- nothing is done where no function is
empty_safe : PinSafe structured (then_ no_nodes done)
empty_safe = record { each = λ w k path place act h a among. absurd (each_holds (λ a t. ⊥) (held 0) (held_fair 0) (λ a t u le e. e) no_nodes tt w k path place act h) }

pub each_start : (fs : List Func) → AllByRecursion IsPinSafe fs → (i : ℕ) → PinSafe structured (start_of fs i)
each_start [] all i = empty_safe
each_start (f ∷ fs) all zero = all.0
each_start (f ∷ fs) all (suc i) = each_start fs all.1 i
