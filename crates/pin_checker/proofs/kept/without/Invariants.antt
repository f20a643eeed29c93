use Rattle.std.proofs.Common.{◌≡◌, ◌&&◌, ℕ, drop}
use Rattle.struct_ir.specs.Pins.{lacks}
use Rattle.mark_sets.specs.Words.{has}
use Rattle.pin_checker.proofs.kept.without.Given as goal

-- without those that are left of the list, it is the set without all of them
abbrev pub invariant-loop-slot : goal.invariant-loop-slot
invariant-loop-slot l = (i : ℕ) → (has l.left.items i && lacks i (drop l.slot-index l.list)) ≡ (has l.set i && lacks i l.list)
