use Rattle.std.proofs.Common.{◌≡◌, ◌||◌, ℕ, Some, map, drop}
use Rattle.struct_ir.specs.Views.{place_view}
use Rattle.pin_flow.specs.Live.{has as has_use}
use Rattle.pin_flow.specs.Slots.{slot_if}
use Rattle.mark_sets.specs.Words.{has}
use Rattle.mark_sets.proofs.used.use_places.Given as goal

-- with those that are left, all are in the set
abbrev pub invariant-loop-a : goal.invariant-loop-a
invariant-loop-a l =
    (b i : ℕ) → slot_if l.homes.bases.items b ≡ Some i
    → (has_use i b (map place_view (drop l.a-index l.places)) || has l.set.items i) ≡ (has_use i b (map place_view l.places) || has l.fn.set.items i)
