use Rattle.std.proofs.Common.{◌≡◌, ℕ, None, take, get_or}
use Rattle.pin_flow.specs.Slots.{slot_if}
use Rattle.mark_sets.proofs.marks.places.Given as goal

-- the places of the registers so far
abbrev pub invariant-bases : goal.invariant-bases
invariant-bases l = (b : ℕ) → get_or l.held.items b None ≡ slot_if (take l.i l.bases) b
