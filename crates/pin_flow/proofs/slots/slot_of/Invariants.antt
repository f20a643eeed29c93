use Rattle.std.proofs.Common.{◌≡◌, drop}
use Rattle.pin_flow.specs.Slots.{slot_if}
use Rattle.pin_flow.proofs.SlotRows.{slot_from}
use Rattle.pin_flow.proofs.slots.slot_of.Given as goal

-- it is none of those so far
abbrev pub invariant-loop-c : goal.invariant-loop-c
invariant-loop-c l = record {
  counted : l.slot ≡ l.c-index;
  found : slot_if l.bases l.b ≡ slot_from l.slot (slot_if (drop l.c-index l.bases) l.b);
}
