use Rattle.std.proofs.Common.{◌+◌, ◌≤◌, List, length, sym, subst}
use Rattle.handle_table.specs.declared.frame.PinSlot.{PinSlot}
use Rattle.handle_table.specs.Frame.{listed_handles}
use Rattle.handle_table.proofs.Frames.{room_left}
use Rattle.handle_table.proofs.words.unite.Goals as goal

pub push-requires : goal.push-requires
push-requires c =
    let fits = subst (λ (slots : List PinSlot). length c.args.into.now.words + length (listed_handles slots c.args.first c.args.listed.now) ≤ c.args.into.now.room) (sym c.slots-slots.ensures) c.requires.room in
    rw c.loop-slot.invariant.room (room_left c.slots-slots.result.now c.args.first c.args.listed.now c.loop-slot.slot-index c.loop-slot.into.words c.args.into.now.words _ c.loop-slot-test.true (c.is_handle.ensures.0 c.if-is_handle.true) c.loop-slot.invariant.words fits)
