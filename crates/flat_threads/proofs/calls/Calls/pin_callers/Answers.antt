use Rattle.std.proofs.Common.{◌-◌, arith}
use Rattle.flat_threads.proofs.Pinned.{begins, room_of, stands_there, slots_there, room_there, pins_more}
use Rattle.flat_threads.proofs.calls.Calls.pin_callers.Goals as goal

pub loop-at-init : goal.loop-at-init
loop-at-init c =
    begins c.args.program.now c.self.inside.registers.items c.self.inside.slots c.self.inside.top c.self.inside.callers.items c.args.into.now c.self.invariant.0 c.args.self.now c.self.view_is c.requires.of c.len-at.result
    (omega (arith, c.len-at.ensures))

pub list_at-requires : goal.list_at-requires
list_at-requires c =
    stands_there c.args.program.now c.requires.program c.self.inside.registers.items c.self.inside.slots c.self.inside.top c.self.inside.callers.items c.args.into.now c.loop-at.into c.loop-at.at (c.loop-at.at - 1) c.loop-at.invariant
    (omega (arith, c.loop-at-test.true)) (omega (arith, c.loop-at-test.true, c.loop-at.auto.at, c.len-at.ensures)) c.index-call.result.now c.index-call.ensures

pub unite-requires-clause-slots : goal.unite-requires-clause-slots
unite-requires-clause-slots c =
    slots_there c.args.program.now c.requires.program c.self.inside.registers.items c.self.inside.slots c.self.inside.top c.self.inside.callers.items c.args.into.now c.loop-at.into c.loop-at.at (c.loop-at.at - 1) c.loop-at.invariant
    (omega (arith, c.loop-at-test.true)) (omega (arith, c.loop-at-test.true, c.loop-at.auto.at, c.len-at.ensures)) c.index-call.result.now c.index-call.ensures c.list_at.result.now c.list_at.ensures

pub unite-requires-clause-room : goal.unite-requires-clause-room
unite-requires-clause-room c =
    room_there c.args.program.now c.requires.program c.self.inside.registers.items c.self.inside.slots c.self.inside.top c.self.inside.callers.items c.args.into.now c.loop-at.into c.loop-at.at (c.loop-at.at - 1) c.loop-at.invariant
    (omega (arith, c.loop-at-test.true)) (omega (arith, c.loop-at-test.true, c.loop-at.auto.at, c.len-at.ensures)) c.index-call.result.now c.index-call.ensures c.list_at.result.now c.list_at.ensures
    (room_of c.self.inside.registers.items c.self.inside.slots c.self.inside.top c.self.inside.callers.items c.args.self.now c.self.view_is c.args.into.now c.requires.room)

pub loop-at-preserved : goal.loop-at-preserved
loop-at-preserved c =
    pins_more c.args.program.now c.requires.program c.self.inside.registers.items c.self.inside.slots c.self.inside.top c.self.inside.callers.items c.args.into.now c.loop-at.into c.loop-at.at (c.loop-at.at - 1) c.loop-at.invariant
    (omega (arith, c.loop-at-test.true)) (omega (arith, c.loop-at-test.true, c.loop-at.auto.at, c.len-at.ensures)) c.index-call.result.now c.index-call.ensures c.list_at.result.now c.list_at.ensures c.unite.new.into c.unite.ensures
