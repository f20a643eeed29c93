use Rattle.std.proofs.Common.{◌≡◌, suc, ◌+◌, ◌-◌, max, sym, ap, ◌∙◌, subst, arith}
use Rattle.move_plan.specs.Holding.{is_pinned}
use Rattle.move_plan.specs.Stretches.{room_in, room_of, IsLongestGap}
use Rattle.move_plan.proofs.Longest.{IsLongestGap-room}
use Rattle.move_plan.proofs.Numbered.{greatest_from}
use Rattle.move_plan.proofs.rooms.room.Goals as goal

pub loop-number-preserved : goal.loop-number-preserved
loop-number-preserved c =
    let k = c.loop-number.number in
    let f = room_in (is_pinned c.args.pins.now) c.args.heaps.now in
    let left = c.count-number-end.result - (k + 1) in
    let one_less : c.count-number-end.result - k ≡ suc left = omega (arith, c.loop-number-test.true) in
    let best : c.max-greatest.result ≡ max c.loop-number.greatest (f k) = c.max-greatest.ensures ∙ ap (max c.loop-number.greatest) c.room_within.ensures in
    record {
      sound = c.loop-number.invariant.sound;
      end = c.loop-number.invariant.end;
      room = ap (λ n. greatest_from f n (k + 1) left) best ∙ (rw one_less at c.loop-number.invariant.room);
    }

pub returns-clause-longest : goal.returns-clause-longest
returns-clause-longest c slid =
    let f = room_in (is_pinned c.args.pins.now) c.args.heaps.now in
    let none : c.count-number-end.result - c.loop-number.number ≡ 0 = omega (arith, c.loop-number-test.false) in
    let is : c.loop-number.greatest ≡ room_of (is_pinned c.args.pins.now) c.args.heaps.now = rw none at c.loop-number.invariant.room in
    subst (λ n. IsLongestGap c.args.heaps.now n) (sym (c.from.ensures ∙ is)) (IsLongestGap-room (is_pinned c.args.pins.now) c.args.heaps.now c.loop-number.invariant.sound slid)
