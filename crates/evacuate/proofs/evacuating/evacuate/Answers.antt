use Rattle.std.proofs.Common.{◌≡◌, true, false, subst, ℕ, arith}
use Rattle.move_plan.specs.Holding.{is_pinned}
use Rattle.evacuate.proofs.Walked.{Evacuating, done, evacuating_first, has_room_left, next}
use Rattle.evacuate.proofs.evacuating.evacuate.Goals as goal

pub loop-number-init : goal.loop-number-init
loop-number-init c = record {
  sound = c.count-number.ensures.sound;
  some = omega (arith, c.count-number.ensures.number, c.count-number.ensures.sound.shape.has_sub_heap);
  len = c.list_tails.ensures.len;
  room = c.requires.room;
  capacity = omega arith;
  so_far = rw (c.count-number.ensures.number, c.requires.empty, c.list_tails.ensures.items) (evacuating_first (is_pinned c.args.pins.now) c.args.heaps.now c.count-number.ensures.sound);
}

pub empty_if_thin-requires-clause-room : goal.empty_if_thin-requires-clause-room
empty_if_thin-requires-clause-room c =
    let few = has_room_left (is_pinned c.args.pins.now) c.args.heaps.now c.loop-number.number c.loop-number.into.items c.loop-number.emptied c.loop-number.tails.items c.loop-number.invariant.some c.loop-number.invariant.so_far in
    omega (arith, few, c.loop-number.into.ok.0, c.loop-number.invariant.room)

pub loop-number-preserved-then-empty_if_thin : goal.loop-number-preserved-then-empty_if_thin
loop-number-preserved-then-empty_if_thin c = record {
  sound = c.loop-number.invariant.sound;
  some = omega (arith, c.loop-number-test.true);
  len = omega (arith, c.empty_if_thin.ensures.len, c.loop-number.invariant.len);
  room = omega (arith, c.empty_if_thin.ensures.capacity, c.loop-number.invariant.room);
  capacity = omega (arith, c.empty_if_thin.ensures.capacity, c.loop-number.invariant.capacity);
  so_far = next (is_pinned c.args.pins.now) c.args.heaps.now c.loop-number.invariant.sound c.loop-number.number c.loop-number.into.items c.empty_if_thin.new.moves.items c.loop-number.emptied c.loop-number.tails.items c.empty_if_thin.new.tails.items true c.loop-number-test.true c.loop-number.invariant.so_far c.if-empty_if_thin.ensures.emptied;
}

pub loop-number-preserved : goal.loop-number-preserved
loop-number-preserved c = record {
  sound = c.loop-number.invariant.sound;
  some = omega (arith, c.loop-number-test.true);
  len = omega (arith, c.empty_if_thin.ensures.len, c.loop-number.invariant.len);
  room = omega (arith, c.empty_if_thin.ensures.capacity, c.loop-number.invariant.room);
  capacity = omega (arith, c.empty_if_thin.ensures.capacity, c.loop-number.invariant.capacity);
  so_far = next (is_pinned c.args.pins.now) c.args.heaps.now c.loop-number.invariant.sound c.loop-number.number c.loop-number.into.items c.empty_if_thin.new.moves.items c.loop-number.emptied c.loop-number.tails.items c.empty_if_thin.new.tails.items false c.loop-number-test.true c.loop-number.invariant.so_far c.if-empty_if_thin.ensures.emptied;
}

pub returns-clause-moves : goal.returns-clause-moves
returns-clause-moves c =
    let last : c.loop-number.number ≡ 1 = omega (arith, c.loop-number-test.false, c.loop-number.invariant.some) in
    (done (is_pinned c.args.pins.now) c.args.heaps.now c.loop-number.into.items c.loop-number.emptied c.loop-number.tails.items
    (subst (λ (n : ℕ). Evacuating (is_pinned c.args.pins.now) c.args.heaps.now n c.loop-number.into.items c.loop-number.emptied c.loop-number.tails.items) last c.loop-number.invariant.so_far)).all

pub returns-clause-emptied : goal.returns-clause-emptied
returns-clause-emptied c =
    let last : c.loop-number.number ≡ 1 = omega (arith, c.loop-number-test.false, c.loop-number.invariant.some) in
    (done (is_pinned c.args.pins.now) c.args.heaps.now c.loop-number.into.items c.loop-number.emptied c.loop-number.tails.items
    (subst (λ (n : ℕ). Evacuating (is_pinned c.args.pins.now) c.args.heaps.now n c.loop-number.into.items c.loop-number.emptied c.loop-number.tails.items) last c.loop-number.invariant.so_far)).number

pub returns-clause-legal : goal.returns-clause-legal
returns-clause-legal c =
    let last : c.loop-number.number ≡ 1 = omega (arith, c.loop-number-test.false, c.loop-number.invariant.some) in
    (done (is_pinned c.args.pins.now) c.args.heaps.now c.loop-number.into.items c.loop-number.emptied c.loop-number.tails.items
    (subst (λ (n : ℕ). Evacuating (is_pinned c.args.pins.now) c.args.heaps.now n c.loop-number.into.items c.loop-number.emptied c.loop-number.tails.items) last c.loop-number.invariant.so_far)).legal

pub returns-clause-fewer : goal.returns-clause-fewer
returns-clause-fewer c =
    let last : c.loop-number.number ≡ 1 = omega (arith, c.loop-number-test.false, c.loop-number.invariant.some) in
    (done (is_pinned c.args.pins.now) c.args.heaps.now c.loop-number.into.items c.loop-number.emptied c.loop-number.tails.items
    (subst (λ (n : ℕ). Evacuating (is_pinned c.args.pins.now) c.args.heaps.now n c.loop-number.into.items c.loop-number.emptied c.loop-number.tails.items) last c.loop-number.invariant.so_far)).fewer
