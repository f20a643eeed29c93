use Rattle.std.proofs.Common.{◌≡◌, ◌+◌, ◌-◌, ◌*◌, ◌≤◌, max, true, false, cond, length, sym, ap, ◌∙◌, refl, arith}
use Rattle.sub_heaps.specs.ByPlace.{end_of}
use Rattle.sub_heaps.specs.SubHeaps.{objects_in}
use Rattle.move_plan.specs.Holding.{is_pinned}
use Rattle.move_plan.specs.Stretches.{room_in}
use Rattle.move_plan.proofs.Rest.{rest_all, rest_none, rest_from}
use Rattle.move_plan.proofs.Numbered.{IsStepIn-found, end_bounded, room_in-room_from, stand_in}
use Rattle.move_plan.proofs.Sweep.{room_from}
use Rattle.move_plan.proofs.rooms.room_within.Goals.{then-has, else-has}
use Rattle.move_plan.proofs.rooms.room_within.Goals as goal

pub overflow_mul-at : goal.overflow_mul-at
overflow_mul-at c = omega (arith, end_bounded c.args.heaps.now c.size-size.ensures.sound c.args.number c.requires, ap (λ n. c.args.number * n) c.size-size.ensures.bytes)

pub overflow_add-end : goal.overflow_add-end
overflow_add-end c =
    omega (arith, end_bounded c.args.heaps.now c.size-size.ensures.sound c.args.number c.requires, ap (λ n. c.args.number * n) c.size-size.ensures.bytes, c.size-size.ensures.bytes)

pub loop-object-init : goal.loop-object-init
loop-object-init c =
    let h = c.args.heaps.now in
    let k = c.args.number in
    let all = rest_all h.count h.size (k * h.size) (k * h.size) (objects_in h k) (omega arith) (stand_in h c.size-size.ensures.sound k) in
    rw c.size-size.ensures.bytes (record {
      sound = c.size-size.ensures.sound;
      reader = c.reader-reader.ensures.objects;
      size = refl;
      end = refl;
      start = omega arith;
      within = omega arith;
      held = omega arith;
      room = rw all (sym (room_in-room_from h c.size-size.ensures.sound (is_pinned c.args.pins.now) k));
    })

-- the step over an object
pub overflow_sub-object : goal.overflow_sub-object
overflow_sub-object c =
    let step = IsStepIn-found c.args.heaps.now c.loop-object.invariant.sound c.args.number c.loop-object.at c.in-Some.object c.in-Some.ensures.next in
    omega (arith, step.above, c.loop-object.invariant.held)

pub overflow_sub-object-then-has : goal.overflow_sub-object-then-has
overflow_sub-object-then-has c =
    let step = IsStepIn-found c.args.heaps.now c.loop-object.invariant.sound c.args.number c.loop-object.at c.in-Some.object c.in-Some.ensures.next in
    omega (arith, step.above, c.loop-object.invariant.held)

pub overflow_add-from : goal.overflow_add-from
overflow_add-from c =
    let step = IsStepIn-found c.args.heaps.now c.loop-object.invariant.sound c.args.number c.loop-object.at c.in-Some.object c.in-Some.ensures.next in
    let bound = end_bounded c.args.heaps.now c.loop-object.invariant.sound c.args.number c.requires in
    omega (arith, step.within, bound)

pub overflow_add-held : goal.overflow_add-held
overflow_add-held c =
    let step = IsStepIn-found c.args.heaps.now c.loop-object.invariant.sound c.args.number c.loop-object.at c.in-Some.object c.in-Some.ensures.next in
    let bound = end_bounded c.args.heaps.now c.loop-object.invariant.sound c.args.number c.requires in
    omega (arith, step.within, step.above, bound, c.loop-object.invariant.held)

pub overflow_add-at : goal.overflow_add-at
overflow_add-at c =
    let step = IsStepIn-found c.args.heaps.now c.loop-object.invariant.sound c.args.number c.loop-object.at c.in-Some.object c.in-Some.ensures.next in
    let bound = end_bounded c.args.heaps.now c.loop-object.invariant.sound c.args.number c.requires in
    omega (arith, step.within, bound)

pub loop-object-smaller : goal.loop-object-smaller
loop-object-smaller c =
    let step = IsStepIn-found c.args.heaps.now c.loop-object.invariant.sound c.args.number c.loop-object.at c.in-Some.object c.in-Some.ensures.next in
    omega (arith, ap length step.left)

pub loop-object-preserved : goal.loop-object-preserved
loop-object-preserved c =
    let h = c.args.heaps.now in
    let o = c.in-Some.object in
    let pinned = is_pinned c.args.pins.now in
    let from = c.loop-object.from in
    let held = c.loop-object.held in
    let greatest = c.loop-object.greatest in
    let end = c.args.number * c.size-size.result + c.size-size.result in
    let rest = rest_from (end_of o) (objects_in h c.args.number) in
    let room = room_in pinned h c.args.number in
    let step = IsStepIn-found c.args.heaps.now c.loop-object.invariant.sound c.args.number c.loop-object.at c.in-Some.object c.in-Some.ensures.next in
    let opened : cond (pinned o.at) (room_from pinned (end_of o) 0 end (max greatest (o.at - from - held)) rest) (room_from pinned from (held + o.size) end greatest rest) ≡ room =
    ap (room_from pinned from held end greatest) (sym step.left) ∙ c.loop-object.invariant.room in
    let walked : (c.if-has.from + c.if-has.held ≤ end_of o) × (room_from pinned c.if-has.from c.if-has.held end c.if-has.greatest rest ≡ room) =
    elim c.if-has.branch [
      | then-has w ↦
          let is : pinned o.at ≡ true = sym w.if-has.ensures.member in
          (omega (arith, w.from-is, w.held-is), rw (w.from-is, w.held-is, w.greatest-is, w.max-greatest.ensures) (rw is at opened))
      | else-has w ↦
          let is : pinned o.at ≡ false = sym w.if-has.ensures.member in
          (omega (arith, w.from-is, w.held-is, c.loop-object.invariant.held, step.above), rw (w.from-is, w.held-is, w.greatest-is) (rw is at opened))
    ] in
    record {
      sound = c.loop-object.invariant.sound;
      reader = c.in-Some.ensures.same ∙ c.loop-object.invariant.reader;
      end = c.loop-object.invariant.end;
      size = c.loop-object.invariant.size;
      start = omega (arith, c.loop-object.invariant.start, step.above);
      within = omega (arith, step.within, c.loop-object.invariant.end);
      held = walked.0;
      room = walked.1;
    }

-- the end of the sub-heap
pub returns : goal.returns
returns c =
    let none = rest_none c.loop-object.at (objects_in c.args.heaps.now c.args.number) (sym c.in_default.ensures.next) in
    c.max.ensures ∙ (rw none at c.loop-object.invariant.room)
