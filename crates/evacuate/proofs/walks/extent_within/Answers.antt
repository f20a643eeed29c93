use Rattle.std.proofs.Common.{◌-◌, ◌*◌, false, length, sym, ap, ◌∙◌, refl, arith}
use Rattle.sub_heaps.specs.ByPlace.{end_of}
use Rattle.sub_heaps.specs.SubHeaps.{objects_in}
use Rattle.move_plan.proofs.Rest.{rest_all, rest_none, rest_from}
use Rattle.move_plan.proofs.Numbered.{IsStepIn-found, end_bounded, stand_in}
use Rattle.evacuate.proofs.Steps.{reach, reach_step, seen_none}
use Rattle.evacuate.proofs.walks.extent_within.Goals as goal

pub loop-object-init : goal.loop-object-init
loop-object-init c =
    let h = c.args.heaps.now in
    let k = c.args.number in
    let all = rest_all h.count h.size (k * h.size) (k * h.size) (objects_in h k) (omega arith) (stand_in h c.size.ensures.sound k) in
    rw c.size.ensures.bytes (record { sound = c.size.ensures.sound; start = refl; above = omega arith; reached = (seen_none (λ _. false) h k all).reached })

pub overflow_add-at : goal.overflow_add-at
overflow_add-at c =
    let step = IsStepIn-found c.args.heaps.now c.loop-object.invariant.sound c.args.number c.loop-object.at c.in-Some.object c.in-Some.ensures in
    let bound = end_bounded c.args.heaps.now c.loop-object.invariant.sound c.args.number c.requires in
    omega (arith, step.within, bound)

pub loop-object-smaller : goal.loop-object-smaller
loop-object-smaller c =
    let step = IsStepIn-found c.args.heaps.now c.loop-object.invariant.sound c.args.number c.loop-object.at c.in-Some.object c.in-Some.ensures in
    omega (arith, ap length step.left)

pub loop-object-preserved : goal.loop-object-preserved
loop-object-preserved c =
    let h = c.args.heaps.now in
    let k = c.args.number in
    let o = c.in-Some.object in
    let step = IsStepIn-found h c.loop-object.invariant.sound k c.loop-object.at o c.in-Some.ensures in
    record {
      sound = c.loop-object.invariant.sound;
      start = c.loop-object.invariant.start;
      above = omega (arith, c.loop-object.invariant.above, step.above);
      reached = c.loop-object.invariant.reached ∙ ap (reach (k * h.size) (c.loop-object.at - k * h.size)) step.left ∙ reach_step (k * h.size) c.loop-object.at o (rest_from (end_of o) (objects_in h k)) step.above;
    }

-- the end of the sub-heap
pub returns : goal.returns
returns c =
    let h = c.args.heaps.now in
    let k = c.args.number in
    let none = rest_none c.loop-object.at (objects_in h k) (sym c.in_default.ensures) in
    ap (λ n. c.loop-object.at - k * n) c.size.ensures.bytes ∙ sym (c.loop-object.invariant.reached ∙ ap (reach (k * h.size) (c.loop-object.at - k * h.size)) none)
