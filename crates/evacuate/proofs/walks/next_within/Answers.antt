use Rattle.std.proofs.Common.{◌≡◌, ◌/◌, ◌<◌, Bool, true, false, cond, eqb, Some, None, refl, sym, ap, ◌∙◌, arith}
use Rattle.std.specs.Bool.{then_some}
use Rattle.sub_heaps.specs.declared.objects.Object.{Object}
use Rattle.move_plan.proofs.Numbered.{find-none_in, find-some_in}
use Rattle.evacuate.proofs.walks.next_within.Goals as goal

-- no object of any sub-heap starts there or above
pub returns-in_err-object : goal.returns-in_err-object
returns-in_err-object c =
    let h = c.args.heaps.now in
    let some : 0 < h.size = omega (arith, c.next_object.ensures.sound.shape.size_least) in
    c.from_residual.ensures ∙ sym (find-none_in h.count h.size some c.args.number c.args.from c.requires h.objects (sym c.in_err-object.ensures.next))

-- an object where a test passes, and none where it fails
then_some-cond : (b : Bool) (o : Object) → then_some b o ≡ cond b (Some o) None
then_some-cond true o = refl
then_some-cond false o = refl

-- the next object is of this sub-heap, or is of a higher one
pub returns : goal.returns
returns c =
    let h = c.args.heaps.now in
    let some : 0 < h.size = omega (arith, c.size.ensures.sound.shape.size_least) in
    let o = c.in_ok-object.object in
    let next = find-some_in h.count h.size some c.args.number c.args.from c.requires 0 h.objects o c.size.ensures.sound.stand (sym c.in_ok-object.ensures.next) in
    c.then_some.ensures ∙ then_some-cond (eqb (o.at / c.size.result) c.args.number) o ∙ ap (λ n. cond (eqb (o.at / n) c.args.number) (Some o) None) c.size.ensures.bytes ∙ sym next
