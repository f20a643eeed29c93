use Rattle.std.proofs.Common.{◌≡◌, ◌/◌, ◌<◌, Bool, true, false, cond, eqb, leb, List, Some, None, refl, sym, ap, ◌∙◌, subst, arith}
use Rattle.std.specs.Bool.{then_some}
use Rattle.std.specs.List.{find}
use Rattle.sub_heaps.specs.declared.objects.Object.{Object}
use Rattle.move_plan.proofs.Numbered.{find-none_in, find-some_in}
use Rattle.move_plan.proofs.rooms.next_within.Goals as goal

-- no object of any sub-heap starts there or above
pub returns-in_err-object-clause-next : goal.returns-in_err-object-clause-next
returns-in_err-object-clause-next c =
    let h = c.args.heaps.now in
    let some : 0 < h.size = omega (arith, c.size-size.ensures.sound.shape.size_least) in
    let none = subst (λ (os : List Object). None ≡ find (λ o. leb c.args.from o.at) os) c.requires.objects c.in_err-object.ensures.next in
    c.from_residual.ensures ∙ sym (find-none_in h.count h.size some c.args.number c.args.from c.requires.start h.objects (sym none))

-- an object where a test passes, and none where it fails
then_some-cond : (b : Bool) (o : Object) → then_some b o ≡ cond b (Some o) None
then_some-cond true o = refl
then_some-cond false o = refl

-- the next object is of this sub-heap, or is of a higher one
pub returns-clause-next : goal.returns-clause-next
returns-clause-next c =
    let h = c.args.heaps.now in
    let some : 0 < h.size = omega (arith, c.size-size.ensures.sound.shape.size_least) in
    let o = c.in_ok-object.object in
    let found = subst (λ (os : List Object). Some o ≡ find (λ o. leb c.args.from o.at) os) c.requires.objects c.in_ok-object.ensures.next in
    let next = find-some_in h.count h.size some c.args.number c.args.from c.requires.start 0 h.objects o c.size-size.ensures.sound.stand (sym found) in
    c.then_some.ensures ∙ then_some-cond (eqb (o.at / c.size-size.result) c.args.number) o ∙ ap (λ n. cond (eqb (o.at / n) c.args.number) (Some o) None) c.size-size.ensures.bytes ∙ sym next
