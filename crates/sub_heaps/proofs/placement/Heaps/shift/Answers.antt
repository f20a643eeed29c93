use Rattle.std.proofs.Common.{ap, sym, ◌∙◌, subst, List}
use Rattle.sub_heaps.specs.declared.objects.Object.{Object}
use Rattle.sub_heaps.specs.SubHeaps.{IsSound, IsAligned}
use Rattle.sub_heaps.proofs.Fits.{objects_in_order}
use Rattle.sub_heaps.proofs.Shifting.{IsSound-shifted, IsAligned-shifted, walked-shifted}
use Rattle.sub_heaps.proofs.placement.Heaps.shift.Goals as goal

pub make_in_order-requires : goal.make_in_order-requires
make_in_order-requires c =
    let same = walked-shifted (record { from = c.args.from; to = c.args.to; size = c.in-Some.next.size }) 0 c.args.self.now.objects c.in-Some.next (objects_in_order c.args.self.now c.next_object.ensures.sound) (sym c.in-Some.ensures.next) c.if-next-from.true in
    subst (λ (xs : List Object). IsSound (record c.args.self.now { objects = xs })) (sym same) (IsSound-shifted c.args.from c.args.to c.args.self.now c.next_object.ensures.sound c.requires)

pub returns-in-Some-clause-moved : goal.returns-in-Some-clause-moved
returns-in-Some-clause-moved c =
    let same = walked-shifted (record { from = c.args.from; to = c.args.to; size = c.in-Some.next.size }) 0 c.args.self.now.objects c.in-Some.next (objects_in_order c.args.self.now c.next_object.ensures.sound) (sym c.in-Some.ensures.next) c.if-next-from.true in
    c.make_in_order.ensures.made ∙ ap (λ (xs : List Object). record c.args.self.now { objects = xs }) same

pub returns-in-Some-clause-still_aligned : goal.returns-in-Some-clause-still_aligned
returns-in-Some-clause-still_aligned c = λ multiple aligned.
    subst (λ h. IsAligned h) (sym (returns-in-Some-clause-moved c)) (IsAligned-shifted c.args.from c.args.to c.args.self.now multiple aligned)

pub returns-in_default-clause-still_aligned : goal.returns-in_default-clause-still_aligned
returns-in_default-clause-still_aligned c = λ multiple aligned.
    subst (λ h. IsAligned h) (sym c.put_again.ensures.moved) (IsAligned-shifted c.args.from c.args.to c.args.self.now multiple aligned)
