use Rattle.std.proofs.lemmas.Result.{IfOk-weaker}
use Rattle.type_locals.specs.inner.Marking.{marked}
use Rattle.type_locals.proofs.FurtherLocals.{func_is}
use Rattle.type_locals.proofs.locals.settled_by.Goals as goal

pub returns : goal.returns
returns c =
    let further = c.in_ok-further.further in
    IfOk-weaker c.locals_of.result _ _
    (λ v h t.
    func_is c.args.params.now c.args.types.now (marked c.args.addressed.now) t c.args.body.now.items v.items _ c.in_ok-numbers.numbers further.items c.in_ok-count.count
    c.in_ok-count.ensures c.in_ok-further.ensures c.in_ok-numbers.ensures.0 (rw c.deref.ensures.value at c.in_ok-numbers.ensures.1) (rw c.deref-3.ensures.value at h)
    (rw c.deref-2.ensures.value at c.in_ok-body_of.ensures))
    c.locals_of.ensures
