use Rattle.std.proofs.Common.{get_or, refl}
use Rattle.c_typing.specs.Numbering.{is_in}
use Rattle.type_locals.specs.inner.Marking.{marked}
use Rattle.type_locals.proofs.Marked.{in_more}
use Rattle.type_locals.proofs.marks.Marks.of.Goals as goal

pub numbers-preserved : goal.numbers-preserved
numbers-preserved c = λ k.
    in_more k c.numbers.n-index (get_or c.args.numbers.now c.numbers.n-index 0) c.args.numbers.now (is_in k (marked c.numbers.marks)) (is_in k (marked c.add.new.self)) c.numbers-test.true refl (c.in_ok-add.ensures k) (c.numbers.invariant k)
