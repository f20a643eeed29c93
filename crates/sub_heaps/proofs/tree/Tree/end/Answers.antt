use Rattle.std.proofs.Common.{◌≡◌, subst}
use Rattle.sub_heaps.specs.declared.tree.Tree.TheVariants.{Fork}
use Rattle.sub_heaps.specs.inner.Summaries.{summary_of}
use Rattle.sub_heaps.specs.inner.Trees.{objects_of, IsTree}
use Rattle.sub_heaps.proofs.Order.{IsCons-append, last_end-cons}
use Rattle.sub_heaps.proofs.tree.Tree.end.Goals as goal

pub returns-in-Fork : goal.returns-in-Fork
returns-in-Fork c = λ size tree.
    let here = subst (IsTree size) c.in-Fork.is tree in
    let known : c.deref.result.now.under ≡ summary_of size (objects_of (Fork c.in-Fork.node)) = cc (here.4) in
    rw (c.in-Fork.is, known) (last_end-cons 0 c.args.from (objects_of (Fork c.in-Fork.node)) (IsCons-append _ _ _))
