use Rattle.std.proofs.Common.{◌≡◌, ap, subst, arith}
use Rattle.sub_heaps.specs.declared.summary.Summary.{Summary}
use Rattle.sub_heaps.specs.declared.tree.Tree.TheVariants.{Fork}
use Rattle.sub_heaps.specs.inner.Order.{InOrder}
use Rattle.sub_heaps.specs.inner.Summaries.{summary_of}
use Rattle.sub_heaps.specs.inner.Trees.{objects_of, IsTree}
use Rattle.sub_heaps.proofs.Order.{IsCons-append}
use Rattle.sub_heaps.proofs.Summing.{summary_bounded, extent_from-start}
use Rattle.sub_heaps.proofs.tree.Tree.extent.Goals as goal

pub overflow_add-result : goal.overflow_add-result
overflow_add-result c =
    let here = subst (IsTree c.args.size) c.in-Fork.is c.requires.tree in
    let order = subst (λ t. InOrder 0 (objects_of t)) c.in-Fork.is c.requires.order in
    let bounded = summary_bounded c.args.size (objects_of (Fork c.in-Fork.node)) order (IsCons-append _ _ _) in
    let first : c.deref.result.now.under ≡ summary_of c.args.size (objects_of (Fork c.in-Fork.node)) = cc (here.4) in
    let second : c.deref-in-Fork.result.now.under ≡ summary_of c.args.size (objects_of (Fork c.in-Fork.node)) = cc (here.4) in
    omega (arith, bounded.extent, bounded.end, ap (λ (s : Summary). s.first) first, ap (λ (s : Summary). s.extent) second)

pub returns-in-Fork : goal.returns-in-Fork
returns-in-Fork c =
    let here = subst (IsTree c.args.size) c.in-Fork.is c.requires.tree in
    let first : c.deref.result.now.under ≡ summary_of c.args.size (objects_of (Fork c.in-Fork.node)) = cc (here.4) in
    let second : c.deref-in-Fork.result.now.under ≡ summary_of c.args.size (objects_of (Fork c.in-Fork.node)) = cc (here.4) in
    rw c.in-Fork.is (rw (first, second) (extent_from-start c.args.size (objects_of (Fork c.in-Fork.node)) (IsCons-append _ _ _)))
