use Rattle.std.proofs.Common.{◌≡◌, ◌<◌, length, sym, subst, arith}
use Rattle.sub_heaps.specs.declared.tree.Tree.TheVariants.{Fork}
use Rattle.sub_heaps.specs.ByPlace.{with_object}
use Rattle.sub_heaps.specs.SubHeaps.{SubHeaps, FitsAt}
use Rattle.sub_heaps.specs.inner.Trees.{objects_of}
use Rattle.sub_heaps.proofs.Kept.{tree_ordered, with_object_in_order, IsKept-with_object}
use Rattle.sub_heaps.proofs.placement.Heaps.put.Goals as goal

pub insert-requires-clause-ordered : goal.insert-requires-clause-ordered
insert-requires-clause-ordered c =
    rw c.replace-tree.ensures.value (tree_ordered c.self.inside.count c.self.inside.size c.self.inside.most c.self.inside.tree _ _ c.self.invariant)

pub insert-requires-clause-fits : goal.insert-requires-clause-fits
insert-requires-clause-fits c =
    let few = subst (λ (h : SubHeaps). length h.objects < h.most) (sym c.self.view_is) c.requires.room in
    let fits = subst (λ h. FitsAt h c.args.object.size c.args.object.at) (sym c.self.view_is) c.requires.fits in
    rw c.replace-tree.ensures.value (with_object_in_order c.self.inside.count c.self.inside.size c.self.inside.most c.self.inside.tree _ _ c.self.invariant c.args.object few c.requires.rounded fits)

pub invariant_of-self : goal.invariant_of-self
invariant_of-self c =
    let few = subst (λ (h : SubHeaps). length h.objects < h.most) (sym c.self.view_is) c.requires.room in
    let fits = subst (λ h. FitsAt h c.args.object.size c.args.object.at) (sym c.self.view_is) c.requires.fits in
    let is : objects_of (Fork c.insert.result) ≡ with_object c.args.object (objects_of c.self.inside.tree) = rw c.replace-tree.ensures.value at c.insert.ensures.objects in
    IsKept-with_object c.self.inside.count c.self.inside.size c.self.inside.most c.self.inside.tree _ _ c.self.invariant c.args.object (Fork c.insert.result) _ _ few c.requires.rounded fits c.insert.ensures.tree is
    (omega (arith, c.in-Some.ensures.len, c.self.invariant.nodes, few)) (omega (arith, c.in-Some.ensures.capacity, c.self.invariant.given_back))

pub returns-clause-sound : goal.returns-clause-sound
returns-clause-sound c = (invariant_of-self c).sound
