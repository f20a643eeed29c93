use Rattle.std.proofs.Common.{◌≡◌, Some, IsSome, sym, subst, arith}
use Rattle.sub_heaps.specs.ByPlace.{object_at, without}
use Rattle.sub_heaps.specs.SubHeaps.{SubHeaps, IsRounded}
use Rattle.sub_heaps.specs.inner.Trees.{objects_of}
use Rattle.sub_heaps.proofs.Kept.{tree_ordered, IsKept-without}
use Rattle.sub_heaps.proofs.Standing.{each_rounded}
use Rattle.sub_heaps.proofs.Taken.{found_each}
use Rattle.sub_heaps.proofs.placement.Heaps.take.Goals as goal

pub remove-node-requires-clause-ordered : goal.remove-node-requires-clause-ordered
remove-node-requires-clause-ordered c =
    rw c.replace-tree.ensures.value (tree_ordered c.self.inside.count c.self.inside.size c.self.inside.most c.self.inside.tree _ _ c.self.invariant)

pub invariant_of-self : goal.invariant_of-self
invariant_of-self c =
    let found = subst (λ (h : SubHeaps). IsSome (object_at c.args.at h.objects)) (sym c.self.view_is) c.requires in
    let is : objects_of c.remove-node.result.1 ≡ without c.args.at (objects_of c.self.inside.tree) = rw c.replace-tree.ensures.value at c.remove-node.ensures.objects in
    IsKept-without c.self.inside.count c.self.inside.size c.self.inside.most c.self.inside.tree _ _ c.self.invariant c.args.at c.remove-node.result.1 _ _ found c.remove-node.ensures.tree is
    (omega (arith, c.give_back.ensures.more)) (omega (arith, c.give_back.ensures.capacity, c.self.invariant.given_back))

pub returns-clause-sound : goal.returns-clause-sound
returns-clause-sound c = (invariant_of-self c).sound

pub returns-clause-room : goal.returns-clause-room
returns-clause-room c = let kept = invariant_of-self c in omega (arith, kept.nodes, c.give_back.ensures.more)

pub returns-clause-rounded : goal.returns-clause-rounded
returns-clause-rounded c =
    let found : object_at c.args.at (objects_of c.self.inside.tree) ≡ Some c.remove-node.result.0.value.object = rw c.replace-tree.ensures.value at c.remove-node.ensures.node in
    let each = each_rounded c.self.inside.count c.self.inside.size 0 (objects_of c.self.inside.tree) c.self.invariant.sound.stand in
    let rounded = found_each (λ o. IsRounded o.size) c.args.at (objects_of c.self.inside.tree) c.remove-node.result.0.value.object found each in
    let same : c.deref.result.now.object ≡ c.remove-node.result.0.value.object = cc in
    rw same rounded
