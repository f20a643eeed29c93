use Rattle.std.proofs.Common.{◌≡◌, ◌<◌, ◌≤◌, subst, arith}
use Rattle.sub_heaps.specs.declared.tree.Tree.TheVariants.{Fork}
use Rattle.sub_heaps.specs.ByPlace.{with_object}
use Rattle.sub_heaps.specs.inner.Order.{InOrder}
use Rattle.sub_heaps.specs.inner.Trees.{objects_of, IsOrdered}
use Rattle.sub_heaps.proofs.Halves.{left_ordered, right_ordered, left_fits, left_grown, left_grown_sides, right_fits, right_grown, right_grown_sides, left_smaller, right_smaller}
use Rattle.sub_heaps.proofs.changes.+insert.Goals as goal

pub insert-left-requires : goal.insert-left-requires
insert-left-requires t c =
    let ordered = subst (IsOrdered c.args.size) c.in-Fork.is c.requires.ordered in
    let fits = subst (λ t. InOrder 0 (with_object c.args.new.value.object (objects_of t))) c.in-Fork.is c.requires.fits in
    let new : c.deref.result.now.object.at ≡ c.args.new.value.object.at = cc in
    let old : c.deref-2.result.now.object.at ≡ c.in-Fork.node.value.object.at = cc (c.parts-left.ensures.object) in
    let low : c.args.new.value.object.at < c.in-Fork.node.value.object.at = omega (arith, c.if-deref.true, new, old) in
    rw c.parts-left.ensures.left
    (omega (arith, c.decreases, left_smaller c.args.tree c.in-Fork.node c.in-Fork.is), (left_ordered c.args.size c.in-Fork.node ordered, left_fits c.args.size c.in-Fork.node ordered c.args.new.value.object fits low))

pub insert-right-requires : goal.insert-right-requires
insert-right-requires t c =
    let ordered = subst (IsOrdered c.args.size) c.in-Fork.is c.requires.ordered in
    let fits = subst (λ t. InOrder 0 (with_object c.args.new.value.object (objects_of t))) c.in-Fork.is c.requires.fits in
    let new : c.deref.result.now.object.at ≡ c.args.new.value.object.at = cc in
    let old : c.deref-2.result.now.object.at ≡ c.in-Fork.node.value.object.at = cc (c.parts-left.ensures.object) in
    let high : c.in-Fork.node.value.object.at ≤ c.args.new.value.object.at = omega (arith, c.if-deref.false, new, old) in
    rw c.parts-left.ensures.right
    (omega (arith, c.decreases, right_smaller c.args.tree c.in-Fork.node c.in-Fork.is), (right_ordered c.args.size c.in-Fork.node ordered, right_fits c.args.size c.in-Fork.node ordered c.args.new.value.object fits high))

pub balance-requires-clause-sides : goal.balance-requires-clause-sides
balance-requires-clause-sides t c =
    let ordered = subst (IsOrdered c.args.size) c.in-Fork.is c.requires.ordered in
    let fits = subst (λ t. InOrder 0 (with_object c.args.new.value.object (objects_of t))) c.in-Fork.is c.requires.fits in
    let new : c.deref.result.now.object.at ≡ c.args.new.value.object.at = cc in
    let old : c.deref-2.result.now.object.at ≡ c.in-Fork.node.value.object.at = cc (c.parts-left.ensures.object) in
    let low : c.args.new.value.object.at < c.in-Fork.node.value.object.at = omega (arith, c.if-deref.true, new, old) in
    let is : objects_of (Fork c.insert-left.result) ≡ with_object c.args.new.value.object (objects_of c.in-Fork.node.value.left) = rw c.parts-left.ensures.left at c.insert-left.ensures.objects in
    rw (c.parts-left.ensures.object, c.parts-left.ensures.right)
    (left_grown_sides c.args.size c.in-Fork.node ordered c.args.new.value.object fits low (Fork c.insert-left.result) is c.insert-left.ensures.tree (rw c.parts-left.ensures.left at c.insert-left.ensures.height).1)

pub returns-then-deref-clause-objects : goal.returns-then-deref-clause-objects
returns-then-deref-clause-objects t c =
    let ordered = subst (IsOrdered c.args.size) c.in-Fork.is c.requires.ordered in
    let fits = subst (λ t. InOrder 0 (with_object c.args.new.value.object (objects_of t))) c.in-Fork.is c.requires.fits in
    let new : c.deref.result.now.object.at ≡ c.args.new.value.object.at = cc in
    let old : c.deref-2.result.now.object.at ≡ c.in-Fork.node.value.object.at = cc (c.parts-left.ensures.object) in
    let low : c.args.new.value.object.at < c.in-Fork.node.value.object.at = omega (arith, c.if-deref.true, new, old) in
    let is : objects_of (Fork c.insert-left.result) ≡ with_object c.args.new.value.object (objects_of c.in-Fork.node.value.left) = rw c.parts-left.ensures.left at c.insert-left.ensures.objects in
    rw c.in-Fork.is (cc (c.balance.ensures.objects, c.parts-left.ensures.object, c.parts-left.ensures.right, left_grown c.args.size c.in-Fork.node ordered c.args.new.value.object fits low (Fork c.insert-left.result) is))

pub balance-requires-else-deref-clause-sides : goal.balance-requires-else-deref-clause-sides
balance-requires-else-deref-clause-sides t c =
    let ordered = subst (IsOrdered c.args.size) c.in-Fork.is c.requires.ordered in
    let fits = subst (λ t. InOrder 0 (with_object c.args.new.value.object (objects_of t))) c.in-Fork.is c.requires.fits in
    let new : c.deref.result.now.object.at ≡ c.args.new.value.object.at = cc in
    let old : c.deref-2.result.now.object.at ≡ c.in-Fork.node.value.object.at = cc (c.parts-left.ensures.object) in
    let high : c.in-Fork.node.value.object.at ≤ c.args.new.value.object.at = omega (arith, c.if-deref.false, new, old) in
    let is : objects_of (Fork c.insert-right.result) ≡ with_object c.args.new.value.object (objects_of c.in-Fork.node.value.right) = rw c.parts-left.ensures.right at c.insert-right.ensures.objects in
    rw (c.parts-left.ensures.object, c.parts-left.ensures.left)
    (right_grown_sides c.args.size c.in-Fork.node ordered c.args.new.value.object fits high (Fork c.insert-right.result) is c.insert-right.ensures.tree (rw c.parts-left.ensures.right at c.insert-right.ensures.height).1)

pub returns-else-deref-clause-objects : goal.returns-else-deref-clause-objects
returns-else-deref-clause-objects t c =
    let ordered = subst (IsOrdered c.args.size) c.in-Fork.is c.requires.ordered in
    let fits = subst (λ t. InOrder 0 (with_object c.args.new.value.object (objects_of t))) c.in-Fork.is c.requires.fits in
    let new : c.deref.result.now.object.at ≡ c.args.new.value.object.at = cc in
    let old : c.deref-2.result.now.object.at ≡ c.in-Fork.node.value.object.at = cc (c.parts-left.ensures.object) in
    let high : c.in-Fork.node.value.object.at ≤ c.args.new.value.object.at = omega (arith, c.if-deref.false, new, old) in
    let is : objects_of (Fork c.insert-right.result) ≡ with_object c.args.new.value.object (objects_of c.in-Fork.node.value.right) = rw c.parts-left.ensures.right at c.insert-right.ensures.objects in
    rw c.in-Fork.is (cc (c.balance-else-deref.ensures.objects, c.parts-left.ensures.object, c.parts-left.ensures.left, right_grown c.args.size c.in-Fork.node ordered c.args.new.value.object fits high (Fork c.insert-right.result) is))
