use Rattle.std.proofs.Common.{◌≡◌, ◌<◌, ◌∙◌, subst, IsSome, arith}
use Rattle.sub_heaps.specs.ByPlace.{object_at, without}
use Rattle.sub_heaps.specs.inner.Trees.{objects_of, IsOrdered}
use Rattle.sub_heaps.proofs.Halves.{left_ordered, right_ordered, left_found, left_shrunk, left_shrunk_sides, right_found, right_shrunk, right_shrunk_sides, own_found, own_gone, sides_apart, left_smaller, right_smaller}
use Rattle.sub_heaps.proofs.changes.+remove.Goals as goal

-- ---- to the left

pub remove-gone-requires : goal.remove-gone-requires
remove-gone-requires t c =
    let ordered = subst (IsOrdered c.args.size) c.in-Fork.is c.requires.ordered in
    let old : c.deref.result.now.object.at ≡ c.in-Fork.node.value.object.at = cc (c.parts-left.ensures.object) in
    let low : c.args.at < c.in-Fork.node.value.object.at = omega (arith, c.if-at-deref.true, old) in
    let found = subst (λ t. IsSome (object_at c.args.at (objects_of t))) c.in-Fork.is c.requires.found in
    rw c.parts-left.ensures.left
    (omega (arith, c.decreases, left_smaller c.args.tree c.in-Fork.node c.in-Fork.is), (left_ordered c.args.size c.in-Fork.node ordered, rw (left_found c.args.size c.in-Fork.node ordered c.args.at low) at found))

pub balance-requires-clause-sides : goal.balance-requires-clause-sides
balance-requires-clause-sides t c =
    let ordered = subst (IsOrdered c.args.size) c.in-Fork.is c.requires.ordered in
    let old : c.deref.result.now.object.at ≡ c.in-Fork.node.value.object.at = cc (c.parts-left.ensures.object) in
    let low : c.args.at < c.in-Fork.node.value.object.at = omega (arith, c.if-at-deref.true, old) in
    let is : objects_of c.remove-gone.result.1 ≡ without c.args.at (objects_of c.in-Fork.node.value.left) = rw c.parts-left.ensures.left at c.remove-gone.ensures.objects in
    rw (c.parts-left.ensures.object, c.parts-left.ensures.right)
    (left_shrunk_sides c.args.size c.in-Fork.node ordered c.args.at low c.remove-gone.result.1 is c.remove-gone.ensures.tree (rw c.parts-left.ensures.left at c.remove-gone.ensures.height).0)

pub returns-then-at-deref-clause-node : goal.returns-then-at-deref-clause-node
returns-then-at-deref-clause-node t c =
    let ordered = subst (IsOrdered c.args.size) c.in-Fork.is c.requires.ordered in
    let old : c.deref.result.now.object.at ≡ c.in-Fork.node.value.object.at = cc (c.parts-left.ensures.object) in
    let low : c.args.at < c.in-Fork.node.value.object.at = omega (arith, c.if-at-deref.true, old) in
    rw c.in-Fork.is (left_found c.args.size c.in-Fork.node ordered c.args.at low ∙ rw c.parts-left.ensures.left at c.remove-gone.ensures.node)

pub returns-then-at-deref-clause-objects : goal.returns-then-at-deref-clause-objects
returns-then-at-deref-clause-objects t c =
    let ordered = subst (IsOrdered c.args.size) c.in-Fork.is c.requires.ordered in
    let old : c.deref.result.now.object.at ≡ c.in-Fork.node.value.object.at = cc (c.parts-left.ensures.object) in
    let low : c.args.at < c.in-Fork.node.value.object.at = omega (arith, c.if-at-deref.true, old) in
    let is : objects_of c.remove-gone.result.1 ≡ without c.args.at (objects_of c.in-Fork.node.value.left) = rw c.parts-left.ensures.left at c.remove-gone.ensures.objects in
    rw c.in-Fork.is (cc (c.balance.ensures.objects, c.parts-left.ensures.object, c.parts-left.ensures.right, left_shrunk c.args.size c.in-Fork.node ordered c.args.at low c.remove-gone.result.1 is))

-- ---- to the right

pub remove-gone-requires-then-deref-at : goal.remove-gone-requires-then-deref-at
remove-gone-requires-then-deref-at t c =
    let ordered = subst (IsOrdered c.args.size) c.in-Fork.is c.requires.ordered in
    let old : c.deref-else-at-deref.result.now.object.at ≡ c.in-Fork.node.value.object.at = cc (c.parts-left.ensures.object) in
    let high : c.in-Fork.node.value.object.at < c.args.at = omega (arith, c.if-deref-at.true, old) in
    let found = subst (λ t. IsSome (object_at c.args.at (objects_of t))) c.in-Fork.is c.requires.found in
    rw c.parts-left.ensures.right
    (omega (arith, c.decreases, right_smaller c.args.tree c.in-Fork.node c.in-Fork.is), (right_ordered c.args.size c.in-Fork.node ordered, rw (right_found c.args.size c.in-Fork.node ordered c.args.at high) at found))

pub balance-requires-then-deref-at-clause-sides : goal.balance-requires-then-deref-at-clause-sides
balance-requires-then-deref-at-clause-sides t c =
    let ordered = subst (IsOrdered c.args.size) c.in-Fork.is c.requires.ordered in
    let old : c.deref-else-at-deref.result.now.object.at ≡ c.in-Fork.node.value.object.at = cc (c.parts-left.ensures.object) in
    let high : c.in-Fork.node.value.object.at < c.args.at = omega (arith, c.if-deref-at.true, old) in
    let is : objects_of c.remove-gone-then-deref-at.result.1 ≡ without c.args.at (objects_of c.in-Fork.node.value.right) = rw c.parts-left.ensures.right at c.remove-gone-then-deref-at.ensures.objects in
    rw (c.parts-left.ensures.object, c.parts-left.ensures.left)
    (right_shrunk_sides c.args.size c.in-Fork.node ordered c.args.at high c.remove-gone-then-deref-at.result.1 is c.remove-gone-then-deref-at.ensures.tree (rw c.parts-left.ensures.right at c.remove-gone-then-deref-at.ensures.height).0)

pub returns-then-deref-at-clause-node : goal.returns-then-deref-at-clause-node
returns-then-deref-at-clause-node t c =
    let ordered = subst (IsOrdered c.args.size) c.in-Fork.is c.requires.ordered in
    let old : c.deref-else-at-deref.result.now.object.at ≡ c.in-Fork.node.value.object.at = cc (c.parts-left.ensures.object) in
    let high : c.in-Fork.node.value.object.at < c.args.at = omega (arith, c.if-deref-at.true, old) in
    rw c.in-Fork.is (right_found c.args.size c.in-Fork.node ordered c.args.at high ∙ rw c.parts-left.ensures.right at c.remove-gone-then-deref-at.ensures.node)

pub returns-then-deref-at-clause-objects : goal.returns-then-deref-at-clause-objects
returns-then-deref-at-clause-objects t c =
    let ordered = subst (IsOrdered c.args.size) c.in-Fork.is c.requires.ordered in
    let old : c.deref-else-at-deref.result.now.object.at ≡ c.in-Fork.node.value.object.at = cc (c.parts-left.ensures.object) in
    let high : c.in-Fork.node.value.object.at < c.args.at = omega (arith, c.if-deref-at.true, old) in
    let is : objects_of c.remove-gone-then-deref-at.result.1 ≡ without c.args.at (objects_of c.in-Fork.node.value.right) = rw c.parts-left.ensures.right at c.remove-gone-then-deref-at.ensures.objects in
    rw c.in-Fork.is (cc (c.balance-then-deref-at.ensures.objects, c.parts-left.ensures.object, c.parts-left.ensures.left, right_shrunk c.args.size c.in-Fork.node ordered c.args.at high c.remove-gone-then-deref-at.result.1 is))

-- ---- the node itself

pub meld-requires : goal.meld-requires
meld-requires t c =
    let ordered = subst (IsOrdered c.args.size) c.in-Fork.is c.requires.ordered in
    rw (c.parts-left.ensures.left, c.parts-left.ensures.right) (record { apart = sides_apart c.args.size c.in-Fork.node ordered })

pub returns-else-deref-at-clause-node : goal.returns-else-deref-at-clause-node
returns-else-deref-at-clause-node t c =
    let ordered = subst (IsOrdered c.args.size) c.in-Fork.is c.requires.ordered in
    let first : c.deref.result.now.object.at ≡ c.in-Fork.node.value.object.at = cc (c.parts-left.ensures.object) in
    let second : c.deref-else-at-deref.result.now.object.at ≡ c.in-Fork.node.value.object.at = cc (c.parts-left.ensures.object) in
    let here : c.in-Fork.node.value.object.at ≡ c.args.at = omega (arith, c.if-at-deref.false, c.if-deref-at.false, first, second) in
    rw (c.in-Fork.is, c.parts-left.ensures.object) (own_found c.args.size c.in-Fork.node ordered c.args.at here)

pub returns-else-deref-at-clause-objects : goal.returns-else-deref-at-clause-objects
returns-else-deref-at-clause-objects t c =
    let ordered = subst (IsOrdered c.args.size) c.in-Fork.is c.requires.ordered in
    let first : c.deref.result.now.object.at ≡ c.in-Fork.node.value.object.at = cc (c.parts-left.ensures.object) in
    let second : c.deref-else-at-deref.result.now.object.at ≡ c.in-Fork.node.value.object.at = cc (c.parts-left.ensures.object) in
    let here : c.in-Fork.node.value.object.at ≡ c.args.at = omega (arith, c.if-at-deref.false, c.if-deref-at.false, first, second) in
    rw c.in-Fork.is (cc (c.meld.ensures.objects, c.parts-left.ensures.left, c.parts-left.ensures.right, own_gone c.args.size c.in-Fork.node ordered c.args.at here))
