use Rattle.std.proofs.Common.{◌≡◌, ℕ, ◌∷◌, ◌++◌, [], ◌∙◌, ap, sym, subst, arith, vec_capacity}
use Rattle.std.proofs.lemmas.Bool.{true≢false}
use Rattle.sub_heaps.specs.declared.tree.Node.{Node}
use Rattle.sub_heaps.specs.declared.tree.Tree.TheVariants.{Fork}
use Rattle.sub_heaps.specs.inner.Order.{InOrder, last_end}
use Rattle.sub_heaps.specs.inner.Trees.{objects_of, IsTree, IsOrdered}
use Rattle.sub_heaps.specs.inner.Walks.{walked, left_over, StartsBelow}
use Rattle.sub_heaps.proofs.Halves.{left_ordered, right_ordered, left_smaller, right_smaller}
use Rattle.sub_heaps.proofs.Walked.{walked-none, left_over-none, walked-fork, left_over-fork, walked_behind, walked_before, starts_below_end, walked-below, left_over-below}
use Rattle.sub_heaps.proofs.Noted.{Notes-fork, Notes-none, owners_met-below, owners_met-none}
use Rattle.sub_heaps.proofs.walk.+walk.Goals as goal
use Rattle.sub_heaps.proofs.walk.+walk.Goals.{After-step-moves, Then-not-starts_below}

-- ---- an empty tree

pub returns-in_default-clause-left : goal.returns-in_default-clause-left
returns-in_default-clause-left t c = rw c.in_default.is (sym (left_over-none c.args.moves.now))

pub returns-in_default-clause-objects : goal.returns-in_default-clause-objects
returns-in_default-clause-objects t c = rw c.in_default.is (sym (walked-none c.args.moves.now))

pub returns-in_default-clause-owners : goal.returns-in_default-clause-owners
returns-in_default-clause-owners t c = rw c.in_default.is (Notes-none c.args.owners.now.items c.args.moves.now [] (vec_capacity c.args.owners.now) (owners_met-none c.args.moves.now))

-- ---- no move below the end

not_below : (t : ℕ) (c : Then-not-starts_below t) → StartsBelow (last_end 0 (objects_of c.args.tree.now)) c.args.moves.now → ⊥
not_below t c below = true≢false (sym (c.starts_below.ensures.1 (rw c.requires.end below)) ∙ c.if-not-starts_below.true)

pub returns-then-not-starts_below-clause-left : goal.returns-then-not-starts_below-clause-left
returns-then-not-starts_below-clause-left t c =
    let high = not_below t (goal.at.returns-then-not-starts_below-clause-left t c).Then-not-starts_below in
    sym (left_over-below (last_end 0 (objects_of c.args.tree.now)) c.args.moves.now (objects_of c.args.tree.now) high (starts_below_end 0 (objects_of c.args.tree.now) c.requires.ordered.order))

pub returns-then-not-starts_below-clause-objects : goal.returns-then-not-starts_below-clause-objects
returns-then-not-starts_below-clause-objects t c =
    let high = not_below t (goal.at.returns-then-not-starts_below-clause-objects t c).Then-not-starts_below in
    let same = walked-below (last_end 0 (objects_of c.args.tree.now)) c.args.moves.now (objects_of c.args.tree.now) high (starts_below_end 0 (objects_of c.args.tree.now) c.requires.ordered.order) in
    rw c.in-Fork.is (sym (subst (λ t. walked c.args.moves.now (objects_of t) ≡ objects_of t) c.in-Fork.is same))

pub returns-then-not-starts_below-clause-owners : goal.returns-then-not-starts_below-clause-owners
returns-then-not-starts_below-clause-owners t c =
    let high = not_below t (goal.at.returns-then-not-starts_below-clause-owners t c).Then-not-starts_below in
    Notes-none c.args.owners.now.items c.args.moves.now (objects_of c.args.tree.now) (vec_capacity c.args.owners.now)
    (owners_met-below (last_end 0 (objects_of c.args.tree.now)) c.args.moves.now (objects_of c.args.tree.now) high (starts_below_end 0 (objects_of c.args.tree.now) c.requires.ordered.order))

-- ---- the left side

pub walk-moves-requires : goal.walk-moves-requires
walk-moves-requires t c =
    let ordered = subst (IsOrdered c.args.size) c.in-Fork.is c.requires.ordered in
    let order = subst (λ t. InOrder 0 (walked c.args.moves.now (objects_of t))) c.in-Fork.is c.requires.in_order in
    let left : c.deref_mut.result.now.left ≡ c.in-Fork.node.value.left = cc in
    let known : c.deref.result.now.left ≡ c.in-Fork.node.value.left = cc in
    let inside = left_ordered c.args.size c.in-Fork.node ordered in
    let end = c.end-low_end.ensures c.args.size (subst (IsTree c.args.size) (sym known) inside.tree) in
    (rw left (omega (arith, c.decreases, left_smaller c.args.tree.now c.in-Fork.node c.in-Fork.is)), (rw left (rw known at end), (rw left inside, rw left (walked_before c.args.moves.now (objects_of c.in-Fork.node.value.left) _ order))))

-- ---- the object between the two sides

passed : (t : ℕ) (c : After-step-moves t) → c.walk-moves.result.now ≡ left_over c.args.moves.now (objects_of c.in-Fork.node.value.left)
passed t c = (let left : c.deref_mut.result.now.left ≡ c.in-Fork.node.value.left = cc in rw left at c.walk-moves.ensures.left)

stepped : (t : ℕ) (c : After-step-moves t) → c.step-moves.new.object ∷ [] ≡ walked (left_over c.args.moves.now (objects_of c.in-Fork.node.value.left)) (c.in-Fork.node.value.object ∷ [])
stepped t c =
    let object : c.deref_mut-2.result.now.object ≡ c.in-Fork.node.value.object = cc in
    rw (passed t c, object) at c.step-moves.ensures.object

left_behind : (t : ℕ) (c : After-step-moves t) → c.step-moves.result.now ≡ left_over (left_over c.args.moves.now (objects_of c.in-Fork.node.value.left)) (c.in-Fork.node.value.object ∷ [])
left_behind t c =
    let object : c.deref_mut-2.result.now.object ≡ c.in-Fork.node.value.object = cc in
    rw (passed t c, object) at c.step-moves.ensures.left

-- the objects after the walk, in their parts
forked : (t : ℕ) (c : After-step-moves t) → walked c.args.moves.now (objects_of (Fork c.in-Fork.node)) ≡ walked c.args.moves.now (objects_of c.in-Fork.node.value.left) ++ c.step-moves.new.object ∷ walked c.step-moves.result.now (objects_of c.in-Fork.node.value.right)
forked t c = walked-fork c.args.moves.now (objects_of c.in-Fork.node.value.left) c.in-Fork.node.value.object c.step-moves.new.object (objects_of c.in-Fork.node.value.right) c.step-moves.result.now (stepped t c) (left_behind t c)

-- ---- the right side

pub walk-moves-requires-2 : goal.walk-moves-requires-2
walk-moves-requires-2 t c =
    let here = (goal.at.walk-moves-requires-2 t c).After-step-moves in
    let ordered = subst (IsOrdered c.args.size) c.in-Fork.is c.requires.ordered in
    let order = subst (λ t. InOrder 0 (walked c.args.moves.now (objects_of t))) c.in-Fork.is c.requires.in_order in
    let right : c.deref_mut-3.result.now.right ≡ c.in-Fork.node.value.right = ap (λ (n : Node). n.right) c.deref_mut-3.ensures.value ∙ ap (λ (n : Node). n.right) c.deref_mut-2.ensures.value ∙ ap (λ (n : Node). n.right) c.deref_mut.ensures.value in
    let behind = walked_behind c.args.moves.now (objects_of c.in-Fork.node.value.left) c.in-Fork.node.value.object c.step-moves.new.object (objects_of c.in-Fork.node.value.right) c.step-moves.result.now (stepped t here) (left_behind t here) order in
    let known : c.deref-2.result.now.right ≡ c.in-Fork.node.value.right = cc in
    let inside = right_ordered c.args.size c.in-Fork.node ordered in
    let end = c.end-high_end.ensures c.args.size (subst (IsTree c.args.size) (sym known) inside.tree) in
    (rw right (omega (arith, c.decreases, right_smaller c.args.tree.now c.in-Fork.node c.in-Fork.is)), (rw right (rw known at end), (rw right inside, rw right behind)))

-- ---- all of it

pub summary-requires-clause-order : goal.summary-requires-clause-order
summary-requires-clause-order t c =
    let order = subst (λ t. InOrder 0 (walked c.args.moves.now (objects_of t))) c.in-Fork.is c.requires.in_order in
    let old_left : c.deref_mut.result.now.left ≡ c.in-Fork.node.value.left = ap (λ (n : Node). n.left) c.deref_mut.ensures.value in
    let old_right : c.deref_mut-3.result.now.right ≡ c.in-Fork.node.value.right = ap (λ (n : Node). n.right) c.deref_mut-3.ensures.value ∙ ap (λ (n : Node). n.right) c.deref_mut-2.ensures.value ∙ ap (λ (n : Node). n.right) c.deref_mut.ensures.value in
    let left : c.deref-3.result.now.left ≡ c.walk-moves.new.tree = ap (λ (n : Node). n.left) c.deref-3.ensures ∙ ap (λ (n : Node). n.left) c.deref_mut-3.ensures.value ∙ ap (λ (n : Node). n.left) c.deref_mut-2.ensures.value in
    let object : c.deref-4.result.now.object ≡ c.step-moves.new.object = ap (λ (n : Node). n.object) c.deref-4.ensures ∙ ap (λ (n : Node). n.object) c.deref_mut-3.ensures.value in
    let right : c.deref-5.result.now.right ≡ c.walk-moves-2.new.tree = ap (λ (n : Node). n.right) c.deref-5.ensures in
    let here = (goal.at.summary-requires-clause-order t c).After-step-moves in
    rw (left, object, right, c.walk-moves.ensures.objects, c.walk-moves-2.ensures.objects, old_left, old_right) (rw (forked t here) at order)

pub returns-clause-left : goal.returns-clause-left
returns-clause-left t c =
    let old_right : c.deref_mut-3.result.now.right ≡ c.in-Fork.node.value.right = ap (λ (n : Node). n.right) c.deref_mut-3.ensures.value ∙ ap (λ (n : Node). n.right) c.deref_mut-2.ensures.value ∙ ap (λ (n : Node). n.right) c.deref_mut.ensures.value in
    let last = rw old_right at c.walk-moves-2.ensures.left in
    let here = (goal.at.returns-clause-left t c).After-step-moves in
    rw c.in-Fork.is (last ∙ sym (left_over-fork c.args.moves.now (objects_of c.in-Fork.node.value.left) c.in-Fork.node.value.object c.step-moves.new.object (objects_of c.in-Fork.node.value.right) c.step-moves.result.now (stepped t here) (left_behind t here)))

pub returns-clause-objects : goal.returns-clause-objects
returns-clause-objects t c =
    let old_left : c.deref_mut.result.now.left ≡ c.in-Fork.node.value.left = ap (λ (n : Node). n.left) c.deref_mut.ensures.value in
    let old_right : c.deref_mut-3.result.now.right ≡ c.in-Fork.node.value.right = ap (λ (n : Node). n.right) c.deref_mut-3.ensures.value ∙ ap (λ (n : Node). n.right) c.deref_mut-2.ensures.value ∙ ap (λ (n : Node). n.right) c.deref_mut.ensures.value in
    let left : c.deref_mut-4.result.now.left ≡ c.walk-moves.new.tree = ap (λ (n : Node). n.left) c.deref_mut-4.ensures.value ∙ ap (λ (n : Node). n.left) c.deref_mut-3.ensures.value ∙ ap (λ (n : Node). n.left) c.deref_mut-2.ensures.value in
    let object : c.deref_mut-4.result.now.object ≡ c.step-moves.new.object = ap (λ (n : Node). n.object) c.deref_mut-4.ensures.value ∙ ap (λ (n : Node). n.object) c.deref_mut-3.ensures.value in
    let right : c.deref_mut-4.result.now.right ≡ c.walk-moves-2.new.tree = ap (λ (n : Node). n.right) c.deref_mut-4.ensures.value in
    let here = (goal.at.returns-clause-objects t c).After-step-moves in
    rw (left, object, right, c.walk-moves.ensures.objects, c.walk-moves-2.ensures.objects, old_left, old_right, c.in-Fork.is) (sym (forked t here))

pub returns-clause-owners : goal.returns-clause-owners
returns-clause-owners t c =
    let here = (goal.at.returns-clause-owners t c).After-step-moves in
    let old_left : c.deref_mut.result.now.left ≡ c.in-Fork.node.value.left = ap (λ (n : Node). n.left) c.deref_mut.ensures.value in
    let old_object : c.deref_mut-2.result.now.object ≡ c.in-Fork.node.value.object = ap (λ (n : Node). n.object) c.deref_mut-2.ensures.value ∙ ap (λ (n : Node). n.object) c.deref_mut.ensures.value in
    let old_right : c.deref_mut-3.result.now.right ≡ c.in-Fork.node.value.right = ap (λ (n : Node). n.right) c.deref_mut-3.ensures.value ∙ ap (λ (n : Node). n.right) c.deref_mut-2.ensures.value ∙ ap (λ (n : Node). n.right) c.deref_mut.ensures.value in
    let front = rw old_left at c.walk-moves.ensures.owners in
    let middle = rw (passed t here, old_object, c.walk-moves.ensures.capacity) at c.step-moves.ensures.owners in
    let behind = rw (old_right, c.step-moves.ensures.capacity, c.walk-moves.ensures.capacity) at c.walk-moves-2.ensures.owners in
    rw c.in-Fork.is (Notes-fork c.args.owners.now.items c.walk-moves.new.owners.items c.step-moves.new.owners.items c.walk-moves-2.new.owners.items c.args.moves.now (objects_of c.in-Fork.node.value.left) c.in-Fork.node.value.object (objects_of c.in-Fork.node.value.right) c.step-moves.result.now (vec_capacity c.args.owners.now) (left_behind t here) front middle behind)
