use Rattle.std.proofs.Common.{◌≡◌, ◌<◌, ◌≤◌, ◌∙◌, ap, sym, subst, arith}
use Rattle.std.specs.List.{find}
use Rattle.std.specs.Bool.{nat_le}
use Rattle.sub_heaps.specs.declared.tree.Tree.{Tree}
use Rattle.sub_heaps.specs.inner.Order.{InOrder}
use Rattle.sub_heaps.specs.inner.Trees.{objects_of}
use Rattle.sub_heaps.proofs.Halves.{InOrder-behind, first_from-right, first_from-left, left_smaller, right_smaller}
use Rattle.sub_heaps.proofs.Order.{InOrder-left}
use Rattle.sub_heaps.proofs.search.+next_from.Goals as goal

pub next_from-requires : goal.next_from-requires
next_from-requires t c =
    let order = subst (λ t. InOrder 0 (objects_of t)) c.in-Fork.is c.requires in
    let right : c.deref-then-deref-from.result.now.right ≡ c.in-Fork.node.value.right = cc in
    (rw right (omega (arith, c.decreases, right_smaller c.args.tree.now c.in-Fork.node c.in-Fork.is)), rw right (InOrder-behind (objects_of c.in-Fork.node.value.left) c.in-Fork.node.value.object (objects_of c.in-Fork.node.value.right) order))

pub next_from-requires-else-deref-from : goal.next_from-requires-else-deref-from
next_from-requires-else-deref-from t c =
    let order = subst (λ t. InOrder 0 (objects_of t)) c.in-Fork.is c.requires in
    let left : c.deref-else-deref-from.result.now.left ≡ c.in-Fork.node.value.left = cc in
    (rw left (omega (arith, c.decreases, left_smaller c.args.tree.now c.in-Fork.node c.in-Fork.is)), rw left (InOrder-left 0 (objects_of c.in-Fork.node.value.left) _ order))

pub returns-then-deref-from : goal.returns-then-deref-from
returns-then-deref-from t c =
    let order = subst (λ t. InOrder 0 (objects_of t)) c.in-Fork.is c.requires in
    let right : c.deref-then-deref-from.result.now.right ≡ c.in-Fork.node.value.right = cc in
    let at : c.deref.result.now.object.at ≡ c.in-Fork.node.value.object.at = cc in
    let high : c.in-Fork.node.value.object.at < c.args.from = omega (arith, c.if-deref-from.true, at) in
    rw c.in-Fork.is
    (c.next_from.ensures ∙ ap (λ (t : Tree). find (λ o. nat_le c.args.from o.at) (objects_of t)) right ∙ sym (first_from-right 0 (objects_of c.in-Fork.node.value.left) c.in-Fork.node.value.object (objects_of c.in-Fork.node.value.right) order c.args.from high))

pub returns-else-deref-from : goal.returns-else-deref-from
returns-else-deref-from t c =
    let left : c.deref-else-deref-from.result.now.left ≡ c.in-Fork.node.value.left = cc in
    let at : c.deref.result.now.object.at ≡ c.in-Fork.node.value.object.at = cc in
    let low : c.args.from ≤ c.in-Fork.node.value.object.at = omega (arith, c.if-deref-from.false, at) in
    let found = c.next_from-else-deref-from.ensures ∙ ap (λ (t : Tree). find (λ o. nat_le c.args.from o.at) (objects_of t)) left in
    let is = first_from-left c.args.from (objects_of c.in-Fork.node.value.left) c.in-Fork.node.value.object (objects_of c.in-Fork.node.value.right) low in
    rw c.in-Fork.is (cc (is, found, c.or.ensures))
