use Rattle.std.proofs.Common.{◌≡◌, ℕ, ◌+◌, ◌<◌, max, ◌∷◌, Option, Some, None, IfSome, IfNone, subst, arith}
use Rattle.sub_heaps.specs.declared.tree.Tree.TheVariants.{Fork}
use Rattle.sub_heaps.specs.ByPlace.{end_of}
use Rattle.sub_heaps.specs.inner.Order.{InOrder, last_end}
use Rattle.sub_heaps.specs.inner.Gaps.{widest, longest_among, IsGapBefore, IsLowestBefore}
use Rattle.sub_heaps.specs.inner.Summaries.{first_start, summary_of}
use Rattle.sub_heaps.specs.inner.Trees.{objects_of, IsTree}
use Rattle.sub_heaps.proofs.Gaps.{IsFirstInside, gap_bounded, longest_known, left_lowest, own_lowest, right_lowest, right_none}
use Rattle.sub_heaps.proofs.Halves.{left_smaller, right_smaller}
use Rattle.sub_heaps.proofs.Order.{IsCons-append, InOrder-left, InOrder-right, from_bounded, last_bounded, first_above}
use Rattle.sub_heaps.proofs.search.+lowest_before.Goals as goal
use Rattle.sub_heaps.proofs.search.+lowest_before.Goals.{After-first_inside-at}

IfSome-map : {X : Type 0} (o : Option X) (P Q : X → Type 0) → ((x : X) → P x → Q x) → IfSome o P → IfSome o Q
IfSome-map None P Q f h = tt
IfSome-map (Some x) P Q f h = f x h

IfNone-map : {X : Type 0} (o : Option X) (A B : Type 0) → (A → B) → IfNone o A → IfNone o B
IfNone-map None A B f h = f h
IfNone-map (Some x) A B f h = tt

-- ---- no gap under the node is long enough

pub widest-requires-clause-bound : goal.widest-requires-clause-bound
widest-requires-clause-bound t c = omega (arith, from_bounded c.args.from (objects_of c.args.tree.now) c.requires.order, c.requires.bounded)

pub widest-requires-clause-order : goal.widest-requires-clause-order
widest-requires-clause-order t c =
    let tree = subst (IsTree c.args.size) c.in-Fork.is c.requires.tree in
    let order = subst (λ t. InOrder c.args.from (objects_of t)) c.in-Fork.is c.requires.order in
    let known : c.deref.result.now.under ≡ summary_of c.args.size (objects_of (Fork c.in-Fork.node)) = cc (tree.4) in
    rw known (first_above c.args.from (objects_of (Fork c.in-Fork.node)) order (IsCons-append _ _ _))

pub returns-then-longest-bytes-clause-none : goal.returns-then-longest-bytes-clause-none
returns-then-longest-bytes-clause-none t c = λ at gap.
    let tree = subst (IsTree c.args.size) c.in-Fork.is c.requires.tree in
    let first : c.deref.result.now.under ≡ summary_of c.args.size (objects_of (Fork c.in-Fork.node)) = cc (tree.4) in
    let second : c.deref-2.result.now.under ≡ summary_of c.args.size (objects_of (Fork c.in-Fork.node)) = cc (tree.4) in
    let wide : c.widest.result ≡ widest c.args.size c.args.from (first_start (objects_of (Fork c.in-Fork.node))) = rw first at c.widest.ensures in
    let long : c.max-longest.result ≡ max c.widest.result (longest_among c.args.size (objects_of (Fork c.in-Fork.node))) = rw second at c.max-longest.ensures in
    let here = subst (λ t. IsGapBefore c.args.size c.args.bytes c.args.from (objects_of t) at) c.in-Fork.is gap in
    let known = longest_known c.args.size c.args.from (objects_of (Fork c.in-Fork.node)) (IsCons-append _ _ _) in
    let bound = gap_bounded c.args.size c.args.bytes c.args.from (objects_of (Fork c.in-Fork.node)) at (omega arith) here.0 here.1 in
    absurd (omega (arith, c.if-longest-bytes.true, wide, long, known, bound))

-- ---- a gap on the left

pub lowest_before-requires : goal.lowest_before-requires
lowest_before-requires t c =
    let tree = subst (IsTree c.args.size) c.in-Fork.is c.requires.tree in
    let order = subst (λ t. InOrder c.args.from (objects_of t)) c.in-Fork.is c.requires.order in
    let left : c.deref-3.result.now.left ≡ c.in-Fork.node.value.left = cc in
    rw left
    (omega (arith, c.decreases, left_smaller c.args.tree.now c.in-Fork.node c.in-Fork.is), (c.requires.bytes, (c.requires.within, (c.requires.bounded, (tree.0, InOrder-left c.args.from (objects_of c.in-Fork.node.value.left) _ order)))))

pub returns-in-Some-clause-lowest : goal.returns-in-Some-clause-lowest
returns-in-Some-clause-lowest t c =
    let order = subst (λ t. InOrder c.args.from (objects_of t)) c.in-Fork.is c.requires.order in
    let left : c.deref-3.result.now.left ≡ c.in-Fork.node.value.left = cc in
    rw c.in-Fork.is
    (left_lowest c.args.size c.args.bytes c.args.from (objects_of c.in-Fork.node.value.left) c.in-Fork.node.value.object (objects_of c.in-Fork.node.value.right) order c.in-Some.at (rw left at c.in-Some.ensures.lowest))

-- ---- the gap before the node's object

pub first_inside-at-requires-clause-bound : goal.first_inside-at-requires-clause-bound
first_inside-at-requires-clause-bound t c =
    let order = subst (λ t. InOrder c.args.from (objects_of t)) c.in-Fork.is c.requires.order in
    let tree = subst (IsTree c.args.size) c.in-Fork.is c.requires.tree in
    let left : c.deref-4.result.now.left ≡ c.in-Fork.node.value.left = cc in
    let end : c.end.result ≡ last_end c.args.from (objects_of c.in-Fork.node.value.left) = rw left at (c.end.ensures c.args.size (rw left tree.0)) in
    omega (arith, end, last_bounded c.args.from (objects_of c.in-Fork.node.value.left) (InOrder-left c.args.from (objects_of c.in-Fork.node.value.left) _ order), c.requires.bounded)

pub overflow_add-at : goal.overflow_add-at
overflow_add-at t c =
    let order = subst (λ t. InOrder c.args.from (objects_of t)) c.in-Fork.is c.requires.order in
    let tree = subst (IsTree c.args.size) c.in-Fork.is c.requires.tree in
    let left : c.deref-4.result.now.left ≡ c.in-Fork.node.value.left = cc in
    let end : c.end.result ≡ last_end c.args.from (objects_of c.in-Fork.node.value.left) = rw left at (c.end.ensures c.args.size (rw left tree.0)) in
    omega (arith, end, last_bounded c.args.from (objects_of c.in-Fork.node.value.left) (InOrder-left c.args.from (objects_of c.in-Fork.node.value.left) _ order), c.first_inside-at.ensures.bound, c.requires.bounded, c.requires.within)

first_inside : (t : ℕ) (c : After-first_inside-at t) → IsFirstInside c.args.size c.args.bytes (last_end c.args.from (objects_of c.in-Fork.node.value.left)) c.first_inside-at.result
first_inside t c =
    let tree = subst (IsTree c.args.size) c.in-Fork.is c.requires.tree in
    let left : c.deref-4.result.now.left ≡ c.in-Fork.node.value.left = cc in
    let end : c.end.result ≡ last_end c.args.from (objects_of c.in-Fork.node.value.left) = rw left at (c.end.ensures c.args.size (rw left tree.0)) in
    record {
      above = omega (arith, end, c.first_inside-at.ensures.above);
      inside = c.first_inside-at.ensures.inside;
      lowest = λ other above inside. c.first_inside-at.ensures.lowest other (omega (arith, end, above)) inside;
    }

pub returns-then-at-bytes-clause-lowest : goal.returns-then-at-bytes-clause-lowest
returns-then-at-bytes-clause-lowest t c =
    let order = subst (λ t. InOrder c.args.from (objects_of t)) c.in-Fork.is c.requires.order in
    let left : c.deref-3.result.now.left ≡ c.in-Fork.node.value.left = cc in
    let none = rw left at c.in_default-lowest_before.ensures.none in
    let object : c.deref-5.result.now.object.at ≡ c.in-Fork.node.value.object.at = cc in
    rw c.in-Fork.is
    (own_lowest c.args.size c.args.bytes c.args.from (objects_of c.in-Fork.node.value.left) c.in-Fork.node.value.object (objects_of c.in-Fork.node.value.right) order none c.first_inside-at.result (first_inside t (goal.at.returns-then-at-bytes-clause-lowest t c).After-first_inside-at) (omega (arith, c.if-at-bytes.true, object)))

-- ---- a gap on the right

pub overflow_add-from : goal.overflow_add-from
overflow_add-from t c =
    let order = subst (λ t. InOrder c.args.from (objects_of t)) c.in-Fork.is c.requires.order in
    let right = InOrder-right c.args.from (objects_of c.in-Fork.node.value.left) (c.in-Fork.node.value.object ∷ objects_of c.in-Fork.node.value.right) order in
    let at : c.deref-6.result.now.object.at ≡ c.in-Fork.node.value.object.at = cc in
    let size : c.deref-7.result.now.object.size ≡ c.in-Fork.node.value.object.size = cc in
    omega (arith, from_bounded (end_of c.in-Fork.node.value.object) (objects_of c.in-Fork.node.value.right) right.2, at, size)

pub lowest_before-requires-2 : goal.lowest_before-requires-2
lowest_before-requires-2 t c =
    let tree = subst (IsTree c.args.size) c.in-Fork.is c.requires.tree in
    let order = subst (λ t. InOrder c.args.from (objects_of t)) c.in-Fork.is c.requires.order in
    let behind = InOrder-right c.args.from (objects_of c.in-Fork.node.value.left) (c.in-Fork.node.value.object ∷ objects_of c.in-Fork.node.value.right) order in
    let right : c.deref-8.result.now.right ≡ c.in-Fork.node.value.right = cc in
    let at : c.deref-6.result.now.object.at ≡ c.in-Fork.node.value.object.at = cc in
    let size : c.deref-7.result.now.object.size ≡ c.in-Fork.node.value.object.size = cc in
    rw right
    (omega (arith, c.decreases, right_smaller c.args.tree.now c.in-Fork.node c.in-Fork.is), (c.requires.bytes, (c.requires.within, (c.requires.bounded, (tree.1, rw (at, size) behind.2)))))

pub returns-clause-lowest : goal.returns-clause-lowest
returns-clause-lowest t c =
    let order = subst (λ t. InOrder c.args.from (objects_of t)) c.in-Fork.is c.requires.order in
    let left : c.deref-3.result.now.left ≡ c.in-Fork.node.value.left = cc in
    let none = rw left at c.in_default-lowest_before.ensures.none in
    let object : c.deref-5.result.now.object.at ≡ c.in-Fork.node.value.object.at = cc in
    let right : c.deref-8.result.now.right ≡ c.in-Fork.node.value.right = cc in
    let at : c.deref-6.result.now.object.at ≡ c.in-Fork.node.value.object.at = cc in
    let size : c.deref-7.result.now.object.size ≡ c.in-Fork.node.value.object.size = cc in
    let first = first_inside t (goal.at.returns-clause-lowest t c).After-first_inside-at in
    let over : c.in-Fork.node.value.object.at < c.first_inside-at.result + c.args.bytes = omega (arith, c.if-at-bytes.false, object) in
    let behind : IfSome c.lowest_before-2.result (IsLowestBefore c.args.size c.args.bytes (end_of c.in-Fork.node.value.object) (objects_of c.in-Fork.node.value.right)) = rw (right, at, size) at c.lowest_before-2.ensures.lowest in
    rw c.in-Fork.is
    (IfSome-map c.lowest_before-2.result (IsLowestBefore c.args.size c.args.bytes (end_of c.in-Fork.node.value.object) (objects_of c.in-Fork.node.value.right)) (IsLowestBefore c.args.size c.args.bytes c.args.from (objects_of (Fork c.in-Fork.node)))
    (right_lowest c.args.size c.args.bytes c.args.from (objects_of c.in-Fork.node.value.left) c.in-Fork.node.value.object (objects_of c.in-Fork.node.value.right) order none c.first_inside-at.result first over) behind)

pub returns-clause-none : goal.returns-clause-none
returns-clause-none t c =
    let order = subst (λ t. InOrder c.args.from (objects_of t)) c.in-Fork.is c.requires.order in
    let left : c.deref-3.result.now.left ≡ c.in-Fork.node.value.left = cc in
    let none = rw left at c.in_default-lowest_before.ensures.none in
    let object : c.deref-5.result.now.object.at ≡ c.in-Fork.node.value.object.at = cc in
    let right : c.deref-8.result.now.right ≡ c.in-Fork.node.value.right = cc in
    let at : c.deref-6.result.now.object.at ≡ c.in-Fork.node.value.object.at = cc in
    let size : c.deref-7.result.now.object.size ≡ c.in-Fork.node.value.object.size = cc in
    let first = first_inside t (goal.at.returns-clause-none t c).After-first_inside-at in
    let over : c.in-Fork.node.value.object.at < c.first_inside-at.result + c.args.bytes = omega (arith, c.if-at-bytes.false, object) in
    let behind : IfNone c.lowest_before-2.result ((at : ℕ) → IsGapBefore c.args.size c.args.bytes (end_of c.in-Fork.node.value.object) (objects_of c.in-Fork.node.value.right) at → ⊥) = rw (right, at, size) at c.lowest_before-2.ensures.none in
    rw c.in-Fork.is
    (IfNone-map c.lowest_before-2.result ((at : ℕ) → IsGapBefore c.args.size c.args.bytes (end_of c.in-Fork.node.value.object) (objects_of c.in-Fork.node.value.right) at → ⊥) ((at : ℕ) → IsGapBefore c.args.size c.args.bytes c.args.from (objects_of (Fork c.in-Fork.node)) at → ⊥)
    (right_none c.args.size c.args.bytes c.args.from (objects_of c.in-Fork.node.value.left) c.in-Fork.node.value.object (objects_of c.in-Fork.node.value.right) order none c.first_inside-at.result first over) behind)
