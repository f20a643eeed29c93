-- What is known of two lists of objects that stand in order is known of them together.
use Rattle.std.proofs.Common.{◌≡◌, ℕ, ◌+◌, ◌-◌, ◌%◌, ◌≤◌, max, List, [], ◌∷◌, ◌++◌, arith}
use Rattle.std.specs.List.{sum_by}
use Rattle.std.proofs.lemmas.List.Sums.{sum_by-append, sum_by-cons}
use Rattle.sub_heaps.specs.declared.objects.Object.{Object}
use Rattle.sub_heaps.specs.declared.summary.Summary.{Summary}
use Rattle.sub_heaps.specs.ByPlace.{end_of}
use Rattle.sub_heaps.specs.inner.Order.{InOrder, last_end}
use Rattle.sub_heaps.specs.inner.Gaps.{longest_from}
use Rattle.sub_heaps.specs.inner.Summaries.{extent_from, first_start, summary_of, joined, IsBounded, AreInOrder}
use Rattle.sub_heaps.proofs.Order.{IsCons, last_bounded, InOrder-left, InOrder-right, InOrder-weaker, last_end-append}

pub longest_from-append : (size from : ℕ) (xs ys : List Object) → longest_from size from (xs ++ ys) ≡ max (longest_from size from xs) (longest_from size (last_end from xs) ys)
longest_from-append size from [] ys = omega arith
longest_from-append size from (o ∷ os) ys = omega (arith, longest_from-append size (end_of o) os ys)

pub extent_from-append : (size from : ℕ) (xs ys : List Object) → extent_from size from (xs ++ ys) ≡ extent_from size from xs + extent_from size (last_end from xs) ys
extent_from-append size from [] ys = omega arith
extent_from-append size from (o ∷ os) ys = omega (arith, extent_from-append size (end_of o) os ys)

-- from a lower place on the first object reaches more
pub extent_from-lower : (size from : ℕ) (y : Object) (ys : List Object) → from ≤ y.at → extent_from size from (y ∷ ys) ≡ (y.at - max (y.at - y.at % size) from) + extent_from size y.at (y ∷ ys)
extent_from-lower size from y ys le = omega arith

pub extent_bounded : (size from : ℕ) (xs : List Object) → InOrder from xs → from + extent_from size from xs ≤ last_end from xs
extent_bounded size from [] order = omega arith
extent_bounded size from (o ∷ os) order = omega (arith, order.0, order.1, extent_bounded size (end_of o) os order.2)

pub bytes_bounded : (from : ℕ) (xs : List Object) → InOrder from xs → from + sum_by (λ o. o.size) xs ≤ last_end from xs
bytes_bounded from [] order = omega arith
bytes_bounded from (o ∷ os) order = omega (arith, order.0, order.1, sum_by-cons (λ (x : Object). x.size) o os, bytes_bounded (end_of o) os order.2)

pub summary_bounded : (size : ℕ) (xs : List Object) → InOrder 0 xs → IsCons xs → IsBounded (summary_of size xs)
summary_bounded size [] order has = absurd has
summary_bounded size (o ∷ os) order has =
    let here : InOrder o.at (o ∷ os) = (omega arith, order.1, order.2) in
    record { bytes = bytes_bounded o.at (o ∷ os) here; extent = extent_bounded size o.at (o ∷ os) here; end = last_bounded 0 (o ∷ os) order }

pub summaries_in_order : (size : ℕ) (xs ys : List Object) → InOrder 0 (xs ++ ys) → IsCons xs → IsCons ys → AreInOrder (summary_of size xs) (summary_of size ys)
summaries_in_order size xs [] order has more = absurd more
summaries_in_order size xs (y ∷ ys) order has more =
    let right = InOrder-right 0 xs (y ∷ ys) order in
    record {
      low_bounded = summary_bounded size xs (InOrder-left 0 xs (y ∷ ys) order) has;
      high_bounded = summary_bounded size (y ∷ ys) (InOrder-weaker 0 (last_end 0 xs) (y ∷ ys) (omega arith) right) tt;
      order = right.0;
    }

abbrev summary : (first end longest bytes extent : ℕ) → Summary
summary first end longest bytes extent = record { first = first; end = end; longest = longest; bytes = bytes; extent = extent }

same_summary : (first end end' longest longest' bytes bytes' extent extent' : ℕ) → end ≡ end' → longest ≡ longest' → bytes ≡ bytes' → extent ≡ extent' → summary first end longest bytes extent ≡ summary first end' longest' bytes' extent'
same_summary first end end' longest longest' bytes bytes' extent extent' e l b x = cc

pub summary_of-append : (size : ℕ) (xs ys : List Object) → InOrder 0 (xs ++ ys) → IsCons xs → IsCons ys → summary_of size (xs ++ ys) ≡ joined size (summary_of size xs) (summary_of size ys)
summary_of-append size [] ys order has more = absurd has
summary_of-append size (x ∷ xs) [] order has more = absurd more
summary_of-append size (x ∷ xs) (y ∷ ys) order has more =
    let right = InOrder-right 0 (x ∷ xs) (y ∷ ys) order in
    same_summary x.at _ _ _ _ _ _ _ _ (last_end-append 0 (x ∷ xs) (y ∷ ys)) (omega (arith, longest_from-append size (end_of x) xs (y ∷ ys)))
    (sum_by-append (λ (o : Object). o.size) (x ∷ xs) (y ∷ ys))
    (omega (arith, extent_from-append size x.at (x ∷ xs) (y ∷ ys), extent_from-lower size (last_end x.at (x ∷ xs)) y ys right.0))

-- the first object reaches also what lies between its sub-heap's start and its own
pub extent_from-start : (size : ℕ) (xs : List Object) → IsCons xs → first_start xs % size + extent_from size (first_start xs) xs ≡ extent_from size 0 xs
extent_from-start size [] has = absurd has
extent_from-start size (o ∷ os) has = omega arith
