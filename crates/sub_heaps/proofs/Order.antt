-- Objects in order: what a part of the list keeps, and when two lists stand in order together.
use Rattle.std.proofs.Common.{◌≡◌, ℕ, ◌<◌, ◌≤◌, List, [], ◌∷◌, ◌++◌, refl, append_assoc, arith}
use Rattle.std.specs.List.{AllByRecursion as Each}
use Rattle.sub_heaps.specs.declared.objects.Object.{Object}
use Rattle.sub_heaps.specs.ByPlace.{end_of}
use Rattle.sub_heaps.specs.inner.Order.{InOrder, last_end}
use Rattle.sub_heaps.specs.inner.Summaries.{first_start}
use Rattle.sub_heaps.proofs.Standing.{Each-weaker}

-- a list that has an element
abbrev pub IsCons : {X : Type 0} → List X → Type 0
IsCons [] = ⊥
IsCons (x ∷ xs) = Unit {0}

pub IsCons-append : {X : Type 0} (xs : List X) (y : X) (ys : List X) → IsCons (xs ++ y ∷ ys)
IsCons-append [] y ys = tt
IsCons-append (x ∷ xs) y ys = tt

pub from_bounded : (from : ℕ) (xs : List Object) → InOrder from xs → from ≤ 268435456
from_bounded from [] order = order
from_bounded from (o ∷ os) order = omega (arith, order.0, from_bounded (end_of o) os order.2)

pub last_bounded : (from : ℕ) (xs : List Object) → InOrder from xs → last_end from xs ≤ 268435456
last_bounded from [] order = order
last_bounded from (o ∷ os) order = last_bounded (end_of o) os order.2

pub from-le-last : (from : ℕ) (xs : List Object) → InOrder from xs → from ≤ last_end from xs
from-le-last from [] order = omega arith
from-le-last from (o ∷ os) order = omega (arith, order.0, order.1, from-le-last (end_of o) os order.2)

pub InOrder-weaker : (low from : ℕ) (xs : List Object) → low ≤ from → InOrder from xs → InOrder low xs
InOrder-weaker low from [] le order = omega (arith, order)
InOrder-weaker low from (o ∷ os) le order = (omega (arith, order.0), order.1, order.2)

pub InOrder-left : (from : ℕ) (xs ys : List Object) → InOrder from (xs ++ ys) → InOrder from xs
InOrder-left from [] ys order = from_bounded from ys order
InOrder-left from (o ∷ os) ys order = (order.0, order.1, InOrder-left (end_of o) os ys order.2)

pub InOrder-right : (from : ℕ) (xs ys : List Object) → InOrder from (xs ++ ys) → InOrder (last_end from xs) ys
InOrder-right from [] ys order = order
InOrder-right from (o ∷ os) ys order = InOrder-right (end_of o) os ys order.2

pub InOrder-append : (from : ℕ) (xs ys : List Object) → InOrder from xs → InOrder (last_end from xs) ys → InOrder from (xs ++ ys)
InOrder-append from [] ys left right = right
InOrder-append from (o ∷ os) ys left right = (left.0, left.1, InOrder-append (end_of o) os ys left.2 right)

pub last_end-append : (from : ℕ) (xs ys : List Object) → last_end from (xs ++ ys) ≡ last_end (last_end from xs) ys
last_end-append from [] ys = refl
last_end-append from (o ∷ os) ys = last_end-append (end_of o) os ys

-- ---- three parts with an object between each two

pub regrouped : (xs : List Object) (j : Object) (ys : List Object) (k : Object) (zs : List Object) → (xs ++ j ∷ ys) ++ k ∷ zs ≡ xs ++ j ∷ (ys ++ k ∷ zs)
regrouped xs j ys k zs = append_assoc xs (j ∷ ys) (k ∷ zs)

pub InOrder-inner_left : (xs : List Object) (j : Object) (ys : List Object) (k : Object) (zs : List Object) → InOrder 0 ((xs ++ j ∷ ys) ++ k ∷ zs) → InOrder 0 (xs ++ j ∷ ys)
InOrder-inner_left xs j ys k zs order = InOrder-left 0 (xs ++ j ∷ ys) (k ∷ zs) order

pub InOrder-inner_right : (xs : List Object) (j : Object) (ys : List Object) (k : Object) (zs : List Object) → InOrder 0 ((xs ++ j ∷ ys) ++ k ∷ zs) → InOrder 0 (ys ++ k ∷ zs)
InOrder-inner_right xs j ys k zs order =
    let right = InOrder-right 0 xs (j ∷ (ys ++ k ∷ zs)) (rw (regrouped xs j ys k zs) at order) in
    InOrder-weaker 0 (end_of j) (ys ++ k ∷ zs) (omega arith) right.2

-- ---- where the objects of a part start

pub all_above : (from : ℕ) (ys : List Object) → InOrder from ys → Each (λ y. from ≤ y.at) ys
all_above from [] order = tt
all_above from (o ∷ os) order = (order.0, all_above from os (InOrder-weaker from (end_of o) os (omega (arith, order.0, order.1)) order.2))

-- those before an object start below it, and those behind it above
pub start_before : (from : ℕ) (xs : List Object) (o : Object) (ys : List Object) → InOrder from (xs ++ o ∷ ys) → Each (λ x. x.at < o.at) xs
start_before from [] o ys order = tt
start_before from (x ∷ xs) o ys order =
    let left = InOrder-left (end_of x) xs (o ∷ ys) order.2 in
    let right = InOrder-right (end_of x) xs (o ∷ ys) order.2 in
    (omega (arith, order.1, right.0, from-le-last (end_of x) xs left), start_before (end_of x) xs o ys order.2)

pub start_behind : (from : ℕ) (xs : List Object) (o : Object) (ys : List Object) → InOrder from (xs ++ o ∷ ys) → Each (λ y. o.at < y.at) ys
start_behind from xs o ys order =
    let right = InOrder-right from xs (o ∷ ys) order in
    Each-weaker (λ y. end_of o ≤ y.at) (λ y. o.at < y.at) (λ y above. omega (arith, above, right.1)) ys (all_above (end_of o) ys right.2)

-- ---- lists that have an object

pub last_end-cons : (low from : ℕ) (xs : List Object) → IsCons xs → last_end low xs ≡ last_end from xs
last_end-cons low from [] has = absurd has
last_end-cons low from (o ∷ os) has = refl

pub first_above : (from : ℕ) (xs : List Object) → InOrder from xs → IsCons xs → from ≤ first_start xs
first_above from [] order has = absurd has
first_above from (o ∷ os) order has = order.0
