-- A walk over a list is a walk over its front and then over what is behind it; and over objects that all start below its first move it makes none.
use Rattle.std.proofs.Common.{◌≡◌, ℕ, ◌<◌, eqb, cond, true, false, List, [], ◌∷◌, ◌++◌, length, refl, ap, ◌∙◌, arith}
use Rattle.std.specs.List.{AllByRecursion as Each}
use Rattle.std.proofs.lemmas.Bool.{ne_eqb}
use Rattle.sub_heaps.specs.declared.moves.Move.{Move}
use Rattle.sub_heaps.specs.declared.objects.Object.{Object}
use Rattle.sub_heaps.specs.ByPlace.{end_of}
use Rattle.sub_heaps.specs.inner.Order.{InOrder, last_end}
use Rattle.sub_heaps.specs.inner.Walks.{walked, left_over, StartsBelow}
use Rattle.sub_heaps.proofs.Halves.{InOrder-behind}
use Rattle.sub_heaps.proofs.Order.{InOrder-left, from-le-last}

pub walked-none : (ms : List Move) → walked ms [] ≡ []
walked-none [] = refl
walked-none (m ∷ ms) = refl

pub left_over-none : (ms : List Move) → left_over ms [] ≡ ms
left_over-none [] = refl
left_over-none (m ∷ ms) = refl

-- ---- a list and what is behind it

pub walked-append : (ms : List Move) (xs ys : List Object) → walked ms (xs ++ ys) ≡ walked ms xs ++ walked (left_over ms xs) ys
walked-append [] xs ys = refl
walked-append (m ∷ ms) [] ys = refl
walked-append (m ∷ ms) (x ∷ xs) ys =
    elim (eqb m.from x.at) as (λ t. cond t (record x { at = m.to } ∷ walked ms (xs ++ ys)) (x ∷ walked (m ∷ ms) (xs ++ ys)) ≡ cond t (record x { at = m.to } ∷ walked ms xs) (x ∷ walked (m ∷ ms) xs) ++ walked (cond t (left_over ms xs) (left_over (m ∷ ms) xs)) ys) [
      | true ↦ ap (λ zs. record x { at = m.to } ∷ zs) (walked-append ms xs ys)
      | false ↦ ap (λ zs. x ∷ zs) (walked-append (m ∷ ms) xs ys)
    ]

pub left_over-append : (ms : List Move) (xs ys : List Object) → left_over ms (xs ++ ys) ≡ left_over (left_over ms xs) ys
left_over-append [] xs ys = refl
left_over-append (m ∷ ms) [] ys = refl
left_over-append (m ∷ ms) (x ∷ xs) ys =
    elim (eqb m.from x.at) as (λ t. cond t (left_over ms (xs ++ ys)) (left_over (m ∷ ms) (xs ++ ys)) ≡ left_over (cond t (left_over ms xs) (left_over (m ∷ ms) xs)) ys) [
      | true ↦ left_over-append ms xs ys
      | false ↦ left_over-append (m ∷ ms) xs ys
    ]

-- ---- an object between two lists

module _ (ms : List Move) (xs : List Object) (o new : Object) (ys : List Object) (later : List Move) (is : new ∷ [] ≡ walked (left_over ms xs) (o ∷ [])) (left : later ≡ left_over (left_over ms xs) (o ∷ [])) where
  pub walked-fork : walked ms (xs ++ o ∷ ys) ≡ walked ms xs ++ new ∷ walked later ys
  walked-fork =
      walked-append ms xs (o ∷ ys) ∙ ap (λ zs. walked ms xs ++ zs) (walked-append (left_over ms xs) (o ∷ []) ys ∙ rw (← is, ← left) refl)

  pub left_over-fork : left_over ms (xs ++ o ∷ ys) ≡ left_over later ys
  left_over-fork = left_over-append ms xs (o ∷ ys) ∙ left_over-append (left_over ms xs) (o ∷ []) ys ∙ rw (← left) refl

  pub walked_behind : InOrder 0 (walked ms (xs ++ o ∷ ys)) → InOrder 0 (walked later ys)
  walked_behind order = InOrder-behind (walked ms xs) new (walked later ys) (rw walked-fork at order)

pub walked_before : (ms : List Move) (xs ys : List Object) → InOrder 0 (walked ms (xs ++ ys)) → InOrder 0 (walked ms xs)
walked_before ms xs ys order = InOrder-left 0 (walked ms xs) (walked (left_over ms xs) ys) (rw (walked-append ms xs ys) at order)

-- ---- objects that all start below the first move

pub starts_below_end : (from : ℕ) (xs : List Object) → InOrder from xs → Each (λ o. o.at < last_end from xs) xs
starts_below_end from [] order = tt
starts_below_end from (o ∷ os) order = (omega (arith, order.1, from-le-last (end_of o) os order.2), starts_below_end (end_of o) os order.2)

pub walked-below : (end : ℕ) (ms : List Move) (xs : List Object) → (StartsBelow end ms → ⊥) → Each (λ o. o.at < end) xs → walked ms xs ≡ xs
walked-below end [] xs high below = refl
walked-below end (m ∷ ms) [] high below = refl
walked-below end (m ∷ ms) (x ∷ xs) high below =
    let other : eqb m.from x.at ≡ false = ne_eqb m.from x.at (λ same. high (omega (arith, same, below.0))) in
    rw other (ap (λ zs. x ∷ zs) (walked-below end (m ∷ ms) xs high below.1))

pub left_over-below : (end : ℕ) (ms : List Move) (xs : List Object) → (StartsBelow end ms → ⊥) → Each (λ o. o.at < end) xs → left_over ms xs ≡ ms
left_over-below end [] xs high below = refl
left_over-below end (m ∷ ms) [] high below = refl
left_over-below end (m ∷ ms) (x ∷ xs) high below =
    let other : eqb m.from x.at ≡ false = ne_eqb m.from x.at (λ same. high (omega (arith, same, below.0))) in
    rw other (left_over-below end (m ∷ ms) xs high below.1)

-- ---- what a walk keeps

pub length-walked : (ms : List Move) (xs : List Object) → length (walked ms xs) ≡ length xs
length-walked [] xs = refl
length-walked (m ∷ ms) [] = refl
length-walked (m ∷ ms) (x ∷ xs) =
    elim (eqb m.from x.at) as (λ t. length (cond t (record x { at = m.to } ∷ walked ms xs) (x ∷ walked (m ∷ ms) xs)) ≡ length (x ∷ xs)) [
      | true ↦ omega (arith, length-walked ms xs)
      | false ↦ omega (arith, length-walked (m ∷ ms) xs)
    ]
