-- What a move does to the list: which object is found at a place, and that the sub-heaps stay sound.
use Rattle.std.proofs.Common.{◌≡◌, ℕ, ◌<◌, ◌≢◌, Bool, List, [], ◌∷◌, length, Some, None, Option, IsSome, IsSomeAnd, refl, sym, ap, ◌∙◌, subst, arith}
use Rattle.std.specs.List.{AllByRecursion as Each}
use Rattle.sub_heaps.specs.declared.objects.Object.{Object}
use Rattle.sub_heaps.specs.ByPlace.{object_at, with_object, without, with_moved, shifted}
use Rattle.sub_heaps.specs.SubHeaps.{SubHeaps, IsRounded, FitsAt, IsSound}
use Rattle.sub_heaps.proofs.Edits.{object_at-with_object, object_at-without_same}
use Rattle.sub_heaps.proofs.Fits.{objects_in_order}
use Rattle.sub_heaps.proofs.Kept.{IsSound-with_object, IsSound-without}
use Rattle.sub_heaps.proofs.Standing.{each_rounded}
use Rattle.sub_heaps.proofs.Taken.{found_each, object_at-without_other, length-without}
use Rattle.sub_heaps.specs.declared.moves.Move.{Move}
use Rattle.sub_heaps.specs.Moving.{after_move, IsAllowed}

pub Each-three : {X : Type 0} (P Q R S : X → Type 0) → ((x : X) → P x → Q x → R x → S x) → (xs : List X) → Each P xs → Each Q xs → Each R xs → Each S xs
Each-three P Q R S f [] p q r = tt
Each-three P Q R S f (x ∷ xs) p q r = (f x p.0 q.0 r.0, Each-three P Q R S f xs p.1 q.1 r.1)

-- ---- the object at a place

pub object_at-shifted : (f from to : ℕ) (xs : List Object) → f ≢ from → f ≢ to → object_at f (shifted from to xs) ≡ object_at f xs
object_at-shifted f from to xs apart missed =
    elim (object_at from xs) as (λ o. object_at f (with_moved o to (without from xs)) ≡ object_at f xs) [
      | None ↦ object_at-without_other f from xs apart
      | Some o ↦ object_at-with_object f (record o { at = to }) (without from xs) (λ same. missed (sym same)) ∙ object_at-without_other f from xs apart
    ]

pub object_at-shifted_from : (from to : ℕ) (xs : List Object) → from ≢ to → object_at from (shifted from to xs) ≡ None
object_at-shifted_from from to xs missed =
    elim (object_at from xs) as (λ o. object_at from (with_moved o to (without from xs)) ≡ None) [
      | None ↦ object_at-without_same from xs
      | Some o ↦ object_at-with_object from (record o { at = to }) (without from xs) (λ same. missed (sym same)) ∙ object_at-without_same from xs
    ]

-- ---- the sub-heaps stay sound

-- the object of a move that is allowed
pub allowed_object : (pinned : ℕ → Bool) (h : SubHeaps) (m : Move) → IsAllowed pinned h m → (o : Object) × (object_at m.from h.objects ≡ Some o) × (o.size ≡ m.size)
allowed_object pinned h m allowed = at_found (object_at m.from h.objects) refl allowed.object
  where
    at_found : (r : Option Object) → object_at m.from h.objects ≡ r → IsSomeAnd r (λ o. o.size ≡ m.size) → (o : Object) × (object_at m.from h.objects ≡ Some o) × (o.size ≡ m.size)
    at_found None is holds = absurd holds
    at_found (Some o) is holds = (o, is, holds)

pub IsSound-after_move : (pinned : ℕ → Bool) (h : SubHeaps) (m : Move) → IsSound h → IsAllowed pinned h m → IsSound (after_move m h)
IsSound-after_move pinned h m sound allowed =
    let found = allowed_object pinned h m allowed in
    let new : Object = record { at = m.to; size = found.0.size; owner = found.0.owner } in
    let others = without m.from h.objects in
    let is : shifted m.from m.to h.objects ≡ with_object new others = ap (λ r. with_moved r m.to others) found.1 in
    let fits : FitsAt (record h { objects = others }) new.size m.to = subst (λ n. FitsAt (record h { objects = others }) n m.to) (sym found.2) allowed.fits in
    let there : IsSome (object_at m.from h.objects) = rw found.1 refl in
    let few : length others < h.most = omega (arith, length-without m.from 0 h.objects (objects_in_order h sound) there, sound.few) in
    let takes = found_each (λ o. IsRounded o.size) m.from h.objects found.0 found.1 (each_rounded h.count h.size 0 h.objects sound.stand) in
    let made = IsSound-with_object (record h { objects = others }) new (IsSound-without h m.from sound there) few takes fits in
    subst (λ (xs : List Object). IsSound (record h { objects = xs })) (sym is) made
