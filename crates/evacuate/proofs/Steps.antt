-- Walks over the objects of a sub-heap: where its tail starts, and what tells whether it is thin.
use Rattle.std.proofs.Common.{◌≡◌, ℕ, ◌+◌, ◌-◌, ◌*◌, ◌/◌, ◌<◌, ◌≤◌, ◌&&◌, ◌||◌, not, max, Bool, true, false, eqb, leb, nat_le, nat_lt, List, [], ◌∷◌, length, Some, ap, sym, ◌∙◌, refl, arith}
use Rattle.std.specs.List.{AllByRecursion as Each, find, fold, list_any, sum_by}
use Rattle.std.proofs.lemmas.Bool.Decides.{nat_tests}
use Rattle.std.proofs.lemmas.List.Sums.{sum_by-cons}
use Rattle.sub_heaps.specs.declared.objects.Object.{Object}
use Rattle.sub_heaps.specs.ByPlace.{end_of}
use Rattle.sub_heaps.specs.SubHeaps.{SubHeaps, IsRounded, IsSound, LiesInOne, objects_in, extent_in}
use Rattle.sub_heaps.proofs.Standing.{Each-both, each_rounded, each_inside}
use Rattle.sub_heaps.proofs.Taken.{find_each}
use Rattle.move_plan.proofs.Numbered.{Each-filter, IsStepIn}
use Rattle.move_plan.proofs.Rest.{rest_from}
use Rattle.evacuate.specs.Evacuation.{holds_object}
use Rattle.evacuate.specs.inner.Tails.{is_thin_at}

-- how far the objects reach that are left, where those before them reach so far
abbrev pub reach : (start best : ℕ) → List Object → ℕ
reach start best xs = fold (λ best o. max best (end_of o - start)) best xs

-- over one object
pub reach_step : (start at : ℕ) (o : Object) (xs : List Object) → at ≤ o.at → reach start (at - start) (o ∷ xs) ≡ reach start (end_of o - start) xs
reach_step start at o xs le = let z : max (at - start) (end_of o - start) ≡ end_of o - start = omega arith in ap (λ (b : ℕ). reach start b xs) z

-- what a walk finds has a rounded size, which a sub-heap has
pub takes_found : (h : SubHeaps) → IsSound h → (k from : ℕ) (o : Object) → Some o ≡ find (λ o. leb from o.at) (objects_in h k) → IsRounded o.size × (o.size ≤ h.size)
takes_found h sound k from o found =
    find_each (λ o. IsRounded o.size × (o.size ≤ h.size)) (λ o. leb from o.at) (objects_in h k) o (sym found)
    (Each-filter (λ o. IsRounded o.size × (o.size ≤ h.size)) (λ o. eqb (o.at / h.size) k) h.objects
    (Each-both (λ o. IsRounded o.size) (λ o. LiesInOne h.count h.size o.size o.at) (λ o. IsRounded o.size × (o.size ≤ h.size)) (λ o takes lies. (takes, omega (arith, lies.1))) h.objects
    (each_rounded h.count h.size 0 h.objects sound.stand) (each_inside h.count h.size 0 h.objects sound.stand)))

-- where sizes are rounded, some bytes are held where some object is
pub held_some : (xs : List Object) → Each (λ o. IsRounded o.size) xs → nat_lt 0 (length xs) ≡ nat_lt 0 (sum_by (λ o. o.size) xs)
held_some [] takes = refl
held_some (x ∷ xs) takes =
    let some : 0 < sum_by (λ o. o.size) (x ∷ xs) = omega (arith, sum_by-cons (λ (o : Object). o.size) x xs, takes.0) in
    let yes : nat_lt 0 (sum_by (λ o. o.size) (x ∷ xs)) ≡ true = grind (arith, nat_tests) in
    let long : nat_lt 0 (length (x ∷ xs)) ≡ true = grind (arith, nat_tests) in
    long ∙ sym yes

-- what a walk over a sub-heap's objects has seen before the place where it goes on
pub record Seen (pinned : ℕ → Bool) (h : SubHeaps) (k at held : ℕ) : Type 0 where
  pub pins : list_any (λ o. pinned o.at) (objects_in h k) ≡ list_any (λ o. pinned o.at) (rest_from at (objects_in h k))
  pub bytes : sum_by (λ o. o.size) (objects_in h k) ≡ held + sum_by (λ o. o.size) (rest_from at (objects_in h k))
  pub reached : extent_in h k ≡ reach (k * h.size) (at - k * h.size) (rest_from at (objects_in h k))
  pub within : k * h.size + held ≤ at

module _ (pinned : ℕ → Bool) (h : SubHeaps) (k : ℕ) where
  pub seen_none : rest_from (k * h.size) (objects_in h k) ≡ objects_in h k → Seen pinned h k (k * h.size) 0
  seen_none all =
      let none : k * h.size - k * h.size ≡ 0 = omega arith in
      record {
        pins = ap (λ (xs : List Object). list_any (λ o. pinned o.at) xs) (sym all);
        bytes = let z = ap (λ (xs : List Object). sum_by (λ o. o.size) xs) all in omega (arith, z);
        reached = ap (λ (xs : List Object). reach (k * h.size) 0 xs) (sym all) ∙ ap (λ (b : ℕ). reach (k * h.size) b (rest_from (k * h.size) (objects_in h k))) (sym none);
        within = omega arith;
      }

  pub seen_more : (at held : ℕ) (o : Object) → IsStepIn h k at o → pinned o.at ≡ false → Seen pinned h k at held → Seen pinned h k (end_of o) (held + o.size)
  seen_more at held o step free seen =
      let rest = rest_from (end_of o) (objects_in h k) in
      record {
        pins = seen.pins ∙ ap (λ (xs : List Object). list_any (λ o. pinned o.at) xs) step.left ∙ any_skip (pinned o.at) (list_any (λ o. pinned o.at) rest) free;
        bytes = let z = ap (λ (xs : List Object). sum_by (λ o. o.size) xs) step.left in omega (arith, seen.bytes, z, sum_by-cons (λ (o : Object). o.size) o rest);
        reached = seen.reached ∙ ap (reach (k * h.size) (at - k * h.size)) step.left ∙ reach_step (k * h.size) at o rest step.above;
        within = omega (arith, seen.within, step.above);
      }
    where
      any_skip : (a b : Bool) → a ≡ false → (a || b) ≡ b
      any_skip true b is = absurd (cc is)
      any_skip false b is = refl

  -- a pinned one is there
  pub seen_pin : (at held tail : ℕ) (o : Object) → IsStepIn h k at o → pinned o.at ≡ true → Seen pinned h k at held → is_thin_at pinned h k tail ≡ false
  seen_pin at held tail o step is seen =
      let there : list_any (λ o. pinned o.at) (objects_in h k) ≡ true = seen.pins ∙ ap (λ (xs : List Object). list_any (λ o. pinned o.at) xs) step.left ∙ any_first (pinned o.at) (list_any (λ o. pinned o.at) (rest_from (end_of o) (objects_in h k))) is in
      ap (λ (b : Bool). (holds_object h k && not b) && (nat_le (4 * sum_by (λ o. o.size) (objects_in h k)) h.size && eqb (extent_in h k) tail)) there ∙ not_held (holds_object h k) _
    where
      any_first : (a b : Bool) → a ≡ true → (a || b) ≡ true
      any_first true b is = refl
      any_first false b is = absurd (cc is)

      not_held : (a b : Bool) → ((a && false) && b) ≡ false
      not_held true b = refl
      not_held false b = refl

  -- all were seen
  pub seen_all : IsSound h → (at held tail : ℕ) → rest_from at (objects_in h k) ≡ [] → Seen pinned h k at held
      → is_thin_at pinned h k tail ≡ (nat_lt 0 held && (nat_le (4 * held) h.size && eqb (at - k * h.size) tail))
  seen_all sound at held tail none seen =
      let free : list_any (λ o. pinned o.at) (objects_in h k) ≡ false = seen.pins ∙ ap (λ (xs : List Object). list_any (λ o. pinned o.at) xs) none in
      let z = ap (λ (xs : List Object). sum_by (λ o. o.size) xs) none in
      let bytes : sum_by (λ o. o.size) (objects_in h k) ≡ held = omega (arith, seen.bytes, z) in
      let far : extent_in h k ≡ at - k * h.size = seen.reached ∙ ap (reach (k * h.size) (at - k * h.size)) none in
      let some : holds_object h k ≡ nat_lt 0 held = held_some (objects_in h k) (Each-filter (λ o. IsRounded o.size) (λ o. eqb (o.at / h.size) k) h.objects (each_rounded h.count h.size 0 h.objects sound.stand)) ∙ ap (λ (n : ℕ). nat_lt 0 n) bytes in
      ap (λ (b : Bool). (b && not (list_any (λ o. pinned o.at) (objects_in h k))) && (nat_le (4 * sum_by (λ o. o.size) (objects_in h k)) h.size && eqb (extent_in h k) tail)) some
      ∙ ap (λ (b : Bool). (nat_lt 0 held && not b) && (nat_le (4 * sum_by (λ o. o.size) (objects_in h k)) h.size && eqb (extent_in h k) tail)) free
      ∙ ap (λ (n : ℕ). (nat_lt 0 held && true) && (nat_le (4 * n) h.size && eqb (extent_in h k) tail)) bytes
      ∙ ap (λ (n : ℕ). (nat_lt 0 held && true) && (nat_le (4 * held) h.size && eqb n tail)) far
      ∙ and_true (nat_lt 0 held) _
    where
      and_true : (a b : Bool) → ((a && true) && b) ≡ (a && b)
      and_true true b = refl
      and_true false b = refl
