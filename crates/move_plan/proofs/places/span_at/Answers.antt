use Rattle.std.proofs.Common.{◌≡◌, ℕ, ◌≤◌, true, false, cond, eqb, ltb, List, length, Some, None, is_some, refl, sym, ap, ◌∙◌, rules}
use Rattle.std.specs.List.{slice_get}
use Rattle.std.specs.List.Sorted.{IsPartitionPoint}
use Rattle.std.proofs.lemmas.Bool.{eq-eqb, ne_eqb, ltb-true, ltb-false}
use Rattle.std.proofs.lemmas.List.Sorted.{IsPartitionedBy-ltb, IsPartitionPoint-from_clause}
use Rattle.std.proofs.lemmas.Option.{slice_get_read, slice_get_past}
use Rattle.sub_heaps.specs.declared.objects.Object.{Object}
use Rattle.sub_heaps.specs.ByPlace.{object_at}
use Rattle.move_plan.specs.inner.Spans.{AreSorted}
use Rattle.move_plan.proofs.Judged.{if_there}
use Rattle.move_plan.proofs.Spans.{object_at-sorted, rising_from_sorted}
use Rattle.move_plan.proofs.places.span_at.Goals as goal

-- where the spans are parted, the one there is the one that is looked for, if it starts at the place
found_there : (at first : ℕ) (xs : List Object) → AreSorted 0 xs → IsPartitionPoint (λ (s : Object). ltb s.at at ≡ true) (λ (s : Object). ltb s.at at ≡ false) xs first → first ≤ length xs → object_at at xs ≡ if_there at (slice_get xs first)
found_there at first xs sorted point within = object_at-sorted at 0 xs first sorted point.0 point.1 within

pub returns-in-Some : goal.returns-in-Some
returns-in-Some c =
    let xs = c.args.spans.now in
    let at = c.args.at in
    let first = c.partition_point-first.result in
    let s = c.in-Some.span.now in
    let point : IsPartitionPoint (λ (s : Object). ltb s.at at ≡ true) (λ (s : Object). ltb s.at at ≡ false) xs first = IsPartitionPoint-from_clause (λ (s : Object). ltb s.at at) xs first c.partition_point-first.ensures.partitioned (IsPartitionedBy-ltb (λ (s : Object). s.at) xs at (rising_from_sorted 0 xs c.requires)) (λ a r f k. search rules) in
    let is = found_there at first xs c.requires point c.partition_point-first.ensures.bound in
    let got : slice_get xs first ≡ Some s = slice_get_read xs (length xs) first s refl (ltb-true first (length xs) (sym c.in-Some.ensures.lookup.0)) c.in-Some.ensures.lookup.1 in
    let here : eqb s.at at ≡ true = eq-eqb s.at at c.if-span-at.true in
    sym (is ∙ ap (if_there at) got ∙ ap (λ b. cond b (Some s) None) here)

pub returns-in_default : goal.returns-in_default
returns-in_default c =
    let xs = c.args.spans.now in
    let at = c.args.at in
    let first = c.partition_point-first.result in
    let s = c.in-Some.span.now in
    let point : IsPartitionPoint (λ (s : Object). ltb s.at at ≡ true) (λ (s : Object). ltb s.at at ≡ false) xs first = IsPartitionPoint-from_clause (λ (s : Object). ltb s.at at) xs first c.partition_point-first.ensures.partitioned (IsPartitionedBy-ltb (λ (s : Object). s.at) xs at (rising_from_sorted 0 xs c.requires)) (λ a r f k. search rules) in
    let is = found_there at first xs c.requires point c.partition_point-first.ensures.bound in
    let got : slice_get xs first ≡ Some s = slice_get_read xs (length xs) first s refl (ltb-true first (length xs) (sym c.in-Some.ensures.lookup.0)) c.in-Some.ensures.lookup.1 in
    let other : eqb s.at at ≡ false = ne_eqb s.at at c.if-span-at.false in
    sym (is ∙ ap (if_there at) got ∙ ap (λ b. cond b (Some s) None) other)

-- none starts at the place or above
pub returns-in_default-2 : goal.returns-in_default-2
returns-in_default-2 c =
    let xs = c.args.spans.now in
    let at = c.args.at in
    let first = c.partition_point-first.result in
    let point : IsPartitionPoint (λ (s : Object). ltb s.at at ≡ true) (λ (s : Object). ltb s.at at ≡ false) xs first = IsPartitionPoint-from_clause (λ (s : Object). ltb s.at at) xs first c.partition_point-first.ensures.partitioned (IsPartitionedBy-ltb (λ (s : Object). s.at) xs at (rising_from_sorted 0 xs c.requires)) (λ a r f k. search rules) in
    let is = found_there at first xs c.requires point c.partition_point-first.ensures.bound in
    let past : false ≡ ltb first (length xs) = ap is_some (sym c.in_default.is) ∙ c.get.ensures.lookup.0 in
    sym (is ∙ ap (if_there at) (slice_get_past xs first (ltb-false first (length xs) (sym past))))
