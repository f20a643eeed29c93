use Rattle.std.proofs.Common.{◌≡◌, ℕ, suc, ◌<◌, ◌≤◌, List, [], ◌∷◌, ◌++◌, length, get_or, ltb, refl, ap, arith, true, false, leb, sym, subst, ◌∙◌, rules}
use Rattle.std.proofs.lemmas.Bool.{le-ltb}
use Rattle.std.specs.List.Sorted.{IsPartitionPoint}
use Rattle.std.proofs.lemmas.List.Sorted.{IsPartitionedBy-leb, IsPartitionPoint-from_clause}
use Rattle.sub_heaps.specs.declared.objects.Object.{Object}
use Rattle.sub_heaps.specs.ByPlace.{with_object}
use Rattle.move_plan.proofs.Spans.{with_object-insert, rising_from_sorted}
use Rattle.move_plan.proofs.places.put_in_order.Goals as goal

-- a span goes behind all others where none of them starts above it
with_object-last : (new : Object) (xs : List Object) → ((k : ℕ) (d : Object) → k < length xs → (get_or xs k d).at ≤ new.at) → with_object new xs ≡ xs ++ new ∷ []
with_object-last new [] low = refl
with_object-last new (x ∷ xs) low =
    let not_above : ltb new.at x.at ≡ false = le-ltb new.at x.at (low 0 x (omega arith)) in
    rw not_above (ap (λ ys. x ∷ ys) (with_object-last new xs (λ k d below. low (suc k) d (omega arith))))

pub returns-then-end_no_higher-clause-items : goal.returns-then-end_no_higher-clause-items
returns-then-end_no_higher-clause-items c =
    let low = (rw c.deref.ensures.value at c.if-end_no_higher.ensures) refl in
    c.push_reserved.ensures.items ∙ sym (with_object-last c.args.new c.args.spans.now.items low)

pub returns-clause-items : goal.returns-clause-items
returns-clause-items c =
    let xs = c.args.spans.now.items in
    let new = c.args.new in
    let behind = c.partition_point-behind.result in
    let slice_is : c.deref-2.result.now ≡ xs = c.deref-2.ensures.value in
    let clause = subst (λ ys. IsPartitionPoint (λ (s : Object). leb s.at new.at ≡ true) (λ (s : Object). leb s.at new.at ≡ false) ys behind) slice_is (IsPartitionPoint-from_clause (λ (s : Object). leb s.at new.at) c.deref-2.result.now behind c.partition_point-behind.ensures.partitioned (IsPartitionedBy-leb (λ (s : Object). s.at) c.deref-2.result.now new.at (rising_from_sorted 0 c.deref-2.result.now (rw slice_is c.requires.sorted))) (λ a r f k. search rules)) in
    let within = rw slice_is at c.partition_point-behind.ensures.bound in
    c.in-Ok.ensures.items ∙ sym (with_object-insert new xs behind within clause.0 clause.1)
