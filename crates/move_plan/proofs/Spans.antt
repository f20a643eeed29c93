-- Spans of moves in order of place: what one move more does to them, and what holds of each of them.
use Rattle.std.proofs.Common.{◌≡◌, ◌≢◌, ℕ, zero, suc, ◌+◌, ◌<◌, ◌≤◌, true, false, cond, eqb, leb, ltb, List, [], ◌∷◌, ◌++◌, length, get_or, take, drop, Some, None, refl, ap, ◌∙◌, inl, inr, arith}
use Rattle.std.specs.List.{AllByRecursion as Each, AllWithin, slice_get}
use Rattle.std.specs.List.Sorted.{IsNonDecreasingBy}
use Rattle.std.proofs.lemmas.Bool.{cases_eq, eq-eqb, ne_eqb, ltb-true, ltb-false}
use Rattle.std.proofs.lemmas.Bool.Decides.{nat_tests}
use Rattle.sub_heaps.specs.declared.objects.Object.{Object}
use Rattle.sub_heaps.specs.ByPlace.{end_of, object_at, with_object}
use Rattle.sub_heaps.specs.SubHeaps.{IsApartFrom}
use Rattle.sub_heaps.proofs.Edits.{Each-with_object, with_object-Each, object_at-above}
use Rattle.sub_heaps.proofs.Kept.{length-with_object}
use Rattle.sub_heaps.proofs.Standing.{Each-weaker}
use Rattle.sub_heaps.specs.declared.moves.Move.{Move}
use Rattle.move_plan.proofs.Judged.{if_there}
use Rattle.move_plan.specs.inner.Spans.{origin, target, spans_after, origins_of, targets_of, AreSorted, AreInOrder}

-- ---- one move more

pub spans_push : (span : ℕ → Move → Object) (turn : ℕ) (spans : List Object) (ms : List Move) (m : Move) → spans_after span turn spans (ms ++ m ∷ []) ≡ with_object (span (turn + length ms) m) (spans_after span turn spans ms)
spans_push span turn spans [] m = ap (λ t. with_object (span t m) spans) (omega arith)
spans_push span turn spans (e ∷ ms) m =
    spans_push span (suc turn) (with_object (span turn e) spans) ms m
    ∙ ap (λ t. with_object (span t m) (spans_after span (suc turn) (with_object (span turn e) spans) ms)) (omega arith)

pub origins_push : (ms : List Move) (m : Move) → origins_of (ms ++ m ∷ []) ≡ with_object (origin (length ms) m) (origins_of ms)
origins_push ms m = spans_push origin 0 [] ms m ∙ ap (λ t. with_object (origin t m) (origins_of ms)) (omega arith)

pub targets_push : (ms : List Move) (m : Move) → targets_of (ms ++ m ∷ []) ≡ with_object (target (length ms) m) (targets_of ms)
targets_push ms m = spans_push target 0 [] ms m ∙ ap (λ t. with_object (target t m) (targets_of ms)) (omega arith)

-- ---- what holds of each span

pub each_span : (span : ℕ → Move → Object) (P : Object → Type 0) (R : Move → Type 0) → ((turn : ℕ) (m : Move) → R m → P (span turn m)) → (turn : ℕ) (spans : List Object) (ms : List Move) → Each P spans → Each R ms → Each P (spans_after span turn spans ms)
each_span span P R f turn spans [] each rs = each
each_span span P R f turn spans (m ∷ ms) each rs = each_span span P R f (suc turn) (with_object (span turn m) spans) ms (Each-with_object P (span turn m) spans (f turn m rs.0) each) rs.1

pub span_each : (span : ℕ → Move → Object) (P : Object → Type 0) (R : Move → Type 0) → ((turn : ℕ) (m : Move) → P (span turn m) → R m) → (turn : ℕ) (spans : List Object) (ms : List Move) → Each P (spans_after span turn spans ms) → Each P spans × Each R ms
span_each span P R f turn spans [] each = (each, tt)
span_each span P R f turn spans (m ∷ ms) each =
    let later = span_each span P R f (suc turn) (with_object (span turn m) spans) ms each in
    let here = with_object-Each P (span turn m) spans later.0 in
    (here.1, (f turn m here.0, later.1))

-- the turn of each is below the number of moves
pub turns_below : (span : ℕ → Move → Object) → ((turn : ℕ) (m : Move) → (span turn m).owner ≡ turn) → (turn top : ℕ) (spans : List Object) (ms : List Move) → turn + length ms ≤ top → Each (λ s. s.owner < top) spans → Each (λ s. s.owner < top) (spans_after span turn spans ms)
turns_below span is turn top spans [] within each = each
turns_below span is turn top spans (m ∷ ms) within each =
    turns_below span is (suc turn) top (with_object (span turn m) spans) ms (omega (arith, within)) (Each-with_object (λ s. s.owner < top) (span turn m) spans (omega (arith, within, is turn m)) each)

-- ---- spans that are sorted

AreSorted-with : (low : ℕ) (new : Object) (xs : List Object) → low ≤ new.at → AreSorted low xs → AreSorted low (with_object new xs)
AreSorted-with low new [] le sorted = (le, tt)
AreSorted-with low new (x ∷ xs) le sorted =
    elim (ltb new.at x.at) as (λ t. ltb new.at x.at ≡ t → AreSorted low (cond t (new ∷ x ∷ xs) (x ∷ with_object new xs))) [
      | true ↦ λ is. (le, (omega (arith, ltb-true new.at x.at is), sorted.1))
      | false ↦ λ is. (sorted.0, AreSorted-with x.at new xs (ltb-false new.at x.at is) sorted.1)
    ] refl

pub AreSorted-spans : (span : ℕ → Move → Object) (turn : ℕ) (spans : List Object) (ms : List Move) → AreSorted 0 spans → AreSorted 0 (spans_after span turn spans ms)
AreSorted-spans span turn spans [] sorted = sorted
AreSorted-spans span turn spans (m ∷ ms) sorted = AreSorted-spans span (suc turn) (with_object (span turn m) spans) ms (AreSorted-with 0 (span turn m) spans (omega arith) sorted)

sorted_above : (low : ℕ) (xs : List Object) → AreSorted low xs → (j : ℕ) (d : Object) → j < length xs → low ≤ (get_or xs j d).at
sorted_above low [] sorted j d within = absurd (omega arith)
sorted_above low (x ∷ xs) sorted zero d within = sorted.0
sorted_above low (x ∷ xs) sorted (suc j) d within = omega (arith, sorted.0, sorted_above x.at xs sorted.1 j d (omega arith))

-- no span starts below an earlier one
pub rising_from_sorted : (low : ℕ) (xs : List Object) → AreSorted low xs → IsNonDecreasingBy (λ (s : Object). s.at) xs
rising_from_sorted low [] sorted i j d le within = absurd (omega arith)
rising_from_sorted low (x ∷ xs) sorted zero zero d le within = omega arith
rising_from_sorted low (x ∷ xs) sorted zero (suc j) d le within = sorted_above x.at xs sorted.1 j d (omega arith)
rising_from_sorted low (x ∷ xs) sorted (suc i) zero d le within = absurd (omega arith)
rising_from_sorted low (x ∷ xs) sorted (suc i) (suc j) d le within = rising_from_sorted x.at xs sorted.1 i j d (omega arith) (omega arith)

-- a span is put in where those before it start no higher and those behind it higher
pub with_object-insert : (new : Object) (xs : List Object) (k : ℕ) → k ≤ length xs → AllWithin (λ (s : Object). leb s.at new.at ≡ true) xs 0 k → AllWithin (λ (s : Object). leb s.at new.at ≡ false) xs k (length xs) → with_object new xs ≡ take k xs ++ new ∷ drop k xs
with_object-insert new [] zero within low high = refl
with_object-insert new [] (suc k) within low high = absurd (omega arith)
with_object-insert new (x ∷ xs) zero within low high = let above : leb x.at new.at ≡ false = high 0 x (omega arith) (omega arith) in grind (arith, nat_tests)
with_object-insert new (x ∷ xs) (suc k) within low high =
    let below : leb x.at new.at ≡ true = low 0 x (omega arith) (omega arith) in
    let rest = with_object-insert new xs k (omega arith) (λ i d from to. low (suc i) d (omega arith) (omega arith)) (λ i d from to. high (suc i) d (omega arith) (omega arith)) in
    grind (arith, nat_tests, rest)

-- the span at a place is the first that does not start below it, if it starts there
each_above : (low at : ℕ) (xs : List Object) → at < low → AreSorted low xs → Each (λ s. at < s.at) xs
each_above low at [] above sorted = tt
each_above low at (x ∷ xs) above sorted = (omega (arith, sorted.0), each_above x.at at xs (omega (arith, sorted.0)) sorted.1)

pub object_at-sorted : (at low : ℕ) (xs : List Object) (k : ℕ) → AreSorted low xs → AllWithin (λ (s : Object). ltb s.at at ≡ true) xs 0 k → AllWithin (λ (s : Object). ltb s.at at ≡ false) xs k (length xs) → k ≤ length xs → object_at at xs ≡ if_there at (slice_get xs k)
object_at-sorted at low [] k sorted below high within = refl
object_at-sorted at low (x ∷ xs) zero sorted below high within =
    let from : at ≤ x.at = ltb-false x.at at (high 0 x (omega arith) (omega arith)) in
    elim (cases_eq x.at at) [
      | inl here ↦ let is : eqb x.at at ≡ true = eq-eqb x.at at here in rw is refl
      | inr other ↦ let is : eqb x.at at ≡ false = ne_eqb x.at at other in rw is (object_at-above at xs (each_above x.at at xs (omega arith) sorted.1))
    ]
object_at-sorted at low (x ∷ xs) (suc k) sorted below high within =
    let lower : x.at < at = ltb-true x.at at (below 0 x (omega arith) (omega arith)) in
    let other : eqb x.at at ≡ false = ne_eqb x.at at (λ same. absurd (omega arith)) in
    rw other (object_at-sorted at x.at xs k sorted.1 (λ i d from to. below (suc i) d (omega arith) (omega arith)) (λ i d from to. high (suc i) d (omega arith) (omega arith)) (omega arith))

-- ---- spans in order, and one more

pub AreInOrder-weaker : (low high : ℕ) (xs : List Object) → low ≤ high → AreInOrder high xs → AreInOrder low xs
AreInOrder-weaker low high [] le order = tt
AreInOrder-weaker low high (x ∷ xs) le order = (omega (arith, order.0), order.1)

order_above : (low : ℕ) (xs : List Object) → AreInOrder low xs → Each (λ s. low ≤ s.at) xs
order_above low [] order = tt
order_above low (x ∷ xs) order = (order.0, order_above low xs (AreInOrder-weaker low (end_of x) xs (omega (arith, order.0)) order.1))

-- where spans are in order with one more, they are without it, and it is apart from each
pub record IsApartFromAll (from : ℕ) (new : Object) (xs : List Object) : Type 0 where
  pub low : from ≤ new.at
  pub order : AreInOrder from xs
  pub apart : Each (IsApartFrom new.size new.at) xs

pub order_with : (low : ℕ) (new : Object) (xs : List Object) → AreInOrder low (with_object new xs) → IsApartFromAll low new xs
order_with low new [] order = record { low = order.0; order = tt; apart = tt }
order_with low new (x ∷ xs) order =
    elim (ltb new.at x.at) as (λ t. ltb new.at x.at ≡ t → AreInOrder low (cond t (new ∷ x ∷ xs) (x ∷ with_object new xs)) → IsApartFromAll low new (x ∷ xs)) [
      | true ↦ λ is order. record {
        low = order.0;
        order = (omega (arith, order.0, order.1.0), order.1.1);
        apart = (inr order.1.0, Each-weaker (λ s. end_of x ≤ s.at) (IsApartFrom new.size new.at) (λ s above. inr (omega (arith, above, order.1.0))) xs (order_above (end_of x) xs order.1.1));
      }
      | false ↦ λ is order.
          let rest = order_with (end_of x) new xs order.1 in
          record { low = omega (arith, order.0, rest.low); order = (order.0, rest.order); apart = (inl rest.low, rest.apart) }
    ] refl order

pub with_order : (low : ℕ) (new : Object) (xs : List Object) → 0 < new.size → IsApartFromAll low new xs → AreInOrder low (with_object new xs)
with_order low new [] some apart = (apart.low, tt)
with_order low new (x ∷ xs) some apart =
    elim (ltb new.at x.at) as (λ t. ltb new.at x.at ≡ t → AreInOrder low (cond t (new ∷ x ∷ xs) (x ∷ with_object new xs))) [
      | true ↦ λ is. (apart.low, (above (ltb-true new.at x.at is) apart.apart.0, apart.order.1))
      | false ↦ λ is. (apart.order.0, with_order (end_of x) new xs some (record { low = below (ltb-false new.at x.at is) apart.apart.0; order = apart.order.1; apart = apart.apart.1 }))
    ] refl
  where
    above : new.at < x.at → IsApartFrom new.size new.at x → end_of new ≤ x.at
    above lower (inl ends) = absurd (omega arith)
    above lower (inr starts) = starts

    below : x.at ≤ new.at → IsApartFrom new.size new.at x → end_of x ≤ new.at
    below higher (inl ends) = ends
    below higher (inr starts) = absurd (omega arith)

-- spans in order are sorted
pub sorted_from_order : (low : ℕ) (xs : List Object) → AreInOrder low xs → AreSorted low xs
sorted_from_order low [] order = tt
sorted_from_order low (x ∷ xs) order = (order.0, sorted_from_order x.at xs (AreInOrder-weaker x.at (end_of x) xs (omega arith) order.1))

-- ---- the span at a place

pub none_at : (at : ℕ) (xs : List Object) → object_at at xs ≡ None → Each (λ s. s.at ≢ at) xs
none_at at [] none = tt
none_at at (x ∷ xs) none =
    elim (cases_eq x.at at) [
      | inl here ↦ let is : eqb x.at at ≡ true = eq-eqb x.at at here in absurd (let found : Some x ≡ None = rw is at none in cc)
      | inr other ↦ let is : eqb x.at at ≡ false = ne_eqb x.at at other in (other, none_at at xs (rw is at none))
    ]

pub at_none : (at : ℕ) (xs : List Object) → Each (λ s. s.at ≢ at) xs → object_at at xs ≡ None
at_none at [] none = refl
at_none at (x ∷ xs) none = let is : eqb x.at at ≡ false = ne_eqb x.at at none.0 in rw is (at_none at xs none.1)

-- one more is found where none was
pub object_at-with_new : (new : Object) (xs : List Object) → Each (λ s. s.at ≢ new.at) xs → object_at new.at (with_object new xs) ≡ Some new
object_at-with_new new [] none = let here : eqb new.at new.at ≡ true = eq-eqb new.at new.at refl in rw here refl
object_at-with_new new (x ∷ xs) none =
    let here : eqb new.at new.at ≡ true = eq-eqb new.at new.at refl in
    let is : eqb x.at new.at ≡ false = ne_eqb x.at new.at none.0 in
    elim (ltb new.at x.at) as (λ t. object_at new.at (cond t (new ∷ x ∷ xs) (x ∷ with_object new xs)) ≡ Some new) [
      | true ↦ rw here refl
      | false ↦ rw is (object_at-with_new new xs none.1)
    ]

-- there are as many spans as moves
pub length-spans : (span : ℕ → Move → Object) (turn : ℕ) (spans : List Object) (ms : List Move) → length (spans_after span turn spans ms) ≡ length spans + length ms
length-spans span turn spans [] = omega arith
length-spans span turn spans (m ∷ ms) = omega (arith, length-spans span (suc turn) (with_object (span turn m) spans) ms, length-with_object (span turn m) spans)
