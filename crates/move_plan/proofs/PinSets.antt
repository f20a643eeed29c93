-- A set of places that is kept as a list of different keys.
use Rattle.std.proofs.Common.{◌≡◌, ℕ, ◌+◌, ◌<◌, subst, Bool, true, false, cond, ◌||◌, nat_eq, List, [], ◌∷◌, ◌⊎◌, length, refl, sym, ◌∙◌, inl, inr, arith}
use Rattle.std.proofs.lemmas.Bool.{cases_eq, ne_eqb}
use Rattle.std.specs.Cmp.{nat_cmp_total, nat_eq_equiv, unsigned_tied}
use Rattle.std.specs.FinSet as set
use Rattle.std.specs.List.{AllByRecursion as Each, IsDistinct, list_any}
use Rattle.move_plan.specs.Holding.{PinSet, is_pinned}
use Rattle.std.specs.Ordering.{nat_cmp, eq_by_cmp}

-- none of the keys is this one, if each differs from it
list_any-differs : (x : ℕ) (ks : List ℕ) → Each (λ y. nat_eq x y ≡ false) ks → list_any (λ y. nat_eq y x) ks ≡ false
list_any-differs x [] differ = refl
list_any-differs x (k ∷ ks) differ = rw (nat_eq_equiv.symm k x, differ.0) (list_any-differs x ks differ.1)

-- the set of different keys has as many places
pub len-from_list : (ks : List ℕ) → IsDistinct nat_eq ks → set.len (set.from_list {R = nat_cmp} ks) ≡ length ks
unfolding IsDistinct
len-from_list [] distinct = set.len-empty nat_cmp
len-from_list (k ∷ ks) distinct =
    let new : set.contains (set.from_list {R = nat_cmp} ks) k ≡ false = set.contains-from_list_nat ks k ∙ list_any-differs k ks distinct.0 in
    let more : set.len (set.from_list {R = nat_cmp} (k ∷ ks)) ≡ set.len (set.from_list {R = nat_cmp} ks) + 1 = set.len-insert nat_cmp_total (set.from_list ks) k ∙ rw new refl in
    omega (arith, more, len-from_list ks distinct.1)

list_any-same : (p q : ℕ → Bool) → ((x : ℕ) → p x ≡ q x) → (ks : List ℕ) → list_any p ks ≡ list_any q ks
list_any-same p q same [] = refl
list_any-same p q same (k ∷ ks) = λ i. same k i || list_any-same p q same ks i

-- the set has the place where the list does
pub contains-list : (ks : List ℕ) (at : ℕ) → set.contains (set.from_list {R = nat_cmp} ks) at ≡ list_any (nat_eq at) ks
contains-list ks at = set.contains-from_list nat_cmp_total ks at ∙ list_any-same _ _ (unsigned_tied at) ks

or_absorbed : (b c : Bool) → c ≡ true → (b || c) ≡ true
or_absorbed true c is = refl
or_absorbed false c is = is

-- a place that is there changes nothing
pub insert_present : (s : set.FinSet nat_cmp) (at : ℕ) → set.contains s at ≡ true → s ≡ set.insert s at
insert_present s at there = set.same_set nat_cmp_total set.nat_cmp-IsAntisymmetric s (set.insert s at) (λ q. at_key q (cases_eq q at))
  where
    at_key : (q : ℕ) → (q ≡ at) ⊎ (q ≡ at → ⊥) → set.contains s q ≡ set.contains (set.insert s at) q
    at_key q (inl same) =
        let here : set.contains s q ≡ true = rw same there in
        here ∙ sym (set.contains-insert nat_cmp_total s at q ∙ or_absorbed _ _ here)
    at_key q (inr other) =
        let differs : eq_by_cmp nat_cmp q at ≡ false = unsigned_tied q at ∙ ne_eqb q at other in
        sym (set.contains-insert nat_cmp_total s at q ∙ rw differs refl)

cond_or : (b c : Bool) → cond b true c ≡ (b || c)
cond_or true c = refl
cond_or false c = refl

-- the list with one key more is the set with it
pub from_list_more : (old new : List ℕ) (at : ℕ) → ((q : ℕ) → list_any (nat_eq q) new ≡ cond (nat_eq at q) true (list_any (nat_eq q) old)) → set.from_list {R = nat_cmp} new ≡ set.insert (set.from_list old) at
from_list_more old new at more =
    set.same_set nat_cmp_total set.nat_cmp-IsAntisymmetric _ _
    (λ q. contains-list new q ∙ more q ∙ cond_or (nat_eq at q) (list_any (nat_eq q) old) ∙ sym (set.contains-insert nat_cmp_total (set.from_list old) at q ∙ (λ i. (unsigned_tied q at ∙ nat_eq_equiv.symm q at) i || contains-list old q i)))

-- where a place isn't there, and a contract has it that there is then room, the keys leave room
pub keys_leave_room : (room : ℕ) (ks : List ℕ) (p : PinSet) (at : ℕ) → record { room = room; places = set.from_list ks } ≡ p → IsDistinct nat_eq ks → list_any (nat_eq at) ks ≡ false → (is_pinned p at ≡ false → set.len p.places < p.room) → length ks < room
keys_leave_room room ks p at same distinct absent leaves =
    let left = subst (λ (q : PinSet). is_pinned q at ≡ false → set.len q.places < q.room) (sym same) leaves in
    omega (arith, left (contains-list ks at ∙ absent), len-from_list ks distinct)
