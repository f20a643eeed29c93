-- A walk notes whose the objects are that it moves: part by part, and, where each move is of an object that is there, one owner for each move.
use Rattle.std.proofs.Common.{◌≡◌, ℕ, ◌+◌, ◌<◌, ◌≤◌, eqb, cond, true, false, List, [], ◌∷◌, ◌++◌, length, length-append, append_assoc, append-nil, Some, refl, sym, ap, ◌∙◌, subst, inl, inr, arith}
use Rattle.std.specs.List.{AllPairs, AllByRecursion as Each}
use Rattle.std.proofs.lemmas.Bool.{cases_eq, eq-eqb, ne_eqb, false≢true}
use Rattle.sub_heaps.specs.declared.moves.Move.{Move}
use Rattle.sub_heaps.specs.declared.objects.Object.{Object}
use Rattle.sub_heaps.specs.ByPlace.{end_of}
use Rattle.sub_heaps.specs.Moving.{AreOwners, owner_at}
use Rattle.sub_heaps.specs.inner.Order.{InOrder}
use Rattle.sub_heaps.specs.inner.Walks.{left_over, owners_met, StartsBelow}
use Rattle.sub_heaps.proofs.Carried.{AreThere, above_first, later_above, later_rising, there_behind}
use Rattle.sub_heaps.proofs.Standing.{Each-weaker}

pub owners_met-none : (ms : List Move) → owners_met ms [] ≡ []
owners_met-none [] = refl
owners_met-none (m ∷ ms) = refl

-- a list and what is behind it
pub owners_met-append : (ms : List Move) (xs ys : List Object) → owners_met ms (xs ++ ys) ≡ owners_met ms xs ++ owners_met (left_over ms xs) ys
owners_met-append [] xs ys = refl
owners_met-append (m ∷ ms) [] ys = refl
owners_met-append (m ∷ ms) (x ∷ xs) ys =
    elim (eqb m.from x.at) as (λ t. cond t (x.owner ∷ owners_met ms (xs ++ ys)) (owners_met (m ∷ ms) (xs ++ ys)) ≡ cond t (x.owner ∷ owners_met ms xs) (owners_met (m ∷ ms) xs) ++ owners_met (cond t (left_over ms xs) (left_over (m ∷ ms) xs)) ys) [
      | true ↦ ap (λ zs. x.owner ∷ zs) (owners_met-append ms xs ys)
      | false ↦ owners_met-append (m ∷ ms) xs ys
    ]

-- each move is made or left
pub length-met : (ms : List Move) (xs : List Object) → length (owners_met ms xs) + length (left_over ms xs) ≡ length ms
length-met [] xs = omega arith
length-met (m ∷ ms) [] = omega arith
length-met (m ∷ ms) (x ∷ xs) =
    elim (eqb m.from x.at) as (λ t. length (cond t (x.owner ∷ owners_met ms xs) (owners_met (m ∷ ms) xs)) + length (cond t (left_over ms xs) (left_over (m ∷ ms) xs)) ≡ length (m ∷ ms)) [
      | true ↦ omega (arith, length-met ms xs)
      | false ↦ length-met (m ∷ ms) xs
    ]

-- no more are made than there are objects
pub length-met_within : (ms : List Move) (xs : List Object) → length (owners_met ms xs) ≤ length xs
length-met_within [] xs = omega arith
length-met_within (m ∷ ms) [] = omega arith
length-met_within (m ∷ ms) (x ∷ xs) =
    elim (eqb m.from x.at) as (λ t. length (cond t (x.owner ∷ owners_met ms xs) (owners_met (m ∷ ms) xs)) ≤ length (x ∷ xs)) [
      | true ↦ omega (arith, length-met_within ms xs)
      | false ↦ omega (arith, length-met_within (m ∷ ms) xs)
    ]

-- objects that all start below the first move
pub owners_met-below : (end : ℕ) (ms : List Move) (xs : List Object) → (StartsBelow end ms → ⊥) → Each (λ o. o.at < end) xs → owners_met ms xs ≡ []
owners_met-below end [] xs high below = refl
owners_met-below end (m ∷ ms) [] high below = refl
owners_met-below end (m ∷ ms) (x ∷ xs) high below =
    let other : eqb m.from x.at ≡ false = ne_eqb m.from x.at (λ same. high (omega (arith, same, below.0))) in
    rw other (owners_met-below end (m ∷ ms) xs high below.1)

-- ---- a list of owners, part by part

abbrev pub Notes : (owners : List ℕ) (ms : List Move) (xs : List Object) (room : ℕ) (now : List ℕ) → Type 0
Notes owners ms xs room now = length owners + length ms ≤ room → now ≡ owners ++ owners_met ms xs

pub Notes-none : (owners : List ℕ) (ms : List Move) (xs : List Object) (room : ℕ) → owners_met ms xs ≡ [] → Notes owners ms xs room owners
Notes-none owners ms xs room none = λ fits. rw none (sym (append-nil owners))

-- one list and what is behind it
pub Notes-append : (owners first both : List ℕ) (ms : List Move) (xs ys : List Object) (room : ℕ) → Notes owners ms xs room first → Notes first (left_over ms xs) ys room both → Notes owners ms (xs ++ ys) room both
Notes-append owners first both ms xs ys room front behind = λ fits.
    let one = front fits in
    let as_many : length first + length (left_over ms xs) ≤ room = omega (arith, fits, ap (λ (os : List ℕ). length os) one, length-append owners (owners_met ms xs), length-met ms xs) in
    behind as_many ∙ ap (λ (os : List ℕ). os ++ owners_met (left_over ms xs) ys) one ∙ append_assoc owners (owners_met ms xs) (owners_met (left_over ms xs) ys) ∙ ap (λ (os : List ℕ). owners ++ os) (sym (owners_met-append ms xs ys))

-- an object between two lists
pub Notes-fork : (owners first middle all : List ℕ) (ms : List Move) (xs : List Object) (o : Object) (ys : List Object) (later : List Move) (room : ℕ) → later ≡ left_over (left_over ms xs) (o ∷ []) → Notes owners ms xs room first → Notes first (left_over ms xs) (o ∷ []) room middle → Notes middle later ys room all → Notes owners ms (xs ++ o ∷ ys) room all
Notes-fork owners first middle all ms xs o ys later room left front at_object behind =
    let rest : Notes middle (left_over (left_over ms xs) (o ∷ [])) ys room all = subst (λ (later : List Move). Notes middle later ys room all) left behind in
    Notes-append owners first all ms xs (o ∷ ys) room front (Notes-append first middle all (left_over ms xs) (o ∷ []) ys room at_object rest)

-- ---- moves of objects that are there

-- owners of objects above the first are found among the others
owners_behind : (x : Object) (xs : List Object) (ms : List Move) (owners : List ℕ) → Each (λ m. x.at < m.from) ms → AreOwners ms xs owners → AreOwners ms (x ∷ xs) owners
owners_behind x xs [] [] above are = tt
owners_behind x xs [] (owner ∷ owners) above are = absurd are
owners_behind x xs (m ∷ ms) [] above are = absurd are
owners_behind x xs (m ∷ ms) (owner ∷ owners) above are =
    let other : eqb x.at m.from ≡ false = ne_eqb x.at m.from (λ same. absurd (omega (arith, same, above.0))) in
    (rw other are.0, owners_behind x xs ms owners above.1 are.1)

pub owners_met_all : (low : ℕ) (ms : List Move) (xs : List Object) → InOrder low xs → AllPairs (λ a b. a.from < b.from) ms → AreThere xs ms → AreOwners ms xs (owners_met ms xs)
owners_met_all low [] xs order rising there = tt
owners_met_all low (m ∷ ms) [] order rising there = absurd (false≢true there.0)
owners_met_all low (m ∷ ms) (x ∷ xs) order rising there = elim (cases_eq m.from x.at) [
  | inl same ↦
      let hit : eqb m.from x.at ≡ true = eq-eqb m.from x.at same in
      let found : eqb x.at m.from ≡ true = eq-eqb x.at m.from (sym same) in
      let later = Each-weaker (λ n. m.from < n.from) (λ n. x.at < n.from) (λ n high. omega (arith, high, same)) ms (later_above m ms rising) in
      let rest = owners_met_all (end_of x) ms xs order.2 (later_rising m ms rising) (there_behind x xs ms later there.1) in
      let met : owners_met (m ∷ ms) (x ∷ xs) ≡ x.owner ∷ owners_met ms xs = rw hit refl in
      let its : owner_at m.from (x ∷ xs) ≡ Some x.owner = rw found refl in
      subst (λ (os : List ℕ). AreOwners (m ∷ ms) (x ∷ xs) os) (sym met) (its, owners_behind x xs ms (owners_met ms xs) later rest)
  | inr other ↦
      let miss : eqb m.from x.at ≡ false = ne_eqb m.from x.at other in
      let above = above_first low m x xs order there.0 other in
      let later = Each-weaker (λ n. m.from < n.from) (λ n. x.at < n.from) (λ n high. omega (arith, high, above)) ms (later_above m ms rising) in
      let met : owners_met (m ∷ ms) (x ∷ xs) ≡ owners_met (m ∷ ms) xs = rw miss refl in
      let rest = owners_met_all (end_of x) (m ∷ ms) xs order.2 rising (there_behind x xs (m ∷ ms) (above, later) there) in
      subst (λ (os : List ℕ). AreOwners (m ∷ ms) (x ∷ xs) os) (sym met) (owners_behind x xs (m ∷ ms) (owners_met (m ∷ ms) xs) (above, later) rest)
]

pub one_owner_each : (ms : List Move) (xs : List Object) (owners : List ℕ) → AreOwners ms xs owners → length owners ≡ length ms
one_owner_each [] xs [] are = refl
one_owner_each [] xs (owner ∷ owners) are = absurd are
one_owner_each (m ∷ ms) xs [] are = absurd are
one_owner_each (m ∷ ms) xs (owner ∷ owners) are = omega (arith, one_owner_each ms xs owners are.1)

-- there are no more moves than objects
pub as_many_objects : (low : ℕ) (ms : List Move) (xs : List Object) → InOrder low xs → AllPairs (λ a b. a.from < b.from) ms → AreThere xs ms → length ms ≤ length xs
as_many_objects low ms xs order rising there = omega (arith, one_owner_each ms xs (owners_met ms xs) (owners_met_all low ms xs order rising there), length-met_within ms xs)
