-- Ids and the objects that they own, as objects come, go and move.
use Rattle.std.proofs.Common.{◌≡◌, ◌≢◌, ℕ, ◌+◌, ◌<◌, ◌≤◌, Bool, true, false, cond, eqb, ltb, not, List, [], ◌∷◌, length, Option, Some, None, IsSome, is_some, set, refl, sym, ap, ◌∙◌, subst, inl, inr, arith, get_or-set_same, get_or-set_other, set-set, length-set}
use Rattle.std.specs.List.{AllByRecursion as Each, find}
use Rattle.std.specs.Option.{option_map}
use Rattle.std.proofs.lemmas.Bool.{cases_eq, cases_lt, eqb-true, eqb-false, eq-eqb, ne_eqb, false≢true}
use Rattle.std.proofs.lemmas.List.{get_or_past}
use Rattle.std.proofs.lemmas.Option.{none-some, same_Some}
use Rattle.handle_table.specs.Table.{IsFree, IsInUse, address_of}
use Rattle.sub_heaps.specs.declared.objects.Object.{Object}
use Rattle.sub_heaps.specs.ByPlace.{end_of, object_at, with_object, without, with_moved, shifted}
use Rattle.sub_heaps.specs.SubHeaps.{StandFrom}
use Rattle.sub_heaps.proofs.Edits.{Each-with_object}
use Rattle.sub_heaps.proofs.Taken.{found_at}
use Rattle.arena_meaning.specs.Arena.{object_of}
use Rattle.arena_meaning.specs.Changes.{without_owner}

-- ---- what a test finds

-- what holds of each element holds of the one that is found, and it passes
pub find_each : {X : Type 0} (P : X → Type 0) (p : X → Bool) (xs : List X) (x : X) → Each P xs → find p xs ≡ Some x → P x × (p x ≡ true)
find_each P p [] x each found = absurd (none-some x found)
find_each P p (y ∷ ys) x each found =
    elim (p y) as (λ t. p y ≡ t → cond t (Some y) (find p ys) ≡ Some x → P x × (p x ≡ true)) [
      | true ↦ λ is found. let same : y ≡ x = same_Some y x found in subst (λ z. P z × (p z ≡ true)) same (each.0, is)
      | false ↦ λ is found. find_each P p ys x each.1 found
    ] refl found

pub value_in : {X : Type 0} (o : Option X) → IsSome o → (x : X) × (o ≡ Some x)
value_in None some = absurd (false≢true some)
value_in (Some x) some = (x, refl)

-- with one object more that doesn't pass, and that does where no other one does
pub find-with_object_other : (p : Object → Bool) (new : Object) (xs : List Object) → p new ≡ false → find p (with_object new xs) ≡ find p xs
find-with_object_other p new [] other = rw other refl
find-with_object_other p new (x ∷ xs) other =
    elim (ltb new.at x.at) as (λ t. find p (cond t (new ∷ x ∷ xs) (x ∷ with_object new xs)) ≡ find p (x ∷ xs)) [
      | true ↦ rw other refl
      | false ↦ ap (λ (r : Option Object). cond (p x) (Some x) r) (find-with_object_other p new xs other)
    ]

pub find-with_object_new : (p : Object → Bool) (new : Object) (xs : List Object) → p new ≡ true → Each (λ x. p x ≡ false) xs → find p (with_object new xs) ≡ Some new
find-with_object_new p new [] is each = rw is refl
find-with_object_new p new (x ∷ xs) is each =
    elim (ltb new.at x.at) as (λ t. find p (cond t (new ∷ x ∷ xs) (x ∷ with_object new xs)) ≡ Some new) [
      | true ↦ rw is refl
      | false ↦ rw each.0 (find-with_object_new p new xs is each.1)
    ]

-- ---- the objects that an id doesn't own

pub object_of-without_owner : (id gone : ℕ) (xs : List Object) → id ≢ gone → object_of id (without_owner gone xs) ≡ object_of id xs
object_of-without_owner id gone [] other = refl
object_of-without_owner id gone (x ∷ xs) other = elim (cases_eq x.owner gone) [
  | inl here ↦
      let goes : eqb x.owner gone ≡ true = eq-eqb x.owner gone here in
      let skipped : eqb x.owner id ≡ false = ne_eqb x.owner id (λ same. other (sym same ∙ here)) in
      rw (goes, skipped) (object_of-without_owner id gone xs other)
  | inr kept ↦
      let stays : eqb x.owner gone ≡ false = ne_eqb x.owner gone kept in
      rw stays (ap (λ (r : Option Object). cond (eqb x.owner id) (Some x) r) (object_of-without_owner id gone xs other))
]

pub Each-without_owner : (P : Object → Type 0) (gone : ℕ) (xs : List Object) → Each (λ o. o.owner ≢ gone → P o) xs → Each P (without_owner gone xs)
Each-without_owner P gone [] each = tt
Each-without_owner P gone (x ∷ xs) each =
    elim (eqb x.owner gone) as (λ t. eqb x.owner gone ≡ t → Each P (cond (not t) (x ∷ without_owner gone xs) (without_owner gone xs))) [
      | true ↦ λ is. Each-without_owner P gone xs each.1
      | false ↦ λ is. (each.0 (eqb-false x.owner gone is), Each-without_owner P gone xs each.1)
    ] refl

-- none of them is owned by it
without_owner-each : (gone : ℕ) (xs : List Object) → Each (λ o. eqb o.owner gone ≡ false) (without_owner gone xs)
without_owner-each gone xs = Each-without_owner (λ o. eqb o.owner gone ≡ false) gone xs (all xs)
  where
    all : (xs : List Object) → Each (λ o. o.owner ≢ gone → eqb o.owner gone ≡ false) xs
    all [] = tt
    all (x ∷ xs) = (ne_eqb x.owner gone, all xs)

-- where the object at a place is the one that an id owns, they are the same list
without-owner : (at id : ℕ) (xs : List Object) → Each (λ o. eqb o.at at ≡ eqb o.owner id) xs → without at xs ≡ without_owner id xs
without-owner at id [] same = refl
without-owner at id (x ∷ xs) same = rw same.0 (ap (λ ys. cond (not (eqb x.owner id)) (x ∷ ys) ys) (without-owner at id xs same.1))

-- ---- one object at a place

module _ (count size : ℕ) where
  pub each_above : (from : ℕ) (xs : List Object) → StandFrom count size from xs → (low : ℕ) → low ≤ from → Each (λ o. low ≤ o.at) xs
  each_above from [] stand low le = tt
  each_above from (x ∷ xs) stand low le = (omega (arith, stand.0), each_above (end_of x) xs stand.3 low (omega (arith, stand.0)))

  -- objects that stand in order have places of their own
  pub one_at : (from at : ℕ) (xs : List Object) (o : Object) → StandFrom count size from xs → object_at at xs ≡ Some o → Each (λ x. x.at ≡ at → x ≡ o) xs
  one_at from at [] o stand found = tt
  one_at from at (x ∷ xs) o stand found = elim (cases_eq x.at at) [
    | inl here ↦
        let first : eqb x.at at ≡ true = eq-eqb x.at at here in
        let is : x ≡ o = same_Some x o (rw first at found) in
        (λ same. is, behind xs (each_above (end_of x) xs stand.3 (end_of x) (omega arith)) (omega (arith, stand.2.0, here)))
    | inr other ↦
        let skipped : eqb x.at at ≡ false = ne_eqb x.at at other in
        (λ same. absurd (other same), one_at (end_of x) at xs o stand.3 (rw skipped at found))
  ]
    where
      behind : (xs : List Object) → Each (λ y. end_of x ≤ y.at) xs → at < end_of x → Each (λ y. y.at ≡ at → y ≡ o) xs
      behind [] above below = tt
      behind (y ∷ ys) above below = (λ same. absurd (omega (arith, same, above.0)), behind ys above.1 below)

  -- the object that a test finds is the one at its place
  pub placed : (p : Object → Bool) (from : ℕ) (xs : List Object) (o : Object) → StandFrom count size from xs → find p xs ≡ Some o → object_at o.at xs ≡ Some o
  placed p from [] o stand found = absurd (none-some o found)
  placed p from (x ∷ xs) o stand found =
      elim (p x) as (λ t. cond t (Some x) (find p xs) ≡ Some o → object_at o.at (x ∷ xs) ≡ Some o) [
        | true ↦ λ found. subst (λ (y : Object). object_at y.at (x ∷ xs) ≡ Some y) (same_Some x o found) (rw (eq-eqb x.at x.at refl) refl)
        | false ↦ λ found.
            let above = find_each (λ y. end_of x ≤ y.at) p xs o (each_above (end_of x) xs stand.3 (end_of x) (omega arith)) found in
            let skipped : eqb x.at o.at ≡ false = ne_eqb x.at o.at (λ same. absurd (omega (arith, same, above.0, stand.2.0))) in
            rw skipped (placed p (end_of x) xs o stand.3 found)
      ] found

-- ---- owners and addresses

-- each id in use owns an object, and each object's owner has its address
pub record Matches (start : ℕ) (table : List (Option ℕ)) (objects : List Object) : Type 0 where
  pub owned : (id : ℕ) → IsInUse table id → IsSome (object_of id objects)
  pub addressed : Each (λ o. address_of table o.owner ≡ Some (start + o.at)) objects

-- an id that has an address is one of the table's
pub in_use_within : (table : List (Option ℕ)) (id : ℕ) → IsInUse table id → id < length table
in_use_within table id in_use = elim (cases_lt id (length table)) [
  | inl within ↦ within
  | inr past ↦ absurd (false≢true (sym (ap is_some (get_or_past table id None past)) ∙ in_use))
]

-- an id that was freed isn't in use
pub freed_unused : (table : List (Option ℕ)) (gone id : ℕ) → IsInUse (set table gone None) id → id ≢ gone
freed_unused table gone id in_use same = elim (cases_lt gone (length table)) [
  | inl within ↦ false≢true (sym (ap is_some (ap (address_of (set table gone None)) same ∙ get_or-set_same table gone None None within)) ∙ in_use)
  | inr past ↦ absurd (omega (arith, in_use_within (set table gone None) id in_use, length-set table gone None))
]

pub same_sum : (a b c : ℕ) → Some (a + b) ≡ Some (a + c) → b ≡ c
same_sum a b c same = let is : a + b ≡ a + c = same_Some (a + b) (a + c) same in omega (arith, is)

module _ (start : ℕ) (table : List (Option ℕ)) (objects : List Object) (matches : Matches start table objects) where
  -- the object of an id is owned by it, and the id has its address
  pub owner_found : (id : ℕ) (o : Object) → object_of id objects ≡ Some o → (o.owner ≡ id) × (address_of table id ≡ Some (start + o.at))
  owner_found id o found =
      let each = find_each (λ x. address_of table x.owner ≡ Some (start + x.at)) (λ x. eqb x.owner id) objects o matches.addressed found in
      let owner : o.owner ≡ id = eqb-true o.owner id each.1 in
      (owner, ap (address_of table) (sym owner) ∙ each.0)

  -- an id's address is that of its object
  pub address_of-object : (id : ℕ) → address_of table id ≡ option_map (λ o. start + o.at) (object_of id objects)
  address_of-object id =
      elim (object_of id objects) as (λ r. object_of id objects ≡ r → address_of table id ≡ option_map (λ o. start + o.at) r) [
        | None ↦ λ none. free_from (address_of table id) (λ some. absurd (false≢true (sym (ap is_some none) ∙ matches.owned id some)))
        | Some o ↦ λ found. (owner_found id o found).1
      ] refl
    where
      free_from : (r : Option ℕ) → (IsSome r → ⊥) → r ≡ None
      free_from None unused = refl
      free_from (Some a) unused = absurd (unused refl)

  -- ---- one more

  pub Matches-new : (new : Object) → IsFree table new.owner → Matches start (set table new.owner (Some (start + new.at))) (with_object new objects)
  Matches-new new free = record {
    owned = λ id in_use. elim (cases_eq new.owner id) [
      | inl same ↦ ap is_some (find-with_object_new (λ o. eqb o.owner id) new objects (eq-eqb new.owner id same) (unowned objects matches.addressed id same))
      | inr other ↦
          let before : IsInUse table id = ap is_some (sym (get_or-set_other table new.owner id (Some (start + new.at)) None (λ same. other (sym same)))) ∙ in_use in
          ap is_some (find-with_object_other (λ o. eqb o.owner id) new objects (ne_eqb new.owner id other)) ∙ matches.owned id before
    ];
    addressed = Each-with_object (λ o. address_of (set table new.owner (Some (start + new.at))) o.owner ≡ Some (start + o.at)) new objects (get_or-set_same table new.owner (Some (start + new.at)) None free.0) (others objects matches.addressed);
  }
    where
      differs : (o : Object) → address_of table o.owner ≡ Some (start + o.at) → o.owner ≢ new.owner
      differs o is same = absurd (false≢true (sym free.1 ∙ ap is_some (ap (address_of table) (sym same) ∙ is)))

      -- the free id owned none
      unowned : (xs : List Object) → Each (λ o. address_of table o.owner ≡ Some (start + o.at)) xs → (id : ℕ) → new.owner ≡ id → Each (λ o. eqb o.owner id ≡ false) xs
      unowned [] each id same = tt
      unowned (x ∷ xs) each id same = (ne_eqb x.owner id (λ is. differs x each.0 (is ∙ sym same)), unowned xs each.1 id same)

      others : (xs : List Object) → Each (λ o. address_of table o.owner ≡ Some (start + o.at)) xs → Each (λ o. address_of (set table new.owner (Some (start + new.at))) o.owner ≡ Some (start + o.at)) xs
      others [] each = tt
      others (x ∷ xs) each = (get_or-set_other table new.owner x.owner (Some (start + new.at)) None (differs x each.0) ∙ each.0, others xs each.1)

  -- ---- one less

  pub Matches-gone : (gone : ℕ) → Matches start (set table gone None) (without_owner gone objects)
  Matches-gone gone = record {
    owned = λ id in_use.
        let other : id ≢ gone = freed_unused table gone id in_use in
        let before : IsInUse table id = ap is_some (sym (get_or-set_other table gone id None None other)) ∙ in_use in
        ap is_some (object_of-without_owner id gone objects other) ∙ matches.owned id before;
    addressed = Each-without_owner (λ o. address_of (set table gone None) o.owner ≡ Some (start + o.at)) gone objects (others objects matches.addressed);
  }
    where
      others : (xs : List Object) → Each (λ o. address_of table o.owner ≡ Some (start + o.at)) xs → Each (λ o. o.owner ≢ gone → address_of (set table gone None) o.owner ≡ Some (start + o.at)) xs
      others [] each = tt
      others (x ∷ xs) each = (λ other. get_or-set_other table gone x.owner None None other ∙ each.0, others xs each.1)

  -- ---- one moved

  module _ (count size from : ℕ) (stand : StandFrom count size from objects) where
    -- the object at an id's place is the one that it owns
    pub without-object : (id : ℕ) (o : Object) → object_of id objects ≡ Some o → object_at o.at objects ≡ Some o → without o.at objects ≡ without_owner id objects
    without-object id o found there = without-owner o.at id objects (agree objects matches.addressed (one_at count size from o.at objects o stand there))
      where
        owner : (o.owner ≡ id) × (address_of table id ≡ Some (start + o.at))
        owner = owner_found id o found

        agree : (xs : List Object) → Each (λ x. address_of table x.owner ≡ Some (start + x.at)) xs → Each (λ x. x.at ≡ o.at → x ≡ o) xs → Each (λ x. eqb x.at o.at ≡ eqb x.owner id) xs
        agree [] each one = tt
        agree (x ∷ xs) each one = (
          elim (cases_eq x.owner id) [
            | inl same ↦
                let at : x.at ≡ o.at = same_sum start x.at o.at (sym each.0 ∙ ap (address_of table) same ∙ owner.1) in
                eq-eqb x.at o.at at ∙ sym (eq-eqb x.owner id same)
            | inr other ↦ ne_eqb x.at o.at (λ same. other (ap (λ (y : Object). y.owner) (one.0 same) ∙ owner.0)) ∙ sym (ne_eqb x.owner id other)
          ],
          agree xs each.1 one.1,
        )

    -- it is the object at its place
    pub object_at-owned : (id : ℕ) (o : Object) → object_of id objects ≡ Some o → object_at o.at objects ≡ Some o
    object_at-owned id o found = placed count size (λ x. eqb x.owner id) from objects o stand found

    -- and the object at a place is the one that its owner owns
    pub object_of-placed : (at : ℕ) (o : Object) → object_at at objects ≡ Some o → object_of o.owner objects ≡ Some o
    object_of-placed at o there =
        let here = find_each (λ x. address_of table x.owner ≡ Some (start + x.at)) (λ x. eqb x.at at) objects o matches.addressed there in
        let found = value_in (object_of o.owner objects) (matches.owned o.owner (ap is_some here.0)) in
        let p = found.0 in
        let same : p.at ≡ at = same_sum start p.at o.at (sym (owner_found o.owner p found.1).1 ∙ here.0) ∙ eqb-true o.at at here.1 in
        let one = find_each (λ x. x.at ≡ at → x ≡ o) (λ x. eqb x.owner o.owner) objects p (one_at count size from at objects o stand there) found.1 in
        found.1 ∙ ap Some (one.0 same)

    -- after it has gone to another place
    pub shifted-object : (at to : ℕ) (o : Object) → object_at at objects ≡ Some o → shifted at to objects ≡ with_object (record o { at = to }) (without_owner o.owner objects)
    shifted-object at to o there =
        let is : o.at ≡ at = found_at at objects o there in
        ap (λ r. with_moved r to (without at objects)) there
        ∙ ap (λ n. with_object (record o { at = to }) (without n objects)) (sym is)
        ∙ ap (with_object (record o { at = to })) (without-object o.owner o (object_of-placed at o there) (ap (λ n. object_at n objects) is ∙ there))

-- after an object has gone to another place
module _ (start : ℕ) (table : List (Option ℕ)) (objects : List Object) (matches : Matches start table objects) (count size from : ℕ) (stand : StandFrom count size from objects) (at to : ℕ) (o : Object) (there : object_at at objects ≡ Some o) where
  abbrev there_now : Object
  there_now = record o { at = to }

  abbrev left : List Object
  left = without_owner o.owner objects

  is_moved : shifted at to objects ≡ with_object there_now left
  is_moved = shifted-object start table objects matches count size from stand at to o there

  within : o.owner < length table
  within = in_use_within table o.owner (ap is_some (owner_found start table objects matches o.owner o (object_of-placed start table objects matches count size from stand at o there)).1)

  pub Matches-moved : Matches start (set table o.owner (Some (start + to))) (shifted at to objects)
  Matches-moved =
      let unused : List (Option ℕ) = set table o.owner None in
      let free : IsFree unused o.owner = (omega (arith, within, length-set table o.owner None), ap is_some (get_or-set_same table o.owner None None within)) in
      let again = Matches-new start unused left (Matches-gone start table objects matches o.owner) there_now free in
      subst (λ (t : List (Option ℕ)). Matches start t (shifted at to objects)) (set-set table o.owner None (Some (start + to)))
      (subst (λ (xs : List Object). Matches start (set unused o.owner (Some (start + to))) xs) (sym is_moved) again)

  -- it is still its owner's
  pub object_of-moved : object_of o.owner (shifted at to objects) ≡ Some (record o { at = to })
  object_of-moved =
      ap (object_of o.owner) is_moved
      ∙ find-with_object_new (λ x. eqb x.owner o.owner) there_now left (eq-eqb o.owner o.owner refl) (without_owner-each o.owner objects)

  -- and each other id has the object that it had
  pub object_of-unmoved : (id : ℕ) → id ≢ o.owner → object_of id (shifted at to objects) ≡ object_of id objects
  object_of-unmoved id other =
      ap (object_of id) is_moved
      ∙ find-with_object_other (λ x. eqb x.owner id) there_now left (ne_eqb o.owner id (λ same. other (sym same)))
      ∙ object_of-without_owner id o.owner objects other
