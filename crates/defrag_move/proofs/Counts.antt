-- There are as many objects as ids in use.
use Rattle.std.proofs.Common.{◌≡◌, ◌≢◌, ℕ, zero, suc, ◌+◌, ◌<◌, ◌≤◌, false, cond, eqb, List, [], ◌∷◌, length, Option, Some, None, is_some, set, refl, sym, ap, ◌∙◌, arith, get_or-set_other}
use Rattle.std.specs.List.{AllByRecursion as Each, count_by}
use Rattle.std.proofs.lemmas.Bool.{false≢true, ne_eqb}
use Rattle.std.proofs.lemmas.List.Sums.{sum_by-cons, count_by-le-length}
use Rattle.handle_table.specs.Table.{IsFree, IsInUse, address_of}
use Rattle.sub_heaps.specs.declared.objects.Object.{Object}
use Rattle.sub_heaps.specs.ByPlace.{end_of}
use Rattle.sub_heaps.specs.SubHeaps.{StandFrom}
use Rattle.defrag_move.proofs.Owners.{Matches, each_above, freed_unused, same_sum}

abbrev in_use_count : List (Option ℕ) → ℕ
in_use_count table = count_by is_some table

in_use_count-cons : (entry : Option ℕ) (table : List (Option ℕ)) → in_use_count (entry ∷ table) ≡ cond (is_some entry) 1 0 + in_use_count table
in_use_count-cons entry table = sum_by-cons (λ e. cond (is_some e) 1 0) entry table

-- one id in use less
in_use_count-set : (table : List (Option ℕ)) (id : ℕ) → IsInUse table id → in_use_count (set table id None) + 1 ≡ in_use_count table
in_use_count-set [] id in_use = absurd (false≢true in_use)
in_use_count-set (entry ∷ table) zero in_use =
    let counts : cond {A = ℕ} (is_some entry) 1 0 ≡ 1 = ap (λ b. cond {A = ℕ} b 1 0) in_use in
    omega (arith, counts, in_use_count-cons entry table, in_use_count-cons None table)
in_use_count-set (entry ∷ table) (suc id) in_use =
    omega (arith, in_use_count-cons entry table, in_use_count-cons entry (set table id None), in_use_count-set table id in_use)

-- where no id is in use
in_use_count-none : (table : List (Option ℕ)) → ((id : ℕ) → IsInUse table id → ⊥) → in_use_count table ≡ 0
in_use_count-none [] none = refl
in_use_count-none (None ∷ table) none = omega (arith, in_use_count-cons None table, in_use_count-none table (λ id in_use. none (suc id) in_use))
in_use_count-none (Some a ∷ table) none = absurd (none 0 refl)

-- an id that isn't in use leaves fewer in use than there are
pub in_use_count-free : (table : List (Option ℕ)) (id : ℕ) → IsFree table id → in_use_count table < length table
in_use_count-free [] id free = absurd (omega (arith, free.0))
in_use_count-free (None ∷ table) zero free = omega (arith, in_use_count-cons None table, count_by-le-length is_some table)
in_use_count-free (Some a ∷ table) zero free = absurd (false≢true (sym free.1))
in_use_count-free (None ∷ table) (suc id) free = omega (arith, in_use_count-cons None table, in_use_count-free table id (omega (arith, free.0), free.1))
in_use_count-free (Some a ∷ table) (suc id) free = omega (arith, in_use_count-cons (Some a) table, in_use_count-free table id (omega (arith, free.0), free.1))

module _ (start count size : ℕ) where
  -- the first object leaves the others with their ids
  rest : (from : ℕ) (table : List (Option ℕ)) (o : Object) (os : List Object) → StandFrom count size from (o ∷ os) → Matches start table (o ∷ os) → Matches start (set table o.owner None) os
  rest from table o os stand matches = record {
    owned = λ id in_use.
        let other : id ≢ o.owner = freed_unused table o.owner id in_use in
        let before : IsInUse table id = ap is_some (sym (get_or-set_other table o.owner id None None other)) ∙ in_use in
        let skipped : eqb o.owner id ≡ false = ne_eqb o.owner id (λ same. other (sym same)) in
        rw skipped at (matches.owned id before);
    addressed = others os matches.addressed.1 (each_above count size (end_of o) os stand.3 (end_of o) (omega arith));
  }
    where
      others : (xs : List Object) → Each (λ x. address_of table x.owner ≡ Some (start + x.at)) xs → Each (λ x. end_of o ≤ x.at) xs → Each (λ x. address_of (set table o.owner None) x.owner ≡ Some (start + x.at)) xs
      others [] each above = tt
      others (x ∷ xs) each above = (get_or-set_other table o.owner x.owner None None (own x each.0 above.0) ∙ each.0, others xs each.1 above.1)
        where
          own : (x : Object) → address_of table x.owner ≡ Some (start + x.at) → end_of o ≤ x.at → x.owner ≢ o.owner
          own x is above same =
              let at : x.at ≡ o.at = same_sum start x.at o.at (sym is ∙ ap (address_of table) same ∙ matches.addressed.0) in
              omega (arith, at, above, stand.2.0)

  pub as_many : (from : ℕ) (table : List (Option ℕ)) (objects : List Object) → StandFrom count size from objects → Matches start table objects → length objects ≡ in_use_count table
  as_many from table [] stand matches = sym (in_use_count-none table (λ id in_use. false≢true (matches.owned id in_use)))
  as_many from table (o ∷ os) stand matches =
      omega (arith, in_use_count-set table o.owner (ap is_some matches.addressed.0), as_many (end_of o) (set table o.owner None) os stand.3 (rest from table o os stand matches))
