-- What the entries of the ids taken so far, and the ids given back, say of the table.
use Rattle.std.proofs.Common.{◌≡◌, ◌≢◌, ℕ, zero, suc, ◌+◌, ◌-◌, ◌*◌, ◌<◌, ◌≤◌, List, [], ◌∷◌, ◌++◌, length, get_or, set, replicate, Option, Some, None, IsSome, IsNone, eqb, cond, true, false, refl, sym, ap, subst, ◌∙◌, inl, inr, length-append, append_assoc, arith}
use Rattle.std.proofs.lemmas.Bool.{cases_eq, cases_lt, false≢true, eq-eqb, ne_eqb, lt-ltb}
use Rattle.std.proofs.lemmas.List.{get_or_append_left, get_or-append_right, get_or_past, get_or_push, get_or_default, get_or-set_same, get_or-set_other, get_or-replicate, length-set, length-replicate, set-append_left, set-append_right}
use Rattle.std.proofs.Math.Seq.{set-append_seam}
use Rattle.std.proofs.lemmas.List.Sums.{sum_by-set, sum_by-append, sum_by-cons}
use Rattle.std.proofs.lemmas.List.Sorted.{sum_by_popped, sum_by_pushed}
use Rattle.std.specs.BinaryHeap.{IsHeap, IsUpperBound}
use Rattle.std.specs.List.Sorted.{IsPermutation}
use Rattle.std.specs.List.{sum_by}
use Rattle.std.specs.declared.cmp.Reverse.{Reverse}
use Rattle.handle_table.specs.Table.{IsFree, IsFull, IsInUse, IsLeastFree, IsSound, address_of}
use Rattle.handle_table.specs.inner.Kept.{table_of, vacancy, usage, times, lowest_last, IsKept}

-- ---- an entry

vacancy-some : (entry : Option ℕ) → 1 ≤ vacancy entry → IsNone entry
vacancy-some None some = refl
vacancy-some (Some at) some = absurd (omega arith)

vacancy-none : (entry : Option ℕ) → IsNone entry → vacancy entry ≡ 1
vacancy-none None none = refl
vacancy-none (Some at) none = absurd (false≢true (sym none))

usage-some : (entry : Option ℕ) → IsSome entry → usage entry ≡ 1
usage-some None some = absurd (false≢true some)
usage-some (Some at) some = refl

vacancy-most : (entry : Option ℕ) → vacancy entry ≤ 1
vacancy-most None = omega arith
vacancy-most (Some at) = omega arith

vacancy-some-none : (entry : Option ℕ) → IsSome entry → vacancy entry ≡ 0
vacancy-some-none None some = absurd (false≢true some)
vacancy-some-none (Some at) some = refl

usage-none : (entry : Option ℕ) → IsNone entry → usage entry ≡ 0
usage-none None none = refl
usage-none (Some at) none = absurd (false≢true (sym none))

usage-most : (entry : Option ℕ) → usage entry ≤ 1
usage-most None = omega arith
usage-most (Some at) = omega arith

usage-in_use : (entry : Option ℕ) → 1 ≤ usage entry → IsSome entry
usage-in_use None some = absurd (omega arith)
usage-in_use (Some at) some = refl

IsNone-IsSome : (entry : Option ℕ) → IsNone entry → IsSome entry → ⊥
IsNone-IsSome None none some = false≢true some
IsNone-IsSome (Some at) none some = false≢true (sym none)

-- where as many entries are in use as there are, each is
usage-below : (taken : List (Option ℕ)) → sum_by usage taken ≤ length taken
usage-below [] = omega arith
usage-below (entry ∷ taken) = omega (arith, sum_by-cons usage entry taken, usage-most entry, usage-below taken)

all_in_use : (taken : List (Option ℕ)) → sum_by usage taken ≡ length taken → (id : ℕ) → id < length taken → IsSome (get_or taken id None)
all_in_use [] all id within = absurd (omega arith)
all_in_use (entry ∷ taken) all zero within = usage-in_use entry (omega (arith, sum_by-cons usage entry taken, usage-below taken))
all_in_use (entry ∷ taken) all (suc id) within = all_in_use taken (omega (arith, sum_by-cons usage entry taken, usage-below taken, usage-most entry)) id (omega arith)

-- ---- the ids given back

times-cons : (id : ℕ) (g : Reverse ℕ) (given : List (Reverse ℕ)) → times id (g ∷ given) ≡ cond (eqb g.0 id) 1 0 + times id given
times-cons id g given = sum_by-cons (λ (g : Reverse ℕ). cond (eqb g.0 id) 1 0) g given

-- none of them is lower than one above which no other is
lowest : (given : List (Reverse ℕ)) (top : Reverse ℕ) (id : ℕ) → IsUpperBound lowest_last top given → 1 ≤ times id given → top.0 ≤ id
lowest [] top id bound some = absurd (omega arith)
lowest (g ∷ given) top id bound some = elim (cases_eq g.0 id) [
  | inl same ↦ elim (cases_lt g.0 top.0) [
    | inl below ↦ absurd (false≢true (sym ((rw (lt-ltb g.0 top.0 below) at bound.0))))
    | inr above ↦ omega arith
  ]
  | inr other ↦ lowest given top id bound.1 (omega (arith, times-cons id g given, ap {B = ℕ} (λ b. cond b 1 0) (ne_eqb g.0 id other)))
]

-- ---- the table

abbrev free_entry : Option ℕ
free_entry = None

past-replicate : (n i : ℕ) → get_or (replicate n free_entry) i None ≡ None
past-replicate n i = elim (cases_lt i n) [
  | inl within ↦ get_or-replicate n i None None within
  | inr past ↦ get_or_past (replicate n None) i None (omega (arith, length-replicate n free_entry))
]

pub address-taken : (ids : ℕ) (taken : List (Option ℕ)) (id : ℕ) → address_of (table_of ids taken) id ≡ get_or taken id None
address-taken ids taken id = elim (cases_lt id (length taken)) [
  | inl within ↦ get_or_append_left taken (replicate (ids - length taken) None) None id within
  | inr past ↦
      get_or-append_right taken (replicate (ids - length taken) None) (length taken) id None refl past
      ∙ past-replicate (ids - length taken) (id - length taken)
      ∙ sym (get_or_past taken id None past)
]

pub length-table : (ids : ℕ) (taken : List (Option ℕ)) → length taken ≤ ids → length (table_of ids taken) ≡ ids
length-table ids taken within = omega (arith, length-append taken (replicate (ids - length taken) None), length-replicate (ids - length taken) free_entry)

-- an id in use was taken
pub taken_from_use : (ids : ℕ) (taken : List (Option ℕ)) (id : ℕ) → IsInUse (table_of ids taken) id → id < length taken
taken_from_use ids taken id used = elim (cases_lt id (length taken)) [
  | inl within ↦ within
  | inr past ↦ absurd (false≢true (subst IsSome (address-taken ids taken id ∙ get_or_past taken id None past) used))
]

pub set-table : (ids : ℕ) (taken : List (Option ℕ)) (id : ℕ) (entry : Option ℕ) → id < length taken → table_of ids (set taken id entry) ≡ set (table_of ids taken) id entry
set-table ids taken id entry within =
    rw (length-set taken id entry) (sym (set-append_left taken (replicate (ids - length taken) None) id entry within))

pub push-table : (ids : ℕ) (taken : List (Option ℕ)) (entry : Option ℕ) → length taken < ids → table_of ids (taken ++ entry ∷ []) ≡ set (table_of ids taken) (length taken) entry
push-table ids taken entry room =
    let left : ℕ = ids - length (taken ++ entry ∷ []) in
    let number : suc left ≡ ids - length taken = omega (arith, length-append taken (entry ∷ [])) in
    let set_first : set (taken ++ replicate (suc left) None) (length taken) entry ≡ taken ++ entry ∷ replicate left None = set-append_seam taken None (replicate left None) entry in
    append_assoc taken (entry ∷ []) (replicate left None) ∙ sym (subst (λ n. set (taken ++ replicate n None) (length taken) entry ≡ taken ++ entry ∷ replicate left None) number set_first)

module _ (ids : ℕ) (taken : List (Option ℕ)) (given : List (Reverse ℕ)) (held taken_room given_room : ℕ) (kept : IsKept ids taken given held taken_room given_room) where
  pub sound-table : IsSound (table_of ids taken)
  sound-table = (omega (arith, length-table ids taken kept.within, kept.some), omega (arith, length-table ids taken kept.within, kept.bound))

  -- ---- an id that was given back

  given-free : (id : ℕ) → 1 ≤ times id given → (id < length taken) × IsNone (get_or taken id None)
  given-free id some =
      let vacant : 1 ≤ vacancy (get_or taken id (Some 0)) = omega (arith, some, kept.once id) in
      elim (cases_lt id (length taken)) [
        | inl within ↦ (within, vacancy-some (get_or taken id None) (rw (get_or_default taken id None (Some 0) within) vacant))
        | inr past ↦ absurd (omega (arith, vacant, ap vacancy (get_or_past taken id (Some 0) past)))
      ]

  free-given : (id : ℕ) → id < length taken → IsNone (get_or taken id None) → times id given ≡ 1
  free-given id within none = kept.once id ∙ ap vacancy (get_or_default taken id (Some 0) None within) ∙ vacancy-none (get_or taken id None) none

  IsFree-table : (id : ℕ) → id < length taken → IsNone (get_or taken id None) → IsFree (table_of ids taken) id
  IsFree-table id within none = (omega (arith, length-table ids taken kept.within, kept.within), subst IsNone (sym (address-taken ids taken id)) none)

  module _ (top : Reverse ℕ) (rest : List (Reverse ℕ)) (popped : IsPermutation given (top ∷ rest)) where
    times-popped : (id : ℕ) → times id rest + cond (eqb top.0 id) 1 0 ≡ times id given
    times-popped id = sum_by_popped (λ (g : Reverse ℕ). cond (eqb g.0 id) 1 0) top given rest popped

    one : times top.0 rest + 1 ≡ times top.0 given
    one = omega (arith, times-popped top.0, ap {B = ℕ} (λ b. cond b 1 0) (eq-eqb top.0 top.0 refl))

    pub top-taken : top.0 < length taken
    top-taken = (given-free top.0 (omega (arith, one))).0

    pub top-least : IsUpperBound lowest_last top given → IsLeastFree (table_of ids taken) top.0
    top-least bound = record {
      free = IsFree-table top.0 top-taken (given-free top.0 (omega (arith, one))).1;
      least = λ other free. elim (cases_lt other (length taken)) [
        | inl within ↦ lowest given top other bound (omega (arith, free-given other within (subst IsNone (address-taken ids taken other) free.1)))
        | inr past ↦ omega (arith, top-taken)
      ];
    }

    pub top-kept : (left : ℕ) → IsHeap lowest_last rest → left + 1 ≡ held → IsKept ids (set taken top.0 (Some 0)) rest left taken_room given_room
    top-kept left ordered number =
        let same_vacancy : vacancy (get_or (set taken top.0 (Some 0)) top.0 (Some 0)) ≡ 0 = ap vacancy (get_or-set_same taken top.0 (Some 0) (Some 0) top-taken) in
        let uses : sum_by usage (set taken top.0 (Some 0)) + usage (get_or taken top.0 None) ≡ sum_by usage taken + 1 = sum_by-set usage taken top.0 (Some 0) None top-taken in
        record {
          some = kept.some;
          bound = kept.bound;
          within = omega (arith, length-set taken top.0 (Some 0), kept.within);
          ordered = ordered;
          once = λ id. elim (cases_eq id top.0) [
            | inl same ↦ subst (λ i. times i rest ≡ vacancy (get_or (set taken top.0 (Some 0)) i (Some 0))) (sym same) (omega (arith, one, kept.once top.0, vacancy-most (get_or taken top.0 (Some 0)), same_vacancy))
            | inr other ↦ omega (arith, times-popped id, ap {B = ℕ} (λ b. cond b 1 0) (ne_eqb top.0 id (λ e. other (sym e))), kept.once id, ap vacancy (get_or-set_other taken top.0 id (Some 0) (Some 0) other))
          ];
          number = omega (arith, number, kept.number, length-set taken top.0 (Some 0), uses, usage-none (get_or taken top.0 None) (given-free top.0 (omega (arith, one))).1);
          for_taken = kept.for_taken;
          for_given = kept.for_given;
        }

  -- ---- an id that is given back

  module _ (id : ℕ) (within : id < length taken) (in_use : IsSome (get_or taken id None)) where
    pub give-room : held < given_room
    give-room =
        let uses : sum_by usage (set taken id None) + usage (get_or taken id None) ≡ sum_by usage taken + 0 = sum_by-set usage taken id None None within in
        omega (arith, uses, usage-some (get_or taken id None) in_use, kept.number, kept.within, kept.for_given)

    pub give-kept : (top : Reverse ℕ) (more : List (Reverse ℕ)) (now room : ℕ) → top.0 ≡ id → IsPermutation (top ∷ given) more → IsHeap lowest_last more → now ≡ held + 1 → given_room ≤ room → IsKept ids (set taken id None) more now taken_room room
    give-kept top more now room is pushed ordered number longer =
        let same_vacancy : vacancy (get_or (set taken id None) id (Some 0)) ≡ 1 = ap vacancy (get_or-set_same taken id None (Some 0) within) in
        let uses : sum_by usage (set taken id None) + usage (get_or taken id None) ≡ sum_by usage taken + 0 = sum_by-set usage taken id None None within in
        let before : vacancy (get_or taken id (Some 0)) ≡ 0 = ap vacancy (get_or_default taken id (Some 0) None within) ∙ vacancy-some-none (get_or taken id None) in_use in
        let times-pushed : (i : ℕ) → times i more ≡ cond (eqb top.0 i) 1 0 + times i given = λ i. sum_by_pushed (λ (g : Reverse ℕ). cond (eqb g.0 i) 1 0) top given more pushed in
        record {
          some = kept.some;
          bound = kept.bound;
          within = omega (arith, length-set taken id None, kept.within);
          ordered = ordered;
          once = λ i. elim (cases_eq i id) [
            | inl same ↦ subst (λ i. times i more ≡ vacancy (get_or (set taken id None) i (Some 0))) (sym same) (omega (arith, times-pushed id, ap {B = ℕ} (λ b. cond b 1 0) (eq-eqb top.0 id is), kept.once id, before, same_vacancy))
            | inr other ↦ omega (arith, times-pushed i, ap {B = ℕ} (λ b. cond b 1 0) (ne_eqb top.0 i (λ e. other (sym e ∙ is))), kept.once i, ap vacancy (get_or-set_other taken id i None (Some 0) other))
          ];
          number = omega (arith, number, kept.number, length-set taken id None, uses, usage-some (get_or taken id None) in_use);
          for_taken = kept.for_taken;
          for_given = omega (arith, kept.for_given, longer);
        }

  -- ---- where none was given back

  module _ (none : held ≡ 0) where
    used : (id : ℕ) → id < length taken → IsSome (get_or taken id None)
    used = all_in_use taken (omega (arith, kept.number, none))

    pub full : length taken ≡ ids → IsFull (table_of ids taken)
    full all id within = subst IsSome (sym (address-taken ids taken id)) (used id (omega (arith, length-table ids taken kept.within)))

    pub fresh-least : length taken < ids → IsLeastFree (table_of ids taken) (length taken)
    fresh-least room = record {
      free = (omega (arith, length-table ids taken kept.within), subst IsNone (sym (address-taken ids taken (length taken) ∙ get_or_past taken (length taken) None (omega arith))) refl);
      least = λ other free. elim (cases_lt other (length taken)) [
        | inl within ↦ absurd (IsNone-IsSome (get_or taken other None) (subst IsNone (address-taken ids taken other) free.1) (used other within))
        | inr past ↦ past
      ];
    }
