-- An action that would read or write a block that has ended breaks a rule.
use Rattle.std.proofs.Common.{◌≡◌, ◌==◌, ◌/◌, ◌⊎◌, inl, inr, ℕ, Bool, true, false, List, [], ◌∷◌, ◌++◌, length, slice_get, Option, Some, None, Ok, Err, ℤ, refl, sym, ap, subst, ◌∙◌}
use Rattle.std.specs.Prelude.{Result, if◌then◌else◌}
use Rattle.ak_words.specs.declared.int_type.IntType.{IntType}
use Rattle.ak_words.specs.declared.rule.Rule.{Rule}
use Rattle.ak_words.specs.declared.rule.Rule.TheVariants.{C5, C14}
use Rattle.ak_words.specs.IntType.{int}
use Rattle.ak_words.specs.Num.{num}
use Rattle.block_store.specs.declared.values.Answer.{Answer}
use Rattle.block_store.specs.declared.values.Answer.TheVariants as answers
use Rattle.block_store.specs.declared.values.Change.{Change}
use Rattle.block_store.specs.declared.values.Ptr.{Ptr}
use Rattle.block_store.specs.declared.values.Ptr.TheVariants.{Null, To}
use Rattle.block_store.specs.declared.values.Value.TheVariants as values
use Rattle.block_store.specs.Actions as actions
use Rattle.block_store.specs.Actions.{World, Done, SharedAction, Stage, ThreadRecord, Printed, Reached, bytes_at, reading, writing, reading_part, reading_on, reading_parts, printed_bytes, all_bytes, joined_bytes}
use Rattle.block_store.specs.Atomics.{Compared, changed, compared, change_of, number_in, compare_places, writable, writable_at}
use Rattle.block_store.specs.Blocks.{Block, Range, live, range_in, range_at, read_at, written_at, loaded, stored, copied_between, copied, cells_in}
use Rattle.block_store.specs.Cells.{size_of, access_of, cells_of}
use Rattle.block_store.specs.Mutexes.{mutex_in, destroy_of, destroyed}
use Rattle.block_store.specs.Texts.{text_in}
use Rattle.c_meaning.specs.Touches.{each, of_thread, whole_block, renewal, compare_ends, starting, touches_of, read_kind, write_kind}
use Rattle.race_rules.specs.declared.touch.Touch.{Touch}
use Rattle.race_rules.specs.declared.touch.TouchKind.{TouchKind}
use Rattle.race_rules.specs.declared.touch.TouchKind.TheVariants.{Read, Write, AtomicRead, AtomicWrite, Lock, Unlock, Start, Join}
use Rattle.race_rules.specs.Kinds.{is_access}
use Rattle.race_rules.specs.Turns.{Has, here, later}
use Rattle.race_rules.specs.Histories.{IsAccessOf}
use Rattle.race_rules.proofs.Touching.{no_has}
use Rattle.block_meaning.specs.Running.{HasEnded}
use Rattle.race_check.proofs.EndedActions.{none_live}

has_either : {X : Type 0} {P : X → Type 0} (xs ys : List X) → Has P (xs ++ ys) → Has P xs ⊎ Has P ys
has_either [] ys h = inr h
has_either (x ∷ xs) ys (here p) = inl (here p)
has_either (x ∷ xs) ys (later h) = elim (has_either xs ys h) [ inl i ↦ inl (later i) | inr j ↦ inr j ]

-- nothing was done
abbrev pub IsRefused : Done → Type 0
IsRefused (actions.went v w) = ⊥
IsRefused actions.blocked = Unit {0}
IsRefused actions.unfit = Unit {0}
IsRefused (actions.broke rule) = Unit {0}

settled_refused : (answer : Answer) (d : Done) → IsRefused d → IsRefused (actions.under answer (actions.settled d))
settled_refused answers.Plain d p = p
settled_refused answers.Got d p = tt
settled_refused answers.None d p = tt

refused_if : (c : Bool) (x y : Done) → IsRefused x → IsRefused y → IsRefused (if c then x else y)
refused_if true x y p q = p
refused_if false x y p q = q

telling_refused : (reached : List Reached) (d : Done) → IsRefused d → IsRefused (actions.telling reached d)
telling_refused reached (actions.went v w) p = absurd p
telling_refused reached actions.blocked p = tt
telling_refused reached actions.unfit p = tt
telling_refused reached (actions.broke rule) p = tt

module _ (gone : ℕ) where
  -- one of these reads or writes the block
  abbrev pub Touched : List Touch → Type 0
  Touched touches = Has (IsAccessOf gone) touches

  -- ---- where the block is touched

  -- the pointer is one to it
  abbrev IsAt : Ptr → Type 0
  IsAt Null = ⊥
  IsAt (To name offset) = name ≡ gone

  one_touch : (place : ℕ) (kind : TouchKind) (r : Reached) → Touched (each place kind (r ∷ [])) → r.block ≡ gone
  one_touch place kind r (here p) = p.in_block
  one_touch place kind r (later h) = absurd (no_has h)

  some_bytes : (place : ℕ) (kind : TouchKind) (r : Reached) (none : Bool) → Touched (each place kind (if none then [] else r ∷ [])) → (none ≡ false) × (r.block ≡ gone)
  some_bytes place kind r true h = absurd (no_has h)
  some_bytes place kind r false h = (refl, one_touch place kind r h)

  -- bytes of the block, and at least one
  hit : (place : ℕ) (kind : TouchKind) (writes : Bool) (n : ℕ) (at : Ptr) → Touched (each place kind (bytes_at writes n at)) → ((n == 0) ≡ false) × IsAt at
  hit place kind writes n Null h = absurd (no_has h)
  hit place kind writes n (To block offset) h = some_bytes place kind (record { block = block; offset = offset; bytes = n; writes = writes }) (n == 0) h

  no_access : (place : ℕ) (kind : TouchKind) (reached : List Reached) → is_access kind ≡ false → Touched (each place kind reached) → ⊥
  no_access place kind [] e h = no_has h
  no_access place kind (r ∷ reached) e (here p) = absurd (cc (sym e ∙ p.access))
  no_access place kind (r ∷ reached) e (later h) = no_access place kind reached e h

  -- ---- what comes of it

  module _ (w : World) (ended : HasEnded w.blocks gone) where
    -- no bytes are found there
    not_found : (size align : ℕ) (at : Ptr) → IsAt at → range_at w.blocks size align at ≡ Err C5
    not_found size align Null is = absurd is
    not_found size align (To name offset) is = ap (range_in size align name offset) (none_live w.blocks name gone ended is)

    refused : (size align : ℕ) (at : Ptr) (F : Result Range Rule → Done) → IsRefused (F (Err C5)) → IsAt at → IsRefused (F (range_at w.blocks size align at))
    refused size align at F p is = subst (λ (r : Result Range Rule). IsRefused (F r)) (sym (not_found size align at is)) p

    -- and the block has no cells
    no_cells : (place : ℕ) (kind : TouchKind) (at : Ptr) → Touched (whole_block place kind w.blocks at) → ⊥
    no_cells place kind Null h = no_has h
    no_cells place kind (To name offset) h =
        let n = length (cells_in (live w.blocks name)) in
        let found = hit place kind true n (To name 0) h in
        let F : Option Block → Bool = λ b. length (cells_in b) == 0 in
        absurd (cc (sym found.0 ∙ ap F (none_live w.blocks name gone ended found.1)))

    no_renewal : (place : ℕ) (answer : Answer) (at : Ptr) → Touched (renewal place answer w.blocks at) → ⊥
    no_renewal place answers.Plain at h = no_has h
    no_renewal place answers.None at h = no_has h
    no_renewal place answers.Got at h =
        elim (has_either (whole_block place Read w.blocks at) (whole_block place Write w.blocks at) h) [ inl i ↦ no_cells place Read at i | inr j ↦ no_cells place Write at j ]

    -- a copy
    from_refused : (n : ℕ) (same : Bool) (to : Result Range Rule) → IsRefused (actions.changes w (copied_between w.blocks n same to (Err C5)))
    from_refused n same (Ok to) = tt
    from_refused n same (Err rule) = tt

    some_copied : (n : ℕ) (same : Bool) (to from : Result Range Rule) (none : Bool) → none ≡ false → IsRefused (actions.changes w (copied_between w.blocks n same to from)) → IsRefused (actions.changes w (if none then Ok w.blocks else copied_between w.blocks n same to from))
    some_copied n same to from true e p = absurd (cc e)
    some_copied n same to from false e p = p

    copy_refused : (place : ℕ) (to from : Ptr) (n align : ℕ) (same : Bool) → Touched (each place Read (reading n from) ++ each place Write (writing n to)) → IsRefused (actions.changes w (copied w.blocks to from n align same))
    copy_refused place to from n align same h = elim (has_either (each place Read (reading n from)) (each place Write (writing n to)) h) [
      | inl i ↦ (
          let found = hit place Read false n from i in
          some_copied n same (range_at w.blocks n align to) (range_at w.blocks n align from) (n == 0) found.0
          (refused n align from (λ r. actions.changes w (copied_between w.blocks n same (range_at w.blocks n align to) r)) (from_refused n same (range_at w.blocks n align to)) found.1))
      | inr j ↦ (
          let found = hit place Write true n to j in
          some_copied n same (range_at w.blocks n align to) (range_at w.blocks n align from) (n == 0) found.0
          (refused n align to (λ r. actions.changes w (copied_between w.blocks n same r (range_at w.blocks n align from))) tt found.1))
    ]

    -- a change
    change_refused : (at : Ptr) (ty : IntType) (how : Change) (by : ℤ) → IsAt at → IsRefused (actions.changes_number w (changed w.blocks at ty how by))
    change_refused at ty how by is = refused (ty.bits / 8) (ty.bits / 8) at (λ r. actions.changes_number w (change_of w.blocks ty how by (number_in ty (writable r)))) tt is

    -- a compare
    wanted_refused : (ty : IntType) (new : ℤ) (at : Result Range Rule) → IsRefused (actions.compares w (compare_places w.blocks ty new at (Err C5)))
    wanted_refused ty new (Ok at) = tt
    wanted_refused ty new (Err rule) = tt

    compare_refused : (at want : Ptr) (ty : IntType) (new : ℤ) → IsAt at ⊎ IsAt want → IsRefused (actions.compares w (compared w.blocks at want ty new))
    compare_refused at want ty new (inl is) = refused (ty.bits / 8) (ty.bits / 8) at (λ r. actions.compares w (compare_places w.blocks ty new (writable r) (writable_at w.blocks ty want))) tt is
    compare_refused at want ty new (inr is) =
        refused (ty.bits / 8) (ty.bits / 8) want (λ r. actions.compares w (compare_places w.blocks ty new (writable_at w.blocks ty at) (writable r))) (wanted_refused ty new (writable_at w.blocks ty at)) is

    one_end : (place n : ℕ) (at want : Ptr) (equal : Bool) → Touched (if equal then each place AtomicWrite (writing n at) else each place Write (writing n want)) → IsAt at ⊎ IsAt want
    one_end place n at want true h = inl (hit place AtomicWrite true n at h).1
    one_end place n at want false h = inr (hit place Write true n want h).1

    compare_end : (place : ℕ) (at want : Ptr) (ty : IntType) (c : Result Compared Rule) → Touched (compare_ends place at want ty c) → IsAt at ⊎ IsAt want
    compare_end place at want ty (Err rule) h = absurd (no_has h)
    compare_end place at want ty (Ok c) h = one_end place (ty.bits / 8) at want c.equal h

    compare_hit : (place : ℕ) (at want : Ptr) (ty : IntType) (new : ℤ) → Touched (each place AtomicRead (reading (ty.bits / 8) at) ++ each place Read (reading (ty.bits / 8) want) ++ compare_ends place at want ty (compared w.blocks at want ty new)) → IsAt at ⊎ IsAt want
    compare_hit place at want ty new h =
        let n = ty.bits / 8 in
        let last = compare_ends place at want ty (compared w.blocks at want ty new) in
        let one = each place AtomicRead (reading n at) in
        let two = each place Read (reading n want) in
        elim (has_either (one ++ two) last h) [
          | inl i ↦ elim (has_either one two i) [ inl j ↦ inl (hit place AtomicRead false n at j).1 | inr k ↦ inr (hit place Read false n want k).1 ]
          | inr j ↦ compare_end place at want ty (compared w.blocks at want ty new) j
        ]

    -- a print
    abbrev IsErr : Result (List ℕ) Rule → Type 0
    IsErr (Ok all) = ⊥
    IsErr (Err rule) = Unit {0}

    part_refused : (place : ℕ) (part : Printed) → Touched (each place Read (reading_part w.blocks part)) → IsErr (printed_bytes w.blocks part)
    part_refused place (actions.bytes all) h = absurd (no_has h)
    part_refused place (actions.text Null) h = absurd (no_has h)
    part_refused place (actions.text (To name offset)) h =
        let is = (hit place Read false _ (To name offset) h).1 in
        subst (λ (b : Option Block). IsErr (text_in offset b)) (sym (none_live w.blocks name gone ended is)) tt

    joined_first : (one more : Result (List ℕ) Rule) → IsErr one → IsErr (joined_bytes one more)
    joined_first (Ok all) more e = absurd e
    joined_first (Err rule) more e = tt

    joined_more : (one more : Result (List ℕ) Rule) → IsErr more → IsErr (joined_bytes one more)
    joined_more (Err rule) more e = tt
    joined_more (Ok all) (Ok rest) e = absurd e
    joined_more (Ok all) (Err rule) e = tt

    behind_part : (place : ℕ) (one : Result (List ℕ) Rule) (more : List Reached) → Touched (each place Read (reading_on one more)) → Touched (each place Read more)
    behind_part place (Ok all) more h = h
    behind_part place (Err rule) more h = absurd (no_has h)

    each_either : (place : ℕ) (kind : TouchKind) (xs ys : List Reached) → Touched (each place kind (xs ++ ys)) → Touched (each place kind xs) ⊎ Touched (each place kind ys)
    each_either place kind [] ys h = inr h
    each_either place kind (x ∷ xs) ys (here p) = inl (here p)
    each_either place kind (x ∷ xs) ys (later h) = elim (each_either place kind xs ys h) [ inl i ↦ inl (later i) | inr j ↦ inr j ]

    parts_refused : (place : ℕ) (parts : List Printed) → Touched (each place Read (reading_parts w.blocks parts)) → IsErr (all_bytes w.blocks parts)
    parts_refused place [] h = absurd (no_has h)
    parts_refused place (part ∷ parts) h =
        let one = printed_bytes w.blocks part in
        let rest = reading_parts w.blocks parts in
        elim (each_either place Read (reading_part w.blocks part) (reading_on one rest) h) [
          | inl i ↦ joined_first one (all_bytes w.blocks parts) (part_refused place part i)
          | inr j ↦ joined_more one (all_bytes w.blocks parts) (parts_refused place parts (behind_part place one rest j))
        ]

    prints_refused : (all : Result (List ℕ) Rule) → IsErr all → IsRefused (actions.prints w all)
    prints_refused (Ok all) e = e
    prints_refused (Err rule) e = tt

    -- a new thread, and a join
    no_thread : (place : ℕ) (kind : TouchKind) → is_access kind ≡ false → Touched (of_thread place kind ∷ []) → ⊥
    no_thread place kind e (here p) = absurd (cc (sym e ∙ p.access))
    no_thread place kind e (later h) = no_has h

    start_refused : (place : ℕ) (answer : Answer) (to : Ptr) (thread function : ℕ) (argument : Ptr) (number : ℕ) → Touched (starting place answer to number) → IsRefused (actions.under answer (actions.outcomes w thread (actions.start to function argument)))
    start_refused place answers.Plain to thread function argument number h = absurd (no_has h)
    start_refused place answers.None to thread function argument number h = absurd (no_has h)
    start_refused place answers.Got to thread function argument number h = elim (has_either (each place Write (writing 8 to)) (of_thread place (Start number) ∷ []) h) [
      | inl i ↦ (
          let v = actions.next_number w in
          let n = size_of (access_of v) in
          refused n n to (λ r. actions.starts w function argument (written_at w.blocks (cells_of v) r)) tt (hit place Write true 8 to i).1)
      | inr j ↦ absurd (no_thread place (Start number) refl j)
    ]

    joins_refused : (thread : ℕ) (z : ℤ) (to : Ptr) → IsAt to → IsRefused (actions.joins w thread z (actions.stored_unless_null w.blocks to z))
    joins_refused thread z Null is = absurd is
    joins_refused thread z (To name offset) is =
        let v = values.Num (num int z) in
        let n = size_of (access_of v) in
        refused n n (To name offset) (λ r. actions.joins w thread z (written_at w.blocks (cells_of v) r)) tt is

    joins_at_refused : (thread : ℕ) (to : Ptr) (stage : Stage) → IsAt to → IsRefused (actions.joins_at w thread to stage)
    joins_at_refused thread to actions.running is = tt
    joins_at_refused thread to (actions.returned z) is = joins_refused thread z to is
    joins_at_refused thread to (actions.joined z) is = tt

    joins_if_refused : (thread : ℕ) (to : Ptr) (t : Option ThreadRecord) → IsAt to → IsRefused (actions.joins_if w thread to t)
    joins_if_refused thread to None is = tt
    joins_if_refused thread to (Some t) is = joins_at_refused thread to t.stage is

    join_refused : (place self number : ℕ) (to : Ptr) → Touched (each place Write (writing 4 to) ++ of_thread place (Join number) ∷ []) → IsRefused (actions.joined_by w self number to)
    join_refused place self number to h = elim (has_either (each place Write (writing 4 to)) (of_thread place (Join number) ∷ []) h) [
      | inl i ↦ refused_if (self == number) (actions.broke C14) (actions.joins_if w number to (slice_get w.threads number)) tt (joins_if_refused number to (slice_get w.threads number) (hit place Write true 4 to i).1)
      | inr j ↦ absurd (no_thread place (Join number) refl j)
    ]

    outcome_refused : (place thread : ℕ) (answer : Answer) (atomic : Bool) (action : SharedAction) → Touched (touches_of place w answer atomic action) → IsRefused (actions.under answer (actions.outcomes w thread action))
    outcome_refused place thread answer atomic (actions.load at how) h =
        settled_refused answer (actions.gives w (loaded w.blocks at how)) (refused (size_of how) (size_of how) at (λ r. actions.gives w (read_at how r)) tt (hit place (read_kind atomic) false (size_of how) at h).1)
    outcome_refused place thread answer atomic (actions.store at v) h =
        let n = size_of (access_of v) in
        settled_refused answer (actions.changes w (stored w.blocks at v)) (refused n n at (λ r. actions.changes w (written_at w.blocks (cells_of v) r)) tt (hit place (write_kind atomic) true n at h).1)
    outcome_refused place thread answer atomic (actions.copy to from n align same) h = settled_refused answer (actions.changes w (copied w.blocks to from n align same)) (copy_refused place to from n align same h)
    outcome_refused place thread answer atomic (actions.allocate size first) h = absurd (no_has h)
    outcome_refused place thread answer atomic (actions.reallocate at size) h = absurd (no_renewal place answer at h)
    outcome_refused place thread answer atomic (actions.free at) h = absurd (no_cells place Write at h)
    outcome_refused place thread answer atomic (actions.change at ty how by) h =
        let n = ty.bits / 8 in
        settled_refused answer (actions.changes_number w (changed w.blocks at ty how by))
        (elim (has_either (each place AtomicRead (reading n at)) (each place AtomicWrite (writing n at)) h) [
          | inl i ↦ change_refused at ty how by (hit place AtomicRead false n at i).1
          | inr j ↦ change_refused at ty how by (hit place AtomicWrite true n at j).1
        ])
    outcome_refused place thread answer atomic (actions.compare at want ty new) h =
        settled_refused answer (actions.compares w (compared w.blocks at want ty new)) (compare_refused at want ty new (compare_hit place at want ty new h))
    outcome_refused place thread answer atomic (actions.print parts) h = settled_refused answer (actions.prints w (all_bytes w.blocks parts)) (prints_refused (all_bytes w.blocks parts) (parts_refused place parts h))
    outcome_refused place thread answer atomic (actions.lock at) h = absurd (no_access place Lock (writing 8 at) refl h)
    outcome_refused place thread answer atomic (actions.unlock at) h = absurd (no_access place Unlock (writing 8 at) refl h)
    outcome_refused place thread answer atomic (actions.destroy at) h =
        settled_refused answer (actions.passes w (destroyed w.blocks at)) (refused 8 8 at (λ r. actions.passes w (destroy_of (mutex_in r))) tt (hit place Write true 8 at h).1)
    outcome_refused place thread answer atomic (actions.start to function argument) h = start_refused place answer to thread function argument (length w.threads) h
    outcome_refused place thread answer atomic (actions.join number to) h = settled_refused answer (actions.joined_by w thread number to) (join_refused place thread number to h)
    outcome_refused place thread answer atomic (actions.finish value) h = absurd (no_has h)

    -- any action
    pub acted_refused : (place thread : ℕ) (answer : Answer) (atomic : Bool) (action : SharedAction) → Touched (touches_of place w answer atomic action) → IsRefused (actions.acted w thread answer action)
    acted_refused place thread answer atomic action h =
        telling_refused (actions.reads_of w action ++ actions.writes_of w answer action) (actions.under answer (actions.outcomes w thread action)) (outcome_refused place thread answer atomic action h)
