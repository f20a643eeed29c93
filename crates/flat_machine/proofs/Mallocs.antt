-- What an allocation of the arena answers is what the machine chooses.
use Rattle.std.proofs.Common.{◌≡◌, ℕ, ◌+◌, ◌%◌, ◌<◌, ◌≤◌, ◌⊎◌, Bool, true, false, cond, eqb, ltb, ◌||◌, List, [], ◌∷◌, ◌++◌, get_or, set, Option, Some, None, is_some, refl, ap, subst, ◌∙◌, inl, inr, arith, get_or-set_same, get_or-set_other}
use Rattle.std.proofs.lemmas.Bool.{cases_eq, ne_eqb}
use Rattle.std.proofs.lemmas.Bool.Decides.{nat_tests}
use Rattle.handle_words.specs.Handle.{handle_of, id_of}
use Rattle.handle_table.specs.Table.{IsFree, IsInUse}
use Rattle.ak_trace.specs.declared.endings.TrapKind.TheVariants as kinds
use Rattle.sub_heaps.specs.SubHeaps.{FitsAt, rounded}
use Rattle.arena_meaning.specs.declared.answers.Alloced.{Alloced}
use Rattle.arena_meaning.specs.declared.answers.Alloced.TheVariants.{Got, NoGap, NoId}
use Rattle.arena_meaning.specs.Arena.{Storage, IsConsistent, IsLiveStart}
use Rattle.arena_meaning.specs.Changes.{IsAnswer, after_alloc, after_alloc_copy, after_alloc_zero, is_live_start, without_id}
use Rattle.flat_meaning.specs.Accesses as actions
use Rattle.flat_meaning.specs.Accesses.{Choice, got, null, wait, reallocated, with_copy}
use Rattle.flat_meaning.specs.Memory.{Memory, with_storage, words_leaving}
use Rattle.flat_machine.specs.declared.done.Done.{Done}
use Rattle.flat_machine.specs.declared.done.Done.TheVariants as dones
use Rattle.flat_machine.specs.declared.turned.Turned.TheVariants as code
use Rattle.flat_threads.specs.declared.wait.Wait.TheVariants.{Room}
use Rattle.flat_machine.specs.Choices.{got_or, least_free, lowest_fit, malloc_choice, room_or, sized_choice}
use Rattle.flat_machine.specs.Shares.{Shared}
use Rattle.flat_machine.specs.Turns.{malloc_turned}
use Rattle.flat_machine.specs.inner.Dones.{Does, Went, with_memory}
use Rattle.flat_machine.proofs.Choices.{least_free_is, none_free, lowest_fit_is, none_fits}
use Rattle.flat_machine.proofs.Doing.{with_arena}

-- ---- choices

-- what is chosen at an answer, or else
abbrev pub chosen : Alloced → (other : Choice) → Choice
chosen (Got id place) other = got id place
chosen NoGap other = other
chosen NoId other = other

got_or-no_place : (id : Option ℕ) (other : Choice) → got_or id None other ≡ other
got_or-no_place None other = refl
got_or-no_place (Some id) other = refl

got_or-no_id : (place : Option ℕ) (other : Choice) → got_or None place other ≡ other
got_or-no_id None other = refl
got_or-no_id (Some place) other = refl

pub chosen_is : (s : Storage) (size : ℕ) (a : Alloced) (other : Choice) → IsAnswer s size a → room_or s size other ≡ chosen a other
chosen_is s size (Got id place) other h = rw (least_free_is s.table id h.0, lowest_fit_is s.heaps (rounded size) place h.1) refl
chosen_is s size NoGap other h = rw (none_fits s.heaps (rounded size) h.1) (got_or-no_place (least_free s.table) other)
chosen_is s size NoId other h = rw (none_free s.table h) (got_or-no_id (lowest_fit s.heaps (rounded size)) other)

-- what isn't above a sub-heap isn't above one when it is rounded, since a sub-heap is a multiple of 16
rounded_within : (bytes size : ℕ) → bytes ≤ size → size % 16 ≡ 0 → 16 ≤ size → rounded bytes ≤ size
rounded_within bytes size within multiple least = omega arith

pub sized_is : (s : Storage) → IsConsistent s → (size : ℕ) (a : Alloced) → size ≤ s.heaps.size → IsAnswer s size a → sized_choice s size ≡ chosen a wait
sized_is s kept size a within h =
    let shape = kept.heaps.shape in
    let small : ltb s.heaps.size (rounded size) ≡ false = grind (arith, nat_tests, rounded_within size s.heaps.size within shape.size_multiple shape.size_least) in
    rw small (chosen_is s size a wait h)

-- above a sub-heap it is null
pub above_is : (s : Storage) (size : ℕ) → s.heaps.size < size → sized_choice s size ≡ null
above_is s size above =
    let more : size ≤ rounded size = omega arith in
    let large : ltb s.heaps.size (rounded size) ≡ true = grind (arith, nat_tests, more) in
    rw large refl

-- ---- what is done

-- an answer, as the code tells it; where there is no room it is another
abbrev pub AnswerIs : Alloced → (r other : Done) → Type 0
AnswerIs (Got id place) r other = r ≡ dones.Went (Some (handle_of id 0)) (code.Got id place)
AnswerIs NoGap r other = r ≡ other
AnswerIs NoId r other = r ≡ other

-- what an allocation leaves, where it gets this memory
abbrev pub Leaves : Shared → (given : (id place : ℕ) → Memory) → Alloced → (new : Shared) → Type 0
Leaves v given (Got id place) new = new ≡ with_memory v (given id place)
Leaves v given NoGap new = new ≡ v
Leaves v given NoId new = new ≡ v

module _ (v new : Shared) (r : Done) (d : Choice → actions.Done) (given : (id place : ℕ) → Memory) (gets : (id place : ℕ) → d (got id place) ≡ actions.went (Some (handle_of id 0)) (given id place)) where
  -- it is done, or waits
  pub does_alloc : d wait ≡ actions.waits → (a : Alloced) → Leaves v given a new → AnswerIs a r (dones.Waits Room) → Does v new r (d (chosen a wait))
  does_alloc waits (Got id place) after is = rw (is, after, gets id place) (record { done_ = refl; left = refl })
  does_alloc waits NoGap after is = rw (is, after, waits) (record { done_ = refl; left = refl })
  does_alloc waits NoId after is = rw (is, after, waits) (record { done_ = refl; left = refl })

  -- or it gets null
  pub does_serve : d null ≡ actions.went (Some 0) v.memory → (a : Alloced) → Leaves v given a new → AnswerIs a r (dones.Went (Some 0) code.GotNull) → Does v new r (d (chosen a null))
  does_serve nothing (Got id place) after is = rw (is, after, gets id place) (record { done_ = refl; left = refl })
  does_serve nothing NoGap after is = rw (is, after, nothing) (record { done_ = refl; left = refl })
  does_serve nothing NoId after is = rw (is, after, nothing) (record { done_ = refl; left = refl })

-- null is given
pub does_null : (v : Shared) (r : Done) (d : Choice → actions.Done) → d null ≡ actions.went (Some 0) v.memory → r ≡ dones.Went (Some 0) code.GotNull → Does v v r (d null)
does_null v r d nothing is = rw (is, nothing) (record { done_ = refl; left = refl })

module _ (v : Shared) (storage : Storage) where
  -- of the arena's three calls
  pub leaves_alloc : (size : ℕ) (a : Alloced) → storage ≡ after_alloc v.memory.storage size a → Leaves v (λ id place. with_storage v.memory (after_alloc v.memory.storage size (Got id place))) a (with_arena v storage)
  leaves_alloc size (Got id place) after = ap (with_arena v) after
  leaves_alloc size NoGap after = ap (with_arena v) after
  leaves_alloc size NoId after = ap (with_arena v) after

  pub leaves_zero : (size : ℕ) (a : Alloced) → storage ≡ after_alloc_zero v.memory.storage size a → Leaves v (λ id place. with_storage v.memory (after_alloc_zero v.memory.storage size (Got id place))) a (with_arena v storage)
  leaves_zero size (Got id place) after = ap (with_arena v) after
  leaves_zero size NoGap after = ap (with_arena v) after
  leaves_zero size NoId after = ap (with_arena v) after

-- how it went
pub went_alloc : (a : Alloced) (r : Done) → AnswerIs a r (dones.Waits Room) → Went r (malloc_turned (chosen a wait))
went_alloc (Got id place) r is = rw is refl
went_alloc NoGap r is = rw is tt
went_alloc NoId r is = rw is tt

pub went_serve : (a : Alloced) (r : Done) → AnswerIs a r (dones.Went (Some 0) code.GotNull) → Went r (malloc_turned (chosen a null))
went_serve (Got id place) r is = rw is refl
went_serve NoGap r is = rw is refl
went_serve NoId r is = rw is refl

pub went_null : (r : Done) → r ≡ dones.Went (Some 0) code.GotNull → Went r (malloc_turned null)
went_null r is = rw is refl

-- ---- reallocs

-- a word that is live stays so when another object comes
pub live_stays : (s : Storage) (word size id place : ℕ) → IsFree s.table id → IsLiveStart s word → IsLiveStart (after_alloc_copy s word size (Got id place)) word
live_stays s word size id place free live = record { handle = live.handle; start = live.start; in_use = used } where
  entry : Option ℕ
  entry = Some (s.start + place)

  used : IsInUse (set s.table id entry) (id_of word)
  used = elim (cases_eq (id_of word) id) [
    | inl same ↦ ap is_some (ap (λ k. get_or (set s.table id entry) k None) same ∙ get_or-set_same s.table id entry None free.0)
    | inr other ↦ ap is_some (get_or-set_other s.table id (id_of word) entry None other) ∙ live.in_use
  ]

module _ (v : Shared) (word size : ℕ) (not_null : eqb word 0 ≡ false) where
  -- what one leaves that is done at once: the old object ends
  abbrev pub ended : (id place : ℕ) → Memory
  ended id place = with_storage v.memory (without_id (with_copy v.memory.storage id place word size) (id_of word))

  module _ (idle : v.memory.leaving ≡ None) (live : is_live_start v.memory.storage word ≡ true) where
    pub gets_now : (id place : ℕ) → reallocated (got id place) word size v.memory ≡ actions.went (Some (handle_of id 0)) (ended id place)
    gets_now id place = rw (not_null, idle, live) refl

    pub waits_now : reallocated wait word size v.memory ≡ actions.waits
    waits_now = rw (not_null, idle, live) refl

    pub null_now : reallocated null word size v.memory ≡ actions.went (Some 0) v.memory
    null_now = rw (not_null, idle, live) refl

  -- of what isn't live it is a trap
  pub traps_now : v.memory.leaving ≡ None → is_live_start v.memory.storage word ≡ false → (choice : Choice) → reallocated choice word size v.memory ≡ actions.over (actions.trap word kinds.Free)
  traps_now idle dead choice = rw (not_null, idle, dead) refl

  -- what one leaves that a barrier serves: the old object leaves later, if it is live
  abbrev pub left_later : (words : List ℕ) (id place : ℕ) → Memory
  left_later words id place =
      let new : Memory = with_storage v.memory (with_copy v.memory.storage id place word size) in
      cond (is_live_start v.memory.storage word) (record new { leaving = Some (words ++ word ∷ []) }) new

  module _ (words : List ℕ) (serves : v.memory.leaving ≡ Some words) where
    pub gets_later : (id place : ℕ) → reallocated (got id place) word size v.memory ≡ actions.went (Some (handle_of id 0)) (left_later words id place)
    gets_later id place = rw (not_null, serves) refl

    pub null_later : reallocated null word size v.memory ≡ actions.went (Some 0) v.memory
    null_later = rw (not_null, serves) refl

-- where a barrier serves, what is above a sub-heap gets null
pub above_served : (s : Storage) (size : ℕ) → s.heaps.size < size → room_or s size null ≡ null
above_served s size above =
    let nowhere : (at : ℕ) → ¬ FitsAt s.heaps (rounded size) at = λ at fits. absurd (omega (arith, fits.inside.1, above)) in
    ap (λ (place : Option ℕ). got_or (least_free s.table) place null) (none_fits s.heaps (rounded size) nowhere) ∙ got_or-no_place (least_free s.table) null

-- where there is no room it waits, and the arena is as it was
pub none_chosen : (a : Alloced) (other : Choice) → (a ≡ NoGap) ⊎ (a ≡ NoId) → chosen a other ≡ other
none_chosen (Got id place) other (inl e) = absurd cc
none_chosen (Got id place) other (inr e) = absurd cc
none_chosen NoGap other is = refl
none_chosen NoId other is = refl

pub none_copied : (s storage : Storage) (word size : ℕ) (a : Alloced) → (a ≡ NoGap) ⊎ (a ≡ NoId) → storage ≡ after_alloc_copy s word size a → storage ≡ s
none_copied s storage word size (Got id place) (inl e) after = absurd cc
none_copied s storage word size (Got id place) (inr e) after = absurd cc
none_copied s storage word size NoGap is after = after
none_copied s storage word size NoId is after = after

pub does_wait : (v : Shared) (storage : Storage) (d : actions.Done) → storage ≡ v.memory.storage → d ≡ actions.waits → Does v (with_arena v storage) (dones.Waits Room) d
does_wait v storage d same is = rw (same, is) (record { done_ = refl; left = refl })

pub does_nothing : (v : Shared) (storage : Storage) (r : Done) (d : actions.Done) → storage ≡ v.memory.storage → r ≡ dones.Went (Some 0) code.GotNull → d ≡ actions.went (Some 0) v.memory → Does v (with_arena v storage) r d
does_nothing v storage r d same r_is is = rw (same, r_is, is) (record { done_ = refl; left = refl })

-- a word that is live may be one of a realloc
pub live_renewable : (s : Storage) (word size : ℕ) → is_live_start s word ≡ true → malloc_choice s word size ≡ sized_choice s size
live_renewable s word size live = ap (λ b. cond b (sized_choice s size) null) (either (eqb word 0) (is_live_start s word) live) where
  either : (a b : Bool) → b ≡ true → (a || b) ≡ true
  either true b e = refl
  either false b e = e

pub not_zero : (word : ℕ) → (word ≡ 0 → ⊥) → eqb word 0 ≡ false
not_zero word other = ne_eqb word 0 other

-- what a served realloc leaves, in its parts
pub parts_later : (v : Shared) (word size id place : ℕ) (words : List ℕ) (live : Bool) (storage : Storage) (leaving : Option (List ℕ)) → v.memory.leaving ≡ Some words → live ≡ is_live_start v.memory.storage word → storage ≡ with_copy v.memory.storage id place word size
    → leaving ≡ cond live (Some (words_leaving v.memory.leaving ++ word ∷ [])) v.memory.leaving
    → record { storage = storage; output = v.memory.output; threads = v.memory.threads; leaving = leaving } ≡ (let new : Memory = with_storage v.memory (with_copy v.memory.storage id place word size) in cond (is_live_start v.memory.storage word) (record new { leaving = Some (words ++ word ∷ []) }) new)
parts_later v word size id place words live storage leaving serves live_is storage_is leaving_is = by live live_is leaving_is where
  by : (b : Bool) → b ≡ is_live_start v.memory.storage word → leaving ≡ cond b (Some (words_leaving v.memory.leaving ++ word ∷ [])) v.memory.leaving
      → record { storage = storage; output = v.memory.output; threads = v.memory.threads; leaving = leaving } ≡ (let new : Memory = with_storage v.memory (with_copy v.memory.storage id place word size) in cond (is_live_start v.memory.storage word) (record new { leaving = Some (words ++ word ∷ []) }) new)
  by true e l = subst (λ (x : Bool). record { storage = storage; output = v.memory.output; threads = v.memory.threads; leaving = leaving } ≡ (let new : Memory = with_storage v.memory (with_copy v.memory.storage id place word size) in cond x (record new { leaving = Some (words ++ word ∷ []) }) new)) e (λ i. record { storage = storage_is i; output = v.memory.output; threads = v.memory.threads; leaving = (l ∙ ap (λ (w : Option (List ℕ)). Some (words_leaving w ++ word ∷ [])) serves) i })
  by false e l = subst (λ (x : Bool). record { storage = storage; output = v.memory.output; threads = v.memory.threads; leaving = leaving } ≡ (let new : Memory = with_storage v.memory (with_copy v.memory.storage id place word size) in cond x (record new { leaving = Some (words ++ word ∷ []) }) new)) e (λ i. record { storage = storage_is i; output = v.memory.output; threads = v.memory.threads; leaving = l i })
