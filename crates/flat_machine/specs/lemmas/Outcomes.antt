-- What an action can come to: which may wait, when one doesn't fit, and which threads there are then.
use Rattle.std.proofs.Common.{◌≡◌, ℕ, ◌+◌, ◌*◌, ◌/◌, ◌<◌, ◌⊎◌, Bool, true, false, cond, eqb, ltb, List, [], ◌∷◌, ◌++◌, length, map, Option, Some, None, refl, ap, sym, ◌∙◌, subst, inl, inr}
use Rattle.std.specs.Prelude.{slice_get}
use Rattle.std.proofs.lemmas.Bool.{ltb-true}
use Rattle.struct_ir.specs.Linear.{Spot}
use Rattle.struct_ir.specs.Nodes.{Action, load, store, copy_bytes, malloc, calloc, realloc, free, change, compare, print, lock, unlock, destroy, start, join, may_wait, Place, Step}
use Rattle.ak_words.specs.declared.int_type.IntType.{IntType}
use Rattle.ak_words.specs.Bytes.{low_bytes}
use Rattle.block_store.specs.declared.values.Access.{Access}
use Rattle.block_store.specs.declared.values.Change.{Change}
use Rattle.block_store.specs.Cells.{size_of}
use Rattle.handle_words.specs.Handle.{id_of}
use Rattle.flat_store.specs.Flat.{bytes_from, first_outside, first_outside_of_both}
use Rattle.sub_heaps.specs.SubHeaps.{rounded}
use Rattle.arena_meaning.specs.Arena.{Storage}
use Rattle.arena_meaning.specs.Changes.{without_id}
use Rattle.ak_trace.specs.declared.endings.TrapKind.{TrapKind}
use Rattle.ak_trace.specs.declared.endings.TrapKind.TheVariants as kinds
use Rattle.flat_meaning.specs.Accesses as actions
use Rattle.flat_meaning.specs.Accesses.{Choice, Done, allocated, zeroed, renewed, reallocated, guarded, with_copy, copied, freed, is_live_start, is_plain, loaded, output_room, printed, prints, stored, within, word_read}
use Rattle.flat_meaning.specs.Actions.{acted_on_memory, word_after_change, changed, compared, is_equal, number_at, is_free, joined_at, joined_if, locked, may_start, printed_parts, started, unlocked}
use Rattle.flat_meaning.specs.Image.{Image, Layout}
use Rattle.flat_meaning.specs.Memory.{Made, Memory, beginning, left_by, with_storage, with_thread, written}
use Rattle.flat_meaning.specs.Ready.{takes_room}
use Rattle.flat_meaning.specs.Printing.{Read, read_parts, reads, outside, too_long}
use Rattle.flat_meaning.specs.Words.{Target, Words, target_of, word_at}
use Rattle.flat_rules.specs.Events.{back, goes}
use Rattle.flat_rules.specs.Lawful.{is_end, is_for_room}
use Rattle.flat_threads.specs.Waits.{action_waits}
use Rattle.flat_machine.specs.Choices.{action_choice, got_or, is_renewable, least_free, lowest_fit, malloc_choice, room_or, sized_choice}
use Rattle.flat_machine.specs.Readiness.{wants_room}
use Rattle.flat_machine.specs.Turns.{blocked_turned, done_turned, malloc_turned, start_turned}
use Rattle.flat_machine.specs.lemmas.Waiting.{IsSized, Operands, of_malloc, of_calloc, of_realloc}

-- ---- what waits

within_goes : (kind : TrapKind) (o : Option ℕ) (word : Option ℕ) (m : Memory) → within kind o (actions.went word m) ≡ actions.waits → ⊥
within_goes kind None word m e = absurd cc
within_goes kind (Some a) word m e = absurd cc

plain_goes : (b : Bool) (d : Done) → (d ≡ actions.waits → ⊥) → cond b d actions.unfit ≡ actions.waits → ⊥
plain_goes true d h e = h e
plain_goes false d h e = absurd cc

freed_goes : (b c : Bool) (m after : Memory) (f : actions.Fault) → cond b (actions.went None m) (cond c (actions.went None after) (actions.over f)) ≡ actions.waits → ⊥
freed_goes true c m after f e = absurd cc
freed_goes false true m after f e = absurd cc
freed_goes false false m after f e = absurd cc

prints_goes : (r : Read) (m : Memory) → prints r m ≡ actions.waits → ⊥
prints_goes (reads all) m e = absurd cc
prints_goes (outside address) m e = absurd cc
prints_goes too_long m e = absurd cc

started_goes : (b : Bool) (kind : TrapKind) (o : Option ℕ) (word other : Option ℕ) (m after : Memory) → cond b (within kind o (actions.went word after)) (actions.went other m) ≡ actions.waits → ⊥
started_goes true kind o word other m after e = within_goes kind o word after e
started_goes false kind o word other m after e = absurd cc

module _ (x : Layout) (n : ℕ) (m : Memory) where
  load_goes : (choice : Choice) (how : _) (ps : List Target) (ws : List ℕ) → acted_on_memory x n choice (load how) ps ws m ≡ actions.waits → ⊥
  load_goes choice how [] ws e = absurd cc
  load_goes choice how (a ∷ []) [] e = plain_goes (is_plain choice) (loaded how a m) (within_goes _ _ _ _) e
  load_goes choice how (a ∷ []) (w ∷ ws) e = absurd cc
  load_goes choice how (a ∷ b ∷ ps) ws e = absurd cc

  store_goes : (choice : Choice) (how : _) (ps : List Target) (ws : List ℕ) → acted_on_memory x n choice (store how) ps ws m ≡ actions.waits → ⊥
  store_goes choice how [] ws e = absurd cc
  store_goes choice how (a ∷ []) [] e = absurd cc
  store_goes choice how (a ∷ []) (w ∷ []) e = plain_goes (is_plain choice) (stored how a w m) (within_goes _ _ _ _) e
  store_goes choice how (a ∷ []) (w ∷ v ∷ ws) e = absurd cc
  store_goes choice how (a ∷ b ∷ ps) ws e = absurd cc

  copy_goes : (choice : Choice) (align : ℕ) (same : Bool) (ps : List Target) (ws : List ℕ) → acted_on_memory x n choice (copy_bytes align same) ps ws m ≡ actions.waits → ⊥
  copy_goes choice align same [] ws e = absurd cc
  copy_goes choice align same (a ∷ []) ws e = absurd cc
  copy_goes choice align same (a ∷ b ∷ []) [] e = absurd cc
  copy_goes choice align same (a ∷ b ∷ []) (w ∷ []) e = plain_goes (is_plain choice) (copied a b w m) (within_goes _ _ _ _) e
  copy_goes choice align same (a ∷ b ∷ []) (w ∷ v ∷ ws) e = absurd cc
  copy_goes choice align same (a ∷ b ∷ c ∷ ps) ws e = absurd cc

  free_goes : (choice : Choice) (ps : List Target) (ws : List ℕ) → acted_on_memory x n choice free ps ws m ≡ actions.waits → ⊥
  free_goes choice (a ∷ ps) ws e = absurd cc
  free_goes choice [] [] e = absurd cc
  free_goes choice [] (w ∷ []) e = plain_goes (is_plain choice) (freed w m) (freed_goes (eqb w 0) (is_live_start m.storage w) _ _ _) e
  free_goes choice [] (w ∷ v ∷ ws) e = absurd cc

  change_goes : (choice : Choice) (how : Change) (t : IntType) (ps : List Target) (ws : List ℕ) → acted_on_memory x n choice (change how t) ps ws m ≡ actions.waits → ⊥
  change_goes choice how t [] ws e = absurd cc
  change_goes choice how t (a ∷ []) [] e = absurd cc
  change_goes choice how t (a ∷ []) (w ∷ []) e = plain_goes (is_plain choice) (changed how t a w m) (within_goes _ _ _ _) e
  change_goes choice how t (a ∷ []) (w ∷ v ∷ ws) e = absurd cc
  change_goes choice how t (a ∷ b ∷ ps) ws e = absurd cc

  compared_goes : (b : Bool) (kind : TrapKind) (o : Option ℕ) (word other : Option ℕ) (one two : Memory) → within kind o (cond b (actions.went word one) (actions.went other two)) ≡ actions.waits → ⊥
  compared_goes true kind o word other one two e = within_goes kind o word one e
  compared_goes false kind o word other one two e = within_goes kind o other two e

  compare_goes : (choice : Choice) (t : IntType) (ps : List Target) (ws : List ℕ) → acted_on_memory x n choice (compare t) ps ws m ≡ actions.waits → ⊥
  compare_goes choice t [] ws e = absurd cc
  compare_goes choice t (a ∷ []) ws e = absurd cc
  compare_goes choice t (a ∷ b ∷ []) [] e = absurd cc
  compare_goes choice t (a ∷ b ∷ []) (w ∷ []) e = plain_goes (is_plain choice) (compared t a b w m) (compared_goes (is_equal t (number_at t a.address m) (number_at t b.address m)) _ _ _ _ _ _) e
  compare_goes choice t (a ∷ b ∷ []) (w ∷ v ∷ ws) e = absurd cc
  compare_goes choice t (a ∷ b ∷ c ∷ ps) ws e = absurd cc

  unlock_goes : (choice : Choice) (ps : List Target) (ws : List ℕ) → acted_on_memory x n choice unlock ps ws m ≡ actions.waits → ⊥
  unlock_goes choice [] ws e = absurd cc
  unlock_goes choice (a ∷ []) [] e = plain_goes (is_plain choice) (unlocked a m) (within_goes _ _ _ _) e
  unlock_goes choice (a ∷ []) (w ∷ ws) e = absurd cc
  unlock_goes choice (a ∷ b ∷ ps) ws e = absurd cc

  destroy_goes : (choice : Choice) (ps : List Target) (ws : List ℕ) → acted_on_memory x n choice destroy ps ws m ≡ actions.waits → ⊥
  destroy_goes choice [] ws e = absurd cc
  destroy_goes choice (a ∷ []) [] e = plain_goes (is_plain choice) (actions.went None m) (λ f. absurd cc) e
  destroy_goes choice (a ∷ []) (w ∷ ws) e = absurd cc
  destroy_goes choice (a ∷ b ∷ ps) ws e = absurd cc

  start_goes : (choice : Choice) (function : ℕ) (ps : List Target) (ws : List ℕ) → acted_on_memory x n choice (start function) ps ws m ≡ actions.waits → ⊥
  start_goes choice function [] ws e = absurd cc
  start_goes choice function (a ∷ []) [] e = absurd cc
  start_goes choice function (a ∷ []) (w ∷ []) e = plain_goes (is_plain choice) (started x.limits.threads function a w m) (started_goes (may_start x.limits.threads m) _ _ _ _ _ _) e
  start_goes choice function (a ∷ []) (w ∷ v ∷ ws) e = absurd cc
  start_goes choice function (a ∷ b ∷ ps) ws e = absurd cc

  -- what waits may wait
  pub waits_may : (choice : Choice) (a : Action) (ps : List Target) (ws : List ℕ) → acted_on_memory x n choice a ps ws m ≡ actions.waits → may_wait a ≡ true
  waits_may choice (load how) ps ws e = absurd (load_goes choice how ps ws e)
  waits_may choice (store how) ps ws e = absurd (store_goes choice how ps ws e)
  waits_may choice (copy_bytes align same) ps ws e = absurd (copy_goes choice align same ps ws e)
  waits_may choice malloc ps ws e = refl
  waits_may choice calloc ps ws e = refl
  waits_may choice realloc ps ws e = refl
  waits_may choice free ps ws e = absurd (free_goes choice ps ws e)
  waits_may choice (change how t) ps ws e = absurd (change_goes choice how t ps ws e)
  waits_may choice (compare t) ps ws e = absurd (compare_goes choice t ps ws e)
  waits_may choice (print pieces) ps ws e = absurd (plain_goes (is_plain choice) _ (prints_goes _ m) e)
  waits_may choice lock ps ws e = refl
  waits_may choice unlock ps ws e = absurd (unlock_goes choice ps ws e)
  waits_may choice destroy ps ws e = absurd (destroy_goes choice ps ws e)
  waits_may choice (start function) ps ws e = absurd (start_goes choice function ps ws e)
  waits_may choice join ps ws e = refl

-- a mutex or a thread isn't room
no_room_lock : (ps : List Target) (ws : List ℕ) → wants_room (action_waits lock ps ws) ≡ false
no_room_lock [] ws = refl
no_room_lock (a ∷ []) [] = refl
no_room_lock (a ∷ []) (w ∷ ws) = refl
no_room_lock (a ∷ b ∷ ps) ws = refl

no_room_join : (ps : List Target) (ws : List ℕ) → wants_room (action_waits join ps ws) ≡ false
no_room_join [] ws = refl
no_room_join (a ∷ []) [] = refl
no_room_join (a ∷ []) (w ∷ []) = refl
no_room_join (a ∷ []) (w ∷ v ∷ ws) = refl
no_room_join (a ∷ b ∷ ps) ws = refl

-- only an allocation wants room
pub room_or_malloc : (a : Action) (ps : List Target) (ws : List ℕ) → (takes_room a ≡ true) ⊎ (wants_room (action_waits a ps ws) ≡ false)
room_or_malloc (load how) ps ws = inr refl
room_or_malloc (store how) ps ws = inr refl
room_or_malloc (copy_bytes align same) ps ws = inr refl
room_or_malloc malloc ps ws = inl refl
room_or_malloc calloc ps ws = inl refl
room_or_malloc realloc ps ws = inl refl
room_or_malloc (change how t) ps ws = inr refl
room_or_malloc (compare t) ps ws = inr refl
room_or_malloc free ps ws = inr refl
room_or_malloc (print pieces) ps ws = inr refl
room_or_malloc lock ps ws = inr (no_room_lock ps ws)
room_or_malloc unlock ps ws = inr refl
room_or_malloc destroy ps ws = inr refl
room_or_malloc (start function) ps ws = inr refl
room_or_malloc join ps ws = inr (no_room_join ps ws)

-- an allocation waits only where that is chosen
pub allocated_waits : (choice : Choice) (size : ℕ) (m : Memory) → allocated choice size m ≡ actions.waits → choice ≡ actions.wait
allocated_waits actions.plain size m e = absurd cc
allocated_waits (actions.got id place) size m e = absurd cc
allocated_waits actions.null size m e = absurd cc
allocated_waits actions.wait size m e = refl

pub zeroed_waits : (choice : Choice) (size : ℕ) (m : Memory) → zeroed choice size m ≡ actions.waits → choice ≡ actions.wait
zeroed_waits actions.plain size m e = absurd cc
zeroed_waits (actions.got id place) size m e = absurd cc
zeroed_waits actions.null size m e = absurd cc
zeroed_waits actions.wait size m e = refl

renewed_waits : (choice : Choice) (word size : ℕ) (m : Memory) → renewed choice word size m ≡ actions.waits → choice ≡ actions.wait
renewed_waits actions.plain word size m e = absurd cc
renewed_waits (actions.got id place) word size m e = absurd cc
renewed_waits actions.null word size m e = absurd cc
renewed_waits actions.wait word size m e = refl

live_waits : (b : Bool) (choice : Choice) (word size : ℕ) (m : Memory) (f : actions.Fault) → cond b (renewed choice word size m) (actions.over f) ≡ actions.waits → choice ≡ actions.wait
live_waits true choice word size m f e = renewed_waits choice word size m e
live_waits false choice word size m f e = absurd cc

guarded_waits : (leaving : Option (List ℕ)) (choice : Choice) (word size : ℕ) (m : Memory) → guarded leaving word m.storage (renewed choice word size m) ≡ actions.waits → choice ≡ actions.wait
guarded_waits None choice word size m e = live_waits (is_live_start m.storage word) choice word size m _ e
guarded_waits (Some words) choice word size m e = renewed_waits choice word size m e

pub reallocated_waits : (b : Bool) (leaving : Option (List ℕ)) (choice : Choice) (word size : ℕ) (m : Memory) → cond b (allocated choice size m) (guarded leaving word m.storage (renewed choice word size m)) ≡ actions.waits → choice ≡ actions.wait
reallocated_waits true leaving choice word size m e = allocated_waits choice size m e
reallocated_waits false leaving choice word size m e = guarded_waits leaving choice word size m e

for_room : (choice : Choice) → choice ≡ actions.wait → true ≡ is_for_room (blocked_turned choice)
for_room choice e = sym (ap (λ k. is_for_room (blocked_turned k)) e)

-- a step that waits wants room where its turn says so
module _ (x : Layout) (n : ℕ) (rule : (word size : ℕ) → Choice) (l : Words) (m : Memory) where
  malloc_told : (ps : List Target) (ts : List ℕ) → acted_on_memory x n (action_choice rule l malloc ts) malloc ps (map (word_at l) ts) m ≡ actions.waits → true ≡ is_for_room (blocked_turned (action_choice rule l malloc ts))
  malloc_told (p ∷ ps) ts e = absurd cc
  malloc_told [] [] e = absurd cc
  malloc_told [] (t ∷ []) e = for_room _ (allocated_waits (rule 0 (word_at l t)) (word_at l t) m e)
  malloc_told [] (t ∷ u ∷ ts) e = absurd cc

  calloc_told : (ps : List Target) (ts : List ℕ) → acted_on_memory x n (action_choice rule l calloc ts) calloc ps (map (word_at l) ts) m ≡ actions.waits → true ≡ is_for_room (blocked_turned (action_choice rule l calloc ts))
  calloc_told (p ∷ ps) ts e = absurd cc
  calloc_told [] [] e = absurd cc
  calloc_told [] (t ∷ []) e = absurd cc
  calloc_told [] (t ∷ u ∷ []) e = for_room _ (zeroed_waits (rule 0 (word_at l t * word_at l u)) (word_at l t * word_at l u) m e)
  calloc_told [] (t ∷ u ∷ v ∷ ts) e = absurd cc

  realloc_told : (ps : List Target) (ts : List ℕ) → acted_on_memory x n (action_choice rule l realloc ts) realloc ps (map (word_at l) ts) m ≡ actions.waits → true ≡ is_for_room (blocked_turned (action_choice rule l realloc ts))
  realloc_told (p ∷ ps) ts e = absurd cc
  realloc_told [] [] e = absurd cc
  realloc_told [] (t ∷ []) e = absurd cc
  realloc_told [] (t ∷ u ∷ []) e = for_room _ (reallocated_waits (eqb (word_at l t) 0) m.leaving (rule (word_at l t) (word_at l u)) (word_at l t) (word_at l u) m e)
  realloc_told [] (t ∷ u ∷ v ∷ ts) e = absurd cc

  pub wait_told : (a : Action) (ps : List Target) (ts : List ℕ) → acted_on_memory x n (action_choice rule l a ts) a ps (map (word_at l) ts) m ≡ actions.waits → wants_room (action_waits a ps (map (word_at l) ts)) ≡ is_for_room (blocked_turned (action_choice rule l a ts))
  wait_told (load how) ps ts e = refl
  wait_told (store how) ps ts e = refl
  wait_told (copy_bytes align same) ps ts e = refl
  wait_told malloc ps ts e = malloc_told ps ts e
  wait_told calloc ps ts e = calloc_told ps ts e
  wait_told realloc ps ts e = realloc_told ps ts e
  wait_told free ps ts e = refl
  wait_told (change how t) ps ts e = refl
  wait_told (compare t) ps ts e = refl
  wait_told (print pieces) ps ts e = refl
  wait_told lock ps ts e = no_room_lock ps (map (word_at l) ts)
  wait_told unlock ps ts e = refl
  wait_told destroy ps ts e = refl
  wait_told (start function) ps ts e = refl
  wait_told join ps ts e = no_room_join ps (map (word_at l) ts)

-- ---- an allocation fits

-- something is chosen
pub data IsGiven : Choice → Type 0 where
  given_got : (id place : ℕ) → IsGiven (actions.got id place)
  given_null : IsGiven actions.null
  given_wait : IsGiven actions.wait

given_or : (o q : Option ℕ) (other : Choice) → IsGiven other → IsGiven (got_or o q other)
given_or None q other g = g
given_or (Some id) None other g = g
given_or (Some id) (Some place) other g = given_got id place

given_if : (b : Bool) (one other : Choice) → IsGiven one → IsGiven other → IsGiven (cond b one other)
given_if true one other g h = g
given_if false one other g h = h

pub malloc_given : (s : Storage) (word size : ℕ) → IsGiven (malloc_choice s word size)
malloc_given s word size =
    given_if (is_renewable s word) (sized_choice s size) actions.null
    (given_if (ltb s.heaps.size (rounded size)) actions.null (room_or s size actions.wait) given_null (given_or (least_free s.table) (lowest_fit s.heaps (rounded size)) actions.wait given_wait))
    given_null

allocated_fits : (choice : Choice) → IsGiven choice → (size : ℕ) (m : Memory) → allocated choice size m ≡ actions.unfit → ⊥
allocated_fits _ (given_got id place) size m e = absurd cc
allocated_fits _ given_null size m e = absurd cc
allocated_fits _ given_wait size m e = absurd cc

zeroed_fits : (choice : Choice) → IsGiven choice → (size : ℕ) (m : Memory) → zeroed choice size m ≡ actions.unfit → ⊥
zeroed_fits _ (given_got id place) size m e = absurd cc
zeroed_fits _ given_null size m e = absurd cc
zeroed_fits _ given_wait size m e = absurd cc

renewed_fits : (choice : Choice) → IsGiven choice → (word size : ℕ) (m : Memory) → renewed choice word size m ≡ actions.unfit → ⊥
renewed_fits _ (given_got id place) word size m e = absurd cc
renewed_fits _ given_null word size m e = absurd cc
renewed_fits _ given_wait word size m e = absurd cc

either_fits : (b : Bool) (d e : Done) → (d ≡ actions.unfit → ⊥) → (e ≡ actions.unfit → ⊥) → cond b d e ≡ actions.unfit → ⊥
either_fits true d e h k is = h is
either_fits false d e h k is = k is

guarded_fits : (leaving : Option (List ℕ)) (word : ℕ) (s : Storage) (d : Done) → (d ≡ actions.unfit → ⊥) → guarded leaving word s d ≡ actions.unfit → ⊥
guarded_fits None word s d h = either_fits (is_live_start s word) d (actions.over (actions.trap word kinds.Free)) h (λ e. absurd cc)
guarded_fits (Some words) word s d h = h

sized_fits : (x : Layout) (n : ℕ) (l : Words) (m : Memory) (a : Action) (temps : List ℕ) → Operands a temps → acted_on_memory x n (action_choice (malloc_choice m.storage) l a temps) a [] (map (word_at l) temps) m ≡ actions.unfit → ⊥
sized_fits x n l m _ _ (of_malloc size) = allocated_fits (malloc_choice m.storage 0 (word_at l size)) (malloc_given m.storage 0 (word_at l size)) (word_at l size) m
sized_fits x n l m _ _ (of_calloc count size) = zeroed_fits (malloc_choice m.storage 0 (word_at l count * word_at l size)) (malloc_given m.storage 0 (word_at l count * word_at l size)) (word_at l count * word_at l size) m
sized_fits x n l m _ _ (of_realloc word size) =
    let w = word_at l word in
    let k = word_at l size in
    let choice = malloc_choice m.storage w k in
    either_fits (eqb w 0) (allocated choice k m) (guarded m.leaving w m.storage (renewed choice w k m)) (allocated_fits choice (malloc_given m.storage w k) k m)
    (guarded_fits m.leaving w m.storage (renewed choice w k m) (renewed_fits choice (malloc_given m.storage w k) w k m))

pub malloc_fits : (x : Layout) (n : ℕ) (l : Words) (m : Memory) (temps : ℕ) (s : Step) → IsSized temps s
    → acted_on_memory x n (action_choice (malloc_choice m.storage) l s.action s.temps) s.action (map (target_of l) s.places) (map (word_at l) s.temps) m ≡ actions.unfit → ⊥
malloc_fits x n l m temps s h e =
    sized_fits x n l m s.action s.temps h.operands
    (ap (λ (places : List Place). acted_on_memory x n (action_choice (malloc_choice m.storage) l s.action s.temps) s.action (map (target_of l) places) (map (word_at l) s.temps) m) (sym h.no_places) ∙ e)

-- ---- how a step that was done is told

module _ (x : Image Spot) (m : Memory) where
  malloc_on : (choice : Choice) → (is_for_room (malloc_turned choice) ≡ false) × (is_end (malloc_turned choice) ≡ false) × (goes (malloc_turned choice) ≡ back → ⊥)
  malloc_on actions.plain = (refl, refl, λ e. absurd cc)
  malloc_on (actions.got id place) = (refl, refl, λ e. absurd cc)
  malloc_on actions.null = (refl, refl, λ e. absurd cc)
  malloc_on actions.wait = (refl, refl, λ e. absurd cc)

  start_on : (b : Bool) (made : ℕ) → (is_for_room (start_turned b made) ≡ false) × (is_end (start_turned b made) ≡ false) × (goes (start_turned b made) ≡ back → ⊥)
  start_on true made = (refl, refl, λ e. absurd cc)
  start_on false made = (refl, refl, λ e. absurd cc)

  -- the thread goes on
  pub done_on : (choice : Choice) (a : Action) → (is_for_room (done_turned x m choice a) ≡ false) × (is_end (done_turned x m choice a) ≡ false) × (goes (done_turned x m choice a) ≡ back → ⊥)
  done_on choice (load how) = (refl, refl, λ e. absurd cc)
  done_on choice (store how) = (refl, refl, λ e. absurd cc)
  done_on choice (copy_bytes align same) = (refl, refl, λ e. absurd cc)
  done_on choice malloc = malloc_on choice
  done_on choice calloc = malloc_on choice
  done_on choice realloc = malloc_on choice
  done_on choice free = (refl, refl, λ e. absurd cc)
  done_on choice (change how t) = (refl, refl, λ e. absurd cc)
  done_on choice (compare t) = (refl, refl, λ e. absurd cc)
  done_on choice (print pieces) = (refl, refl, λ e. absurd cc)
  done_on choice lock = (refl, refl, λ e. absurd cc)
  done_on choice unlock = (refl, refl, λ e. absurd cc)
  done_on choice destroy = (refl, refl, λ e. absurd cc)
  done_on choice (start function) = start_on (may_start x.layout.limits.threads m) (length m.threads)
  done_on choice join = (refl, refl, λ e. absurd cc)

-- ---- threads behind an action

-- as they were; or one more, which starts a function
pub data AreThreads (a : Action) (limit : ℕ) (ts : List Made) : List Made → Type 0 where
  same : AreThreads a limit ts ts
  one_more : (function argument : ℕ) → a ≡ start function → length ts < limit → AreThreads a limit ts (ts ++ beginning function argument ∷ [])

-- where it was done; and no barrier serves behind it, where none did before
data DoneThreads (a : Action) (limit : ℕ) (m : Memory) : Done → Type 0 where
  was_done : (word : Option ℕ) (after : Memory) → AreThreads a limit m.threads after.threads → (m.leaving ≡ None → after.leaving ≡ None) → DoneThreads a limit m (actions.went word after)
  has_waited : DoneThreads a limit m actions.waits
  no_fit : DoneThreads a limit m actions.unfit
  was_over : (f : actions.Fault) → DoneThreads a limit m (actions.over f)

module _ (x : Layout) (n : ℕ) (m : Memory) where
  abbrev Keeps : Action → Done → Type 0
  Keeps a d = DoneThreads a x.limits.threads m d

  plain_keeps : (a : Action) (b : Bool) (d : Done) → Keeps a d → Keeps a (cond b d actions.unfit)
  plain_keeps a true d h = h
  plain_keeps a false d h = no_fit

  within_keeps : (a : Action) (kind : TrapKind) (o : Option ℕ) (d : Done) → Keeps a d → Keeps a (within kind o d)
  within_keeps a kind None d h = h
  within_keeps a kind (Some address) d h = was_over _

  either_keeps : (a : Action) (b : Bool) (d e : Done) → (b ≡ true → Keeps a d) → Keeps a e → Keeps a (cond b d e)
  either_keeps a true d e h k = h refl
  either_keeps a false d e h k = k

  -- with other storage or output alone
  as_before : (a : Action) (word : Option ℕ) (after : Memory) → ◌≡◌ {A = List Made × Option (List ℕ)} (m.threads, m.leaving) (after.threads, after.leaving) → Keeps a (actions.went word after)
  as_before a word after e =
      was_done word after (subst (AreThreads a x.limits.threads m.threads) (ap (λ (p : List Made × Option (List ℕ)). p.0) e) same) (λ none. sym (ap (λ (p : List Made × Option (List ℕ)). p.1) e) ∙ none)

  prints_keeps : (a : Action) (r : Read) → Keeps a (prints r m)
  prints_keeps a (reads all) = as_before a _ _ refl
  prints_keeps a (outside address) = was_over _
  prints_keeps a too_long = was_over _

  allocated_keeps : (a : Action) (choice : Choice) (size : ℕ) → Keeps a (allocated choice size m)
  allocated_keeps a actions.plain size = no_fit
  allocated_keeps a (actions.got id place) size = as_before a _ _ refl
  allocated_keeps a actions.null size = as_before a _ _ refl
  allocated_keeps a actions.wait size = has_waited

  zeroed_keeps : (a : Action) (choice : Choice) (size : ℕ) → Keeps a (zeroed choice size m)
  zeroed_keeps a actions.plain size = no_fit
  zeroed_keeps a (actions.got id place) size = as_before a _ _ refl
  zeroed_keeps a actions.null size = as_before a _ _ refl
  zeroed_keeps a actions.wait size = has_waited

  -- as they were behind one of the two
  threads_if : (b : Bool) (one two : Memory) → m.threads ≡ one.threads → m.threads ≡ two.threads → m.threads ≡ (cond b one two).threads
  threads_if true one two h k = h
  threads_if false one two h k = k

  threads_left : (leaving : Option (List ℕ)) (word : ℕ) (after : Memory) → m.threads ≡ after.threads → m.threads ≡ (left_by leaving word after).threads
  threads_left None word after h = h
  threads_left (Some words) word after h = h

  idle_if : (b : Bool) (one two : Memory) → one.leaving ≡ None → two.leaving ≡ None → (cond b one two).leaving ≡ None
  idle_if true one two h k = h
  idle_if false one two h k = k

  idle_left : (leaving : Option (List ℕ)) (word : ℕ) (after : Memory) → leaving ≡ None → after.leaving ≡ None → (left_by leaving word after).leaving ≡ None
  idle_left None word after e h = h
  idle_left (Some words) word after e h = absurd cc

  renewed_keeps : (a : Action) (choice : Choice) (word size : ℕ) → Keeps a (renewed choice word size m)
  renewed_keeps a actions.plain word size = no_fit
  renewed_keeps a (actions.got id place) word size =
      let new : Memory = with_storage m (with_copy m.storage id place word size) in
      let live = is_live_start m.storage word in
      let after : Memory = cond live (left_by m.leaving word new) new in
      was_done _ after (subst (AreThreads a x.limits.threads m.threads) (threads_if live (left_by m.leaving word new) new (threads_left m.leaving word new refl) refl) same)
      (λ none. idle_if live (left_by m.leaving word new) new (idle_left m.leaving word new none none) none)
  renewed_keeps a actions.null word size = as_before a _ _ refl
  renewed_keeps a actions.wait word size = has_waited

  guarded_keeps : (a : Action) (leaving : Option (List ℕ)) (word : ℕ) (d : Done) → Keeps a d → Keeps a (guarded leaving word m.storage d)
  guarded_keeps a None word d h = either_keeps a (is_live_start m.storage word) d (actions.over (actions.trap word kinds.Free)) (λ live. h) (was_over _)
  guarded_keeps a (Some words) word d h = h

  reallocated_keeps : (a : Action) (choice : Choice) (word size : ℕ) → Keeps a (reallocated choice word size m)
  reallocated_keeps a choice word size =
      either_keeps a (eqb word 0) (allocated choice size m) (guarded m.leaving word m.storage (renewed choice word size m)) (λ null. allocated_keeps a choice size) (guarded_keeps a m.leaving word (renewed choice word size m) (renewed_keeps a choice word size))

  changed_keeps : (how : Change) (t : IntType) (a : Target) (by : ℕ) → Keeps (change how t) (changed how t a by m)
  changed_keeps how t a by =
      let after : Memory = written m a.address (low_bytes (t.bits / 8) (word_after_change how t (number_at t a.address m) by)) in
      within_keeps (change how t) kinds.Store (first_outside m.storage.bytes a.address (t.bits / 8)) (actions.went (Some (number_at t a.address m)) after) (as_before (change how t) _ after refl)

  compared_keeps : (t : IntType) (a want : Target) (new : ℕ) → Keeps (compare t) (compared t a want new m)
  compared_keeps t a want new =
      let old = number_at t a.address m in
      let same = is_equal t old (number_at t want.address m) in
      let one = actions.went (Some 1) (written m a.address (low_bytes (t.bits / 8) new)) in
      let other = actions.went (Some 0) (written m want.address (low_bytes (t.bits / 8) old)) in
      within_keeps (compare t) kinds.Store (first_outside_of_both m.storage.bytes a.address want.address (t.bits / 8)) (cond same one other) (either_keeps (compare t) same one other (λ equal. as_before (compare t) _ _ refl) (as_before (compare t) _ _ refl))

  started_keeps : (function : ℕ) (to : Target) (w : ℕ) → Keeps (start function) (started x.limits.threads function to w m)
  started_keeps function to w =
      either_keeps (start function) (may_start x.limits.threads m) (within kinds.Start (first_outside m.storage.bytes to.address 8) (actions.went (Some 0) (with_thread (written m to.address (low_bytes 8 (length m.threads))) (beginning function w)))) (actions.went (Some 1) m)
      (λ may. within_keeps (start function) kinds.Start (first_outside m.storage.bytes to.address 8) (actions.went (Some 0) (with_thread (written m to.address (low_bytes 8 (length m.threads))) (beginning function w)))
      (was_done (Some 0) (with_thread (written m to.address (low_bytes 8 (length m.threads))) (beginning function w)) (one_more function w refl (ltb-true (length m.threads) x.limits.threads may)) (λ none. none)))
      (as_before (start function) (Some 1) m refl)

  joined_at_keeps : (to : Target) (o : Option ℕ) → Keeps join (joined_at to o m)
  joined_at_keeps to None = has_waited
  joined_at_keeps to (Some word) =
      either_keeps join (eqb to.pointer 0) (actions.went (Some 0) m) (within kinds.Join (first_outside m.storage.bytes to.address 4) (actions.went (Some 0) (written m to.address (low_bytes 4 word))))
      (λ null. as_before join (Some 0) m refl)
      (within_keeps join kinds.Join (first_outside m.storage.bytes to.address 4) (actions.went (Some 0) (written m to.address (low_bytes 4 word))) (as_before join (Some 0) (written m to.address (low_bytes 4 word)) refl))

  joined_keeps : (to : Target) (o : Option Made) → Keeps join (joined_if to o m)
  joined_keeps to None = as_before join (Some 1) m refl
  joined_keeps to (Some t) = joined_at_keeps to t.result

  loaded_keeps : (how : Access) (a : Target) → Keeps (load how) (loaded how a m)
  loaded_keeps how a = let d = actions.went (Some (word_read how (bytes_from m.storage.bytes a.address (size_of how)))) m in within_keeps (load how) kinds.Load (first_outside m.storage.bytes a.address (size_of how)) d (as_before (load how) _ m refl)

  stored_keeps : (how : Access) (a : Target) (w : ℕ) → Keeps (store how) (stored how a w m)
  stored_keeps how a w = let after : Memory = written m a.address (low_bytes (size_of how) w) in within_keeps (store how) kinds.Store (first_outside m.storage.bytes a.address (size_of how)) (actions.went None after) (as_before (store how) None after refl)

  copied_keeps : (align : ℕ) (eq : Bool) (to from : Target) (count : ℕ) → Keeps (copy_bytes align eq) (copied to from count m)
  copied_keeps align eq to from count =
      let after : Memory = written m to.address (bytes_from m.storage.bytes from.address count) in
      within_keeps (copy_bytes align eq) kinds.Copy (first_outside_of_both m.storage.bytes to.address from.address count) (actions.went None after) (as_before (copy_bytes align eq) None after refl)

  locked_keeps : (a : Target) → Keeps lock (locked n a m)
  locked_keeps a =
      let after : Memory = written m a.address (low_bytes 8 (n + 1)) in
      within_keeps lock kinds.Lock (first_outside m.storage.bytes a.address 8) (cond (is_free m a.address) (actions.went None after) actions.waits) (either_keeps lock (is_free m a.address) (actions.went None after) actions.waits (λ free. as_before lock None after refl) has_waited)

  unlocked_keeps : (a : Target) → Keeps unlock (unlocked a m)
  unlocked_keeps a = let after : Memory = written m a.address (low_bytes 8 0) in within_keeps unlock kinds.Lock (first_outside m.storage.bytes a.address 8) (actions.went None after) (as_before unlock None after refl)

  freed_keeps : (w : ℕ) → Keeps free (freed w m)
  freed_keeps w =
      let after : Memory = with_storage m (without_id m.storage (id_of w)) in
      let rest : Done = cond (is_live_start m.storage w) (actions.went None after) (actions.over (actions.trap w kinds.Free)) in
      either_keeps free (eqb w 0) (actions.went None m) rest (λ null. as_before free None m refl)
      (either_keeps free (is_live_start m.storage w) (actions.went None after) (actions.over (actions.trap w kinds.Free)) (λ live. as_before free None after refl) (was_over _))

  keeps_all : (choice : Choice) (a : Action) (ps : List Target) (ws : List ℕ) → Keeps a (acted_on_memory x n choice a ps ws m)
  keeps_all choice (load how) [] ws = no_fit
  keeps_all choice (load how) (a ∷ []) [] = plain_keeps (load how) (is_plain choice) (loaded how a m) (loaded_keeps how a)
  keeps_all choice (load how) (a ∷ []) (w ∷ ws) = no_fit
  keeps_all choice (load how) (a ∷ b ∷ ps) ws = no_fit
  keeps_all choice (store how) [] ws = no_fit
  keeps_all choice (store how) (a ∷ []) [] = no_fit
  keeps_all choice (store how) (a ∷ []) (w ∷ []) = plain_keeps (store how) (is_plain choice) (stored how a w m) (stored_keeps how a w)
  keeps_all choice (store how) (a ∷ []) (w ∷ v ∷ ws) = no_fit
  keeps_all choice (store how) (a ∷ b ∷ ps) ws = no_fit
  keeps_all choice (copy_bytes align eq) [] ws = no_fit
  keeps_all choice (copy_bytes align eq) (a ∷ []) ws = no_fit
  keeps_all choice (copy_bytes align eq) (a ∷ b ∷ []) [] = no_fit
  keeps_all choice (copy_bytes align eq) (a ∷ b ∷ []) (w ∷ []) = plain_keeps (copy_bytes align eq) (is_plain choice) (copied a b w m) (copied_keeps align eq a b w)
  keeps_all choice (copy_bytes align eq) (a ∷ b ∷ []) (w ∷ v ∷ ws) = no_fit
  keeps_all choice (copy_bytes align eq) (a ∷ b ∷ c ∷ ps) ws = no_fit
  keeps_all choice malloc (a ∷ ps) ws = no_fit
  keeps_all choice malloc [] [] = no_fit
  keeps_all choice malloc [] (w ∷ []) = allocated_keeps malloc choice w
  keeps_all choice malloc [] (w ∷ v ∷ ws) = no_fit
  keeps_all choice calloc (a ∷ ps) ws = no_fit
  keeps_all choice calloc [] [] = no_fit
  keeps_all choice calloc [] (w ∷ []) = no_fit
  keeps_all choice calloc [] (w ∷ v ∷ []) = zeroed_keeps calloc choice (w * v)
  keeps_all choice calloc [] (w ∷ v ∷ u ∷ ws) = no_fit
  keeps_all choice realloc (a ∷ ps) ws = no_fit
  keeps_all choice realloc [] [] = no_fit
  keeps_all choice realloc [] (w ∷ []) = no_fit
  keeps_all choice realloc [] (w ∷ v ∷ []) = reallocated_keeps realloc choice w v
  keeps_all choice realloc [] (w ∷ v ∷ u ∷ ws) = no_fit
  keeps_all choice free (a ∷ ps) ws = no_fit
  keeps_all choice free [] [] = no_fit
  keeps_all choice free [] (w ∷ []) = plain_keeps free (is_plain choice) (freed w m) (freed_keeps w)
  keeps_all choice free [] (w ∷ v ∷ ws) = no_fit
  keeps_all choice (change how t) [] ws = no_fit
  keeps_all choice (change how t) (a ∷ []) [] = no_fit
  keeps_all choice (change how t) (a ∷ []) (w ∷ []) = plain_keeps (change how t) (is_plain choice) (changed how t a w m) (changed_keeps how t a w)
  keeps_all choice (change how t) (a ∷ []) (w ∷ v ∷ ws) = no_fit
  keeps_all choice (change how t) (a ∷ b ∷ ps) ws = no_fit
  keeps_all choice (compare t) [] ws = no_fit
  keeps_all choice (compare t) (a ∷ []) ws = no_fit
  keeps_all choice (compare t) (a ∷ b ∷ []) [] = no_fit
  keeps_all choice (compare t) (a ∷ b ∷ []) (w ∷ []) = plain_keeps (compare t) (is_plain choice) (compared t a b w m) (compared_keeps t a b w)
  keeps_all choice (compare t) (a ∷ b ∷ []) (w ∷ v ∷ ws) = no_fit
  keeps_all choice (compare t) (a ∷ b ∷ c ∷ ps) ws = no_fit
  keeps_all choice (print pieces) ps ws =
      plain_keeps (print pieces) (is_plain choice) (printed x.limits.output (printed_parts pieces ps ws) m) (prints_keeps (print pieces) (read_parts m.storage.bytes (printed_parts pieces ps ws) (output_room x.limits.output m)))
  keeps_all choice lock [] ws = no_fit
  keeps_all choice lock (a ∷ []) [] = plain_keeps lock (is_plain choice) (locked n a m) (locked_keeps a)
  keeps_all choice lock (a ∷ []) (w ∷ ws) = no_fit
  keeps_all choice lock (a ∷ b ∷ ps) ws = no_fit
  keeps_all choice unlock [] ws = no_fit
  keeps_all choice unlock (a ∷ []) [] = plain_keeps unlock (is_plain choice) (unlocked a m) (unlocked_keeps a)
  keeps_all choice unlock (a ∷ []) (w ∷ ws) = no_fit
  keeps_all choice unlock (a ∷ b ∷ ps) ws = no_fit
  keeps_all choice destroy [] ws = no_fit
  keeps_all choice destroy (a ∷ []) [] = plain_keeps destroy (is_plain choice) (actions.went None m) (as_before destroy None m refl)
  keeps_all choice destroy (a ∷ []) (w ∷ ws) = no_fit
  keeps_all choice destroy (a ∷ b ∷ ps) ws = no_fit
  keeps_all choice (start function) [] ws = no_fit
  keeps_all choice (start function) (a ∷ []) [] = no_fit
  keeps_all choice (start function) (a ∷ []) (w ∷ []) = plain_keeps (start function) (is_plain choice) (started x.limits.threads function a w m) (started_keeps function a w)
  keeps_all choice (start function) (a ∷ []) (w ∷ v ∷ ws) = no_fit
  keeps_all choice (start function) (a ∷ b ∷ ps) ws = no_fit
  keeps_all choice join [] ws = no_fit
  keeps_all choice join (a ∷ []) [] = no_fit
  keeps_all choice join (a ∷ []) (w ∷ []) = plain_keeps join (is_plain choice) (joined_if a (slice_get m.threads w) m) (joined_keeps a (slice_get m.threads w))
  keeps_all choice join (a ∷ []) (w ∷ v ∷ ws) = no_fit
  keeps_all choice join (a ∷ b ∷ ps) ws = no_fit

  of_done : (a : Action) (word : Option ℕ) (after : Memory) → Keeps a (actions.went word after) → AreThreads a x.limits.threads m.threads after.threads × (m.leaving ≡ None → after.leaving ≡ None)
  of_done a _ _ (was_done word after h idle) = (h, idle)

  pub threads_are : (choice : Choice) (a : Action) (ps : List Target) (ws : List ℕ) (word : Option ℕ) (after : Memory) → acted_on_memory x n choice a ps ws m ≡ actions.went word after → AreThreads a x.limits.threads m.threads after.threads
  threads_are choice a ps ws word after e = (of_done a word after (subst (Keeps a) e (keeps_all choice a ps ws))).0

  -- where no barrier serves before it, none does behind it
  pub idle_behind : (choice : Choice) (a : Action) (ps : List Target) (ws : List ℕ) (word : Option ℕ) (after : Memory) → acted_on_memory x n choice a ps ws m ≡ actions.went word after → m.leaving ≡ None → after.leaving ≡ None
  idle_behind choice a ps ws word after e = (of_done a word after (subst (Keeps a) e (keeps_all choice a ps ws))).1
