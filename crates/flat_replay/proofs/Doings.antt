-- What an action of valid code does: it fits, the sub-heaps keep their shape, and only what isn't left waiting ends the run; and only an allocation is
-- given an id.
use Rattle.std.proofs.Common.{◌≡◌, ℕ, ◌+◌, ◌*◌, ◌/◌, ◌==◌, ◌||◌, Bool, true, false, cond, List, [], ◌∷◌, length, map, Option, Some, None, refl, sym, ap, ◌∙◌, subst, arith}
use Rattle.std.specs.Prelude.{nat_lt, slice_get}
use Rattle.std.proofs.lemmas.List.{length-map}
use Rattle.ak_words.specs.declared.int_type.IntType.{IntType}
use Rattle.ak_words.specs.Bytes.{low_bytes}
use Rattle.block_store.specs.declared.values.Access.{Access}
use Rattle.block_store.specs.declared.values.Change.{Change}
use Rattle.block_store.specs.Cells.{size_of}
use Rattle.flat_store.specs.Flat.{bytes_from, first_outside, first_outside_of_both}
use Rattle.arena_meaning.specs.Arena.{Storage}
use Rattle.handle_words.specs.Handle.{id_of}
use Rattle.arena_meaning.specs.Changes.{is_live_start, without_id, without_words}
use Rattle.sub_heaps.specs.SubHeaps.{rounded}
use Rattle.struct_ir.specs.Nodes.{Action, load, store, copy_bytes, malloc, calloc, realloc, free, change, compare, print, lock, unlock, destroy, start, join}
use Rattle.struct_ir.specs.Valid.{counts_of}
use Rattle.ak_trace.specs.declared.endings.TrapKind.{TrapKind}
use Rattle.ak_trace.specs.declared.endings.TrapKind.TheVariants as kinds
use Rattle.flat_meaning.specs.Accesses.{Choice, plain, got, null, wait, Done, went, waits, unfit, over, trap, within, allocated, zeroed, renewed, reallocated, guarded, with_copy, prints, output_room}
use Rattle.flat_meaning.specs.Actions.{acted_on_memory, word_after_change, is_equal, is_free, joined_at, joined_if, joined_with, may_start, number_at, printed_parts}
use Rattle.flat_meaning.specs.Image.{Layout}
use Rattle.flat_meaning.specs.Memory.{Made, Memory, beginning, left_by, served, with_storage, with_thread, words_leaving, written}
use Rattle.flat_meaning.specs.Printing.{Read, read_parts, reads, outside, too_long}
use Rattle.flat_meaning.specs.Start.{chosen_id}
use Rattle.flat_meaning.specs.Words.{Target, Words, word_at}
use Rattle.flat_machine.specs.Choices.{action_choice, got_or, is_renewable, least_free, lowest_fit, malloc_choice, room_or, sized_choice}

-- the sub-heaps have the same shape
pub record SameHeaps (m after : Memory) : Type 0 where
  pub count : after.storage.heaps.count ≡ m.storage.heaps.count
  pub size : after.storage.heaps.size ≡ m.storage.heaps.size
  pub most : after.storage.heaps.most ≡ m.storage.heaps.most

pub same_heaps : (m : Memory) → SameHeaps m m
same_heaps m = record { count = refl; size = refl; most = refl }

pub more_heaps : (m n o : Memory) → SameHeaps m n → SameHeaps n o → SameHeaps m o
more_heaps m n o h k = record { count = k.count ∙ h.count; size = k.size ∙ h.size; most = k.most ∙ h.most }

-- so they have once objects have left
abbrev KeepsHeaps : Storage → Storage → Type 0
KeepsHeaps s after = (after.heaps.count ≡ s.heaps.count) × (after.heaps.size ≡ s.heaps.size) × (after.heaps.most ≡ s.heaps.most)

left_heaps_same : (words : List ℕ) (s : Storage) → KeepsHeaps s (without_words words s)
left_heaps_same [] s = (refl, refl, refl)
left_heaps_same (word ∷ words) s = elim (is_live_start s word) as (λ b. KeepsHeaps s (without_words words (cond b (without_id s (id_of word)) s))) [
  | true ↦ left_heaps_same words (without_id s (id_of word))
  | false ↦ left_heaps_same words s
]

pub served_heaps : (m : Memory) → SameHeaps m (served m)
served_heaps m = let same = left_heaps_same (words_leaving m.leaving) m.storage in record { count = same.0; size = same.1; most = same.2 }

-- what is done keeps it, and what waits was given no id; nor was what ends the run, and it was not left waiting
abbrev pub Sound : Choice → Memory → Done → Type 0
Sound c m (went word after) = SameHeaps m after
Sound c m waits = chosen_id c ≡ []
Sound c m unfit = ⊥
Sound c m (over f) = (chosen_id c ≡ []) × (c ≡ wait → ⊥)

-- an action that is no allocation is given no id
abbrev pub GivesNone : Choice → Action → Type 0
GivesNone c malloc = Unit {0}
GivesNone c calloc = Unit {0}
GivesNone c realloc = Unit {0}
GivesNone c action = chosen_id c ≡ []

-- ---- the rule for allocations chooses something

got_goes : (o q : Option ℕ) (other : Choice) → (other ≡ plain → ⊥) → got_or o q other ≡ plain → ⊥
got_goes None q other h e = h e
got_goes (Some id) None other h e = h e
got_goes (Some id) (Some place) other h e = cc

malloc_goes : (s : Storage) (word size : ℕ) → malloc_choice s word size ≡ plain → ⊥
malloc_goes s word size e = by (is_renewable s word) (nat_lt s.heaps.size (rounded size)) e where
  by : (a b : Bool) → cond a (cond b null (room_or s size wait)) null ≡ plain → ⊥
  by true true e = cc
  by true false e = got_goes (least_free s.table) (lowest_fit s.heaps (rounded size)) wait (λ f. cc) e
  by false b e = cc

-- in place of what isn't live: null
dead_null : (s : Storage) (word size : ℕ) → (word == 0) ≡ false → is_live_start s word ≡ false → malloc_choice s word size ≡ null
dead_null s word size some dead = ap (λ (b : Bool). cond (b || is_live_start s word) (sized_choice s size) null) some ∙ ap (λ (b : Bool). cond b (sized_choice s size) null) dead

-- ---- what is done

module _ (m : Memory) where
  never : (chosen_id plain ≡ []) × (plain ≡ wait → ⊥)
  never = (refl, λ e. absurd cc)

  either : (b : Bool) (d e : Done) → Sound plain m d → Sound plain m e → Sound plain m (cond b d e)
  either true d e h k = h
  either false d e h k = k

  within_sound : (kind : TrapKind) (o : Option ℕ) (d : Done) → Sound plain m d → Sound plain m (within kind o d)
  within_sound kind None d h = h
  within_sound kind (Some a) d h = never

  writes_sound : (kind : TrapKind) (o word : Option ℕ) (at : ℕ) (new : List ℕ) → Sound plain m (within kind o (went word (written m at new)))
  writes_sound kind None word at new = record { count = refl; size = refl; most = refl }
  writes_sound kind (Some a) word at new = never

  reads_sound : (kind : TrapKind) (o word : Option ℕ) → Sound plain m (within kind o (went word m))
  reads_sound kind None word = record { count = refl; size = refl; most = refl }
  reads_sound kind (Some a) word = never

  starts_sound : (kind : TrapKind) (o word : Option ℕ) (at : ℕ) (new : List ℕ) (t : Made) → Sound plain m (within kind o (went word (with_thread (written m at new) t)))
  starts_sound kind None word at new t = record { count = refl; size = refl; most = refl }
  starts_sound kind (Some a) word at new t = never

  prints_sound : (r : Read) → Sound plain m (prints r m)
  prints_sound (reads all) = record { count = refl; size = refl; most = refl }
  prints_sound (outside address) = never
  prints_sound too_long = never

  joined_with_sound : (to : Target) (word : ℕ) → Sound plain m (joined_with to word m)
  joined_with_sound to word = either (to.pointer == 0) _ _ (record { count = refl; size = refl; most = refl }) (writes_sound kinds.Join (first_outside m.storage.bytes to.address 4) (Some 0) to.address (low_bytes 4 word))

  joined_at_sound : (to : Target) (o : Option ℕ) → Sound plain m (joined_at to o m)
  joined_at_sound to None = refl
  joined_at_sound to (Some word) = joined_with_sound to word

  joined_sound : (to : Target) (o : Option Made) → Sound plain m (joined_if to o m)
  joined_sound to None = record { count = refl; size = refl; most = refl }
  joined_sound to (Some t) = joined_at_sound to t.result

  allocated_sound : (c : Choice) (size : ℕ) → (c ≡ plain → ⊥) → Sound c m (allocated c size m)
  allocated_sound plain size goes = absurd (goes refl)
  allocated_sound (got id place) size goes = record { count = refl; size = refl; most = refl }
  allocated_sound null size goes = record { count = refl; size = refl; most = refl }
  allocated_sound wait size goes = refl

  zeroed_sound : (c : Choice) (size : ℕ) → (c ≡ plain → ⊥) → Sound c m (zeroed c size m)
  zeroed_sound plain size goes = absurd (goes refl)
  zeroed_sound (got id place) size goes = record { count = refl; size = refl; most = refl }
  zeroed_sound null size goes = record { count = refl; size = refl; most = refl }
  zeroed_sound wait size goes = refl

  -- the object that leaves, at once or later, leaves the sub-heaps their shape
  left_heaps : (leaving : Option (List ℕ)) (word : ℕ) (new : Memory) → SameHeaps m new → SameHeaps m (left_by leaving word new)
  left_heaps None word new h = record { count = h.count; size = h.size; most = h.most }
  left_heaps (Some words) word new h = record { count = h.count; size = h.size; most = h.most }

  either_heaps : (b : Bool) (x y : Memory) → SameHeaps m x → SameHeaps m y → SameHeaps m (cond b x y)
  either_heaps true x y h k = h
  either_heaps false x y h k = k

  renewed_sound : (c : Choice) (word size : ℕ) → (c ≡ plain → ⊥) → Sound c m (renewed c word size m)
  renewed_sound plain word size goes = absurd (goes refl)
  renewed_sound (got id place) word size goes =
      let new : Memory = with_storage m (with_copy m.storage id place word size) in
      let same : SameHeaps m new = record { count = refl; size = refl; most = refl } in
      either_heaps (is_live_start m.storage word) (left_by m.leaving word new) new (left_heaps m.leaving word new same) same
  renewed_sound null word size goes = record { count = refl; size = refl; most = refl }
  renewed_sound wait word size goes = refl

  -- where the word is live, or a barrier serves, it is what is done; and else the choice is null
  guarded_sound : (c : Choice) (word : ℕ) (d : Done) → (is_live_start m.storage word ≡ false → c ≡ null) → Sound c m d → Sound c m (guarded m.leaving word m.storage d)
  guarded_sound c word d dead h = by m.leaving where
    live : (b : Bool) → is_live_start m.storage word ≡ b → Sound c m (cond b d (over (trap word kinds.Free)))
    live true e = h
    live false e = subst (λ (c : Choice). (chosen_id c ≡ []) × (c ≡ wait → ⊥)) (sym (dead e)) (refl, λ e. absurd cc)

    by : (leaving : Option (List ℕ)) → Sound c m (guarded leaving word m.storage d)
    by None = live (is_live_start m.storage word) refl
    by (Some words) = h

  reallocated_sound : (c : Choice) (word size : ℕ) → (c ≡ plain → ⊥) → ((word == 0) ≡ false → is_live_start m.storage word ≡ false → c ≡ null) → Sound c m (reallocated c word size m)
  reallocated_sound c word size goes dead = by (word == 0) refl where
    by : (b : Bool) → (word == 0) ≡ b → Sound c m (cond b (allocated c size m) (guarded m.leaving word m.storage (renewed c word size m)))
    by true e = allocated_sound c size goes
    by false e = guarded_sound c word (renewed c word size m) (dead e) (renewed_sound c word size goes)

  module _ (y : Layout) (n : ℕ) where
    load_sound : (how : Access) (ps : List Target) (ws : List ℕ) → length ps ≡ 1 → length ws ≡ 0 → Sound plain m (acted_on_memory y n plain (load how) ps ws m)
    load_sound how [] ws e f = absurd (omega (arith, e))
    load_sound how (a ∷ []) [] e f = reads_sound _ _ _
    load_sound how (a ∷ []) (w ∷ ws) e f = absurd (omega (arith, f))
    load_sound how (a ∷ b ∷ ps) ws e f = absurd (omega (arith, e))

    store_sound : (how : Access) (ps : List Target) (ws : List ℕ) → length ps ≡ 1 → length ws ≡ 1 → Sound plain m (acted_on_memory y n plain (store how) ps ws m)
    store_sound how [] ws e f = absurd (omega (arith, e))
    store_sound how (a ∷ []) [] e f = absurd (omega (arith, f))
    store_sound how (a ∷ []) (w ∷ []) e f = writes_sound kinds.Store (first_outside m.storage.bytes a.address (size_of how)) None a.address (low_bytes (size_of how) w)
    store_sound how (a ∷ []) (w ∷ v ∷ ws) e f = absurd (omega (arith, f))
    store_sound how (a ∷ b ∷ ps) ws e f = absurd (omega (arith, e))

    copy_sound : (align : ℕ) (same : Bool) (ps : List Target) (ws : List ℕ) → length ps ≡ 2 → length ws ≡ 1 → Sound plain m (acted_on_memory y n plain (copy_bytes align same) ps ws m)
    copy_sound align same [] ws e f = absurd (omega (arith, e))
    copy_sound align same (a ∷ []) ws e f = absurd (omega (arith, e))
    copy_sound align same (a ∷ b ∷ []) [] e f = absurd (omega (arith, f))
    copy_sound align same (a ∷ b ∷ []) (w ∷ []) e f = writes_sound kinds.Copy (first_outside_of_both m.storage.bytes a.address b.address w) None a.address (bytes_from m.storage.bytes b.address w)
    copy_sound align same (a ∷ b ∷ []) (w ∷ v ∷ ws) e f = absurd (omega (arith, f))
    copy_sound align same (a ∷ b ∷ c ∷ ps) ws e f = absurd (omega (arith, e))

    free_sound : (ps : List Target) (ws : List ℕ) → length ps ≡ 0 → length ws ≡ 1 → Sound plain m (acted_on_memory y n plain free ps ws m)
    free_sound (a ∷ ps) ws e f = absurd (omega (arith, e))
    free_sound [] [] e f = absurd (omega (arith, f))
    free_sound [] (w ∷ []) e f = either (w == 0) _ _ (record { count = refl; size = refl; most = refl }) (either (is_live_start m.storage w) _ _ (record { count = refl; size = refl; most = refl }) never)
    free_sound [] (w ∷ v ∷ ws) e f = absurd (omega (arith, f))

    change_sound : (how : Change) (t : IntType) (ps : List Target) (ws : List ℕ) → length ps ≡ 1 → length ws ≡ 1 → Sound plain m (acted_on_memory y n plain (change how t) ps ws m)
    change_sound how t [] ws e f = absurd (omega (arith, e))
    change_sound how t (a ∷ []) [] e f = absurd (omega (arith, f))
    change_sound how t (a ∷ []) (w ∷ []) e f =
        let old = number_at t a.address m in
        writes_sound kinds.Store (first_outside m.storage.bytes a.address (t.bits / 8)) (Some old) a.address (low_bytes (t.bits / 8) (word_after_change how t old w))
    change_sound how t (a ∷ []) (w ∷ v ∷ ws) e f = absurd (omega (arith, f))
    change_sound how t (a ∷ b ∷ ps) ws e f = absurd (omega (arith, e))

    compare_sound : (t : IntType) (ps : List Target) (ws : List ℕ) → length ps ≡ 2 → length ws ≡ 1 → Sound plain m (acted_on_memory y n plain (compare t) ps ws m)
    compare_sound t [] ws e f = absurd (omega (arith, e))
    compare_sound t (a ∷ []) ws e f = absurd (omega (arith, e))
    compare_sound t (a ∷ b ∷ []) [] e f = absurd (omega (arith, f))
    compare_sound t (a ∷ b ∷ []) (w ∷ []) e f =
        let old = number_at t a.address m in
        let one = went (Some 1) (written m a.address (low_bytes (t.bits / 8) w)) in
        let other = went (Some 0) (written m b.address (low_bytes (t.bits / 8) old)) in
        let same : Bool = is_equal t old (number_at t b.address m) in
        within_sound kinds.Store (first_outside_of_both m.storage.bytes a.address b.address (t.bits / 8)) (cond same one other)
        (either same one other (record { count = refl; size = refl; most = refl }) (record { count = refl; size = refl; most = refl }))
    compare_sound t (a ∷ b ∷ []) (w ∷ v ∷ ws) e f = absurd (omega (arith, f))
    compare_sound t (a ∷ b ∷ c ∷ ps) ws e f = absurd (omega (arith, e))

    lock_sound : (ps : List Target) (ws : List ℕ) → length ps ≡ 1 → length ws ≡ 0 → Sound plain m (acted_on_memory y n plain lock ps ws m)
    lock_sound [] ws e f = absurd (omega (arith, e))
    lock_sound (a ∷ []) [] e f =
        let d = went None (written m a.address (low_bytes 8 (n + 1))) in
        within_sound kinds.Lock (first_outside m.storage.bytes a.address 8) (cond (is_free m a.address) d waits) (either (is_free m a.address) d waits (record { count = refl; size = refl; most = refl }) refl)
    lock_sound (a ∷ []) (w ∷ ws) e f = absurd (omega (arith, f))
    lock_sound (a ∷ b ∷ ps) ws e f = absurd (omega (arith, e))

    unlock_sound : (ps : List Target) (ws : List ℕ) → length ps ≡ 1 → length ws ≡ 0 → Sound plain m (acted_on_memory y n plain unlock ps ws m)
    unlock_sound [] ws e f = absurd (omega (arith, e))
    unlock_sound (a ∷ []) [] e f = writes_sound kinds.Lock (first_outside m.storage.bytes a.address 8) None a.address (low_bytes 8 0)
    unlock_sound (a ∷ []) (w ∷ ws) e f = absurd (omega (arith, f))
    unlock_sound (a ∷ b ∷ ps) ws e f = absurd (omega (arith, e))

    destroy_sound : (ps : List Target) (ws : List ℕ) → length ps ≡ 1 → length ws ≡ 0 → Sound plain m (acted_on_memory y n plain destroy ps ws m)
    destroy_sound [] ws e f = absurd (omega (arith, e))
    destroy_sound (a ∷ []) [] e f = record { count = refl; size = refl; most = refl }
    destroy_sound (a ∷ []) (w ∷ ws) e f = absurd (omega (arith, f))
    destroy_sound (a ∷ b ∷ ps) ws e f = absurd (omega (arith, e))

    start_sound : (function : ℕ) (ps : List Target) (ws : List ℕ) → length ps ≡ 1 → length ws ≡ 1 → Sound plain m (acted_on_memory y n plain (start function) ps ws m)
    start_sound function [] ws e f = absurd (omega (arith, e))
    start_sound function (a ∷ []) [] e f = absurd (omega (arith, f))
    start_sound function (a ∷ []) (w ∷ []) e f = either (may_start y.limits.threads m) _ _ (starts_sound kinds.Start (first_outside m.storage.bytes a.address 8) (Some 0) a.address (low_bytes 8 (length m.threads)) (beginning function w)) (record { count = refl; size = refl; most = refl })
    start_sound function (a ∷ []) (w ∷ v ∷ ws) e f = absurd (omega (arith, f))
    start_sound function (a ∷ b ∷ ps) ws e f = absurd (omega (arith, e))

    join_sound : (ps : List Target) (ws : List ℕ) → length ps ≡ 1 → length ws ≡ 1 → Sound plain m (acted_on_memory y n plain join ps ws m)
    join_sound [] ws e f = absurd (omega (arith, e))
    join_sound (a ∷ []) [] e f = absurd (omega (arith, f))
    join_sound (a ∷ []) (w ∷ []) e f = joined_sound a (slice_get m.threads w)
    join_sound (a ∷ []) (w ∷ v ∷ ws) e f = absurd (omega (arith, f))
    join_sound (a ∷ b ∷ ps) ws e f = absurd (omega (arith, e))

    module _ (l : Words) where
      abbrev rule : (word size : ℕ) → Choice
      rule word size = malloc_choice m.storage word size

      malloc_sound : (ps : List Target) (ts : List ℕ) → length ps ≡ 0 → length ts ≡ 1 → Sound (action_choice rule l malloc ts) m (acted_on_memory y n (action_choice rule l malloc ts) malloc ps (map (word_at l) ts) m)
      malloc_sound (a ∷ ps) ts e f = absurd (omega (arith, e))
      malloc_sound [] [] e f = absurd (omega (arith, f))
      malloc_sound [] (t ∷ []) e f = allocated_sound (rule 0 (word_at l t)) (word_at l t) (malloc_goes m.storage 0 (word_at l t))
      malloc_sound [] (t ∷ u ∷ ts) e f = absurd (omega (arith, f))

      calloc_sound : (ps : List Target) (ts : List ℕ) → length ps ≡ 0 → length ts ≡ 2 → Sound (action_choice rule l calloc ts) m (acted_on_memory y n (action_choice rule l calloc ts) calloc ps (map (word_at l) ts) m)
      calloc_sound (a ∷ ps) ts e f = absurd (omega (arith, e))
      calloc_sound [] [] e f = absurd (omega (arith, f))
      calloc_sound [] (t ∷ []) e f = absurd (omega (arith, f))
      calloc_sound [] (t ∷ u ∷ []) e f = let size = word_at l t * word_at l u in zeroed_sound (rule 0 size) size (malloc_goes m.storage 0 size)
      calloc_sound [] (t ∷ u ∷ v ∷ ts) e f = absurd (omega (arith, f))

      realloc_sound : (ps : List Target) (ts : List ℕ) → length ps ≡ 0 → length ts ≡ 2 → Sound (action_choice rule l realloc ts) m (acted_on_memory y n (action_choice rule l realloc ts) realloc ps (map (word_at l) ts) m)
      realloc_sound (a ∷ ps) ts e f = absurd (omega (arith, e))
      realloc_sound [] [] e f = absurd (omega (arith, f))
      realloc_sound [] (t ∷ []) e f = absurd (omega (arith, f))
      realloc_sound [] (t ∷ u ∷ []) e f =
          let word = word_at l t in
          let size = word_at l u in
          reallocated_sound (rule word size) word size (malloc_goes m.storage word size) (dead_null m.storage word size)
      realloc_sound [] (t ∷ u ∷ v ∷ ts) e f = absurd (omega (arith, f))

      words : (ts : List ℕ) (k : ℕ) → length ts ≡ k → length (map (word_at l) ts) ≡ k
      words ts k e = length-map ts (word_at l) ∙ e

      -- with what the machine chooses at a step
      pub action_sound : (a : Action) (ps : List Target) (ts : List ℕ) → length ps ≡ (counts_of a).places → length ts ≡ (counts_of a).temps → Sound (action_choice rule l a ts) m (acted_on_memory y n (action_choice rule l a ts) a ps (map (word_at l) ts) m)
      action_sound (load how) ps ts e f = load_sound how ps (map (word_at l) ts) e (words ts 0 f)
      action_sound (store how) ps ts e f = store_sound how ps (map (word_at l) ts) e (words ts 1 f)
      action_sound (copy_bytes align same) ps ts e f = copy_sound align same ps (map (word_at l) ts) e (words ts 1 f)
      action_sound malloc ps ts e f = malloc_sound ps ts e f
      action_sound calloc ps ts e f = calloc_sound ps ts e f
      action_sound realloc ps ts e f = realloc_sound ps ts e f
      action_sound free ps ts e f = free_sound ps (map (word_at l) ts) e (words ts 1 f)
      action_sound (change how t) ps ts e f = change_sound how t ps (map (word_at l) ts) e (words ts 1 f)
      action_sound (compare t) ps ts e f = compare_sound t ps (map (word_at l) ts) e (words ts 1 f)
      action_sound (print pieces) ps ts e f = prints_sound (read_parts m.storage.bytes (printed_parts pieces ps (map (word_at l) ts)) (output_room y.limits.output m))
      action_sound lock ps ts e f = lock_sound ps (map (word_at l) ts) e (words ts 0 f)
      action_sound unlock ps ts e f = unlock_sound ps (map (word_at l) ts) e (words ts 0 f)
      action_sound destroy ps ts e f = destroy_sound ps (map (word_at l) ts) e (words ts 0 f)
      action_sound (start function) ps ts e f = start_sound function ps (map (word_at l) ts) e (words ts 1 f)
      action_sound join ps ts e f = join_sound ps (map (word_at l) ts) e (words ts 1 f)

-- ---- only an allocation is given an id

pub gives_none : (rule : (word size : ℕ) → Choice) (l : Words) (a : Action) (ts : List ℕ) → GivesNone (action_choice rule l a ts) a
gives_none rule l (load how) ts = refl
gives_none rule l (store how) ts = refl
gives_none rule l (copy_bytes align same) ts = refl
gives_none rule l malloc ts = tt
gives_none rule l calloc ts = tt
gives_none rule l realloc ts = tt
gives_none rule l free ts = refl
gives_none rule l (change how t) ts = refl
gives_none rule l (compare t) ts = refl
gives_none rule l (print pieces) ts = refl
gives_none rule l lock ts = refl
gives_none rule l unlock ts = refl
gives_none rule l destroy ts = refl
gives_none rule l (start function) ts = refl
gives_none rule l join ts = refl
