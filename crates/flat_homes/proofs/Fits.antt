-- A step of valid code with what the machine chooses for it always fits.
use Rattle.std.proofs.Common.{◌≡◌, ℕ, Bool, true, false, cond, ◌&&◌, ◌||◌, ◌==◌, List, [], ◌∷◌, length, map, Option, Some, None, refl, ◌∙◌, arith}
use Rattle.std.specs.Prelude.{slice_get, is_none}
use Rattle.std.specs.List.{list_all}
use Rattle.std.proofs.lemmas.Bool.{and_parts, eqb-true}
use Rattle.std.proofs.lemmas.List.{length-map}
use Rattle.struct_ir.specs.Nodes.{Action, load, store, copy_bytes, malloc, calloc, realloc, free, change, compare, print, lock, unlock, destroy, start, join, Step}
use Rattle.struct_ir.specs.Valid.{Scope, Counts, are_below, counts_of, has_counts, is_action, is_below_if, is_own_list, is_place, is_step}
use Rattle.handle_words.specs.Handle.{id_of}
use Rattle.arena_meaning.specs.Changes.{without_id}
use Rattle.ak_trace.specs.declared.endings.TrapKind.{TrapKind}
use Rattle.ak_trace.specs.declared.endings.TrapKind.TheVariants as kinds
use Rattle.flat_meaning.specs.Accesses as actions
use Rattle.flat_meaning.specs.Accesses.{Done, is_live_start, within, prints}
use Rattle.flat_meaning.specs.Actions.{acted_on_memory, is_equal, joined_at, joined_if, number_at}
use Rattle.flat_meaning.specs.Image.{Layout}
use Rattle.flat_meaning.specs.Memory.{Made, Memory, with_storage}
use Rattle.flat_meaning.specs.Ready.{takes_room}
use Rattle.flat_meaning.specs.Printing.{Read, reads, outside, too_long}
use Rattle.flat_meaning.specs.Words.{Target, Words, target_of, word_at}
use Rattle.flat_machine.specs.Choices.{action_choice, malloc_choice}
use Rattle.flat_machine.specs.lemmas.Outcomes.{malloc_fits}
use Rattle.flat_machine.specs.lemmas.Waiting.{sized}

-- ---- what comes of an action

abbrev Fits : Done → Type 0
Fits d = d ≡ actions.unfit → ⊥

within_fits : (kind : TrapKind) (o : Option ℕ) (d : Done) → Fits d → Fits (within kind o d)
within_fits kind None d h e = h e
within_fits kind (Some a) d h e = absurd cc

either_fits : (b : Bool) (d e : Done) → Fits d → Fits e → Fits (cond b d e)
either_fits true d e h k f = h f
either_fits false d e h k f = k f

went_fits : (word : Option ℕ) (m : Memory) → Fits (actions.went word m)
went_fits word m e = absurd cc

waits_fits : Fits actions.waits
waits_fits e = absurd cc

over_fits : (f : actions.Fault) → Fits (actions.over f)
over_fits f e = absurd cc

freed_fits : (b c : Bool) (m after : Memory) (f : actions.Fault) → Fits (cond b (actions.went None m) (cond c (actions.went None after) (actions.over f)))
freed_fits true c m after f e = absurd cc
freed_fits false true m after f e = absurd cc
freed_fits false false m after f e = absurd cc

prints_fits : (r : Read) (m : Memory) → Fits (prints r m)
prints_fits (reads all) m = went_fits _ _
prints_fits (outside address) m = over_fits _
prints_fits too_long m = over_fits _

joined_at_fits : (to : Target) (o : Option ℕ) (m : Memory) → Fits (joined_at to o m)
joined_at_fits to None m = waits_fits
joined_at_fits to (Some word) m = either_fits _ _ _ (went_fits _ _) (within_fits _ _ _ (went_fits _ _))

joined_fits : (to : Target) (o : Option Made) (m : Memory) → Fits (joined_if to o m)
joined_fits to None m = went_fits _ _
joined_fits to (Some t) m = joined_at_fits to t.result m

-- ---- actions with as many places and words as they take

module _ (x : Layout) (n : ℕ) (m : Memory) where
  load_fits : (how : _) (ps : List Target) (ws : List ℕ) → length ps ≡ 1 → length ws ≡ 0 → Fits (acted_on_memory x n actions.plain (load how) ps ws m)
  load_fits how [] ws p w = absurd (omega (arith, p))
  load_fits how (a ∷ b ∷ ps) ws p w = absurd (omega (arith, p))
  load_fits how (a ∷ []) (v ∷ ws) p w = absurd (omega (arith, w))
  load_fits how (a ∷ []) [] p w = within_fits _ _ _ (went_fits _ _)

  store_fits : (how : _) (ps : List Target) (ws : List ℕ) → length ps ≡ 1 → length ws ≡ 1 → Fits (acted_on_memory x n actions.plain (store how) ps ws m)
  store_fits how [] ws p w = absurd (omega (arith, p))
  store_fits how (a ∷ b ∷ ps) ws p w = absurd (omega (arith, p))
  store_fits how (a ∷ []) [] p w = absurd (omega (arith, w))
  store_fits how (a ∷ []) (v ∷ u ∷ ws) p w = absurd (omega (arith, w))
  store_fits how (a ∷ []) (v ∷ []) p w = within_fits _ _ _ (went_fits _ _)

  copy_fits : (align : ℕ) (same : Bool) (ps : List Target) (ws : List ℕ) → length ps ≡ 2 → length ws ≡ 1 → Fits (acted_on_memory x n actions.plain (copy_bytes align same) ps ws m)
  copy_fits align same [] ws p w = absurd (omega (arith, p))
  copy_fits align same (a ∷ []) ws p w = absurd (omega (arith, p))
  copy_fits align same (a ∷ b ∷ c ∷ ps) ws p w = absurd (omega (arith, p))
  copy_fits align same (a ∷ b ∷ []) [] p w = absurd (omega (arith, w))
  copy_fits align same (a ∷ b ∷ []) (v ∷ u ∷ ws) p w = absurd (omega (arith, w))
  copy_fits align same (a ∷ b ∷ []) (v ∷ []) p w = within_fits _ _ _ (went_fits _ _)

  free_fits : (ps : List Target) (ws : List ℕ) → length ps ≡ 0 → length ws ≡ 1 → Fits (acted_on_memory x n actions.plain free ps ws m)
  free_fits (a ∷ ps) ws p w = absurd (omega (arith, p))
  free_fits [] [] p w = absurd (omega (arith, w))
  free_fits [] (v ∷ u ∷ ws) p w = absurd (omega (arith, w))
  free_fits [] (v ∷ []) p w = freed_fits (v == 0) (is_live_start m.storage v) m (with_storage m (without_id m.storage (id_of v))) (actions.trap v kinds.Free)

  change_fits : (how : _) (t : _) (ps : List Target) (ws : List ℕ) → length ps ≡ 1 → length ws ≡ 1 → Fits (acted_on_memory x n actions.plain (change how t) ps ws m)
  change_fits how t [] ws p w = absurd (omega (arith, p))
  change_fits how t (a ∷ b ∷ ps) ws p w = absurd (omega (arith, p))
  change_fits how t (a ∷ []) [] p w = absurd (omega (arith, w))
  change_fits how t (a ∷ []) (v ∷ u ∷ ws) p w = absurd (omega (arith, w))
  change_fits how t (a ∷ []) (v ∷ []) p w = within_fits _ _ _ (went_fits _ _)

  compare_fits : (t : _) (ps : List Target) (ws : List ℕ) → length ps ≡ 2 → length ws ≡ 1 → Fits (acted_on_memory x n actions.plain (compare t) ps ws m)
  compare_fits t [] ws p w = absurd (omega (arith, p))
  compare_fits t (a ∷ []) ws p w = absurd (omega (arith, p))
  compare_fits t (a ∷ b ∷ c ∷ ps) ws p w = absurd (omega (arith, p))
  compare_fits t (a ∷ b ∷ []) [] p w = absurd (omega (arith, w))
  compare_fits t (a ∷ b ∷ []) (v ∷ u ∷ ws) p w = absurd (omega (arith, w))
  compare_fits t (a ∷ b ∷ []) (v ∷ []) p w = within_fits _ _ _ (either_fits (is_equal t (number_at t a.address m) (number_at t b.address m)) _ _ (went_fits _ _) (went_fits _ _))

  lock_fits : (ps : List Target) (ws : List ℕ) → length ps ≡ 1 → length ws ≡ 0 → Fits (acted_on_memory x n actions.plain lock ps ws m)
  lock_fits [] ws p w = absurd (omega (arith, p))
  lock_fits (a ∷ b ∷ ps) ws p w = absurd (omega (arith, p))
  lock_fits (a ∷ []) (v ∷ ws) p w = absurd (omega (arith, w))
  lock_fits (a ∷ []) [] p w = within_fits _ _ _ (either_fits _ _ _ (went_fits _ _) waits_fits)

  unlock_fits : (ps : List Target) (ws : List ℕ) → length ps ≡ 1 → length ws ≡ 0 → Fits (acted_on_memory x n actions.plain unlock ps ws m)
  unlock_fits [] ws p w = absurd (omega (arith, p))
  unlock_fits (a ∷ b ∷ ps) ws p w = absurd (omega (arith, p))
  unlock_fits (a ∷ []) (v ∷ ws) p w = absurd (omega (arith, w))
  unlock_fits (a ∷ []) [] p w = within_fits _ _ _ (went_fits _ _)

  destroy_fits : (ps : List Target) (ws : List ℕ) → length ps ≡ 1 → length ws ≡ 0 → Fits (acted_on_memory x n actions.plain destroy ps ws m)
  destroy_fits [] ws p w = absurd (omega (arith, p))
  destroy_fits (a ∷ b ∷ ps) ws p w = absurd (omega (arith, p))
  destroy_fits (a ∷ []) (v ∷ ws) p w = absurd (omega (arith, w))
  destroy_fits (a ∷ []) [] p w = went_fits _ _

  start_fits : (function : ℕ) (ps : List Target) (ws : List ℕ) → length ps ≡ 1 → length ws ≡ 1 → Fits (acted_on_memory x n actions.plain (start function) ps ws m)
  start_fits function [] ws p w = absurd (omega (arith, p))
  start_fits function (a ∷ b ∷ ps) ws p w = absurd (omega (arith, p))
  start_fits function (a ∷ []) [] p w = absurd (omega (arith, w))
  start_fits function (a ∷ []) (v ∷ u ∷ ws) p w = absurd (omega (arith, w))
  start_fits function (a ∷ []) (v ∷ []) p w = either_fits _ _ _ (within_fits _ _ _ (went_fits _ _)) (went_fits _ _)

  join_fits : (ps : List Target) (ws : List ℕ) → length ps ≡ 1 → length ws ≡ 1 → Fits (acted_on_memory x n actions.plain join ps ws m)
  join_fits [] ws p w = absurd (omega (arith, p))
  join_fits (a ∷ b ∷ ps) ws p w = absurd (omega (arith, p))
  join_fits (a ∷ []) [] p w = absurd (omega (arith, w))
  join_fits (a ∷ []) (v ∷ u ∷ ws) p w = absurd (omega (arith, w))
  join_fits (a ∷ []) (v ∷ []) p w = joined_fits a (slice_get m.threads v) m

  -- ---- steps

  abbrev done_of : Words → Step → Done
  done_of l s = acted_on_memory x n (action_choice (malloc_choice m.storage) l s.action s.temps) s.action (map (target_of l) s.places) (map (word_at l) s.temps) m

  counted : (l : Words) (s : Step) → has_counts (counts_of s.action) s ≡ true → (length (map (target_of l) s.places) ≡ (counts_of s.action).places) × (length (map (word_at l) s.temps) ≡ (counts_of s.action).temps)
  counted l s h =
      let n : Counts = counts_of s.action in
      let p = and_parts (length s.places == n.places) ((length s.temps == n.temps) && (n.gives || is_none s.to)) h in
      let q = and_parts (length s.temps == n.temps) (n.gives || is_none s.to) p.1 in
      (length-map s.places (target_of l) ∙ eqb-true _ _ p.0, length-map s.temps (word_at l) ∙ eqb-true _ _ q.0)

  others_fit : (l : Words) (a : Action) (temps : List ℕ) (ps : List Target) (ws : List ℕ) → (takes_room a ≡ true → ⊥) → length ps ≡ (counts_of a).places → length ws ≡ (counts_of a).temps → Fits (acted_on_memory x n (action_choice (malloc_choice m.storage) l a temps) a ps ws m)
  others_fit l (load how) temps ps ws not p w = load_fits how ps ws p w
  others_fit l (store how) temps ps ws not p w = store_fits how ps ws p w
  others_fit l (copy_bytes align same) temps ps ws not p w = copy_fits align same ps ws p w
  others_fit l malloc temps ps ws not p w = absurd (not refl)
  others_fit l calloc temps ps ws not p w = absurd (not refl)
  others_fit l realloc temps ps ws not p w = absurd (not refl)
  others_fit l free temps ps ws not p w = free_fits ps ws p w
  others_fit l (change how t) temps ps ws not p w = change_fits how t ps ws p w
  others_fit l (compare t) temps ps ws not p w = compare_fits t ps ws p w
  others_fit l (print pieces) temps ps ws not p w = prints_fits _ m
  others_fit l lock temps ps ws not p w = lock_fits ps ws p w
  others_fit l unlock temps ps ws not p w = unlock_fits ps ws p w
  others_fit l destroy temps ps ws not p w = destroy_fits ps ws p w
  others_fit l (start function) temps ps ws not p w = start_fits function ps ws p w
  others_fit l join temps ps ws not p w = join_fits ps ws p w

  pub step_is_fit : (l : Words) (scope : Scope) (s : Step) → is_step scope s ≡ true
      → acted_on_memory x n (action_choice (malloc_choice m.storage) l s.action s.temps) s.action (map (target_of l) s.places) (map (word_at l) s.temps) m ≡ actions.unfit → ⊥
  step_is_fit l scope s valid e =
      others_fit l s.action s.temps (map (target_of l) s.places) (map (word_at l) s.temps) (λ is. malloc_fits x n l m scope.temps s (sized scope s is valid) e) counts.0 counts.1 e where
        counts : (length (map (target_of l) s.places) ≡ (counts_of s.action).places) × (length (map (word_at l) s.temps) ≡ (counts_of s.action).temps)
        counts =
            let p = and_parts (list_all (is_place scope) s.places && (are_below scope.temps s.temps && is_below_if scope.temps s.to)) (has_counts (counts_of s.action) s && (is_action scope s.action && is_own_list scope s.action s.slots)) valid in
            counted l s (and_parts (has_counts (counts_of s.action) s) (is_action scope s.action && is_own_list scope s.action s.slots) p.1).0
