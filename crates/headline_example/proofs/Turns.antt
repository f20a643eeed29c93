-- What the text's thread does in a turn: its malloc gets the first id and the lowest place, and all else goes on or ends the run.
use Rattle.std.proofs.Common.{◌≡◌, refl, ap, ◌∙◌, ℕ, suc, ◌+◌, ◌*◌, Bool, true, false, List, [], ◌∷◌, length, map, Option, Some, None, inl, inr, replicate, arith}
use Rattle.std.proofs.lemmas.Bool.Decides.{nat_tests}
use Rattle.std.specs.Prelude.{◌⊎◌, ◌%◌, ◌&&◌, slice_index, nat_lt, nat_le, cond}
use Rattle.std.specs.List.{find, list_all, range_with_len}
use Rattle.sub_heaps.specs.SubHeaps.{rounded}
use Rattle.arena_meaning.specs.Arena.{Storage}
use Rattle.handle_words.specs.Handle.{handle_of}
use Rattle.struct_ir.specs.Nodes.{Place, Action, load, store, copy_bytes, malloc, calloc, realloc, free, change, compare, print, lock, unlock, destroy, start, join, Step, set, call, step, look, safepoint, begin_object, end_object, plain, if_, loop, break_, next_, ret, Nodes, no_nodes, more_nodes}
use Rattle.struct_ir.specs.Flow.{Shrinks}
use Rattle.struct_ir.specs.Instrs.{Instr}
use Rattle.struct_ir.specs.Linear.{Spot}
use Rattle.flat_meaning.specs.Image.{Limits, Image, linear_image}
use Rattle.flat_meaning.specs.Words.{Words, word_at, target_of}
use Rattle.flat_meaning.specs.Memory.{Memory, with_storage}
use Rattle.flat_meaning.specs.Accesses as accesses
use Rattle.flat_meaning.specs.Accesses.{got, null, wait, with_object}
use Rattle.flat_meaning.specs.Actions.{acted_on_memory}
use Rattle.flat_meaning.specs.Effects.{landing}
use Rattle.flat_machine.specs.Choices.{least_free, is_apart, fits_at, lowest_fit, got_or, room_or, malloc_choice, action_choice}
use Rattle.flat_machine.specs.lemmas.Steps.{choice_at, done_at}
use Rattle.headline_example.proofs.Rows.{Flat}
use Rattle.headline_example.proofs.Alone.{code_with, Asked, FourBytes, Sits, StopsFirst, flow}
use Rattle.headline_example.proofs.Locals.{alone}
use Rattle.headline_example.proofs.Acts.{On, Off, looks_on, step_late, malloc_on, returns_off}

-- ---- the choice

-- no id is in use
least : (table : List (Option ℕ)) (ids n : ℕ) → table ≡ replicate ids None → ids ≡ suc n → least_free table ≡ Some 0
least table ids n e some =
    let h : nat_lt 0 (suc (length (replicate {A = Option ℕ} n None))) ≡ true = grind (arith, nat_tests) in
    ap least_free (e ∙ ap (λ (k : ℕ). replicate {A = Option ℕ} k None) some) ∙ ap (λ b. cond b (Some 0) None) h

-- no object is there, and 16 bytes fit in a sub-heap
fits_at_0 : (s : Storage) → s.heaps.objects ≡ [] → s.heaps.size ≡ 65536 → fits_at s.heaps 16 0 ≡ true
fits_at_0 s none size = ap (λ n. nat_le (0 % n + 16) n && list_all (is_apart 16 0) s.heaps.objects) size ∙ ap (λ os. list_all (is_apart 16 0) os) none

lowest : (s : Storage) (k : ℕ) → s.heaps.objects ≡ [] → s.heaps.size ≡ 65536 → s.heaps.count * s.heaps.size ≡ suc k → lowest_fit s.heaps 16 ≡ Some 0
lowest s k none size some = ap (λ n. find (fits_at s.heaps 16) (range_with_len 0 n)) some ∙ ap (λ b. cond b (Some 0) (find (fits_at s.heaps 16) (range_with_len 1 k))) (fits_at_0 s none size)

pub first_choice : (s : Storage) (ids n k : ℕ) → s.table ≡ replicate ids None → ids ≡ suc n → s.heaps.objects ≡ [] → s.heaps.size ≡ 65536 → s.heaps.count * s.heaps.size ≡ suc k → malloc_choice s 0 4 ≡ got 0 0
first_choice s ids n k table ids_are none size some =
    ap (λ h. cond (nat_lt h (rounded 4)) null (room_or s 4 wait)) size
    ∙ (ap (λ o. got_or o (lowest_fit s.heaps (rounded 4)) wait) (least s.table ids n table ids_are) ∙ ap (λ o. got_or (Some 0) o wait) (lowest s k none size some))

four : (temps : List ℕ) (a : Action) (ps : List Place) (ts : List ℕ) → FourBytes a ps ts temps → (a ≡ malloc) × (ps ≡ []) × ((size : ℕ) × (ts ≡ size ∷ []) × (slice_index temps size ≡ 4))
four temps malloc [] (size ∷ []) h = (refl, refl, (size, refl, h))
four temps malloc [] [] h = absurd h
four temps malloc [] (size ∷ t ∷ ts) h = absurd h
four temps malloc (p ∷ ps) ts h = absurd h
four temps (load how) ps ts h = absurd h
four temps (store how) ps ts h = absurd h
four temps (copy_bytes align same) ps ts h = absurd h
four temps calloc ps ts h = absurd h
four temps realloc ps ts h = absurd h
four temps free ps ts h = absurd h
four temps (change how t) ps ts h = absurd h
four temps (compare t) ps ts h = absurd h
four temps (print pieces) ps ts h = absurd h
four temps lock ps ts h = absurd h
four temps unlock ps ts h = absurd h
four temps destroy ps ts h = absurd h
four temps (start function) ps ts h = absurd h
four temps join ps ts h = absurd h

module _ (instrs : List Instr) (shrinks : Shrinks (flow instrs)) (limits : Limits) (first m : Memory) (chooses : malloc_choice first.storage 0 4 ≡ got 0 0) where
  abbrev x : Image Spot
  x = linear_image (code_with instrs) limits

  abbrev Goes : (early : Bool) → (ns : Nodes) → (i : ℕ) → Words → Option (List ℕ) → Type 0
  Goes early ns i l o = On instrs shrinks limits first m early ns (landing o (alone instrs shrinks i l)) ⊎ Off instrs shrinks limits first m early ns (landing o (alone instrs shrinks i l))

  step_goes : (early : Bool) (place : ℕ) (s : Step) (rest : Nodes) (i : ℕ) (l : Words) (o : Option (List ℕ)) → Flat rest → Asked early (more_nodes (plain place (step s)) rest) l.temps → Sits instrs (more_nodes (plain place (step s)) rest) i
      → (early ≡ true → m ≡ first) → Goes early (more_nodes (plain place (step s)) rest) i l o
  step_goes false place s rest i l o f asked sits still = step_late instrs shrinks limits first m place s rest i l o f sits asked.0 asked.1
  step_goes true place s rest i l o f asked sits still =
      let h = four l.temps s.action s.places s.temps asked.0 in
      let size = h.2.0 in
      let chosen : choice_at x 0 m place s l ≡ got 0 0 =
      ap (λ a. action_choice (malloc_choice m.storage) l a s.temps) h.0
      ∙ (ap (λ ts. action_choice (malloc_choice m.storage) l malloc ts) h.2.1
      ∙ (ap (malloc_choice m.storage 0) h.2.2 ∙ (ap (λ (n : Memory). malloc_choice n.storage 0 4) (still refl) ∙ chooses))) in
      let done_is : done_at x 0 m place s l ≡ accesses.went (Some (handle_of 0 0)) (with_storage m (with_object m.storage 0 0 (word_at l size))) =
      ap (λ c. acted_on_memory x.layout 0 c s.action (map (target_of l) s.places) (map (word_at l) s.temps) m) chosen
      ∙ (ap (λ a. acted_on_memory x.layout 0 (got 0 0) a (map (target_of l) s.places) (map (word_at l) s.temps) m) h.0
      ∙ (ap (λ ps. acted_on_memory x.layout 0 (got 0 0) malloc (map (target_of l) ps) (map (word_at l) s.temps) m) h.1
      ∙ ap (λ ts. acted_on_memory x.layout 0 (got 0 0) malloc [] (map (word_at l) ts) m) h.2.1)) in
      inl (malloc_on instrs shrinks limits first m place s rest i l o f sits h.0 0 0 (handle_of 0 0) (with_storage m (with_object m.storage 0 0 (word_at l size))) refl refl chosen done_is asked.1)

  pub turn_goes : (early : Bool) (ns : Nodes) (i : ℕ) (l : Words) (o : Option (List ℕ)) → Flat ns → StopsFirst instrs ns → Asked early ns l.temps → Sits instrs ns i → (early ≡ true → m ≡ first) → Goes early ns i l o
  turn_goes early (more_nodes (plain place (look slot base)) rest) i l o f stop asked sits still = inl (looks_on instrs shrinks limits first m early place slot base rest i l o f (behind_look early asked) sits still)
    where
      behind_look : (early : Bool) → Asked early (more_nodes (plain place (look slot base)) rest) l.temps → Asked early rest l.temps
      behind_look true h = h
      behind_look false h = h
  turn_goes early (more_nodes (plain place (step s)) rest) i l o f stop asked sits still = step_goes early place s rest i l o f asked sits still
  turn_goes false (more_nodes (ret place temp) rest) i l o f stop asked sits still = inr (returns_off instrs shrinks limits first m place temp rest i l o sits)
  turn_goes true (more_nodes (ret place temp) rest) i l o f stop asked sits still = absurd asked
  turn_goes early no_nodes i l o f stop asked sits still = absurd stop
  turn_goes early (more_nodes (plain place (set to calc)) rest) i l o f stop asked sits still = absurd stop
  turn_goes early (more_nodes (plain place (call c)) rest) i l o f stop asked sits still = absurd stop
  turn_goes early (more_nodes (plain place (safepoint slots)) rest) i l o f stop asked sits still = absurd stop
  turn_goes early (more_nodes (plain place (begin_object k)) rest) i l o f stop asked sits still = absurd stop
  turn_goes early (more_nodes (plain place (end_object k)) rest) i l o f stop asked sits still = absurd stop
  turn_goes early (more_nodes (if_ place temp one other) rest) i l o f stop asked sits still = absurd stop
  turn_goes early (more_nodes (loop place body latch) rest) i l o f stop asked sits still = absurd stop
  turn_goes early (more_nodes (break_ place) rest) i l o f stop asked sits still = absurd stop
  turn_goes early (more_nodes (next_ place) rest) i l o f stop asked sits still = absurd stop
