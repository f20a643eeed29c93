-- What was printed stays: an event leaves the output as it is, or prints behind it.
use Rattle.std.proofs.Common.{ℕ, ◌*◌, ◌/◌, ◌==◌, Bool, true, false, cond, List, [], ◌∷◌, map, Option, Some, None, refl}
use Rattle.std.specs.Prelude.{slice_get}
use Rattle.ak_words.specs.Prefix.{IsPrefix}
use Rattle.ak_words.proofs.Prefixes.{prefix_of_itself, prefix_of_prefix}
use Rattle.block_store.specs.Cells.{size_of}
use Rattle.block_store.specs.Runs.{own_at}
use Rattle.flat_store.specs.Flat.{first_outside, first_outside_of_both}
use Rattle.arena_meaning.specs.Changes.{is_live_start}
use Rattle.struct_ir.specs.Nodes.{Action, load, store, copy_bytes, malloc, calloc, realloc, free, change, compare, print, lock, unlock, destroy, start, join, set, call, step, look, safepoint, begin_object, end_object}
use Rattle.struct_ir.specs.Flow.{Here, does, tests, passes, round, returns}
use Rattle.struct_ir.specs.Machine.{Point}
use Rattle.struct_ir.specs.Threads as threads
use Rattle.struct_ir.specs.Threads.{Thread, Outcome, Served, serves, refuses, fails, if_fits, finished, left_call, stop_at}
use Rattle.ak_trace.specs.declared.endings.TrapKind.{TrapKind}
use Rattle.ak_trace.specs.declared.endings.TrapKind.TheVariants as kinds
use Rattle.flat_meaning.specs.Accesses.{Fault, Choice, plain, got, null, wait, Done, went, waits, unfit, over, is_plain, within, allocated, zeroed, renewed, guarded, with_copy, trap, prints, output_room}
use Rattle.flat_meaning.specs.Actions.{acted_on_memory, is_equal, is_free, joined_at, joined_if, joined_with, may_start, number_at, printed_parts}
use Rattle.flat_meaning.specs.Effects as effects
use Rattle.flat_meaning.specs.Effects.{Effect, act_before, act_effect, gone_effect, look_before, look_effect, own_list_of, serve_effect, step_effect, stop_of}
use Rattle.flat_meaning.specs.Events as events
use Rattle.flat_meaning.specs.Events.{MachineState, Serve, Event, act, barrier, local, after, after_all, after_serve, after_serves, moved_state, put_if, serving_state}
use Rattle.flat_meaning.specs.Image.{Image, Layout}
use Rattle.flat_meaning.specs.Machine.{given, served_by, served_plainly, words_machine, words_world}
use Rattle.flat_meaning.specs.Memory.{Made, Memory, left_by, thread_ended, with_storage}
use Rattle.flat_meaning.specs.Printing.{Read, outside, read_parts, reads, too_long}
use Rattle.flat_meaning.specs.Stages.{Stage, starts, going, waiting, landed, Before, safe, looks, steps, calls, turn_over, nothing, before, room_for, can_advance}
use Rattle.flat_meaning.specs.Words.{Target, Words, target_of, word_at}

-- the output begins with what was printed before
abbrev pub Grows : Memory → Memory → Type 0
Grows m n = IsPrefix m.output n.output

-- ---- an action

-- where it's done
abbrev DoneGrows : Memory → Done → Type 0
DoneGrows m (went word n) = Grows m n
DoneGrows m waits = Unit {0}
DoneGrows m unfit = Unit {0}
DoneGrows m (over f) = Unit {0}

module _ (m : Memory) where
  -- nothing was printed
  still : Grows m m
  still = prefix_of_itself m.output

  -- by a test
  either : (b : Bool) (d e : Done) → DoneGrows m d → DoneGrows m e → DoneGrows m (cond b d e)
  either true d e h k = h
  either false d e h k = k

  plainly : (c : Choice) (d : Done) → DoneGrows m d → DoneGrows m (cond (is_plain c) d unfit)
  plainly c d h = either (is_plain c) d unfit h tt

  within_grows : (kind : TrapKind) (o : Option ℕ) (d : Done) → DoneGrows m d → DoneGrows m (within kind o d)
  within_grows kind None d h = h
  within_grows kind (Some a) d h = tt

  prints_grows : (r : Read) → DoneGrows m (prints r m)
  prints_grows (reads all) = (all, refl)
  prints_grows (outside address) = tt
  prints_grows too_long = tt

  joined_with_grows : (to : Target) (word : ℕ) → DoneGrows m (joined_with to word m)
  joined_with_grows to word = either (to.pointer == 0) _ _ still (within_grows kinds.Join (first_outside m.storage.bytes to.address 4) _ still)

  joined_at_grows : (to : Target) (o : Option ℕ) → DoneGrows m (joined_at to o m)
  joined_at_grows to None = tt
  joined_at_grows to (Some word) = joined_with_grows to word

  joined_grows : (to : Target) (o : Option Made) → DoneGrows m (joined_if to o m)
  joined_grows to None = still
  joined_grows to (Some t) = joined_at_grows to t.result

  allocated_grows : (c : Choice) (size : ℕ) → DoneGrows m (allocated c size m)
  allocated_grows plain size = tt
  allocated_grows (got id place) size = still
  allocated_grows null size = still
  allocated_grows wait size = tt

  zeroed_grows : (c : Choice) (size : ℕ) → DoneGrows m (zeroed c size m)
  zeroed_grows plain size = tt
  zeroed_grows (got id place) size = still
  zeroed_grows null size = still
  zeroed_grows wait size = tt

  left_grows_by : (leaving : Option (List ℕ)) (word : ℕ) (new : Memory) → Grows m new → Grows m (left_by leaving word new)
  left_grows_by None word new h = h
  left_grows_by (Some words) word new h = h

  either_memory : (b : Bool) (one other : Memory) → Grows m one → Grows m other → Grows m (cond b one other)
  either_memory true one other h k = h
  either_memory false one other h k = k

  renewed_grows : (c : Choice) (word size : ℕ) → DoneGrows m (renewed c word size m)
  renewed_grows plain word size = tt
  renewed_grows (got id place) word size =
      let new : Memory = with_storage m (with_copy m.storage id place word size) in
      either_memory (is_live_start m.storage word) (left_by m.leaving word new) new (left_grows_by m.leaving word new still) still
  renewed_grows null word size = still
  renewed_grows wait word size = tt

  guarded_grows : (leaving : Option (List ℕ)) (word : ℕ) (d : Done) → DoneGrows m d → DoneGrows m (guarded leaving word m.storage d)
  guarded_grows None word d h = either (is_live_start m.storage word) d (over (trap word kinds.Free)) h tt
  guarded_grows (Some words) word d h = h

  module _ (y : Layout) (n : ℕ) (c : Choice) where
    -- only print appends
    action_grows : (a : Action) (ps : List Target) (ws : List ℕ) → DoneGrows m (acted_on_memory y n c a ps ws m)
    action_grows (load how) (a ∷ []) [] = plainly c _ (within_grows kinds.Load (first_outside m.storage.bytes a.address (size_of how)) _ still)
    action_grows (store how) (a ∷ []) (w ∷ []) = plainly c _ (within_grows kinds.Store (first_outside m.storage.bytes a.address (size_of how)) _ still)
    action_grows (copy_bytes align same) (a ∷ b ∷ []) (w ∷ []) = plainly c _ (within_grows kinds.Copy (first_outside_of_both m.storage.bytes a.address b.address w) _ still)
    action_grows malloc [] (w ∷ []) = allocated_grows c w
    action_grows calloc [] (count ∷ size ∷ []) = zeroed_grows c (count * size)
    action_grows realloc [] (word ∷ size ∷ []) =
        either (word == 0) (allocated c size m) (guarded m.leaving word m.storage (renewed c word size m)) (allocated_grows c size) (guarded_grows m.leaving word (renewed c word size m) (renewed_grows c word size))
    action_grows (change how t) (a ∷ []) (w ∷ []) = plainly c _ (within_grows kinds.Store (first_outside m.storage.bytes a.address (t.bits / 8)) _ still)
    action_grows (compare t) (a ∷ b ∷ []) (w ∷ []) =
        plainly c _ (within_grows kinds.Store (first_outside_of_both m.storage.bytes a.address b.address (t.bits / 8)) _ (either (is_equal t (number_at t a.address m) (number_at t b.address m)) _ _ still still))
    action_grows free [] (w ∷ []) = plainly c _ (either (w == 0) _ _ still (either (is_live_start m.storage w) _ _ still tt))
    action_grows (print pieces) ps ws = plainly c _ (prints_grows (read_parts m.storage.bytes (printed_parts pieces ps ws) (output_room y.limits.output m)))
    action_grows lock (a ∷ []) [] = plainly c _ (within_grows kinds.Lock (first_outside m.storage.bytes a.address 8) _ (either (is_free m a.address) _ _ still tt))
    action_grows unlock (a ∷ []) [] = plainly c _ (within_grows kinds.Lock (first_outside m.storage.bytes a.address 8) _ still)
    action_grows destroy (a ∷ []) [] = plainly c _ still
    action_grows (start function) (a ∷ []) (w ∷ []) = plainly c _ (either (may_start y.limits.threads m) _ _ (within_grows kinds.Start (first_outside m.storage.bytes a.address 8) _ still) still)
    action_grows join (a ∷ []) (w ∷ []) = plainly c _ (joined_grows a (slice_get m.threads w))
    action_grows a ps ws = tt

-- ---- what a thread stands before

module _ (m : Memory) where
  -- where the world does it
  abbrev ServedGrows : Served Words Fault Memory → Type 0
  ServedGrows (serves l n) = Grows m n
  ServedGrows threads.waits = Unit {0}
  ServedGrows refuses = Unit {0}
  ServedGrows (fails f) = Unit {0}

  served_by_grows : (l : Words) (to : Option ℕ) (d : Done) → DoneGrows m d → ServedGrows (served_by l to d)
  served_by_grows l to (went None n) h = h
  served_by_grows l to (went (Some word) n) h = h
  served_by_grows l to waits h = tt
  served_by_grows l to unfit h = tt
  served_by_grows l to (over f) h = tt

  plainly_grows : (c : Choice) (l : Words) (n : Memory) → Grows m n → ServedGrows (served_plainly c l n)
  plainly_grows c l n h = by (is_plain c) where
    by : (b : Bool) → ServedGrows (cond b (serves l n) refuses)
    by true = h
    by false = tt

module _ {P : Type 0} (m : Memory) where
  -- where the thread goes on, or ends
  abbrev OutcomeGrows : Outcome P Words Fault Memory → Type 0
  OutcomeGrows (threads.went t n) = Grows m n
  OutcomeGrows (threads.ended l n) = Grows m n
  OutcomeGrows threads.blocked = Unit {0}
  OutcomeGrows (threads.broke f) = Unit {0}
  OutcomeGrows threads.unfit = Unit {0}

  fits_grows : (b : Bool) (o : Outcome P Words Fault Memory) → OutcomeGrows o → OutcomeGrows (if_fits b o)
  fits_grows true o h = h
  fits_grows false o h = tt

  module _ (x : Image P) (k : ℕ) (c : Choice) (t : Thread P Words) where
    finished_grows : (s : Served Words Fault Memory) → ServedGrows m s → OutcomeGrows (finished s)
    finished_grows (serves l n) h = h
    finished_grows threads.waits h = tt
    finished_grows refuses h = tt
    finished_grows (fails f) h = tt

    served_grows : (s : Served Words Fault Memory) → ServedGrows m s → OutcomeGrows (threads.served x.flow t s)
    served_grows (serves l n) h = h
    served_grows threads.waits h = tt
    served_grows refuses h = tt
    served_grows (fails f) h = tt

    left_grows : (temp : Option ℕ) (callers : List (Point P Words)) → OutcomeGrows (left_call x.flow (words_world x.layout k) c t.top.own temp m callers)
    left_grows temp [] = finished_grows (served_plainly c t.top.own (thread_ended m k (given t.top.own temp))) (plainly_grows m c t.top.own (thread_ended m k (given t.top.own temp)) (still m))
    left_grows temp (d ∷ callers) = fits_grows (is_plain c) _ (still m)

    -- by what stands there
    here_grows : (h : Here) → OutcomeGrows (stop_at x.flow (words_machine x.layout k) (words_world x.layout k) x.start c t m h)
    here_grows (does place (set to calc)) = tt
    here_grows (does place (call d)) = fits_grows (is_plain c) _ (still m)
    here_grows (does place (step s)) = served_grows _ (served_by_grows m t.top.own s.to _ (action_grows m x.layout k c s.action (map (target_of t.top.own) s.places) (map (word_at t.top.own) s.temps)))
    here_grows (does place (look slot base)) = served_grows _ (plainly_grows m c _ m (still m))
    here_grows (does place (safepoint slots)) = served_grows _ (plainly_grows m c t.top.own m (still m))
    here_grows (does place (begin_object i)) = tt
    here_grows (does place (end_object i)) = tt
    here_grows (tests place temp) = tt
    here_grows passes = tt
    here_grows round = fits_grows (is_plain c) _ (still m)
    here_grows (returns temp) = left_grows temp t.callers

  -- ---- an event of a thread

  module _ (x : Image P) (k : ℕ) where
    abbrev EffectGrows : Effect P → Type 0
    EffectGrows e = Grows m e.memory

    acted_grows : (stage : Stage P) (t : Thread P Words) (list : Option (List ℕ)) (o : Outcome P Words Fault Memory) → OutcomeGrows o → EffectGrows (effects.effect_of_outcome k stage t list m o)
    acted_grows stage t list (threads.went q n) h = h
    acted_grows stage t list (threads.ended l n) h = h
    acted_grows stage t list threads.blocked h = still m
    acted_grows stage t list (threads.broke f) h = still m
    acted_grows stage t list threads.unfit h = still m

    step_grows : (c : Choice) (stage : Stage P) (t : Thread P Words) → EffectGrows (step_effect x k c stage t m)
    step_grows c stage t = acted_grows stage t (own_list_of (x.flow.here t.top.at)) (stop_of x k c t m) (here_grows x k c t (x.flow.here t.top.at))

    either_effect : (b : Bool) (e f : Effect P) → EffectGrows e → EffectGrows f → EffectGrows (cond b e f)
    either_effect true e f h g = h
    either_effect false e f h g = g

    act_before_grows : (c : Choice) (stage : Stage P) (t : Thread P Words) (b : Before) → EffectGrows (act_before x k c stage t m b)
    act_before_grows c stage t safe = still m
    act_before_grows c stage t looks = still m
    act_before_grows c stage t steps = step_grows c stage t
    act_before_grows c stage t (calls function) = either_effect (room_for x t function) _ _ (still m) (still m)
    act_before_grows c stage t turn_over = still m
    act_before_grows c stage t nothing = still m

    look_before_grows : (stage : Stage P) (t : Thread P Words) (b : Before) → EffectGrows (look_before x k stage t m b)
    look_before_grows stage t safe = still m
    look_before_grows stage t looks = step_grows plain stage t
    look_before_grows stage t steps = still m
    look_before_grows stage t (calls function) = still m
    look_before_grows stage t turn_over = still m
    look_before_grows stage t nothing = still m

    act_grows : (c : Choice) (stage : Stage P) → EffectGrows (act_effect x k c stage m)
    act_grows c (starts function argument) = either_effect (can_advance x (starts function argument)) _ _ (still m) (still m)
    act_grows c (going t) = act_before_grows c (going t) t (before x t)
    act_grows c (waiting t) = act_before_grows c (waiting t) t (before x t)
    act_grows c (landed list t) = act_before_grows c (landed list t) t (before x t)

    look_grows : (stage : Stage P) → EffectGrows (look_effect x k stage m)
    look_grows (starts function argument) = still m
    look_grows (going t) = look_before_grows (going t) t (before x t)
    look_grows (waiting t) = look_before_grows (waiting t) t (before x t)
    look_grows (landed list t) = look_before_grows (landed list t) t (before x t)

    serve_grows : (c : Choice) (stage : Stage P) → EffectGrows (serve_effect x k c stage m)
    serve_grows c (starts function argument) = still m
    serve_grows c (going t) = still m
    serve_grows c (waiting t) = step_grows c (waiting t) t
    serve_grows c (landed list t) = still m

    gone_grows : (stage : Stage P) → EffectGrows (gone_effect x k stage m)
    gone_grows stage = either_effect (can_advance x stage) _ _ (still m) (still m)

-- ---- all events

module _ {P : Type 0} (x : Image P) where
  put_grows : (s : MachineState P) (thread : ℕ) (effect : Stage P → Memory → Effect P) → ((stage : Stage P) → Grows s.memory (effect stage s.memory).memory) → (o : Option (Stage P)) → Grows s.memory (put_if s thread effect o).memory
  put_grows s thread effect grows None = still s.memory
  put_grows s thread effect grows (Some stage) = grows stage

  after_serve_grows : (s : MachineState P) (v : Serve) → Grows s.memory (after_serve x s v).memory
  after_serve_grows s v = put_grows s v.thread (serve_effect x v.thread v.choice) (serve_grows s.memory x v.thread v.choice) (own_at s.own v.thread)

  pub after_serves_grows : (vs : List Serve) (s : MachineState P) → Grows s.memory (after_serves x vs s).memory
  after_serves_grows [] s = still s.memory
  after_serves_grows (v ∷ vs) s = prefix_of_prefix s.memory.output (after_serve x s v).memory.output (after_serves x vs (after_serve x s v)).memory.output (after_serve_grows s v) (after_serves_grows vs (after_serve x s v))

  pub after_grows : (s : MachineState P) (e : Event) → Grows s.memory (after x s e).memory
  after_grows s (local thread) = put_grows s thread (gone_effect x thread) (gone_grows s.memory x thread) (own_at s.own thread)
  after_grows s (events.look thread) = put_grows s thread (look_effect x thread) (look_grows s.memory x thread) (own_at s.own thread)
  after_grows s (act thread choice) = put_grows s thread (act_effect x thread choice) (act_grows s.memory x thread choice) (own_at s.own thread)
  after_grows s (barrier moves served) = after_serves_grows served (serving_state (moved_state moves s))

  pub after_all_grows : (es : List Event) (s : MachineState P) → Grows s.memory (after_all x es s).memory
  after_all_grows [] s = still s.memory
  after_all_grows (e ∷ es) s = prefix_of_prefix s.memory.output (after x s e).memory.output (after_all x es (after x s e)).memory.output (after_grows s e) (after_all_grows es (after x s e))
