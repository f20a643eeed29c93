-- Null at a thread's own step: act tells of it just where the thread stands before an allocation of more bytes than a sub-heap has, which is
-- no realloc of what isn't live.
use Rattle.std.proofs.Common.{◌≡◌, ℕ, ◌*◌, ◌<◌, Bool, true, false, cond, eqb, ◌||◌, List, [], ◌∷◌, map, Option, Some, None, refl, sym, ap, ◌∙◌}
use Rattle.std.proofs.lemmas.Option.{same_Some}
use Rattle.sub_heaps.specs.SubHeaps.{IsSound}
use Rattle.arena_meaning.specs.Changes.{is_live_start}
use Rattle.ak_trace.specs.declared.endings.TrapKind.TheVariants as kinds
use Rattle.struct_ir.specs.Flow.{Here, does, tests, passes, round, returns}
use Rattle.struct_ir.specs.Instrs.{LinearCode}
use Rattle.struct_ir.specs.Linear.{Spot}
use Rattle.struct_ir.specs.Machine.{Point}
use Rattle.struct_ir.specs.Nodes.{Action, Place, load, store, copy_bytes, malloc, calloc, realloc, free, change, compare, print, lock, unlock, destroy, start, join, set, call, step, look, safepoint, begin_object, end_object, Step}
use Rattle.struct_ir.specs.Threads.{Thread, left_call, stop_at}
use Rattle.struct_ir.specs.Threads as threads
use Rattle.flat_meaning.specs.Allocations.{Allocation, allocation_of}
use Rattle.flat_meaning.specs.declared.endings.Stop.{Stop}
use Rattle.flat_meaning.specs.declared.endings.Stop.TheVariants.{AtStep, Spent, NoRoom}
use Rattle.flat_meaning.specs.Accesses as actions
use Rattle.flat_meaning.specs.Accesses.{Choice, Done, Fault, plain, got, null, wait, allocated, zeroed, renewed, reallocated, guarded, trap, output_limit}
use Rattle.flat_meaning.specs.Actions.{acted_on_memory, may_start}
use Rattle.flat_meaning.specs.Image.{Image}
use Rattle.flat_meaning.specs.Machine.{served_by, words_machine, words_world}
use Rattle.flat_meaning.specs.Memory.{Memory}
use Rattle.flat_meaning.specs.Stages as stages
use Rattle.flat_meaning.specs.Stages.{Before, Stage, thread_at, before_here, before_return}
use Rattle.flat_meaning.specs.Words.{Words, target_of, word_at}
use Rattle.flat_rules.specs.Machine.{Turned, got_null}
use Rattle.flat_rules.specs.Machine as turns
use Rattle.flat_machine.specs.Choices.{action_choice, choice_here, is_renewable, malloc_choice, sized_choice}
use Rattle.flat_machine.specs.Nulls.{NullAtAct, asked_by, asked_at, asked_here, old_word}
use Rattle.flat_machine.specs.Shares.{Shared, image_of}
use Rattle.flat_machine.specs.Turns.{blocked_turned, done_turned, fault_turned, outcome_turned, start_turned, turned_before, turned_of}
use Rattle.flat_machine.proofs.Nulls.{renewable_choice, sized_null}

-- ---- what tells of no null

blocked_not : (c : Choice) → blocked_turned c ≡ got_null → ⊥
blocked_not plain e = absurd cc
blocked_not (got id place) e = absurd cc
blocked_not null e = absurd cc
blocked_not wait e = absurd cc

fault_not : (f : Fault) → fault_turned f ≡ got_null → ⊥
fault_not (trap word kind) e = absurd cc
fault_not output_limit e = absurd cc

start_not : (b : Bool) (made : ℕ) → start_turned b made ≡ got_null → ⊥
start_not true made e = absurd cc
start_not false made e = absurd cc

module _ (x : Image Spot) (n : ℕ) (m : Memory) (idle : m.leaving ≡ None) (t : Thread Spot Words) where
  abbrev rule : (word size : ℕ) → Choice
  rule = malloc_choice m.storage

  abbrev l : Words
  l = t.top.own

  -- how an action is told that came to this
  abbrev told_done : Action → Choice → (to : Option ℕ) → Done → Here → Turned
  told_done action c to d here = outcome_turned x n m c here (threads.served x.flow t (served_by l to d))

  -- what is told of a step, whose action is no allocation
  step_not : (s : Step) (place : ℕ) (c : Choice) → (done_turned x m c s.action ≡ got_null → ⊥) → (d : Done) → told_done s.action c s.to d (does place (step s)) ≡ got_null → ⊥
  step_not s place c not_done (actions.went None after) e = not_done e
  step_not s place c not_done (actions.went (Some word) after) e = not_done e
  step_not s place c not_done actions.waits e = blocked_not c e
  step_not s place c not_done actions.unfit e = absurd cc
  step_not s place c not_done (actions.over f) e = fault_not f e

  -- an allocation of more than a sub-heap has
  record IsNull (here : Here) : Type 0 where
    asks : Allocation
    asked : asked_here l here ≡ Some asks
    null : malloc_choice m.storage (old_word asks) asks.bytes ≡ null
    renewable : is_renewable m.storage (old_word asks) ≡ true

  -- a step, by its action and operands
  abbrev node : Action → List Place → (to : Option ℕ) → (temps slots : List ℕ) → Step
  node action places to temps slots = record { action = action; places = places; to = to; temps = temps; slots = slots }

  abbrev told_step : (place : ℕ) → Action → List Place → (to : Option ℕ) → (temps slots : List ℕ) → Turned
  told_step place action places to temps slots =
      let c = action_choice rule l action temps in
      told_done action c to (acted_on_memory x.layout n c action (map (target_of l) places) (map (word_at l) temps) m) (does place (step (node action places to temps slots)))

  -- ---- what is told of an allocation, by what is chosen

  module _ (place : ℕ) (s : Step) where
    abbrev told_of : Choice → Done → Turned
    told_of c d = told_done s.action c s.to d (does place (step s))

    module _ (size : ℕ) where
      malloc_only : s.action ≡ malloc → (c : Choice) → told_of c (allocated c size m) ≡ got_null → c ≡ null
      malloc_only is plain e = absurd cc
      malloc_only is (got id at) e = absurd (let bad : turns.got id at ≡ got_null = ap (λ a. done_turned x m (got id at) a) (sym is) ∙ e in cc)
      malloc_only is null e = refl
      malloc_only is wait e = absurd cc

      calloc_only : s.action ≡ calloc → (c : Choice) → told_of c (zeroed c size m) ≡ got_null → c ≡ null
      calloc_only is plain e = absurd cc
      calloc_only is (got id at) e = absurd (let bad : turns.got id at ≡ got_null = ap (λ a. done_turned x m (got id at) a) (sym is) ∙ e in cc)
      calloc_only is null e = refl
      calloc_only is wait e = absurd cc

      abbrev realloc_done : (live : Bool) (word : ℕ) → Choice → Done
      realloc_done live word c = cond live (renewed c word size m) (actions.over (trap word kinds.Free))

      abbrev of_word : (is_null live : Bool) (word : ℕ) → Choice → Done
      of_word is_null live word c = cond is_null (allocated c size m) (realloc_done live word c)

      realloc_only : s.action ≡ realloc → (is_null live : Bool) (word : ℕ) (c : Choice) → told_of c (of_word is_null live word c) ≡ got_null → (c ≡ null) × ((is_null || live) ≡ true)
      realloc_only is true live word plain e = absurd cc
      realloc_only is true live word (got id at) e = absurd (let bad : turns.got id at ≡ got_null = ap (λ a. done_turned x m (got id at) a) (sym is) ∙ e in cc)
      realloc_only is true live word null e = (refl, refl)
      realloc_only is true live word wait e = absurd cc
      realloc_only is false true word plain e = absurd cc
      realloc_only is false true word (got id at) e = absurd (let bad : turns.got id at ≡ got_null = ap (λ a. done_turned x m (got id at) a) (sym is) ∙ e in cc)
      realloc_only is false true word null e = (refl, refl)
      realloc_only is false true word wait e = absurd cc
      realloc_only is false false word c e = absurd (fault_not (trap word kinds.Free) e)

      malloc_told : s.action ≡ malloc → (c : Choice) → c ≡ null → told_of c (allocated c size m) ≡ got_null
      malloc_told is plain e = absurd cc
      malloc_told is (got id at) e = absurd cc
      malloc_told is null e = ap (λ a. done_turned x m null a) is
      malloc_told is wait e = absurd cc

      calloc_told : s.action ≡ calloc → (c : Choice) → c ≡ null → told_of c (zeroed c size m) ≡ got_null
      calloc_told is plain e = absurd cc
      calloc_told is (got id at) e = absurd cc
      calloc_told is null e = ap (λ a. done_turned x m null a) is
      calloc_told is wait e = absurd cc

      realloc_told : s.action ≡ realloc → (is_null live : Bool) (word : ℕ) (c : Choice) → c ≡ null → (is_null || live) ≡ true → told_of c (of_word is_null live word c) ≡ got_null
      realloc_told is is_null live word plain e r = absurd cc
      realloc_told is is_null live word (got id at) e r = absurd cc
      realloc_told is true live word null e r = ap (λ a. done_turned x m null a) is
      realloc_told is false true word null e r = ap (λ a. done_turned x m null a) is
      realloc_told is false false word null e r = absurd cc
      realloc_told is is_null live word wait e r = absurd cc

      -- outside a barrier a realloc of what isn't live is a trap
      outside_barrier : (word : ℕ) (c : Choice) → reallocated c word size m ≡ of_word (eqb word 0) (is_live_start m.storage word) word c
      outside_barrier word c = ap (λ (leaving : Option (List ℕ)). cond (eqb word 0) (allocated c size m) (guarded leaving word m.storage (renewed c word size m))) idle

  malloc_there : (place : ℕ) (places : List Place) (to : Option ℕ) (temps slots : List ℕ) → told_step place malloc places to temps slots ≡ got_null → IsNull (does place (step (node malloc places to temps slots)))
  malloc_there place [] to [] slots e = absurd cc
  malloc_there place [] to (r ∷ []) slots e = record { asks = _; asked = refl; null = malloc_only place (node malloc [] to (r ∷ []) slots) (word_at l r) refl (malloc_choice m.storage 0 (word_at l r)) e; renewable = refl }
  malloc_there place [] to (r ∷ q ∷ temps) slots e = absurd cc
  malloc_there place (p ∷ places) to temps slots e = absurd cc

  calloc_there : (place : ℕ) (places : List Place) (to : Option ℕ) (temps slots : List ℕ) → told_step place calloc places to temps slots ≡ got_null → IsNull (does place (step (node calloc places to temps slots)))
  calloc_there place [] to [] slots e = absurd cc
  calloc_there place [] to (r ∷ []) slots e = absurd cc
  calloc_there place [] to (r ∷ q ∷ []) slots e =
      record { asks = _; asked = refl; null = calloc_only place (node calloc [] to (r ∷ q ∷ []) slots) (word_at l r * word_at l q) refl (malloc_choice m.storage 0 (word_at l r * word_at l q)) e; renewable = refl }
  calloc_there place [] to (r ∷ q ∷ o ∷ temps) slots e = absurd cc
  calloc_there place (p ∷ places) to temps slots e = absurd cc

  realloc_there : (place : ℕ) (places : List Place) (to : Option ℕ) (temps slots : List ℕ) → told_step place realloc places to temps slots ≡ got_null → IsNull (does place (step (node realloc places to temps slots)))
  realloc_there place [] to [] slots e = absurd cc
  realloc_there place [] to (r ∷ []) slots e = absurd cc
  realloc_there place [] to (r ∷ q ∷ []) slots e =
      let s = node realloc [] to (r ∷ q ∷ []) slots in
      let w = word_at l r in
      let size = word_at l q in
      let c = malloc_choice m.storage w size in
      let only = realloc_only place s size refl (eqb w 0) (is_live_start m.storage w) w c (ap (told_of place s c) (sym (outside_barrier place s size w c)) ∙ e) in
      record { asks = _; asked = refl; null = only.0; renewable = only.1 }
  realloc_there place [] to (r ∷ q ∷ o ∷ temps) slots e = absurd cc
  realloc_there place (p ∷ places) to temps slots e = absurd cc

  step_there : (place : ℕ) (a : Action) (places : List Place) (to : Option ℕ) (temps slots : List ℕ) → told_step place a places to temps slots ≡ got_null → IsNull (does place (step (node a places to temps slots)))
  step_there place (load how) places to temps slots e = absurd (step_not (node (load how) places to temps slots) place plain (λ f. absurd cc) _ e)
  step_there place (store how) places to temps slots e = absurd (step_not (node (store how) places to temps slots) place plain (λ f. absurd cc) _ e)
  step_there place (copy_bytes align same) places to temps slots e = absurd (step_not (node (copy_bytes align same) places to temps slots) place plain (λ f. absurd cc) _ e)
  step_there place malloc places to temps slots e = malloc_there place places to temps slots e
  step_there place calloc places to temps slots e = calloc_there place places to temps slots e
  step_there place realloc places to temps slots e = realloc_there place places to temps slots e
  step_there place free places to temps slots e = absurd (step_not (node free places to temps slots) place plain (λ f. absurd cc) _ e)
  step_there place (change how ty) places to temps slots e = absurd (step_not (node (change how ty) places to temps slots) place plain (λ f. absurd cc) _ e)
  step_there place (compare ty) places to temps slots e = absurd (step_not (node (compare ty) places to temps slots) place plain (λ f. absurd cc) _ e)
  step_there place (print pieces) places to temps slots e = absurd (step_not (node (print pieces) places to temps slots) place plain (λ f. absurd cc) _ e)
  step_there place lock places to temps slots e = absurd (step_not (node lock places to temps slots) place plain (λ f. absurd cc) _ e)
  step_there place unlock places to temps slots e = absurd (step_not (node unlock places to temps slots) place plain (λ f. absurd cc) _ e)
  step_there place destroy places to temps slots e = absurd (step_not (node destroy places to temps slots) place plain (λ f. absurd cc) _ e)
  step_there place (start function) places to temps slots e = absurd (step_not (node (start function) places to temps slots) place plain (start_not (may_start x.layout.limits.threads m) _) _ e)
  step_there place join places to temps slots e = absurd (step_not (node join places to temps slots) place plain (λ f. absurd cc) _ e)

  -- what is told at what stands there
  abbrev told_before : Before → Turned → Turned
  told_before stages.looks turned = turns.looked
  told_before b turned = turned

  abbrev told_at : Here → Before → Turned
  told_at here b = told_before b (outcome_turned x n m (choice_here rule l here) here (stop_at x.flow (words_machine x.layout n) (words_world x.layout n) x.start (choice_here rule l here) t m here))

  returned : (temp : Option ℕ) (callers : List (Point Spot Words)) → told_before (before_return callers) (outcome_turned x n m plain (returns temp) (left_call x.flow (words_world x.layout n) plain l temp m callers)) ≡ got_null → IsNull (returns temp)
  returned temp [] e = absurd cc
  returned temp (c ∷ callers) e = absurd cc

  there : (here : Here) → told_at here (before_here t.callers here) ≡ got_null → IsNull here
  there (does place (set to calc)) e = absurd cc
  there (does place (call c)) e = absurd cc
  there (does place (step s)) e = step_there place s.action s.places s.to s.temps s.slots e
  there (does place (look slot base)) e = absurd cc
  there (does place (safepoint slots)) e = absurd cc
  there (does place (begin_object i)) e = absurd cc
  there (does place (end_object i)) e = absurd cc
  there (tests place temp) e = absurd cc
  there passes e = absurd cc
  there round e = absurd cc
  there (returns temp) e = returned temp t.callers e

  -- what is no allocation asks for nothing
  none_asked : (a : Action) (places : List Place) (temps : List ℕ) (asks : Allocation) → allocation_of a (map (word_at l) temps) ≡ None → asked_by l a places temps ≡ Some asks → ⊥
  none_asked a [] temps asks none asked = let z : None ≡ Some asks = sym none ∙ asked in cc z
  none_asked a (p ∷ places) temps asks none asked = absurd cc

  step_back : (place : ℕ) (a : Action) (places : List Place) (to : Option ℕ) (temps slots : List ℕ) (asks : Allocation) → asked_by l a places temps ≡ Some asks → malloc_choice m.storage (old_word asks) asks.bytes ≡ null → is_renewable m.storage (old_word asks) ≡ true
      → told_step place a places to temps slots ≡ got_null
  step_back place malloc [] to (r ∷ []) slots asks asked chosen renewable =
      let same : record { bytes = word_at l r; old = None } ≡ asks = same_Some _ asks asked in
      malloc_told place (node malloc [] to (r ∷ []) slots) (word_at l r) refl (malloc_choice m.storage 0 (word_at l r)) (ap (λ (k : Allocation). malloc_choice m.storage (old_word k) k.bytes) same ∙ chosen)
  step_back place malloc [] to [] slots asks asked chosen renewable = absurd cc
  step_back place malloc [] to (r ∷ q ∷ temps) slots asks asked chosen renewable = absurd cc
  step_back place malloc (p ∷ places) to temps slots asks asked chosen renewable = absurd cc
  step_back place calloc [] to (r ∷ q ∷ []) slots asks asked chosen renewable =
      let same : record { bytes = word_at l r * word_at l q; old = None } ≡ asks = same_Some _ asks asked in
      calloc_told place (node calloc [] to (r ∷ q ∷ []) slots) (word_at l r * word_at l q) refl (malloc_choice m.storage 0 (word_at l r * word_at l q)) (ap (λ (k : Allocation). malloc_choice m.storage (old_word k) k.bytes) same ∙ chosen)
  step_back place calloc [] to [] slots asks asked chosen renewable = absurd cc
  step_back place calloc [] to (r ∷ []) slots asks asked chosen renewable = absurd cc
  step_back place calloc [] to (r ∷ q ∷ o ∷ temps) slots asks asked chosen renewable = absurd cc
  step_back place calloc (p ∷ places) to temps slots asks asked chosen renewable = absurd cc
  step_back place realloc [] to (r ∷ q ∷ []) slots asks asked chosen renewable =
      let same : record { bytes = word_at l q; old = Some (word_at l r) } ≡ asks = same_Some _ asks asked in
      let s = node realloc [] to (r ∷ q ∷ []) slots in
      let w = word_at l r in
      let size = word_at l q in
      let c = malloc_choice m.storage w size in
      ap (told_of place s c) (outside_barrier place s size w c)
      ∙ realloc_told place s size refl (eqb w 0) (is_live_start m.storage w) w c (ap (λ (k : Allocation). malloc_choice m.storage (old_word k) k.bytes) same ∙ chosen) (ap (λ (k : Allocation). is_renewable m.storage (old_word k)) same ∙ renewable)
  step_back place realloc [] to [] slots asks asked chosen renewable = absurd cc
  step_back place realloc [] to (r ∷ []) slots asks asked chosen renewable = absurd cc
  step_back place realloc [] to (r ∷ q ∷ o ∷ temps) slots asks asked chosen renewable = absurd cc
  step_back place realloc (p ∷ places) to temps slots asks asked chosen renewable = absurd cc
  step_back place (load how) places to temps slots asks asked chosen renewable = absurd (none_asked (load how) places temps asks refl asked)
  step_back place (store how) places to temps slots asks asked chosen renewable = absurd (none_asked (store how) places temps asks refl asked)
  step_back place (copy_bytes align same) places to temps slots asks asked chosen renewable = absurd (none_asked (copy_bytes align same) places temps asks refl asked)
  step_back place free places to temps slots asks asked chosen renewable = absurd (none_asked free places temps asks refl asked)
  step_back place (change how ty) places to temps slots asks asked chosen renewable = absurd (none_asked (change how ty) places temps asks refl asked)
  step_back place (compare ty) places to temps slots asks asked chosen renewable = absurd (none_asked (compare ty) places temps asks refl asked)
  step_back place (print pieces) places to temps slots asks asked chosen renewable = absurd (none_asked (print pieces) places temps asks refl asked)
  step_back place lock places to temps slots asks asked chosen renewable = absurd (none_asked lock places temps asks refl asked)
  step_back place unlock places to temps slots asks asked chosen renewable = absurd (none_asked unlock places temps asks refl asked)
  step_back place destroy places to temps slots asks asked chosen renewable = absurd (none_asked destroy places temps asks refl asked)
  step_back place (start function) places to temps slots asks asked chosen renewable = absurd (none_asked (start function) places temps asks refl asked)
  step_back place join places to temps slots asks asked chosen renewable = absurd (none_asked join places temps asks refl asked)

  back : (here : Here) (asks : Allocation) → asked_here l here ≡ Some asks → malloc_choice m.storage (old_word asks) asks.bytes ≡ null → is_renewable m.storage (old_word asks) ≡ true → told_at here (before_here t.callers here) ≡ got_null
  back (does place (step s)) asks asked chosen renewable = step_back place s.action s.places s.to s.temps s.slots asks asked chosen renewable
  back (does place (set to calc)) asks asked chosen renewable = absurd cc
  back (does place (call c)) asks asked chosen renewable = absurd cc
  back (does place (look slot base)) asks asked chosen renewable = absurd cc
  back (does place (safepoint slots)) asks asked chosen renewable = absurd cc
  back (does place (begin_object i)) asks asked chosen renewable = absurd cc
  back (does place (end_object i)) asks asked chosen renewable = absurd cc
  back (tests place temp) asks asked chosen renewable = absurd cc
  back passes asks asked chosen renewable = absurd cc
  back round asks asked chosen renewable = absurd cc
  back (returns temp) asks asked chosen renewable = absurd cc

  -- it is what is told of the thread's step
  told_is : (b : Before) → turned_before x n m (choice_here rule l (x.flow.here t.top.at)) t AtStep b ≡ told_at (x.flow.here t.top.at) b
  told_is stages.safe = refl
  told_is stages.looks = refl
  told_is stages.steps = refl
  told_is (stages.calls function) = refl
  told_is stages.turn_over = refl
  told_is stages.nothing = refl

module _ (code : LinearCode) (s : Shared) (sound : IsSound s.memory.storage.heaps) (idle : s.memory.leaving ≡ None) where
  abbrev x : Image Spot
  x = image_of code s

  -- by the stage and the stop of a context
  record Asks (stage : Option (Stage Spot)) (stop : Option Stop) : Type 0 where
    at_stage : Stage Spot
    is : stage ≡ Some at_stage
    stops : stop ≡ Some AtStep
    wanted : Allocation
    asked : asked_at (image_of code s) at_stage ≡ Some wanted
    above : s.memory.storage.heaps.size < wanted.bytes
    renewable : is_renewable s.memory.storage (old_word wanted) ≡ true

  asks : (n : ℕ) (stage : Option (Stage Spot)) (stop : Option Stop) → turned_of x n s.memory stage stop ≡ got_null → Asks stage stop
  asks n None stop e = absurd cc
  asks n (Some stage) None e = absurd cc
  asks n (Some stage) (Some Spent) e = absurd cc
  asks n (Some stage) (Some NoRoom) e = absurd cc
  asks n (Some stage) (Some AtStep) e =
      let t = thread_at x stage in
      let is = there x n s.memory idle t (x.flow.here t.top.at) (sym (told_is x n s.memory idle t (stages.before x t)) ∙ e) in
      let sized : sized_choice s.memory.storage is.asks.bytes ≡ null = sym (renewable_choice s.memory.storage (old_word is.asks) is.asks.bytes is.renewable) ∙ is.null in
      record { at_stage = stage; is = refl; stops = refl; wanted = is.asks; asked = is.asked; above = (sized_null s.memory.storage sound is.asks.bytes).0 sized; renewable = is.renewable }

  tells : (n : ℕ) (stage : Option (Stage Spot)) (stop : Option Stop) → Asks stage stop → turned_of x n s.memory stage stop ≡ got_null
  tells n stage stop a =
      let t = thread_at x a.at_stage in
      let chosen : malloc_choice s.memory.storage (old_word a.wanted) a.wanted.bytes ≡ null = renewable_choice s.memory.storage (old_word a.wanted) a.wanted.bytes a.renewable ∙ (sized_null s.memory.storage sound a.wanted.bytes).1 a.above in
      let told = told_is x n s.memory idle t (stages.before x t) ∙ back x n s.memory idle t (x.flow.here t.top.at) a.wanted a.asked chosen a.renewable in
      ap (λ o. turned_of x n s.memory o stop) a.is ∙ ap (turned_of x n s.memory (Some a.at_stage)) a.stops ∙ told

pub null_at_act : NullAtAct
null_at_act code s c sound idle = (
  (λ e. let a = asks code s sound idle c.number c.stage c.stop e in record { stage = a.at_stage; is = a.is; stops = a.stops; asks = a.wanted; asked = a.asked; above = a.above; renewable = a.renewable }),
  (λ a. tells code s sound idle c.number c.stage c.stop (record { at_stage = a.stage; is = a.is; stops = a.stops; wanted = a.asks; asked = a.asked; above = a.above; renewable = a.renewable })),
)
