-- An allocation that waits, and what serving it does.
use Rattle.std.proofs.Common.{◌≡◌, ℕ, ◌+◌, ◌*◌, ◌<◌, ◌≤◌, Bool, true, false, eqb, ◌&&◌, cond, List, [], ◌∷◌, ◌++◌, length, map, Option, Some, None, refl, sym, ap, ◌∙◌, subst, length-append, arith}
use Rattle.std.specs.Prelude.{slice_get, is_some}
use Rattle.std.specs.List.{list_all}
use Rattle.std.specs.Option.{ForSome}
use Rattle.std.proofs.lemmas.Bool.{eqb-true, ltb-true}
use Rattle.struct_ir.specs.Nodes.{Action, load, store, copy_bytes, malloc, calloc, realloc, free, change, compare, print, lock, unlock, destroy, start, join, set, call, step, look, safepoint, begin_object, end_object, may_wait, own_list, Place, Step}
use Rattle.struct_ir.specs.Flow.{Here, does, tests, passes, round, returns}
use Rattle.struct_ir.specs.Instrs.{Instr, acts, unless, jump, round_to, leave, LinearCode, instrs_if, instrs_of}
use Rattle.struct_ir.specs.Linear.{Spot, instr_here, linear}
use Rattle.struct_ir.specs.Machine.{Point}
use Rattle.struct_ir.specs.Threads.{Thread}
use Rattle.struct_ir.specs.Valid.{Scope, are_below, is_action, is_own_list, is_place, has_counts, counts_of, is_below_if, is_step}
use Rattle.struct_ir.specs.ValidCode.{code_scope_of, is_instr, is_valid_code}
use Rattle.struct_ir.proofs.ValidCode.{of_all}
use Rattle.flat_rules.specs.Machine as turns
use Rattle.flat_meaning.specs.Accesses as actions
use Rattle.ak_trace.specs.declared.endings.TrapKind.TheVariants as kinds
use Rattle.flat_meaning.specs.Accesses.{Choice, plain, got, null, wait, allocated, zeroed, renewed, reallocated, guarded, with_copy, is_live_start}
use Rattle.flat_meaning.specs.Actions.{acted_on_memory}
use Rattle.flat_meaning.specs.Effects.{serve_effect, landing}
use Rattle.flat_meaning.specs.Image.{Layout, limits_for}
use Rattle.flat_meaning.specs.Memory.{Memory, with_storage, left_by, words_leaving}
use Rattle.flat_meaning.specs.Machine.{served_by}
use Rattle.flat_meaning.specs.Allowed.{list_at}
use Rattle.flat_meaning.specs.Ready as stages
use Rattle.flat_meaning.specs.Ready.{takes_room}
use Rattle.struct_ir.specs.Threads as threads
use Rattle.flat_meaning.specs.Stages.{Stage, starts, going, waiting, landed}
use Rattle.flat_meaning.specs.Words.{Target, Used, Words, none_used, used_with, word_at, target_of}
use Rattle.flat_threads.specs.Belonging.{IsContextOf}
use Rattle.flat_threads.specs.Contexts.{AreCallsOf, Context, IsCallOf, IsListFor, IsStageIf, IsThreadOf, layout_of, own_image, standing}
use Rattle.flat_threads.specs.Deeds.{landed_stage, stepped, top_at, top_of, with_word}
use Rattle.flat_threads.proofs.Listed.{listed_for}
use Rattle.flat_threads.specs.Waits.{action_waits, waits_at, waits_here}
use Rattle.flat_threads.specs.declared.wait.Wait.TheVariants.{Room}
use Rattle.flat_machine.specs.declared.turned.Turned.{Turned}
use Rattle.flat_machine.specs.declared.turned.Turned.TheVariants as code
use Rattle.flat_machine.specs.Choices.{action_choice, choice_here, served_choice}
use Rattle.sub_heaps.specs.SubHeaps.{SubHeaps}
use Rattle.flat_rules.specs.Entries.{served_with}
use Rattle.flat_machine.specs.declared.done.Done.TheVariants as dones
use Rattle.flat_machine.specs.Shares.{Shared, image_of, limits_of}
use Rattle.flat_machine.specs.inner.Dones.{Does, memory_after, with_memory}
use Rattle.flat_machine.specs.Sweeping.{object_got}
use Rattle.flat_machine.specs.Turns.{malloc_turned}
use Rattle.flat_machine.specs.inner.Swept.{IsServed, object_told, serve_now}
use Rattle.flat_machine.specs.inner.Turneds.{turned_view}

-- ---- where a thread waits for room

act_waits : (a : Action) (places : List Target) (words : List ℕ) → action_waits a places words ≡ Some Room → takes_room a ≡ true
act_waits (load how) places words is = absurd cc
act_waits (store how) places words is = absurd cc
act_waits (copy_bytes align same) places words is = absurd cc
act_waits malloc places words is = refl
act_waits calloc places words is = refl
act_waits realloc places words is = refl
act_waits free places words is = absurd cc
act_waits (change how t) places words is = absurd cc
act_waits (compare t) places words is = absurd cc
act_waits (print pieces) places words is = absurd cc
act_waits lock [] words is = absurd cc
act_waits lock (a ∷ []) [] is = absurd cc
act_waits lock (a ∷ []) (w ∷ words) is = absurd cc
act_waits lock (a ∷ b ∷ places) words is = absurd cc
act_waits unlock places words is = absurd cc
act_waits destroy places words is = absurd cc
act_waits (start function) places words is = absurd cc
act_waits join [] words is = absurd cc
act_waits join (a ∷ []) [] is = absurd cc
act_waits join (a ∷ []) (w ∷ []) is = absurd cc
act_waits join (a ∷ []) (w ∷ v ∷ words) is = absurd cc
act_waits join (a ∷ b ∷ places) words is = absurd cc

-- what takes room may wait
pub room_may : (a : Action) → takes_room a ≡ true → may_wait a ≡ true
room_may malloc is = refl
room_may calloc is = refl
room_may realloc is = refl
room_may (load how) is = absurd cc
room_may (store how) is = absurd cc
room_may (copy_bytes align same) is = absurd cc
room_may free is = absurd cc
room_may (change how t) is = absurd cc
room_may (compare t) is = absurd cc
room_may (print pieces) is = absurd cc
room_may lock is = absurd cc
room_may unlock is = absurd cc
room_may destroy is = absurd cc
room_may (start function) is = absurd cc
room_may join is = absurd cc

-- an allocation stands there
pub record IsMalloc (h : Here) : Type 0 where
  pub place : ℕ
  pub node : Step
  pub there : h ≡ does place (step node)
  pub action : takes_room node.action ≡ true

here_waits : (l : Words) (h : Here) → waits_here l h ≡ Some Room → IsMalloc h
here_waits l (does place (step s)) is = record { place = place; node = s; there = refl; action = act_waits s.action (map (target_of l) s.places) (map (word_at l) s.temps) is }
here_waits l (does place (set to calc)) is = absurd cc
here_waits l (does place (call c)) is = absurd cc
here_waits l (does place (look slot base)) is = absurd cc
here_waits l (does place (safepoint slots)) is = absurd cc
here_waits l (does place (begin_object number)) is = absurd cc
here_waits l (does place (end_object number)) is = absurd cc
here_waits l (tests place temp) is = absurd cc
here_waits l passes is = absurd cc
here_waits l round is = absurd cc
here_waits l (returns temp) is = absurd cc

-- the stage is that of a thread which waits at an allocation
pub record IsWaiting (p : LinearCode) (stage : Option (Stage Spot)) : Type 0 where
  pub thread : Thread Spot Words
  pub is : stage ≡ Some (waiting thread)
  pub here : IsMalloc ((own_image p).flow.here thread.top.at)

pub waiting_of : (p : LinearCode) (stage : Option (Stage Spot)) → waits_at (own_image p) stage ≡ Some Room → IsWaiting p stage
waiting_of p None is = absurd cc
waiting_of p (Some (starts function argument)) is = absurd cc
waiting_of p (Some (going t)) is = absurd cc
waiting_of p (Some (waiting t)) is = record { thread = t; is = refl; here = here_waits t.top.own ((own_image p).flow.here t.top.at) is }
waiting_of p (Some (landed list t)) is = absurd cc

-- ---- the instruction there

both : (a b : Bool) → (a && b) ≡ true → (a ≡ true) × (b ≡ true)
both true b is = (refl, is)
both false b is = absurd cc

-- what an allocation has, by its operands: one, or two
pub data Operands : Action → List ℕ → Type 0 where
  of_malloc : (size : ℕ) → Operands malloc (size ∷ [])
  of_calloc : (count size : ℕ) → Operands calloc (count ∷ size ∷ [])
  of_realloc : (word size : ℕ) → Operands realloc (word ∷ size ∷ [])

-- an allocation in a call with so many registers: its operands are below them, and so is its result; it has no places
pub record IsSized (temps : ℕ) (s : Step) : Type 0 where
  pub operands : Operands s.action s.temps
  pub below : are_below temps s.temps ≡ true
  pub to : ForSome s.to (λ r. r < temps)
  pub no_places : s.places ≡ []

malloc_operands : (temps : List ℕ) → length temps ≡ 1 → Operands malloc temps
malloc_operands [] one = absurd (omega arith)
malloc_operands (size ∷ []) one = of_malloc size
malloc_operands (size ∷ u ∷ temps) one = absurd (omega arith)

calloc_operands : (temps : List ℕ) → length temps ≡ 2 → Operands calloc temps
calloc_operands [] two = absurd (omega arith)
calloc_operands (t ∷ []) two = absurd (omega arith)
calloc_operands (count ∷ size ∷ []) two = of_calloc count size
calloc_operands (t ∷ u ∷ v ∷ temps) two = absurd (omega arith)

realloc_operands : (temps : List ℕ) → length temps ≡ 2 → Operands realloc temps
realloc_operands [] two = absurd (omega arith)
realloc_operands (t ∷ []) two = absurd (omega arith)
realloc_operands (word ∷ size ∷ []) two = of_realloc word size
realloc_operands (t ∷ u ∷ v ∷ temps) two = absurd (omega arith)

none_of : {A : Type 0} (xs : List A) → length xs ≡ 0 → xs ≡ []
none_of [] none = refl
none_of (x ∷ xs) none = absurd (omega arith)

to_below : (n : ℕ) (o : Option ℕ) → is_below_if n o ≡ true → ForSome o (λ r. r < n)
to_below n None is = λ r e. absurd cc
to_below n (Some x) is = λ r e. let same : x ≡ r = cc in subst (λ y. y < n) same (ltb-true x n is)

-- the counts of an allocation are those
record HasNoPlace (a : Action) (s : Step) : Type 0 where
  places : length s.places ≡ 0
  operands : Operands a s.temps

counted : (a : Action) (s : Step) → takes_room a ≡ true → has_counts (counts_of a) s ≡ true → HasNoPlace a s
counted malloc s is counts =
    let parts = both (eqb (length s.places) 0) (eqb (length s.temps) 1 && true) counts in
    record { places = eqb-true (length s.places) 0 parts.0; operands = malloc_operands s.temps (eqb-true (length s.temps) 1 (both (eqb (length s.temps) 1) true parts.1).0) }
counted calloc s is counts =
    let parts = both (eqb (length s.places) 0) (eqb (length s.temps) 2 && true) counts in
    record { places = eqb-true (length s.places) 0 parts.0; operands = calloc_operands s.temps (eqb-true (length s.temps) 2 (both (eqb (length s.temps) 2) true parts.1).0) }
counted realloc s is counts =
    let parts = both (eqb (length s.places) 0) (eqb (length s.temps) 2 && true) counts in
    record { places = eqb-true (length s.places) 0 parts.0; operands = realloc_operands s.temps (eqb-true (length s.temps) 2 (both (eqb (length s.temps) 2) true parts.1).0) }
counted (load how) s is counts = absurd cc
counted (store how) s is counts = absurd cc
counted (copy_bytes align same) s is counts = absurd cc
counted free s is counts = absurd cc
counted (change how t) s is counts = absurd cc
counted (compare t) s is counts = absurd cc
counted (print pieces) s is counts = absurd cc
counted lock s is counts = absurd cc
counted unlock s is counts = absurd cc
counted destroy s is counts = absurd cc
counted (start function) s is counts = absurd cc
counted join s is counts = absurd cc

pub sized : (x : Scope) (s : Step) → takes_room s.action ≡ true → is_step x s ≡ true → IsSized x.temps s
sized x s is valid =
    let p = list_all (is_place x) s.places in
    let b = are_below x.temps s.temps in
    let t = is_below_if x.temps s.to in
    let d = has_counts (counts_of s.action) s in
    let e = is_action x s.action && is_own_list x s.action s.slots in
    let halves = both (p && (b && t)) (d && e) valid in
    let first = both b t (both p (b && t) halves.0).1 in
    let counts = counted s.action s is (both d e halves.1).0 in
    record { operands = counts.operands; below = first.0; to = to_below x.temps s.to first.1; no_places = none_of s.places counts.places }

-- the instruction at an allocation, and what it has
pub record IsAt (p : LinearCode) (t : Thread Spot Words) (i : Instr) : Type 0 where
  pub place : ℕ
  pub node : Step
  pub is : i ≡ acts place (step node)
  pub action : takes_room node.action ≡ true
  pub has : IsSized (length t.top.own.temps) node
  pub scope : Scope
  pub valid : is_step scope node ≡ true
  pub temps : length t.top.own.temps ≡ scope.temps
  pub slots : length t.top.own.slots ≡ scope.slots

instr_is : (i : Instr) → IsMalloc (instr_here (Some i)) → (place : ℕ) × (node : Step) × (i ≡ acts place (step node)) × (takes_room node.action ≡ true)
instr_is (acts place (step s)) m = let same : s ≡ m.node = cc in (place, s, refl, ap (λ (n : Step). takes_room n.action) same ∙ m.action)
instr_is (acts place (set to calc)) m = absurd (let w = m.there in cc)
instr_is (acts place (call c)) m = absurd (let w = m.there in cc)
instr_is (acts place (look slot base)) m = absurd (let w = m.there in cc)
instr_is (acts place (safepoint slots)) m = absurd (let w = m.there in cc)
instr_is (acts place (begin_object number)) m = absurd (let w = m.there in cc)
instr_is (acts place (end_object number)) m = absurd (let w = m.there in cc)
instr_is (unless place temp to) m = absurd (let w = m.there in cc)
instr_is (jump place to) m = absurd (let w = m.there in cc)
instr_is (round_to place to) m = absurd (let w = m.there in cc)
instr_is (leave place temp) m = absurd (let w = m.there in cc)

pub malloc_at : (p : LinearCode) (t : Thread Spot Words) (i : Instr) (below : Used) → is_valid_code p ≡ true → IsCallOf p below t.top → IsMalloc ((own_image p).flow.here t.top.at) → slice_get (instrs_of p.funcs t.top.at.function) t.top.at.index ≡ Some i → IsAt p t i
malloc_at p t i below valid of_call m at =
    let f = of_call.function in
    let is = instr_is i (subst (λ o. IsMalloc (instr_here o)) at m) in
    let inside : slice_get f.instrs t.top.at.index ≡ Some i = ap (λ o. slice_get (instrs_if o) t.top.at.index) (sym of_call.there) ∙ at in
    let all = of_all (λ g. list_all (is_instr (code_scope_of p g)) g.instrs) p.funcs t.top.at.function f valid of_call.there in
    let one = of_all (is_instr (code_scope_of p f)) f.instrs t.top.at.index i all inside in
    let step_valid : is_step (code_scope_of p f) is.1 ≡ true = subst (λ j. is_instr (code_scope_of p f) j ≡ true) is.2 one in
    record { place = is.0; node = is.1; is = is.2; action = is.3; has = subst (λ n. IsSized n is.1) (sym of_call.temps) (sized (code_scope_of p f) is.1 is.3 step_valid); scope = code_scope_of p f; valid = step_valid; temps = of_call.temps; slots = of_call.slots }

first_call : (p : LinearCode) (x : Layout) (q : Point Spot Words) (callers : List (Point Spot Words)) → AreCallsOf p x (q ∷ callers) → (below : Used) × IsCallOf p below q
first_call p x q [] calls = (none_used, calls)
first_call p x q (c ∷ callers) calls = (used_with x c.own, calls.0)

-- a context waits for room before this instruction
pub record IsBefore (p : LinearCode) (c : Context) (i : Instr) : Type 0 where
  pub thread : Thread Spot Words
  pub is : c.stage ≡ Some (waiting thread)
  pub top : top_of c ≡ thread.top
  pub there : slice_get (instrs_of p.funcs thread.top.at.function) thread.top.at.index ≡ Some i
  pub at : IsAt p thread i

pub before_malloc : (p : LinearCode) (c : Context) (i : Instr) → IsContextOf p c → c.wait ≡ Some Room → slice_get (instrs_of p.funcs (top_of c).at.function) (top_of c).at.index ≡ Some i → IsBefore p c i
before_malloc p c i of_ waits at =
    let w = waiting_of p c.stage (sym of_.wait ∙ waits) in
    let top : top_of c ≡ w.thread.top = ap top_at w.is in
    let there = subst (λ (q : Point Spot Words). slice_get (instrs_of p.funcs q.at.function) q.at.index ≡ Some i) top at in
    let calls : IsThreadOf p w.thread = subst (IsStageIf p) w.is of_.stage in
    let call = first_call p (layout_of p) w.thread.top w.thread.callers calls in
    record { thread = w.thread; is = w.is; top = top; there = there; at = malloc_at p w.thread i call.0 of_.program.valid call.1 w.here there }

-- its list names slots of the call
pub list_before : (p : LinearCode) (c : Context) (i : Instr) → IsContextOf p c → (b : IsBefore p c i) → IsListFor (top_of c).own b.at.node.slots
list_before p c i of_ b =
    let calls : IsThreadOf p b.thread = subst (IsStageIf p) b.is of_.stage in
    let call = first_call p (layout_of p) b.thread.top b.thread.callers calls in
    let here : (linear p.funcs).here b.thread.top.at ≡ does b.at.place (step b.at.node) = ap instr_here (b.there ∙ ap Some b.at.is) in
    let list : list_at ((linear p.funcs).here b.thread.top.at) ≡ Some b.at.node.slots = ap list_at here ∙ ap (λ (may : Bool). cond may (Some b.at.node.slots) None) (room_may b.at.node.action b.at.action) in
    subst (λ (q : Point Spot Words). IsListFor q.own b.at.node.slots) (sym b.top) (listed_for p of_.program call.0 b.thread.top call.1 b.at.node.slots list)

-- ---- what serving it does

-- the thread behind it
served_word : (l : Words) (to word : Option ℕ) (m : Memory) → served_by l to (actions.went word m) ≡ threads.serves (with_word l to word) m
served_word l to None m = refl
served_word l to (Some word) m = refl

landing_none : (p : LinearCode) (list : Option (List ℕ)) (q : Thread Spot Words) → waits_at (own_image p) (Some (landing list q)) ≡ None
landing_none p None q = refl
landing_none p (Some list) q = refl

module _ (p : LinearCode) (s : Shared) (t : Thread Spot Words) (k place : ℕ) (node : Step) (at : slice_get (instrs_of p.funcs t.top.at.function) t.top.at.index ≡ Some (acts place (step node))) where
  pub serve_is : (m after : Memory) (choice : Choice) (word : Option ℕ) → acted_on_memory (image_of p s).layout k choice node.action (map (target_of t.top.own) node.places) (map (word_at t.top.own) node.temps) m ≡ actions.went word after
      → serve_effect (image_of p s) k choice (waiting t) m ≡ record { memory = after; stage = Some (stepped node t word); end = None }
  serve_is m after choice word done = rw (at, done, served_word t.top.own node.to word after, at) refl

  pub choice_is : (rule : (word size : ℕ) → Choice) → choice_here rule t.top.own ((image_of p s).flow.here t.top.at) ≡ action_choice rule t.top.own node.action node.temps
  choice_is rule = rw at refl

  pub wants_is : takes_room node.action ≡ true → stages.wants_room (own_image p) (waiting t) ≡ true
  wants_is is = rw at is

  -- behind it a thread waits for nothing
  pub behind_waits : (word : Option ℕ) → waits_at (own_image p) (Some (stepped node t word)) ≡ None
  behind_waits word = landing_none p (own_list node) _

-- ---- what it leaves

-- threads and the shape of the sub-heaps are as they were
pub record KeepsShape (m after : Memory) : Type 0 where
  pub threads : after.threads ≡ m.threads
  pub count : after.storage.heaps.count ≡ m.storage.heaps.count
  pub size : after.storage.heaps.size ≡ m.storage.heaps.size
  pub most : after.storage.heaps.most ≡ m.storage.heaps.most

abbrev memory_of : Memory → actions.Done → Memory
memory_of m (actions.went word after) = after
memory_of m actions.waits = m
memory_of m actions.unfit = m
memory_of m (actions.over f) = m

kept : (m : Memory) → KeepsShape m m
kept m = record { threads = refl; count = refl; size = refl; most = refl }

allocated_keeps : (choice : Choice) (size : ℕ) (m : Memory) → KeepsShape m (memory_of m (allocated choice size m))
allocated_keeps plain size m = kept m
allocated_keeps (got id place) size m = record { threads = refl; count = refl; size = refl; most = refl }
allocated_keeps null size m = kept m
allocated_keeps wait size m = kept m

zeroed_keeps : (choice : Choice) (size : ℕ) (m : Memory) → KeepsShape m (memory_of m (zeroed choice size m))
zeroed_keeps plain size m = kept m
zeroed_keeps (got id place) size m = record { threads = refl; count = refl; size = refl; most = refl }
zeroed_keeps null size m = kept m
zeroed_keeps wait size m = kept m

left_keeps : (leaving : Option (List ℕ)) (word : ℕ) (m after : Memory) → KeepsShape m after → KeepsShape m (left_by leaving word after)
left_keeps None word m after k = record { threads = k.threads; count = k.count; size = k.size; most = k.most }
left_keeps (Some words) word m after k = record { threads = k.threads; count = k.count; size = k.size; most = k.most }

either_keeps : (b : Bool) (m x y : Memory) → KeepsShape m x → KeepsShape m y → KeepsShape m (cond b x y)
either_keeps true m x y h k = h
either_keeps false m x y h k = k

renewed_keeps : (choice : Choice) (word size : ℕ) (m : Memory) → KeepsShape m (memory_of m (renewed choice word size m))
renewed_keeps plain word size m = kept m
renewed_keeps (got id place) word size m =
    let new : Memory = with_storage m (with_copy m.storage id place word size) in
    let same : KeepsShape m new = record { threads = refl; count = refl; size = refl; most = refl } in
    either_keeps (is_live_start m.storage word) m (left_by m.leaving word new) new (left_keeps m.leaving word m new same) same
renewed_keeps null word size m = kept m
renewed_keeps wait word size m = kept m

either_done : (b : Bool) (m : Memory) (d e : actions.Done) → KeepsShape m (memory_of m d) → KeepsShape m (memory_of m e) → KeepsShape m (memory_of m (cond b d e))
either_done true m d e h k = h
either_done false m d e h k = k

guarded_keeps : (leaving : Option (List ℕ)) (word : ℕ) (m : Memory) (d : actions.Done) → KeepsShape m (memory_of m d) → KeepsShape m (memory_of m (guarded leaving word m.storage d))
guarded_keeps None word m d h = either_done (is_live_start m.storage word) m d (actions.over (actions.trap word kinds.Free)) h (kept m)
guarded_keeps (Some words) word m d h = h

reallocated_keeps : (choice : Choice) (word size : ℕ) (m : Memory) → KeepsShape m (memory_of m (reallocated choice word size m))
reallocated_keeps choice word size m =
    either_done (eqb word 0) m (allocated choice size m) (guarded m.leaving word m.storage (renewed choice word size m)) (allocated_keeps choice size m)
    (guarded_keeps m.leaving word m (renewed choice word size m) (renewed_keeps choice word size m))

keeps_by : (x : Layout) (k : ℕ) (choice : Choice) (l : Words) (a : Action) (temps : List ℕ) → Operands a temps → (m : Memory) → KeepsShape m (memory_of m (acted_on_memory x k choice a [] (map (word_at l) temps) m))
keeps_by x k choice l _ _ (of_malloc size) m = allocated_keeps choice (word_at l size) m
keeps_by x k choice l _ _ (of_calloc count size) m = zeroed_keeps choice (word_at l count * word_at l size) m
keeps_by x k choice l _ _ (of_realloc word size) m = reallocated_keeps choice (word_at l word) (word_at l size) m

pub keeps : (x : Layout) (k : ℕ) (choice : Choice) (l : Words) (temps : ℕ) (s : Step) → IsSized temps s → (m after : Memory) (word : Option ℕ) → acted_on_memory x k choice s.action (map (target_of l) s.places) (map (word_at l) s.temps) m ≡ actions.went word after → KeepsShape m after
keeps x k choice l temps s h m after word is =
    let none : acted_on_memory x k choice s.action [] (map (word_at l) s.temps) m ≡ actions.went word after = ap (λ (places : List Place). acted_on_memory x k choice s.action (map (target_of l) places) (map (word_at l) s.temps) m) (sym h.no_places) ∙ is in
    subst (KeepsShape m) (ap (memory_of m) none) (keeps_by x k choice l s.action s.temps h.operands m)

-- ---- words that leave

-- a barrier serves, and there is at most one more than there were
pub record LeavesOne (m after : Memory) : Type 0 where
  pub serves : is_some m.leaving ≡ true → is_some after.leaving ≡ true
  pub few : length (words_leaving after.leaving) ≤ length (words_leaving m.leaving) + 1

no_more : (m : Memory) → LeavesOne m m
no_more m = record { serves = λ e. e; few = omega arith }

same_leaving : (m after : Memory) → after.leaving ≡ m.leaving → LeavesOne m after
same_leaving m after e = record { serves = λ some. ap is_some e ∙ some; few = omega (arith, ap (λ (words : Option (List ℕ)). length (words_leaving words)) e) }

allocated_leaves : (choice : Choice) (size : ℕ) (m : Memory) → LeavesOne m (memory_of m (allocated choice size m))
allocated_leaves plain size m = no_more m
allocated_leaves (got id place) size m = same_leaving m _ refl
allocated_leaves null size m = no_more m
allocated_leaves wait size m = no_more m

zeroed_leaves : (choice : Choice) (size : ℕ) (m : Memory) → LeavesOne m (memory_of m (zeroed choice size m))
zeroed_leaves plain size m = no_more m
zeroed_leaves (got id place) size m = same_leaving m _ refl
zeroed_leaves null size m = no_more m
zeroed_leaves wait size m = no_more m

left_leaves : (leaving : Option (List ℕ)) (word : ℕ) (m after : Memory) → m.leaving ≡ leaving → after.leaving ≡ leaving → LeavesOne m (left_by leaving word after)
left_leaves None word m after e is = record { serves = λ some. ap is_some (is ∙ sym e) ∙ some; few = omega (arith, ap (λ (words : Option (List ℕ)). length (words_leaving words)) (is ∙ sym e)) }
left_leaves (Some words) word m after e is = record { serves = λ some. refl; few = omega (arith, length-append words (word ∷ []), ap (λ (words : Option (List ℕ)). length (words_leaving words)) e) }

either_leaves : (b : Bool) (m x y : Memory) → LeavesOne m x → LeavesOne m y → LeavesOne m (cond b x y)
either_leaves true m x y h k = h
either_leaves false m x y h k = k

renewed_leaves : (choice : Choice) (word size : ℕ) (m : Memory) → LeavesOne m (memory_of m (renewed choice word size m))
renewed_leaves plain word size m = no_more m
renewed_leaves (got id place) word size m =
    let new : Memory = with_storage m (with_copy m.storage id place word size) in
    either_leaves (is_live_start m.storage word) m (left_by m.leaving word new) new (left_leaves m.leaving word m new refl refl) (same_leaving m new refl)
renewed_leaves null word size m = no_more m
renewed_leaves wait word size m = no_more m

either_left : (b : Bool) (m : Memory) (d e : actions.Done) → LeavesOne m (memory_of m d) → LeavesOne m (memory_of m e) → LeavesOne m (memory_of m (cond b d e))
either_left true m d e h k = h
either_left false m d e h k = k

guarded_leaves : (leaving : Option (List ℕ)) (word : ℕ) (m : Memory) (d : actions.Done) → LeavesOne m (memory_of m d) → LeavesOne m (memory_of m (guarded leaving word m.storage d))
guarded_leaves None word m d h = either_left (is_live_start m.storage word) m d (actions.over (actions.trap word kinds.Free)) h (no_more m)
guarded_leaves (Some words) word m d h = h

leaves_by : (x : Layout) (k : ℕ) (choice : Choice) (l : Words) (a : Action) (temps : List ℕ) → Operands a temps → (m : Memory) → LeavesOne m (memory_of m (acted_on_memory x k choice a [] (map (word_at l) temps) m))
leaves_by x k choice l _ _ (of_malloc size) m = allocated_leaves choice (word_at l size) m
leaves_by x k choice l _ _ (of_calloc count size) m = zeroed_leaves choice (word_at l count * word_at l size) m
leaves_by x k choice l _ _ (of_realloc word size) m =
    let w = word_at l word in
    let n = word_at l size in
    either_left (eqb w 0) m (allocated choice n m) (guarded m.leaving w m.storage (renewed choice w n m)) (allocated_leaves choice n m) (guarded_leaves m.leaving w m (renewed choice w n m) (renewed_leaves choice w n m))

pub leaves : (x : Layout) (k : ℕ) (choice : Choice) (l : Words) (temps : ℕ) (s : Step) → IsSized temps s → (m after : Memory) (word : Option ℕ) → acted_on_memory x k choice s.action (map (target_of l) s.places) (map (word_at l) s.temps) m ≡ actions.went word after → LeavesOne m after
leaves x k choice l temps s h m after word is =
    let none : acted_on_memory x k choice s.action [] (map (word_at l) s.temps) m ≡ actions.went word after = ap (λ (places : List Place). acted_on_memory x k choice s.action (map (target_of l) places) (map (word_at l) s.temps) m) (sym h.no_places) ∙ is in
    subst (LeavesOne m) (ap (memory_of m) none) (leaves_by x k choice l s.action s.temps h.operands m)

-- ---- what is told

abbrev object_in : turns.Turned → Option (ℕ × ℕ)
object_in (turns.got id place) = Some (id, place)
object_in turned = None

told_in : (turned : Turned) → object_told turned ≡ object_in (turned_view turned)
told_in code.Looked = refl
told_in code.Stepped = refl
told_in (code.Got id place) = refl
told_in code.GotNull = refl
told_in (code.MadeThread number) = refl
told_in code.RefusedThread = refl
told_in code.FoundBusy = refl
told_in code.WantsRoom = refl
told_in code.Rested = refl
told_in (code.Ended value) = refl
told_in (code.Trapped word kind) = refl
told_in code.PassedLimit = refl
told_in code.LackedStack = refl

got_in : (choice : Choice) → object_in (malloc_turned choice) ≡ object_got choice
got_in plain = refl
got_in (got id place) = refl
got_in null = refl
got_in wait = refl

pub told_object : (turned : Turned) (choice : Choice) → turned_view turned ≡ malloc_turned choice → object_told turned ≡ object_got choice
told_object turned choice is = told_in turned ∙ ap object_in is ∙ got_in choice

-- ---- a served allocation

limits_same : (o : ℕ) (h k : SubHeaps) → k.count ≡ h.count → k.size ≡ h.size → k.most ≡ h.most → limits_for o k.count k.size k.most ≡ limits_for o h.count h.size h.most
limits_same o h k count size most = ap (λ n. limits_for o n k.size k.most) count ∙ ap (λ n. limits_for o h.count n k.most) size ∙ ap (limits_for o h.count h.size) most

module _ (p : LinearCode) (old mid new : Shared) (c d : Context) (i : Instr) (b : IsBefore p c i) (word : Option ℕ) (turned : Turned) where
  abbrev node : Step
  node = b.at.node

  abbrev own : Words
  own = b.thread.top.own

  abbrev choice : Choice
  choice = action_choice (served_choice old.memory.storage) own node.action node.temps

  abbrev done_by : Memory → actions.Done
  done_by m = acted_on_memory (image_of p old).layout c.number choice node.action (map (target_of own) node.places) (map (word_at own) node.temps) m

  pub served_is : Does old mid (dones.Went word turned) (done_by old.memory) → turned_view turned ≡ malloc_turned choice → d ≡ standing c (landed_stage node c.stage word) None
      → new ≡ record mid { made = mid.made ++ served_with 0 c.number (object_told turned) ∷ [] } → IsServed p old new c d
  served_is did told context shared =
      let done : done_by old.memory ≡ actions.went word mid.memory = sym did.done_ in
      let left : mid ≡ with_memory old mid.memory = did.left ∙ ap (λ a. with_memory old (memory_after old.memory a)) done in
      let shape = keeps (image_of p old).layout c.number choice own (length own.temps) node b.at.has old.memory mid.memory word done in
      let leaving = leaves (image_of p old).layout c.number choice own (length own.temps) node b.at.has old.memory mid.memory word done in
      let at : slice_get (instrs_of p.funcs b.thread.top.at.function) b.thread.top.at.index ≡ Some (acts b.at.place (step node)) = b.there ∙ ap Some b.at.is in
      let memory : new.memory ≡ mid.memory = ap (λ (v : Shared). v.memory) shared in
      let chosen : (serve_now p old c.number (waiting b.thread)).choice ≡ choice = choice_is p old b.thread c.number b.at.place node at (served_choice old.memory.storage) in
      let behind : Stage Spot = stepped node b.thread word in
      let stood : landed_stage node c.stage word ≡ Some behind = ap (λ o. landed_stage node o word) b.is in
      record {
        stage = waiting b.thread;
        is = b.is;
        wants = wants_is p old b.thread c.number b.at.place node at b.at.action;
        behind = behind;
        effect =
            ap (λ v. serve_effect (image_of p old) c.number v (waiting b.thread) old.memory) chosen
            ∙ serve_is p old b.thread c.number b.at.place node at old.memory mid.memory choice word done
            ∙ ap (λ m. record { memory = m; stage = Some behind; end = None }) (sym memory);
        context = context ∙ ap (λ o. standing c o None) stood ∙ ap (standing c (Some behind)) (sym (behind_waits p old b.thread c.number b.at.place node at word));
        serves = λ some. ap (λ (m : Memory). is_some m.leaving) memory ∙ leaving.serves some;
        leaving = omega (arith, leaving.few, ap (λ (m : Memory). length (words_leaving m.leaving)) memory);
        threads = ap (λ (m : Memory). m.threads) memory ∙ shape.threads;
        limits = ap limits_of shared ∙ ap limits_of left ∙ limits_same old.output_limit old.memory.storage.heaps mid.memory.storage.heaps shape.count shape.size shape.most;
        shared =
            shared
            ∙ ap (λ (v : Shared). record v { made = v.made ++ served_with 0 c.number (object_told turned) ∷ [] }) left
            ∙ ap (λ m. record old { memory = m; made = old.made ++ served_with 0 c.number (object_told turned) ∷ [] }) (sym memory)
            ∙ ap (λ o. record old { memory = new.memory; made = old.made ++ served_with 0 c.number o ∷ [] }) (told_object turned choice told ∙ ap object_got (sym chosen));
      }
