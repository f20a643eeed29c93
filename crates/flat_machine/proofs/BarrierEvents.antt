-- What barrier does is what an event does, which may come: what is pinned isn't moved, and each allocation that waits gets what is allowed.
use Rattle.std.proofs.Common.{◌≡◌, ℕ, zero, suc, ◌+◌, ◌*◌, ◌<◌, ◌≤◌, ◌⊎◌, Bool, true, false, List, [], ◌∷◌, ◌++◌, length, map, get_or, set, Option, Some, None, refl, sym, ap, ◌∙◌, subst, arith, inl, inr}
use Rattle.std.specs.Prelude.{All, is_some, nat_le, slice_get}
use Rattle.std.specs.List.{range_with_len}
use Rattle.std.proofs.lemmas.Bool.Decides.{leb_tells}
use Rattle.std.proofs.lemmas.List.{append-nil, drop_all, length-set}
use Rattle.block_store.specs.Runs.{own_at}
use Rattle.sub_heaps.specs.SubHeaps.{SubHeaps, IsSound}
use Rattle.sub_heaps.specs.Moving.{AreLegal}
use Rattle.move_plan.proofs.Slides.{IsSlide-slide_moves}
use Rattle.move_plan.proofs.Slid as lower
use Rattle.struct_ir.specs.Instrs.{Instr, acts, LinearCode, instrs_of}
use Rattle.struct_ir.specs.Linear.{Spot}
use Rattle.struct_ir.specs.Machine.{Point}
use Rattle.struct_ir.specs.Nodes.{Action, Place, Step, step}
use Rattle.struct_ir.specs.Threads.{Thread}
use Rattle.flat_meaning.specs.Allocations.{Allocation}
use Rattle.flat_meaning.specs.Accesses as actions
use Rattle.flat_meaning.specs.Actions.{acted_on_memory}
use Rattle.flat_meaning.specs.Allowed.{AllStand, MayServe, MayServeAll, pinned}
use Rattle.flat_meaning.specs.Allowed as stages
use Rattle.flat_meaning.specs.Ready as readiness
use Rattle.flat_meaning.specs.Ready.{takes_room}
use Rattle.flat_meaning.specs.Effects.{serve_effect}
use Rattle.flat_meaning.specs.Events.{MachineState, Serve, after_serve, after_serves, moved_state, serving_state, new_stages, put, put_if, stage_made}
use Rattle.flat_meaning.specs.Image.{Image}
use Rattle.flat_meaning.specs.Memory.{Made, Memory, beginning}
use Rattle.flat_meaning.specs.Stages.{Stage, starts, waiting}
use Rattle.flat_meaning.specs.Words.{Words, target_of, word_at}
use Rattle.flat_rules.specs.Lawful.{AreHome, IsHomeAt, IsOfRun}
use Rattle.flat_threads.specs.Belonging.{IsContextOf}
use Rattle.flat_threads.specs.Contexts.{Context, own_image}
use Rattle.flat_threads.specs.Deeds.{stepped, top_at}
use Rattle.flat_threads.specs.declared.wait.Wait.TheVariants.{Room}
use Rattle.flat_machine.specs.Choices.{action_choice, served_choice}
use Rattle.flat_machine.specs.Laws.{BarrierIsItsEvent}
use Rattle.flat_machine.specs.Machine.{machine_of, stands_of}
use Rattle.flat_machine.specs.Nulls.{asked_at, asked_by, old_word}
use Rattle.flat_machine.specs.Shares.{Shared, image_of}
use Rattle.flat_machine.specs.Sweeping.{at_home, context_at, home_at, if_wants, place_at, serve_of, serves_from, serves_if, stage_home, stage_or, stages_home, sweep_moves, sweep_serves, swept_state, waits_at_home}
use Rattle.flat_machine.proofs.Allowed.{given_may, served_goes, served_may}
use Rattle.flat_machine.specs.lemmas.Homes.{after_serves-append, each_here, length-stages_home, none_served, own_at_set, own_at_set-later, place_is, wants_same}
use Rattle.flat_machine.proofs.Slid.{slide_is}
use Rattle.flat_machine.specs.lemmas.Serving.{gives, instr_there, room_waits}
use Rattle.flat_machine.specs.lemmas.Waiting.{IsBefore, IsSized, Operands, of_malloc, of_calloc, of_realloc, before_malloc, choice_is, keeps, leaves, serve_is, waiting_of, wants_is}

-- ---- stages by number

module _ {A : Type 0} where
  own_at_past : (own : List (Option A)) (k : ℕ) → length own ≤ k → own_at own k ≡ None
  own_at_past [] k le = refl
  own_at_past (x ∷ own) zero le = absurd (omega arith)
  own_at_past (x ∷ own) (suc k) le = own_at_past own k (omega arith)

  own_at_set-earlier : (own : List (Option A)) (n k : ℕ) (v : Option A) → k < n → own_at (set own n v) k ≡ own_at own k
  own_at_set-earlier [] n k v below = refl
  own_at_set-earlier (x ∷ own) zero k v below = absurd (omega arith)
  own_at_set-earlier (x ∷ own) (suc n) zero v below = refl
  own_at_set-earlier (x ∷ own) (suc n) (suc k) v below = own_at_set-earlier own n k v (omega arith)

  -- lists of one length that agree everywhere
  same_stages : (os ps : List (Option A)) → length os ≡ length ps → ((k : ℕ) → k < length os → own_at os k ≡ own_at ps k) → os ≡ ps
  same_stages [] [] long each = refl
  same_stages [] (p ∷ ps) long each = absurd (omega (arith, long))
  same_stages (o ∷ os) [] long each = absurd (omega (arith, long))
  same_stages (o ∷ os) (p ∷ ps) long each = ap (λ (q : Option A). q ∷ os) (each 0 (omega arith)) ∙ ap (λ (qs : List (Option A)). p ∷ qs) (same_stages os ps (omega (arith, long)) (λ k below. each (suc k) (omega (arith, below))))

pub no_made : Made
no_made = beginning 0 0

own_home : (ts : List Made) (home : List (Option Context)) (k : ℕ) → k < length ts → k < length home → own_at (stages_home ts home) k ≡ stage_home (get_or ts k no_made) (get_or home k None)
own_home [] home k below within = absurd (omega arith)
own_home (t ∷ ts) [] k below within = absurd (omega arith)
own_home (t ∷ ts) (c ∷ home) zero below within = refl
own_home (t ∷ ts) (c ∷ home) (suc k) below within = own_home ts home k (omega arith) (omega arith)

home_place : (code : LinearCode) (own : List (Option (Stage Spot))) (home : List (Option Context)) (k : ℕ) → k < length own → k < length home → get_or (home_at code own home) k None ≡ place_at code (get_or home k None) (own_at own k)
home_place code [] home k below within = absurd (omega arith)
home_place code (o ∷ own) [] k below within = absurd (omega arith)
home_place code (o ∷ own) (c ∷ home) zero below within = refl
home_place code (o ∷ own) (c ∷ home) (suc k) below within = home_place code own home k (omega arith) (omega arith)

length-home_at : (code : LinearCode) (own : List (Option (Stage Spot))) (home : List (Option Context)) → length (home_at code own home) ≡ length home
length-home_at code own [] = refl
length-home_at code [] (c ∷ home) = refl
length-home_at code (o ∷ own) (c ∷ home) = ap suc (length-home_at code own home)

-- ---- what an allocation asks for

abbrev pub asks_of : {a : Action} {temps : List ℕ} → Words → Operands a temps → Allocation
asks_of l (of_malloc size) = record { bytes = word_at l size; old = None }
asks_of l (of_calloc count size) = record { bytes = word_at l count * word_at l size; old = None }
asks_of l (of_realloc word size) = record { bytes = word_at l size; old = Some (word_at l word) }

asked_there : {a : Action} {temps : List ℕ} → (l : Words) (o : Operands a temps) → asked_by l a [] temps ≡ Some (asks_of l o)
asked_there l (of_malloc size) = refl
asked_there l (of_calloc count size) = refl
asked_there l (of_realloc word size) = refl

chosen_there : {a : Action} {temps : List ℕ} → (rule : (word size : ℕ) → actions.Choice) (l : Words) (o : Operands a temps) → let asks = asks_of l o in action_choice rule l a temps ≡ rule (old_word asks) asks.bytes
chosen_there rule l (of_malloc size) = refl
chosen_there rule l (of_calloc count size) = refl
chosen_there rule l (of_realloc word size) = refl

-- ---- one serve after the other

may_serve_all : (x : Image Spot) (vs ws : List Serve) (s : MachineState Spot) → MayServeAll x vs s → MayServeAll x ws (after_serves x vs s) → MayServeAll x (vs ++ ws) s
may_serve_all x [] ws s first rest = rest
may_serve_all x (v ∷ vs) ws s first rest = (first.0, may_serve_all x vs ws (after_serve x s v) first.1 rest)

module _ (code : LinearCode) where
  -- the turn of a context that waits for room
  pub record Served (s : Shared) (st : MachineState Spot) (n : ℕ) (c : Context) : Type 0 where
    pub thread : Thread Spot Words
    pub is : c.stage ≡ Some (waiting thread)
    pub node : Step
    pub has : IsSized (length thread.top.own.temps) node
    pub asked : asked_at (image_of code s) (waiting thread) ≡ Some (asks_of thread.top.own has.operands)
    pub chosen : let asks = asks_of thread.top.own has.operands in (serve_of (image_of code s) st n (waiting thread)).choice ≡ served_choice st.memory.storage (old_word asks) asks.bytes
    pub wants : readiness.wants_room (own_image code) (waiting thread) ≡ true
    pub goes : (serve_of (image_of code s) st n (waiting thread)).choice ≡ actions.wait → ⊥
    pub after : Memory
    pub word : Option ℕ
    pub done : acted_on_memory (image_of code s).layout n (action_choice (served_choice st.memory.storage) thread.top.own node.action node.temps) node.action (map (target_of thread.top.own) node.places) (map (word_at thread.top.own) node.temps) st.memory ≡ actions.went word after
    pub behind : Stage Spot
    pub effect : serve_effect (image_of code s) n (serve_of (image_of code s) st n (waiting thread)).choice (waiting thread) st.memory ≡ record { memory = after; stage = Some behind; end = None }
    pub threads : after.threads ≡ st.memory.threads
    pub serves : is_some after.leaving ≡ true

  asked_is : (s : Shared) (t : Thread Spot Words) (place : ℕ) (node : Step) → slice_get (instrs_of code.funcs t.top.at.function) t.top.at.index ≡ Some (acts place (step node)) → (h : IsSized (length t.top.own.temps) node) → asked_at (image_of code s) (waiting t) ≡ Some (asks_of t.top.own h.operands)
  asked_is s t place node at h =
      let here : asked_at (image_of code s) (waiting t) ≡ asked_by t.top.own node.action node.places node.temps = rw at refl in
      here ∙ ap (λ (places : List Place). asked_by t.top.own node.action places node.temps) h.no_places ∙ asked_there t.top.own h.operands

  served_at : (s : Shared) (st : MachineState Spot) (n : ℕ) (c : Context) → is_some st.memory.leaving ≡ true → (t : Thread Spot Words) → c.stage ≡ Some (waiting t) → (place : ℕ) (node : Step)
      → slice_get (instrs_of code.funcs t.top.at.function) t.top.at.index ≡ Some (acts place (step node)) → takes_room node.action ≡ true → IsSized (length t.top.own.temps) node → Served s st n c
  served_at s st n c some t is place node at takes has =
      let m = st.memory in
      let x = image_of code s in
      let l = t.top.own in
      let asks = asks_of l has.operands in
      let choice = action_choice (served_choice m.storage) l node.action node.temps in
      let given = gives x.layout n l (length l.temps) node has m some in
      let asked_for : choice ≡ served_choice m.storage (old_word asks) asks.bytes = chosen_there (served_choice m.storage) l has.operands in
      let chosen : (serve_of x st n (waiting t)).choice ≡ choice = choice_is code s t n place node at (served_choice m.storage) in
      record {
        thread = t;
        is = is;
        node = node;
        has = has;
        asked = asked_is s t place node at has;
        chosen = chosen ∙ asked_for;
        wants = wants_is code s t n place node at takes;
        goes = λ e. served_goes m.storage (old_word asks) asks.bytes (sym (chosen ∙ asked_for) ∙ e);
        after = given.after;
        word = given.word;
        done = given.is;
        behind = stepped node t given.word;
        effect = ap (λ v. serve_effect x n v (waiting t) m) chosen ∙ serve_is code s t n place node at m given.after choice given.word given.is;
        threads = (keeps x.layout n choice l (length l.temps) node has m given.after given.word given.is).threads;
        serves = (leaves x.layout n choice l (length l.temps) node has m given.after given.word given.is).serves some;
      }

  served_before : (s : Shared) (st : MachineState Spot) (n : ℕ) (c : Context) → is_some st.memory.leaving ≡ true → (i : Instr) → IsBefore code c i → Served s st n c
  served_before s st n c some i b = served_at s st n c some b.thread b.is b.at.place b.at.node (b.there ∙ ap Some b.at.is) b.at.action b.at.has

  pub served : (s : Shared) (st : MachineState Spot) (n : ℕ) (c : Context) → IsContextOf code c → c.wait ≡ Some Room → is_some st.memory.leaving ≡ true → Served s st n c
  served s st n c of_ wait some =
      let w = waiting_of code c.stage (sym of_.wait ∙ wait) in
      let there = instr_there (slice_get (instrs_of code.funcs w.thread.top.at.function) w.thread.top.at.index) w.here in
      let at_top = subst (λ (q : Point Spot Words). slice_get (instrs_of code.funcs q.at.function) q.at.index ≡ Some there.0) (sym (ap top_at w.is)) there.1 in
      served_before s st n c some there.0 (before_malloc code c there.0 of_ wait at_top)

  -- ---- one thread after the other

  module _ (s : Shared) (home : List (Option Context)) (all : All (IsOfRun (machine_of code) (IsContextOf code)) home) (homes : AreHome (machine_of code) s home) where
    abbrev pub x : Image Spot
    x = image_of code s

    abbrev pub ts : List Made
    ts = s.memory.threads

    abbrev pub first : List (Option (Stage Spot))
    first = stages_home s.memory.threads home

    abbrev pub place : ℕ → Option Context
    place k = get_or home k None

    abbrev pub made : ℕ → Made
    made k = get_or s.memory.threads k no_made

    -- the context there is told by the stage
    abbrev pub Told : (k : ℕ) → Option (Stage Spot) → Type 0
    Told k stage = stage_home (made k) (place_at code (place k) stage) ≡ stage

    -- so many threads have had their turn
    pub record IsTurned (n : ℕ) (st : MachineState Spot) : Type 0 where
      pub long : length st.own ≡ length s.memory.threads
      pub threads : st.memory.threads ≡ s.memory.threads
      pub going : st.end ≡ None
      pub serves : is_some st.memory.leaving ≡ true
      pub later : (k : ℕ) → n ≤ k → own_at st.own k ≡ own_at first k
      pub told : (k : ℕ) → k < n → Told k (own_at st.own k)

    pub begin_turned : IsTurned 0 (serving_state (moved_state (sweep_moves x (at_home s home)) (at_home s home)))
    begin_turned = record { long = length-stages_home s.memory.threads home; threads = refl; going = refl; serves = refl; later = λ k le. refl; told = λ k lt. absurd (omega (arith, lt)) }

    module _ (n : ℕ) (st : MachineState Spot) (is : IsTurned n st) (below : n < length s.memory.threads) where
      pub within : n < length home
      within = omega (arith, homes.0, below)

      pub own_stage : own_at st.own n ≡ stage_home (made n) (place n)
      own_stage = is.later n (omega arith) ∙ own_home s.memory.threads home n below within

      pub of_run : IsOfRun (machine_of code) (IsContextOf code) (place n)
      of_run = all n None within

      more : (k : ℕ) → k < n + 1 → (k < n) ⊎ (k ≡ n)
      more k lt = by (leb_tells n k) where
        by : ((nat_le n k ≡ true) × (n ≤ k)) ⊎ ((nat_le n k ≡ false) × (k < n)) → (k < n) ⊎ (k ≡ n)
        by (inl h) = inr (omega (arith, h.1, lt))
        by (inr h) = inl h.1

      abbrev pub turn_serves : List Serve
      turn_serves = serves_if x st n (own_at st.own n)

      -- its turn may be, and is had then
      pub record HasTurn (vs : List Serve) : Type 0 where
        pub may : MayServeAll x vs st
        pub next : IsTurned (n + 1) (after_serves x vs st)

      -- it doesn't wait
      unserved : waits_at_home (place n) ≡ false → HasTurn turn_serves
      unserved none =
          let idle : turn_serves ≡ [] = ap (serves_if x st n) own_stage ∙ none_served code s st n (made n) (place n) of_run none in
          subst HasTurn (sym idle) (record { may = tt; next = record { long = is.long; threads = is.threads; going = is.going; serves = is.serves; later = λ k le. is.later k (omega (arith, le)); told = λ k lt. by k (more k lt) } })
        where
          here : Told n (own_at st.own n)
          here = subst (Told n) (sym own_stage) (ap (stage_home (made n)) (place_is code (made n) (place n) of_run))

          by : (k : ℕ) → (k < n) ⊎ (k ≡ n) → Told k (own_at st.own k)
          by k (inl lt) = is.told k lt
          by k (inr e) = subst (λ j. Told j (own_at st.own j)) (sym e) here

      -- it waits, and is served
      module _ (c : Context) (at : place n ≡ Some c) (v : Served s st n c) where
        abbrev pub serve : Serve
        serve = serve_of x st n (waiting v.thread)

        pub own_is : own_at st.own n ≡ Some (waiting v.thread)
        own_is = own_stage ∙ ap (stage_home (made n)) at ∙ ap (stage_or (made n)) v.is

        wants_here : readiness.wants_room x (waiting v.thread) ≡ true
        wants_here = wants_same code s (waiting v.thread) ∙ v.wants

        pub turn_is : turn_serves ≡ serve ∷ []
        turn_is = ap (serves_if x st n) own_is ∙ ap (λ b. if_wants b serve) wants_here

        may_serve : MayServe x st.memory serve.choice (Some (waiting v.thread))
        may_serve = (wants_here, v.goes, given_may st.memory.storage (served_choice st.memory.storage) (served_may st.memory.storage) v.thread.top.own (x.flow.here v.thread.top.at))

        abbrev pub next : MachineState Spot
        next = put st n (record { memory = v.after; stage = Some v.behind; end = None })

        pub next_is : after_serves x (serve ∷ []) st ≡ next
        next_is = ap (put_if st n (serve_effect x n serve.choice)) own_is ∙ ap (put st n) v.effect

        none_new : new_stages st.own v.after ≡ []
        none_new = ap (map stage_made) (drop_all (length st.own) v.after.threads (omega (arith, ap length v.threads, ap length is.threads, is.long)))

        next_own : next.own ≡ set st.own n (Some v.behind)
        next_own = ap (λ (os : List (Option (Stage Spot))). set st.own n (Some v.behind) ++ os) none_new ∙ append-nil (set st.own n (Some v.behind))

        own_now : (k : ℕ) → own_at next.own k ≡ own_at (set st.own n (Some v.behind)) k
        own_now k = ap (λ (os : List (Option (Stage Spot))). own_at os k) next_own

        told_now : Told n (own_at next.own n)
        told_now =
            subst (Told n) (sym (own_now n ∙ own_at_set st.own n (Some v.behind) (omega (arith, is.long, below))))
            (ap (λ p. stage_home (made n) (place_at code p (Some v.behind))) at ∙ ap (λ o. stage_home (made n) (Some (context_at code c o (Some v.behind)))) v.is)

        told_by : (k : ℕ) → (k < n) ⊎ (k ≡ n) → Told k (own_at next.own k)
        told_by k (inl lt) = subst (Told k) (sym (own_now k ∙ own_at_set-earlier st.own n k (Some v.behind) lt)) (is.told k lt)
        told_by k (inr e) = subst (λ j. Told j (own_at next.own j)) (sym e) told_now

        turned_next : IsTurned (n + 1) next
        turned_next = record {
          long = ap length next_own ∙ length-set st.own n (Some v.behind) ∙ is.long;
          threads = v.threads ∙ is.threads;
          going = is.going;
          serves = v.serves;
          later = λ k le. own_now k ∙ own_at_set-later st.own n k (Some v.behind) (omega (arith, le)) ∙ is.later k (omega (arith, le));
          told = λ k lt. told_by k (more k lt);
        }

        was_served : HasTurn turn_serves
        was_served = subst HasTurn (sym turn_is) (record { may = (subst (MayServe x st.memory serve.choice) (sym own_is) may_serve, tt); next = subst (IsTurned (n + 1)) (sym next_is) turned_next })

      pub turn : HasTurn turn_serves
      turn = by (waits_at_home (place n)) refl where
        waits_here : (p : Option Context) → place n ≡ p → waits_at_home p ≡ true → HasTurn turn_serves
        waits_here None at w = absurd cc
        waits_here (Some c) at w = let of_ : IsContextOf code c = subst (IsOfRun (machine_of code) (IsContextOf code)) at of_run in was_served c at (served s st n c of_ (room_waits c.wait w) is.serves)

        by : (b : Bool) → waits_at_home (place n) ≡ b → HasTurn turn_serves
        by true w = waits_here (place n) refl w
        by false w = unserved w

    -- all turns from one on
    record HaveTurns (vs : List Serve) (st : MachineState Spot) : Type 0 where
      pub may : MayServeAll x vs st
      pub end_ : IsTurned (length s.memory.threads) (after_serves x vs st)

    turns_from : (count n : ℕ) (st : MachineState Spot) → n + count ≡ length s.memory.threads → IsTurned n st → HaveTurns (serves_from x (range_with_len n count) st) st
    turns_from zero n st e is = let same : n ≡ length s.memory.threads = omega (arith, e) in record { may = tt; end_ = subst (λ k. IsTurned k st) same is }
    turns_from (suc count) n st e is =
        let vs = serves_if x st n (own_at st.own n) in
        let next = after_serves x vs st in
        let ws = serves_from x (range_with_len (n + 1) count) next in
        let here = turn n st is (omega (arith, e)) in
        let rest = turns_from count (n + 1) next (omega (arith, e)) here.next in
        record { may = may_serve_all x vs ws st here.may rest.may; end_ = subst (IsTurned (length s.memory.threads)) (sym (after_serves-append x vs ws st)) rest.end_ }

    abbrev here : MachineState Spot
    here = at_home s home

    abbrev slid : MachineState Spot
    slid = serving_state (moved_state (sweep_moves (image_of code s) (at_home s home)) (at_home s home))

    all_turns : HaveTurns (sweep_serves x here) slid
    all_turns =
        subst (λ count. HaveTurns (serves_from x (range_with_len 0 count) slid) slid) (sym (length-stages_home s.memory.threads home))
        (turns_from (length s.memory.threads) 0 slid (omega arith) begin_turned)

    -- ---- all stand at safepoints

    stands_if : (c : Context) (o : Option (Stage Spot)) → c.stage ≡ o → stands_of code c.stage ≡ true → (t : Made) (stage : Stage Spot) → stage_or t o ≡ Some stage → stages.stands x.flow stage ≡ true
    stands_if c None e stands t stage is = let same : starts t.function t.argument ≡ stage = cc in subst (λ (one : Stage Spot). stages.stands x.flow one ≡ true) same refl
    stands_if c (Some one) e stands t stage is = let same : one ≡ stage = cc in subst (λ (one : Stage Spot). stages.stands x.flow one ≡ true) same (subst (λ (o : Option (Stage Spot)). stands_of code o ≡ true) e stands)

    place_stands : (k : ℕ) (p : Option Context) → IsHomeAt (machine_of code) s k p → (t : Made) (stage : Stage Spot) → stage_home t p ≡ Some stage → stages.stands x.flow stage ≡ true
    place_stands k None at t stage is = absurd cc
    place_stands k (Some c) at t stage is = stands_if c c.stage refl at.stands t stage is

    pub all_stand : AllStand x.flow here.own
    all_stand k stage is = by (leb_tells (length s.memory.threads) k) where
      by : ((nat_le (length s.memory.threads) k ≡ true) × (length s.memory.threads ≤ k)) ⊎ ((nat_le (length s.memory.threads) k ≡ false) × (k < length s.memory.threads)) → stages.stands x.flow stage ≡ true
      by (inl h) = let none : own_at here.own k ≡ None = own_at_past here.own k (omega (arith, h.1, length-stages_home s.memory.threads home)) in absurd (let bad : None ≡ Some stage = sym none ∙ is in cc)
      by (inr h) =
          let inside_ : k < length home = omega (arith, homes.0, h.1) in
          place_stands k (place k) (each_here (IsHomeAt (machine_of code) s) home k None homes.1 inside_) (made k) stage (sym (own_home s.memory.threads home k h.1 inside_) ∙ is)

    -- ---- the event

    legal : IsSound s.memory.storage.heaps → AreLegal (pinned x here) s.memory.storage.heaps (sweep_moves x here)
    legal sound =
        let h : SubHeaps = s.memory.storage.heaps in
        let slide = IsSlide-slide_moves (pinned x here) h sound in
        subst (AreLegal (pinned x here) h) (slide_is (pinned x here) h (lower.slide_moves (pinned x here) h.size 0 h.objects) sound slide) slide.legal

    -- the old objects of reallocs leave behind this
    abbrev end_state : MachineState Spot
    end_state = after_serves (image_of code s) (sweep_serves (image_of code s) (at_home s home)) (serving_state (moved_state (sweep_moves (image_of code s) (at_home s home)) (at_home s home)))

    home_told : stages_home end_state.memory.threads (home_at code end_state.own home) ≡ end_state.own
    home_told =
        let e = all_turns.end_ in
        let now : List (Option Context) = home_at code end_state.own home in
        ap (λ (ms : List Made). stages_home ms now) e.threads
        ∙ same_stages (stages_home s.memory.threads now) end_state.own (length-stages_home s.memory.threads now ∙ sym e.long) (λ k lt. at k (omega (arith, lt, length-stages_home s.memory.threads now)))
      where
        at : (k : ℕ) → k < length s.memory.threads → own_at (stages_home s.memory.threads (home_at code end_state.own home)) k ≡ own_at end_state.own k
        at k lt =
            let inside_ : k < length home = omega (arith, homes.0, lt) in
            own_home s.memory.threads (home_at code end_state.own home) k lt (omega (arith, inside_, length-home_at code end_state.own home))
            ∙ ap (stage_home (made k)) (home_place code end_state.own home k (omega (arith, lt, all_turns.end_.long)) inside_)
            ∙ all_turns.end_.told k lt

pub barrier_is_its_event : BarrierIsItsEvent
barrier_is_its_event code s home shared sound all homes =
    let turns = all_turns code s home all homes in
    record {
      allowed = ((refl, (all_stand code s home all homes, legal code s home all homes sound, turns.may)), tt);
      after = λ i. record { memory = (swept_state (image_of code s) (at_home s home)).memory; own = home_told code s home all homes i; end = sym turns.end_.going i };
    }
