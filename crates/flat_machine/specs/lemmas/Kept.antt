-- What a barrier leaves: threads and their ends as they were, and each context at home as it was, but that it waits for room no more.
use Rattle.std.proofs.Common.{◌≡◌, ℕ, zero, suc, ◌+◌, ◌<◌, ◌≤◌, Bool, true, false, cond, List, [], ◌∷◌, ◌++◌, length, get_or, map, set, Option, Some, None, refl, sym, ap, ◌∙◌, subst, arith, inl, inr}
use Rattle.std.specs.Prelude.{All, ◌⊎◌, slice_get, is_some, nat_le}
use Rattle.std.specs.List.{range_with_len, AllZip}
use Rattle.std.proofs.lemmas.Bool.Decides.{leb_tells}
use Rattle.std.proofs.lemmas.List.{append-nil, drop_all, length-set}
use Rattle.block_store.specs.Runs.{own_at}
use Rattle.struct_ir.specs.Nodes.{Step, step}
use Rattle.struct_ir.specs.Flow.{does, GoesOn}
use Rattle.struct_ir.specs.Instrs.{acts, LinearCode, instrs_of}
use Rattle.struct_ir.specs.Linear.{Spot, instr_here, linear}
use Rattle.struct_ir.specs.Machine.{Point}
use Rattle.struct_ir.specs.Threads.{Thread}
use Rattle.flat_meaning.specs.declared.endings.Stop.{Stop}
use Rattle.flat_meaning.specs.Accesses as actions
use Rattle.flat_meaning.specs.Actions.{acted_on_memory}
use Rattle.flat_meaning.specs.Effects.{serve_effect, landing}
use Rattle.flat_meaning.specs.Events.{MachineState, Serve, after_serves, moved_state, serving_state, new_stages, put, put_if, stage_made}
use Rattle.flat_meaning.specs.Image.{Image}
use Rattle.flat_meaning.specs.Memory.{Made, Memory}
use Rattle.flat_meaning.specs.Ready as stages
use Rattle.flat_meaning.specs.Ready.{has_ended, takes_room}
use Rattle.flat_meaning.specs.Stages.{Stage, waiting, landed}
use Rattle.flat_meaning.specs.Words.{Words, target_of, word_at}
use Rattle.flat_rules.specs.Lawful.{AreHome, Clears, IsHomeAt, IsOfRun, KeptAt, Sweeps}
use Rattle.flat_rules.specs.Machine.{blank, works}
use Rattle.flat_threads.proofs.Standing.{behind_act}
use Rattle.flat_threads.proofs.Threads.{SameCounts, same_counts, behind_is}
use Rattle.flat_threads.specs.Belonging.{IsContextOf}
use Rattle.flat_threads.specs.Contexts.{AreCallsOf, Context, IsListFor, IsProgram, IsStageIf, IsStageOf, IsThreadOf, layout_of, own_image, standing}
use Rattle.flat_threads.specs.Deeds.{stepped, thread_behind, top_at, with_word}
use Rattle.flat_threads.specs.Waits.{waits_at}
use Rattle.flat_threads.specs.declared.wait.Wait.TheVariants.{Room}
use Rattle.flat_machine.specs.Choices.{action_choice, served_choice}
use Rattle.flat_machine.specs.Clearing.{cleared_by, shared_cleared}
use Rattle.flat_machine.specs.Machine.{machine_of, progress_of, stands_of}
use Rattle.flat_machine.specs.Readiness.{wants_room}
use Rattle.flat_machine.specs.Shares.{Shared, IsSharedOf, image_of}
use Rattle.flat_machine.specs.Sweeping.{at_home, context_at, home_at, if_wants, place_at, serve_of, serves_from, serves_if, stage_home, stage_or, stages_home, sweep_moves, sweep_serves, swept_by, swept_state, waits_at_home}
use Rattle.flat_machine.specs.lemmas.Homes.{after_serves-append, each_here, length-stages_home, none_served, own_at_home, own_at_set, own_at_set-later, place_is, wants_same}
use Rattle.flat_machine.specs.lemmas.Lawful.{blank_stage}
use Rattle.flat_machine.specs.lemmas.Serving.{gives, instr_there, room_waits}
use Rattle.flat_machine.specs.lemmas.Waiting.{IsSized, before_malloc, choice_is, keeps, leaves, list_before, room_may, serve_is, waiting_of, wants_is}

-- ---- a context at home

module _ (code : LinearCode) where
  none_stop : (c : Context) → IsContextOf code c → c.stage ≡ None → c.stop ≡ None
  none_stop c of_ none = by c.stop refl where
    by : (o : Option Stop) → c.stop ≡ o → c.stop ≡ None
    by None e = e
    by (Some stop) e = let h = of_.stopped stop e in let bad : None ≡ Some h.at_stage = sym none ∙ h.is in absurd cc

  works_stop : (stage : Option (Stage Spot)) (stop : Option Stop) → progress_of stage stop ≡ works → stop ≡ None
  works_stop None stop e = absurd cc
  works_stop (Some stage) None e = refl
  works_stop (Some stage) (Some stop) e = absurd cc

  -- its thread has not begun, or was made and works
  abbrev Rests : Shared → ℕ → Context → Type 0
  Rests s k c = (progress_of c.stage c.stop ≡ blank) ⊎ ((progress_of c.stage c.stop ≡ works) × (k < length s.memory.threads))

  rest_stop : (s : Shared) (k : ℕ) (c : Context) → IsContextOf code c → Rests s k c → c.stop ≡ None
  rest_stop s k c of_ (inl e) = none_stop c of_ (blank_stage code c.stage c.stop e)
  rest_stop s k c of_ (inr e) = works_stop c.stage c.stop e.0

  -- one of a thread that wasn't made doesn't wait
  rest_unmade : (s : Shared) (k : ℕ) (c : Context) → IsContextOf code c → Rests s k c → length s.memory.threads ≤ k → wants_room c.wait ≡ false
  rest_unmade s k c of_ (inl e) le = ap wants_room (of_.wait ∙ ap (waits_at (own_image code)) (blank_stage code c.stage c.stop e))
  rest_unmade s k c of_ (inr e) le = absurd (omega (arith, e.1, le))

  rest_waits : (s : Shared) (k : ℕ) (p : Option Context) → IsOfRun (machine_of code) (IsContextOf code) p → IsHomeAt (machine_of code) s k p → length s.memory.threads ≤ k → waits_at_home p ≡ false
  rest_waits s k None of_ home le = refl
  rest_waits s k (Some c) of_ home le = rest_unmade s k c of_ home.rests le

  -- one that doesn't wait is kept as it is
  pub kept_same : (p : Option Context) → IsOfRun (machine_of code) (IsContextOf code) p → waits_at_home p ≡ false → KeptAt (machine_of code) (IsContextOf code) p p
  kept_same None of_ none = tt
  kept_same (Some c) of_ none = (of_, refl, refl, refl, none)

  -- ---- behind an allocation

  word_counts : (l : Words) (to word : Option ℕ) → SameCounts code l (with_word l to word)
  word_counts l to None = same_counts code l
  word_counts l None (Some word) = record { function = refl; temps = refl; slots = refl; below = refl }
  word_counts l (Some r) (Some word) = record { function = refl; temps = length-set l.temps r word; slots = refl; below = refl }

  behind_thread : IsProgram code → (t : Thread Spot Words) (place : ℕ) (node : Step) (l : Words) → (linear code.funcs).here t.top.at ≡ does place (step node) → SameCounts code t.top.own l → IsThreadOf code t → IsThreadOf code (thread_behind t l)
  behind_thread program t place node l here same all =
      subst (λ (q : Point Spot Words). AreCallsOf code (layout_of code) (q ∷ t.callers)) (behind_act code t.top l place (step node) here)
      (behind_is code program t.top l t.callers (subst GoesOn (sym here) tt) same all)

  -- the turn of a context that waits for room
  record Served (s : Shared) (st : MachineState Spot) (n : ℕ) (c : Context) : Type 0 where
    pub stage : Stage Spot
    pub is : c.stage ≡ Some stage
    pub wants : stages.wants_room (own_image code) stage ≡ true
    pub after : Memory
    pub behind : Stage Spot
    pub effect : serve_effect (image_of code s) n (serve_of (image_of code s) st n stage).choice stage st.memory ≡ record { memory = after; stage = Some behind; end = None }
    pub threads : after.threads ≡ st.memory.threads
    pub serves : is_some after.leaving ≡ true
    pub kept : KeptAt (machine_of code) (IsContextOf code) (Some c) (Some (standing c (Some behind) (waits_at (own_image code) (Some behind))))

  served : (s : Shared) (st : MachineState Spot) (n : ℕ) (c : Context) → IsContextOf code c → c.stop ≡ None → stands_of code c.stage ≡ true → c.wait ≡ Some Room → is_some st.memory.leaving ≡ true → Served s st n c
  served s st n c of_ going stands wait some =
      let w = waiting_of code c.stage (sym of_.wait ∙ wait) in
      let there = instr_there (slice_get (instrs_of code.funcs w.thread.top.at.function) w.thread.top.at.index) w.here in
      let i = there.0 in
      let b = before_malloc code c i of_ wait (subst (λ (q : Point Spot Words). slice_get (instrs_of code.funcs q.at.function) q.at.index ≡ Some i) (sym (ap top_at w.is)) there.1) in
      let at : slice_get (instrs_of code.funcs b.thread.top.at.function) b.thread.top.at.index ≡ Some (acts b.at.place (step b.at.node)) = b.there ∙ ap Some b.at.is in
      let list : IsListFor b.thread.top.own b.at.node.slots = subst (λ (q : Point Spot Words). IsListFor q.own b.at.node.slots) b.top (list_before code c i of_ b) in
      of_parts s st n c of_ going stands some b.thread b.is b.at.place b.at.node at b.at.action b.at.has list
    where
      of_parts : (s : Shared) (st : MachineState Spot) (n : ℕ) (c : Context) → IsContextOf code c → c.stop ≡ None → stands_of code c.stage ≡ true → is_some st.memory.leaving ≡ true
          → (t : Thread Spot Words) → c.stage ≡ Some (waiting t) → (place : ℕ) (node : Step) → slice_get (instrs_of code.funcs t.top.at.function) t.top.at.index ≡ Some (acts place (step node)) → takes_room node.action ≡ true → IsSized (length t.top.own.temps) node → IsListFor t.top.own node.slots
          → Served s st n c
      of_parts s st n c of_ going stands some t is place node at takes has list =
          let m = st.memory in
          let x = image_of code s in
          let choice = action_choice (served_choice m.storage) t.top.own node.action node.temps in
          let given = gives x.layout n t.top.own (length t.top.own.temps) node has m some in
          let done : acted_on_memory x.layout n choice node.action (map (target_of t.top.own) node.places) (map (word_at t.top.own) node.temps) m ≡ actions.went given.word given.after = given.is in
          let chosen : (serve_of x st n (waiting t)).choice ≡ choice = choice_is code s t n place node at (served_choice m.storage) in
          let thread : Thread Spot Words = thread_behind t (with_word t.top.own node.to given.word) in
          let behind : Stage Spot = landed node.slots thread in
          let stepped_is : stepped node t given.word ≡ behind = ap (λ (b : Bool). landing (cond b (Some node.slots) None) thread) (room_may node.action takes) in
          let same = word_counts t.top.own node.to given.word in
          let all : IsThreadOf code t = subst (IsStageIf code) is of_.stage in
          let stage : IsStageOf code behind = (
            behind_thread of_.program t place node (with_word t.top.own node.to given.word) (ap instr_here at) same all,
            subst (λ k. All (λ j. j < k) node.slots × (length node.slots ≤ k)) (sym same.slots) list,
          ) in
          let of_behind : IsContextOf code (standing c (Some behind) (waits_at (own_image code) (Some behind))) = record {
            program = of_.program;
            number = of_.number;
            stage = stage;
            wait = refl;
            stopped = λ stop e. let bad : None ≡ Some stop = sym going ∙ e in absurd cc;
            turns = of_.turns;
          } in
          record {
            stage = waiting t;
            is = is;
            wants = wants_is code s t n place node at takes;
            after = given.after;
            behind = behind;
            effect = ap (λ v. serve_effect x n v (waiting t) m) chosen ∙ serve_is code s t n place node at m given.after choice given.word done ∙ ap (λ (b : Stage Spot). record { memory = given.after; stage = Some b; end = None }) stepped_is;
            threads = (keeps x.layout n choice t.top.own (length t.top.own.temps) node has m given.after given.word done).threads;
            serves = (leaves x.layout n choice t.top.own (length t.top.own.temps) node has m given.after given.word done).serves some;
            kept = (of_behind, refl, ap (progress_of (Some behind)) going ∙ sym (ap (λ o. progress_of o c.stop) is ∙ ap (progress_of (Some (waiting t))) going), sym stands, refl);
          }

  -- ---- one thread after the other

  own_at_set-before : (own : List (Option (Stage Spot))) (n k : ℕ) (v : Option (Stage Spot)) → k < n → own_at (set own n v) k ≡ own_at own k
  own_at_set-before [] n k v below = refl
  own_at_set-before (x ∷ own) zero k v below = absurd (omega arith)
  own_at_set-before (x ∷ own) (suc n) zero v below = refl
  own_at_set-before (x ∷ own) (suc n) (suc k) v below = own_at_set-before own n k v (omega arith)

  module _ (s : Shared) (home : List (Option Context)) (all : All (IsOfRun (machine_of code) (IsContextOf code)) home) (homes : AreHome (machine_of code) s home) where
    abbrev x : Image Spot
    x = image_of code s

    abbrev first : List (Option (Stage Spot))
    first = stages_home s.memory.threads home

    abbrev place : ℕ → Option Context
    place k = get_or home k None

    abbrev Kept : (k : ℕ) → Option (Stage Spot) → Type 0
    Kept k stage = KeptAt (machine_of code) (IsContextOf code) (place k) (place_at code (place k) stage)

    -- so many threads have had their turn
    record IsSwept (n : ℕ) (st : MachineState Spot) : Type 0 where
      pub long : length st.own ≡ length s.memory.threads
      pub threads : st.memory.threads ≡ s.memory.threads
      pub serves : is_some st.memory.leaving ≡ true
      pub later : (k : ℕ) → n ≤ k → own_at st.own k ≡ own_at first k
      pub kept : (k : ℕ) → k < n → Kept k (own_at st.own k)

    begin_swept : IsSwept 0 (serving_state (moved_state (sweep_moves x (at_home s home)) (at_home s home)))
    begin_swept = record { long = length-stages_home s.memory.threads home; threads = refl; serves = refl; later = λ k le. refl; kept = λ k lt. absurd (omega (arith, lt)) }

    module _ (n : ℕ) (st : MachineState Spot) (is : IsSwept n st) (below : n < length s.memory.threads) where
      within : n < length home
      within = omega (arith, homes.0, below)

      own_stage : (t : Made) × (own_at st.own n ≡ stage_home t (place n))
      own_stage = let there = own_at_home s.memory.threads home n below within in (there.0, is.later n (omega arith) ∙ there.1)

      of_run : IsOfRun (machine_of code) (IsContextOf code) (place n)
      of_run = all n None within

      more : (k : ℕ) → k < n + 1 → (k < n) ⊎ (k ≡ n)
      more k lt = by (leb_tells n k) where
        by : ((nat_le n k ≡ true) × (n ≤ k)) ⊎ ((nat_le n k ≡ false) × (k < n)) → (k < n) ⊎ (k ≡ n)
        by (inl h) = inr (omega (arith, h.1, lt))
        by (inr h) = inl h.1

      -- it doesn't wait
      unserved : waits_at_home (place n) ≡ false → IsSwept (n + 1) (after_serves x (serves_if x st n (own_at st.own n)) st)
      unserved none =
          let idle : serves_if x st n (own_at st.own n) ≡ [] = ap (serves_if x st n) own_stage.1 ∙ none_served code s st n own_stage.0 (place n) of_run none in
          subst (λ (vs : List Serve). IsSwept (n + 1) (after_serves x vs st)) (sym idle) (record { long = is.long; threads = is.threads; serves = is.serves; later = λ k le. is.later k (omega (arith, le)); kept = λ k lt. by none k (more k lt) })
        where
          here : waits_at_home (place n) ≡ false → Kept n (own_at st.own n)
          here none = subst (KeptAt (machine_of code) (IsContextOf code) (place n)) (sym (ap (place_at code (place n)) own_stage.1 ∙ place_is code own_stage.0 (place n) of_run)) (kept_same (place n) of_run none)

          by : waits_at_home (place n) ≡ false → (k : ℕ) → (k < n) ⊎ (k ≡ n) → Kept k (own_at st.own k)
          by none k (inl lt) = is.kept k lt
          by none k (inr e) = subst (λ j. Kept j (own_at st.own j)) (sym e) (here none)

      -- it waits, and is served
      module _ (c : Context) (at : place n ≡ Some c) (v : Served s st n c) where
        abbrev serve : Serve
        serve = serve_of x st n v.stage

        own_is : own_at st.own n ≡ Some v.stage
        own_is = own_stage.1 ∙ ap (stage_home own_stage.0) at ∙ ap (stage_or own_stage.0) v.is

        turn_is : serves_if x st n (own_at st.own n) ≡ serve ∷ []
        turn_is = ap (serves_if x st n) own_is ∙ ap (λ b. if_wants b serve) (wants_same code s v.stage ∙ v.wants)

        abbrev next : MachineState Spot
        next = put st n (record { memory = v.after; stage = Some v.behind; end = None })

        next_is : after_serves x (serve ∷ []) st ≡ next
        next_is = ap (put_if st n (serve_effect x n serve.choice)) own_is ∙ ap (put st n) v.effect

        none_new : new_stages st.own v.after ≡ []
        none_new = ap (map stage_made) (drop_all (length st.own) v.after.threads (omega (arith, ap length v.threads, ap length is.threads, is.long)))

        next_own : next.own ≡ set st.own n (Some v.behind)
        next_own = ap (λ (os : List (Option (Stage Spot))). set st.own n (Some v.behind) ++ os) none_new ∙ append-nil (set st.own n (Some v.behind))

        own_now : (k : ℕ) → own_at next.own k ≡ own_at (set st.own n (Some v.behind)) k
        own_now k = ap (λ (os : List (Option (Stage Spot))). own_at os k) next_own

        place_now : place_at code (place n) (Some v.behind) ≡ Some (standing c (Some v.behind) (waits_at (own_image code) (Some v.behind)))
        place_now = ap (λ p. place_at code p (Some v.behind)) at ∙ ap (λ o. Some (context_at code c o (Some v.behind))) v.is

        kept_now : Kept n (own_at next.own n)
        kept_now =
            subst (λ o. Kept n o) (sym (own_now n ∙ own_at_set st.own n (Some v.behind) (omega (arith, is.long, below))))
            (subst (KeptAt (machine_of code) (IsContextOf code) (place n)) (sym place_now) (subst (λ p. KeptAt (machine_of code) (IsContextOf code) p (Some (standing c (Some v.behind) (waits_at (own_image code) (Some v.behind))))) (sym at) v.kept))

        kept_by : (k : ℕ) → (k < n) ⊎ (k ≡ n) → Kept k (own_at next.own k)
        kept_by k (inl lt) = subst (λ o. Kept k o) (sym (own_now k ∙ own_at_set-before st.own n k (Some v.behind) lt)) (is.kept k lt)
        kept_by k (inr e) = subst (λ j. Kept j (own_at next.own j)) (sym e) kept_now

        swept_next : IsSwept (n + 1) next
        swept_next = record {
          long = ap length next_own ∙ length-set st.own n (Some v.behind) ∙ is.long;
          threads = v.threads ∙ is.threads;
          serves = v.serves;
          later = λ k le. own_now k ∙ own_at_set-later st.own n k (Some v.behind) (omega (arith, le)) ∙ is.later k (omega (arith, le));
          kept = λ k lt. kept_by k (more k lt);
        }

        was_served : IsSwept (n + 1) (after_serves x (serves_if x st n (own_at st.own n)) st)
        was_served = subst (λ (vs : List Serve). IsSwept (n + 1) (after_serves x vs st)) (sym turn_is) (subst (IsSwept (n + 1)) (sym next_is) swept_next)

      turn : IsSwept (n + 1) (after_serves x (serves_if x st n (own_at st.own n)) st)
      turn = by (waits_at_home (place n)) refl where
        waits_here : (p : Option Context) → place n ≡ p → waits_at_home p ≡ true → IsSwept (n + 1) (after_serves x (serves_if x st n (own_at st.own n)) st)
        waits_here None at w = absurd cc
        waits_here (Some c) at w =
            let of_ : IsContextOf code c = subst (IsOfRun (machine_of code) (IsContextOf code)) at of_run in
            let home_at_ : IsHomeAt (machine_of code) s n (Some c) = subst (IsHomeAt (machine_of code) s n) at (each_here (IsHomeAt (machine_of code) s) home n None homes.1 within) in
            was_served c at (served s st n c of_ (rest_stop s n c of_ home_at_.rests) home_at_.stands (room_waits c.wait w) is.serves)

        by : (b : Bool) → waits_at_home (place n) ≡ b → IsSwept (n + 1) (after_serves x (serves_if x st n (own_at st.own n)) st)
        by true w = waits_here (place n) refl w
        by false w = unserved w

    swept_from : (count n : ℕ) (st : MachineState Spot) → n + count ≡ length s.memory.threads → IsSwept n st → IsSwept (length s.memory.threads) (after_serves x (serves_from x (range_with_len n count) st) st)
    swept_from zero n st e is = let same : n ≡ length s.memory.threads = omega (arith, e) in subst (λ k. IsSwept k st) same is
    swept_from (suc count) n st e is =
        let vs = serves_if x st n (own_at st.own n) in
        let next = after_serves x vs st in
        let rest = serves_from x (range_with_len (n + 1) count) next in
        subst (IsSwept (length s.memory.threads)) (sym (after_serves-append x vs rest st)) (swept_from count (n + 1) next (omega (arith, e)) (turn n st is (omega (arith, e))))

    abbrev end_state : MachineState Spot
    end_state = swept_state x (at_home s home)

    -- before the old objects of reallocs leave
    abbrev given_state : MachineState Spot
    given_state = after_serves x (sweep_serves x (at_home s home)) (serving_state (moved_state (sweep_moves x (at_home s home)) (at_home s home)))

    end_swept : IsSwept (length s.memory.threads) given_state
    end_swept =
        let start = serving_state (moved_state (sweep_moves x (at_home s home)) (at_home s home)) in
        subst (λ count. IsSwept (length s.memory.threads) (after_serves x (serves_from x (range_with_len 0 count) start) start)) (sym (length-stages_home s.memory.threads home))
        (swept_from (length s.memory.threads) 0 start (omega arith) begin_swept)

  -- each place by number
  zip_kept : (own : List (Option (Stage Spot))) (home : List (Option Context))
      → ((k : ℕ) → k < length own → KeptAt (machine_of code) (IsContextOf code) (get_or home k None) (place_at code (get_or home k None) (own_at own k)))
      → ((k : ℕ) → length own ≤ k → k < length home → KeptAt (machine_of code) (IsContextOf code) (get_or home k None) (get_or home k None))
      → AllZip (KeptAt (machine_of code) (IsContextOf code)) home (home_at code own home)
  zip_kept own [] inside_ outside = tt
  zip_kept [] (c ∷ home) inside_ outside = (outside 0 (omega arith) (omega arith), same_kept home (λ k lt. outside (suc k) (omega arith) (omega (arith, lt))))
    where
      same_kept : (home : List (Option Context)) → ((k : ℕ) → k < length home → KeptAt (machine_of code) (IsContextOf code) (get_or home k None) (get_or home k None)) → AllZip (KeptAt (machine_of code) (IsContextOf code)) home home
      same_kept [] each = tt
      same_kept (p ∷ ps) each = (each 0 (omega arith), same_kept ps (λ k lt. each (suc k) (omega (arith, lt))))
  zip_kept (o ∷ own) (c ∷ home) inside_ outside = (inside_ 0 (omega arith), zip_kept own home (λ k lt. inside_ (suc k) (omega (arith, lt))) (λ k le lt. outside (suc k) (omega (arith, le)) (omega (arith, lt))))

  shared_same : (s t : Shared) → t.memory.threads ≡ s.memory.threads → t.memory.leaving ≡ None → IsSharedOf code s → IsSharedOf code t
  shared_same s t same idle is = record {
    idle = idle;
    program = is.program;
    some = subst (λ (ts : List Made). 0 < length ts) (sym same) is.some;
    few = subst (λ (ts : List Made). length ts ≤ 64) (sym same) is.few;
    functions = subst (λ (ts : List Made). All (λ (t : Made). t.function < length code.funcs) ts) (sym same) is.functions;
  }

  -- what the rules ask of a barrier
  pub sweeps : (s : Shared) (home : List (Option Context)) → IsSharedOf code s → All (IsOfRun (machine_of code) (IsContextOf code)) home → AreHome (machine_of code) s home → Sweeps (machine_of code) (IsSharedOf code) (IsContextOf code) s home (swept_by code s home)
  sweeps s home shared all homes =
      let is = end_swept s home all homes in
      let state = end_state s home all homes in
      record {
        of_ = shared_same s (swept_by code s home).shared is.threads refl shared;
        kept = zip_kept state.own home (λ k lt. is.kept k (omega (arith, lt, is.long))) (λ k le lt. kept_same (get_or home k None) (all k None lt) (rest_waits s k (get_or home k None) (all k None lt) (each_here (IsHomeAt (machine_of code) s) home k None homes.1 lt) (omega (arith, le, is.long))));
        threads = ap length is.threads;
        ends = λ k. ap (λ (ts : List Made). has_ended (slice_get ts k)) is.threads;
      }

  -- an evacuation leaves the threads and the program
  shared_behind : (s : Shared) (home : List (Option Context)) (moved : Bool) → IsSharedOf code s → IsSharedOf code (shared_cleared (image_of code s) s (at_home s home) moved)
  shared_behind s home true shared = shared_same s (shared_cleared (image_of code s) s (at_home s home) true) refl refl shared
  shared_behind s home false shared = shared_same s (shared_cleared (image_of code s) s (at_home s home) false) refl shared.idle shared

  threads_behind : (s : Shared) (home : List (Option Context)) (moved : Bool) → (shared_cleared (image_of code s) s (at_home s home) moved).memory.threads ≡ s.memory.threads
  threads_behind s home true = refl
  threads_behind s home false = refl

  -- what the rules ask of an evacuation
  pub clears : (s : Shared) (home : List (Option Context)) → IsSharedOf code s → Clears (machine_of code) (IsSharedOf code) s (cleared_by code s home)
  clears s home shared =
      let moved : Bool = (cleared_by code s home).moved in
      let same = threads_behind s home moved in
      record {
        of_ = shared_behind s home moved shared;
        threads = ap length same;
        ends = λ k. ap (λ (ts : List Made). has_ended (slice_get ts k)) same;
      }
