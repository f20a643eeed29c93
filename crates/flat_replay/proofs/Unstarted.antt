-- A thread whose first function is still before it has had no turn.
use Rattle.std.proofs.Common.{◌≡◌, ◌≢◌, ℕ, ◌<◌, ◌≤◌, ◌==◌, Bool, true, false, cond, List, [], ◌∷◌, ◌++◌, length, set, Option, Some, None, refl, sym, ◌∙◌, subst, arith, inl, inr}
use Rattle.std.specs.Prelude.{◌⊎◌, All, nat_lt}
use Rattle.std.proofs.lemmas.Bool.Decides.{nat_tests}
use Rattle.std.proofs.lemmas.List.{length-append, length-set}
use Rattle.std.proofs.lemmas.List.Elements.{All-append, All-cons, All-nil}
use Rattle.block_store.specs.declared.values.Answer.{Answer}
use Rattle.block_store.specs.Runs.{Pick, own_at}
use Rattle.struct_ir.specs.Linear.{Spot}
use Rattle.struct_ir.specs.Threads.{Thread, Outcome, went, ended, blocked, broke, unfit}
use Rattle.flat_meaning.specs.Accesses.{Choice, Fault, plain}
use Rattle.flat_meaning.specs.Effects.{Effect, act_before, act_effect, effect_of_outcome, ends_run, gone_effect, landing, look_before, look_effect, no_effect, own_list_of, serve_effect, stop_of}
use Rattle.flat_meaning.specs.Events.{MachineState, Serve, Event, local, look, act, barrier, after, after_all, after_serve, after_serves, moved_state, new_stages, put, put_if, serving_state}
use Rattle.flat_meaning.specs.Image.{Image}
use Rattle.flat_meaning.specs.Memory.{Memory}
use Rattle.flat_meaning.specs.Order.{act_picks, answer_of, local_picks, order_of, pick, pick_if, picks_of, picks_of_act, picks_of_local, picks_of_serve, picks_of_serves}
use Rattle.flat_meaning.specs.Stages.{Stage, starts, going, waiting, landed, Before, safe, looks, steps, calls, turn_over, nothing, before, can_advance, advanced, room_for}
use Rattle.flat_meaning.specs.Words.{Words}
use Rattle.flat_rules.specs.inner.Cases.{same_number}
use Rattle.flat_replay.proofs.Owns.{own_below, own_other, own_put}

-- the first function is before the thread
abbrev pub IsFresh : Option (Stage Spot) → Type 0
IsFresh None = ⊥
IsFresh (Some (starts function argument)) = Unit {0}
IsFresh (Some (going t)) = ⊥
IsFresh (Some (waiting t)) = ⊥
IsFresh (Some (landed list t)) = ⊥

-- none of these turns is the thread's
abbrev pub Apart : ℕ → List Pick → Type 0
Apart n picks = All (λ (p : Pick). p.thread ≢ n) picks

module _ (x : Image Spot) (n : ℕ) where
  -- its first function is before it, or it wasn't made yet
  abbrev pub Unstarted : MachineState Spot → Type 0
  Unstarted s = IsFresh (own_at s.own n) ⊎ (length s.own ≤ n)

  -- ---- turns of another thread

  module _ (thread : ℕ) (other : thread ≢ n) where
    one_apart : (answer : Answer) → Apart n (pick thread answer ∷ [])
    one_apart answer = All-cons (λ (p : Pick). p.thread ≢ n) (pick thread answer) [] (λ (e : thread ≡ n). other e) (All-nil (λ (p : Pick). p.thread ≢ n))

    none_apart : Apart n []
    none_apart = All-nil (λ (p : Pick). p.thread ≢ n)

    if_apart : (answer : Answer) (o : Outcome Spot Words Fault Memory) → Apart n (pick_if thread answer o)
    if_apart answer (went t m) = one_apart answer
    if_apart answer (ended l m) = one_apart answer
    if_apart answer blocked = none_apart
    if_apart answer (broke f) = none_apart
    if_apart answer unfit = none_apart

    test_apart : (b : Bool) (ps qs : List Pick) → Apart n ps → Apart n qs → Apart n (cond b ps qs)
    test_apart true ps qs h k = h
    test_apart false ps qs h k = k

    local_apart : (stage : Stage Spot) → Apart n (picks_of_local x thread (Some stage))
    local_apart stage =
        test_apart (can_advance x stage) (local_picks thread (advanced x thread stage).turns) [] (test_apart ((advanced x thread stage).turns == 0) [] (pick thread _ ∷ []) none_apart (one_apart _)) none_apart

    before_apart : (m : Memory) (choice : Choice) (t : Thread Spot Words) (b : Before) → Apart n (act_picks x m thread choice t b)
    before_apart m choice t safe = none_apart
    before_apart m choice t looks = none_apart
    before_apart m choice t steps = if_apart (answer_of x m choice t) (stop_of x thread choice t m)
    before_apart m choice t (calls function) = none_apart
    before_apart m choice t turn_over = none_apart
    before_apart m choice t nothing = none_apart

    act_apart : (m : Memory) (choice : Choice) (stage : Stage Spot) → Apart n (picks_of_act x m thread choice (Some stage))
    act_apart m choice (starts function argument) = none_apart
    act_apart m choice (going t) = before_apart m choice t (before x t)
    act_apart m choice (waiting t) = before_apart m choice t (before x t)
    act_apart m choice (landed list t) = before_apart m choice t (before x t)

  -- ---- what a turn leaves isn't fresh

  landing_old : (list : Option (List ℕ)) (q : Thread Spot Words) → IsFresh (Some (landing list q)) → ⊥
  landing_old None q h = h
  landing_old (Some list) q h = h

  acted_old : (thread : ℕ) (stage : Stage Spot) (t : Thread Spot Words) (list : Option (List ℕ)) (m : Memory) (o : Outcome Spot Words Fault Memory) → (IsFresh (Some stage) → ⊥) → IsFresh (effect_of_outcome thread stage t list m o).stage → ⊥
  acted_old thread stage t list m (went q m2) old h = landing_old list q h
  acted_old thread stage t list m (ended l m2) old h = h
  acted_old thread stage t list m blocked old h = h
  acted_old thread stage t list m (broke f) old h = old h
  acted_old thread stage t list m unfit old h = old h

  test_old : (b : Bool) (e f : Effect Spot) → (IsFresh e.stage → ⊥) → (IsFresh f.stage → ⊥) → IsFresh (cond b e f).stage → ⊥
  test_old true e f p q h = p h
  test_old false e f p q h = q h

  begun_old : (thread : ℕ) (choice : Choice) (stage : Stage Spot) (t : Thread Spot Words) (m : Memory) (b : Before) → (IsFresh (Some stage) → ⊥) → IsFresh (act_before x thread choice stage t m b).stage → ⊥
  begun_old thread choice stage t m safe old h = old h
  begun_old thread choice stage t m looks old h = old h
  begun_old thread choice stage t m steps old h = acted_old thread stage t (own_list_of (x.flow.here t.top.at)) m (stop_of x thread choice t m) old h
  begun_old thread choice stage t m (calls function) old h = test_old (room_for x t function) (no_effect m stage) (ends_run m stage _) old old h
  begun_old thread choice stage t m turn_over old h = old h
  begun_old thread choice stage t m nothing old h = old h

  looked_old : (thread : ℕ) (stage : Stage Spot) (t : Thread Spot Words) (m : Memory) (b : Before) → (IsFresh (Some stage) → ⊥) → IsFresh (look_before x thread stage t m b).stage → ⊥
  looked_old thread stage t m safe old h = old h
  looked_old thread stage t m looks old h = acted_old thread stage t (own_list_of (x.flow.here t.top.at)) m (stop_of x thread plain t m) old h
  looked_old thread stage t m steps old h = old h
  looked_old thread stage t m (calls function) old h = old h
  looked_old thread stage t m turn_over old h = old h
  looked_old thread stage t m nothing old h = old h

  -- ---- an event of a thread, which was fresh if it is so behind it, and then has done no turn

  -- what an event with these turns and this effect says of its thread
  abbrev Says : Stage Spot → List Pick → Effect Spot → Type 0
  Says stage picks e = IsFresh e.stage → IsFresh (Some stage) × (picks ≡ [])

  local_says : (stage going_on : Stage Spot) (ps : List Pick) (m : Memory) (b : Bool) → (IsFresh (Some going_on) → ⊥) → Says stage (cond b ps []) (cond b (no_effect m going_on) (no_effect m stage))
  local_says stage going_on ps m true old h = absurd (old h)
  local_says stage going_on ps m false old h = (h, refl)

  act_says : (thread : ℕ) (choice : Choice) (m : Memory) (stage : Stage Spot) → Says stage (picks_of_act x m thread choice (Some stage)) (act_effect x thread choice stage m)
  act_says thread choice m (starts function argument) h = (tt, refl)
  act_says thread choice m (going t) h = absurd (begun_old thread choice (going t) t m (before x t) (λ k. k) h)
  act_says thread choice m (waiting t) h = absurd (begun_old thread choice (waiting t) t m (before x t) (λ k. k) h)
  act_says thread choice m (landed list t) h = absurd (begun_old thread choice (landed list t) t m (before x t) (λ k. k) h)

  look_says : (thread : ℕ) (m : Memory) (stage : Stage Spot) → Says stage [] (look_effect x thread stage m)
  look_says thread m (starts function argument) h = (tt, refl)
  look_says thread m (going t) h = absurd (looked_old thread (going t) t m (before x t) (λ k. k) h)
  look_says thread m (waiting t) h = absurd (looked_old thread (waiting t) t m (before x t) (λ k. k) h)
  look_says thread m (landed list t) h = absurd (looked_old thread (landed list t) t m (before x t) (λ k. k) h)

  serve_says : (v : Serve) (m : Memory) (stage : Stage Spot) → Says stage (picks_of_serve x m v (Some stage)) (serve_effect x v.thread v.choice stage m)
  serve_says v m (starts function argument) h = (tt, refl)
  serve_says v m (going t) h = absurd h
  serve_says v m (waiting t) h = absurd (acted_old v.thread (waiting t) t (own_list_of (x.flow.here t.top.at)) m (stop_of x v.thread v.choice t m) (λ k. k) h)
  serve_says v m (landed list t) h = absurd h

  -- ---- back from behind an event

  abbrev Back : MachineState Spot → List Pick → Type 0
  Back s picks = Unstarted s × Apart n picks

  module _ (s : MachineState Spot) (thread : ℕ) (stage : Stage Spot) (picks : List Pick) (e : Effect Spot) (at : own_at s.own thread ≡ Some stage) where
    longer : length s.own ≤ length (set s.own thread e.stage ++ new_stages s.own e.memory)
    longer = omega (arith, length-append (set s.own thread e.stage) (new_stages s.own e.memory), length-set s.own thread e.stage)

    mine_back : Says stage picks e → thread ≡ n → Unstarted (put s thread e) → Back s picks
    mine_back says is (inr past) = absurd (omega (arith, past, longer, own_below s.own thread stage at, is))
    mine_back says is (inl fresh) =
        let now : own_at (set s.own thread e.stage ++ new_stages s.own e.memory) n ≡ e.stage =
        subst (λ (k : ℕ). own_at (set s.own thread e.stage ++ new_stages s.own e.memory) k ≡ e.stage) is (own_put s.own (new_stages s.own e.memory) thread e.stage (own_below s.own thread stage at)) in
        let said : IsFresh (Some stage) × (picks ≡ []) = says (subst IsFresh now fresh) in
        let before_it : own_at s.own n ≡ Some stage = subst (λ (k : ℕ). own_at s.own k ≡ Some stage) is at in
        (inl (subst IsFresh (sym before_it) said.0), subst (Apart n) (sym said.1) (All-nil (λ (p : Pick). p.thread ≢ n)))

    inside_back : thread ≢ n → IsFresh (own_at (set s.own thread e.stage ++ new_stages s.own e.memory) n) → (b : Bool) → nat_lt n (length s.own) ≡ b → Unstarted s
    inside_back other fresh true lt =
        let inside : n < length s.own = grind (arith, nat_tests) in
        inl (subst IsFresh (own_other s.own (new_stages s.own e.memory) thread n e.stage (λ (is : n ≡ thread). other (sym is)) inside) fresh)
    inside_back other fresh false lt = inr (grind (arith, nat_tests))

    other_back : thread ≢ n → Unstarted (put s thread e) → Unstarted s
    other_back other (inr past) = inr (omega (arith, past, longer))
    other_back other (inl fresh) = inside_back other fresh (nat_lt n (length s.own)) refl

    by_thread : (thread ≢ n → Apart n picks) → Says stage picks e → Unstarted (put s thread e) → (b : Bool) → (thread == n) ≡ b → Back s picks
    by_thread apart says later true same = mine_back says (same_number thread n same) later
    by_thread apart says later false differs =
        let other : thread ≢ n = λ (is : thread ≡ n). absurd (let same : (thread == n) ≡ true = grind (arith, nat_tests) in let bad : true ≡ false = sym same ∙ differs in cc) in
        (other_back (λ (is : thread ≡ n). other is) later, apart (λ (is : thread ≡ n). other is))

    put_back : (thread ≢ n → Apart n picks) → Says stage picks e → Unstarted (put s thread e) → Back s picks
    put_back apart says later = by_thread apart says later (thread == n) refl

  -- none of no turns is its
  nobody : Apart n []
  nobody = All-nil (λ (p : Pick). p.thread ≢ n)

  if_back : (s : MachineState Spot) (thread : ℕ) (effect : Stage Spot → Memory → Effect Spot) (picks : Option (Stage Spot) → List Pick) → picks None ≡ []
      → ((stage : Stage Spot) → thread ≢ n → Apart n (picks (Some stage))) → ((stage : Stage Spot) → Says stage (picks (Some stage)) (effect stage s.memory))
      → (o : Option (Stage Spot)) → own_at s.own thread ≡ o → Unstarted (put_if s thread effect o) → Back s (picks o)
  if_back s thread effect picks none apart says None at later = (later, subst (Apart n) (sym none) nobody)
  if_back s thread effect picks none apart says (Some stage) at later = put_back s thread stage (picks (Some stage)) (effect stage s.memory) at (λ other. apart stage other) (says stage) later

  serve_apart : (v : Serve) (m : Memory) → v.thread ≢ n → (stage : Stage Spot) → Apart n (picks_of_serve x m v (Some stage))
  serve_apart v m other (starts function argument) = nobody
  serve_apart v m other (going t) = nobody
  serve_apart v m other (waiting t) = if_apart v.thread other (answer_of x m v.choice t) (stop_of x v.thread v.choice t m)
  serve_apart v m other (landed list t) = nobody

  serves_back : (vs : List Serve) (s : MachineState Spot) → Unstarted (after_serves x vs s) → Back s (picks_of_serves x vs s)
  serves_back [] s later = (later, nobody)
  serves_back (v ∷ vs) s later =
      let rest : Back (after_serve x s v) (picks_of_serves x vs (after_serve x s v)) = serves_back vs (after_serve x s v) later in
      let one : Back s (picks_of_serve x s.memory v (own_at s.own v.thread)) =
      if_back s v.thread (serve_effect x v.thread v.choice) (picks_of_serve x s.memory v) refl (λ stage other. serve_apart v s.memory other stage) (serve_says v s.memory) (own_at s.own v.thread) refl rest.0 in
      (one.0, All-append (λ (p : Pick). p.thread ≢ n) (picks_of_serve x s.memory v (own_at s.own v.thread)) (picks_of_serves x vs (after_serve x s v)) one.1 rest.1)

  event_back : (s : MachineState Spot) (e : Event) → Unstarted (after x s e) → Back s (picks_of x s e)
  event_back s (local thread) later =
      if_back s thread (gone_effect x thread) (picks_of_local x thread) refl (λ stage other. local_apart thread other stage)
      (λ stage. local_says stage (going (advanced x thread stage).thread) (local_picks thread (advanced x thread stage).turns) s.memory (can_advance x stage) (λ k. k)) (own_at s.own thread) refl later
  event_back s (look thread) later = if_back s thread (look_effect x thread) (λ o. []) refl (λ stage other. nobody) (look_says thread s.memory) (own_at s.own thread) refl later
  event_back s (act thread choice) later =
      if_back s thread (act_effect x thread choice) (picks_of_act x s.memory thread choice) refl (λ stage other. act_apart thread other s.memory choice stage) (act_says thread choice s.memory) (own_at s.own thread) refl later
  event_back s (barrier moves served) later = serves_back served (serving_state (moved_state moves s)) later

  -- after events
  pub unstarted : (ds : List Event) (s : MachineState Spot) → Unstarted (after_all x ds s) → Back s (order_of x ds s)
  unstarted [] s later = (later, nobody)
  unstarted (e ∷ ds) s later =
      let rest : Back (after x s e) (order_of x ds (after x s e)) = unstarted ds (after x s e) later in
      let one : Back s (picks_of x s e) = event_back s e rest.0 in
      (one.0, All-append (λ (p : Pick). p.thread ≢ n) (picks_of x s e) (order_of x ds (after x s e)) one.1 rest.1)
