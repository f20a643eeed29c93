-- What the text's thread does where it has stopped.
use Rattle.std.proofs.Common.{◌≡◌, refl, sym, ap, subst, ◌∙◌, ℕ, suc, ◌+◌, ◌<◌, ◌==◌, Bool, true, false, cond, List, [], ◌∷◌, map, Option, Some, None, inl, inr, arith}
use Rattle.std.specs.Prelude.{◌⊎◌}
use Rattle.ak_trace.specs.declared.order.Answer.TheVariants as told
use Rattle.ak_trace.specs.Order.{step_answers}
use Rattle.struct_ir.specs.Nodes.{Place, Action, load, store, copy_bytes, malloc, calloc, realloc, free, change, compare, print, lock, unlock, destroy, start, join, Step, step, look, own_list, plain, ret, Nodes, more_nodes}
use Rattle.struct_ir.specs.Flow.{does, returns, Shrinks}
use Rattle.struct_ir.specs.Threads.{Thread}
use Rattle.struct_ir.specs.Instrs.{Instr}
use Rattle.struct_ir.specs.Linear.{Spot}
use Rattle.ak_trace.specs.declared.endings.End.{End}
use Rattle.ak_trace.specs.declared.endings.End.TheVariants as ends
use Rattle.flat_meaning.specs.declared.endings.Stop.TheVariants.{AtStep}
use Rattle.flat_meaning.specs.Image.{Limits, Image, linear_image}
use Rattle.flat_meaning.specs.Words.{Words, Target, word_at, target_of, set_if}
use Rattle.flat_meaning.specs.Memory.{Memory, with_storage, written}
use Rattle.flat_meaning.specs.Accesses as accesses
use Rattle.flat_meaning.specs.Accesses.{Done}
use Rattle.flat_meaning.specs.Actions.{acted_on_memory, printed_parts}
use Rattle.flat_meaning.specs.Printing.{Read, reads, outside, too_long, read_parts}
use Rattle.ak_words.specs.Bytes.{low_bytes}
use Rattle.block_store.specs.declared.values.Access.{Access}
use Rattle.block_store.specs.Cells.{size_of}
use Rattle.flat_store.specs.Flat.{bytes_from, first_outside}
use Rattle.handle_words.specs.Handle.{id_of}
use Rattle.arena_meaning.specs.Changes.{without_id}
use Rattle.ak_trace.specs.declared.endings.TrapKind.TheVariants as kinds
use Rattle.flat_meaning.specs.Effects as effects
use Rattle.flat_meaning.specs.Effects.{Effect, landing}
use Rattle.flat_meaning.specs.Stages.{Stage, going, thread_at}
use Rattle.flat_threads.specs.Contexts.{IsInCall}
use Rattle.flat_rules.specs.Machine as turns
use Rattle.flat_rules.specs.Machine.{Turned}
use Rattle.flat_rules.specs.Entries.{how_of}
use Rattle.flat_rules.specs.Events.{on, away, goes, ends_with}
use Rattle.flat_machine.specs.Choices.{malloc_choice, action_choice}
use Rattle.flat_machine.specs.Turns.{done_turned, turned_of, outcome_turned}
use Rattle.flat_machine.specs.Acting.{effect_if}
use Rattle.flat_machine.specs.lemmas.Steps.{choice_at, done_at, outcome_at, step_effect_is, step_turned_is, looked_at, look_effect_is, look_turned_is, leave_turned_is}
use Rattle.headline_example.proofs.Rows.{Flat, stops}
use Rattle.headline_example.proofs.Alone.{code_with, Asked, Fine, FitsAction, Sits, flow, look_at, step_at, ret_at}
use Rattle.headline_example.proofs.Locals.{alone}

-- ---- an action of a fine row

-- it is done, makes no thread and begins no barrier; or the run ends
abbrev IsDone : Memory → Done → Type 0
IsDone m (accesses.went word n) = (n.threads ≡ m.threads) × (n.leaving ≡ m.leaving)
IsDone m accesses.waits = ⊥
IsDone m accesses.unfit = ⊥
IsDone m (accesses.over f) = Unit {0}

loaded_done : (how : Access) (a : Target) (m : Memory) → IsDone m (accesses.loaded how a m)
loaded_done how a m =
    let d : Done = accesses.went (Some (accesses.word_read how (bytes_from m.storage.bytes a.address (size_of how)))) m in
    elim (first_outside m.storage.bytes a.address (size_of how)) as (λ o. IsDone m (accesses.within kinds.Load o d)) [ None ↦ (refl, refl) | Some address ↦ tt ]

stored_done : (how : Access) (a : Target) (word : ℕ) (m : Memory) → IsDone m (accesses.stored how a word m)
stored_done how a word m =
    let d : Done = accesses.went None (written m a.address (low_bytes (size_of how) word)) in
    elim (first_outside m.storage.bytes a.address (size_of how)) as (λ o. IsDone m (accesses.within kinds.Store o d)) [ None ↦ (refl, refl) | Some address ↦ tt ]

freed_done : (word : ℕ) (m : Memory) → IsDone m (accesses.freed word m)
freed_done word m =
    let e : Done = accesses.went None (with_storage m (without_id m.storage (id_of word))) in
    let f : Done = accesses.over (accesses.trap word kinds.Free) in
    elim (word == 0) as (λ b. IsDone m (cond b (accesses.went None m) (cond (accesses.is_live_start m.storage word) e f))) [
      | true ↦ (refl, refl)
      | false ↦ elim (accesses.is_live_start m.storage word) as (λ b. IsDone m (cond b e f)) [ true ↦ (refl, refl) | false ↦ tt ]
    ]

prints_done : (m : Memory) (r : Read) → IsDone m (accesses.prints r m)
prints_done m (reads all) = (refl, refl)
prints_done m (outside address) = tt
prints_done m too_long = tt

-- nothing is chosen for it, and its entry tells a plain step
record Fits (x : Image Spot) (m : Memory) (l : Words) (a : Action) (places : List Place) (temps : List ℕ) : Type 0 where
  done_ : IsDone m (acted_on_memory x.layout 0 (action_choice (malloc_choice m.storage) l a temps) a (map (target_of l) places) (map (word_at l) temps) m)
  turned : done_turned x m (action_choice (malloc_choice m.storage) l a temps) a ≡ turns.stepped

fits : (x : Image Spot) (m : Memory) (l : Words) (a : Action) (places : List Place) (temps : List ℕ) → FitsAction a places temps → Fits x m l a places temps
fits x m l (load how) (p ∷ []) [] h = record { done_ = loaded_done how (target_of l p) m; turned = refl }
fits x m l (store how) (p ∷ []) (w ∷ []) h = record { done_ = stored_done how (target_of l p) (word_at l w) m; turned = refl }
fits x m l free [] (w ∷ []) h = record { done_ = freed_done (word_at l w) m; turned = refl }
fits x m l (print pieces) places temps h = record { done_ = prints_done m (read_parts m.storage.bytes (printed_parts pieces (map (target_of l) places) (map (word_at l) temps)) (accesses.output_room x.layout.limits.output m)); turned = refl }
fits x m l (load how) [] temps h = absurd h
fits x m l (load how) (p ∷ []) (w ∷ ws) h = absurd h
fits x m l (load how) (p ∷ q ∷ ps) temps h = absurd h
fits x m l (store how) [] temps h = absurd h
fits x m l (store how) (p ∷ []) [] h = absurd h
fits x m l (store how) (p ∷ []) (w ∷ v ∷ ws) h = absurd h
fits x m l (store how) (p ∷ q ∷ ps) temps h = absurd h
fits x m l free [] [] h = absurd h
fits x m l free [] (w ∷ v ∷ ws) h = absurd h
fits x m l free (p ∷ ps) temps h = absurd h
fits x m l (copy_bytes align same) places temps h = absurd h
fits x m l malloc places temps h = absurd h
fits x m l calloc places temps h = absurd h
fits x m l realloc places temps h = absurd h
fits x m l (change how t) places temps h = absurd h
fits x m l (compare t) places temps h = absurd h
fits x m l lock places temps h = absurd h
fits x m l unlock places temps h = absurd h
fits x m l destroy places temps h = absurd h
fits x m l (start function) places temps h = absurd h
fits x m l join places temps h = absurd h

-- ---- a turn

-- the run has ended by main's return, by a trap, or since too much would be printed
abbrev pub EndsWell : Option End → Type 0
EndsWell None = ⊥
EndsWell (Some (ends.Done value)) = Unit {0}
EndsWell (Some (ends.Trap word kind)) = Unit {0}
EndsWell (Some ends.AllBlocked) = ⊥
EndsWell (Some ends.TurnLimit) = ⊥
EndsWell (Some ends.OutputLimit) = Unit {0}
EndsWell (Some (ends.StackLimit thread)) = ⊥

-- what a turn's entry tells: nothing while the malloc is still to come, and that the malloc got an object where it came
abbrev pub Tells : (early later : Bool) → Turned → Type 0
Tells true true turned = step_answers (how_of turned) ≡ []
Tells true false turned = step_answers (how_of turned) ≡ told.Got ∷ []
Tells false true turned = ⊥
Tells false false turned = Unit {0}

module _ (instrs : List Instr) (shrinks : Shrinks (flow instrs)) (limits : Limits) (first m : Memory) where
  abbrev x : Image Spot
  x = linear_image (code_with instrs) limits

  abbrev thread : ℕ → Words → Thread Spot Words
  thread i l = alone instrs shrinks i l

  abbrev pub effect : Stage Spot → Effect Spot
  effect stage = effect_if x 0 m (Some stage) (Some AtStep)

  abbrev pub turned : Stage Spot → Turned
  turned stage = turned_of x 0 m (Some stage) (Some AtStep)

  -- it goes on, with one stop less to come
  pub record On (early : Bool) (ns : Nodes) (stage : Stage Spot) : Type 0 where
    pub later : Bool
    pub rest : Nodes
    pub at : ℕ
    pub words : Words
    pub list : Option (List ℕ)
    pub memory : Memory
    pub is : effect stage ≡ record { memory = memory; stage = Some (landing list (alone instrs shrinks at words)); end = None }
    pub goes_on : goes (turned stage) ≡ on
    pub flat : Flat rest
    pub asked : Asked later rest words.temps
    pub sits : Sits instrs rest at
    pub count : stops ns ≡ suc (stops rest)
    pub threads : memory.threads ≡ m.threads
    pub leaving : memory.leaving ≡ m.leaving
    pub still : later ≡ true → memory ≡ first
    pub tells : Tells early later (turned stage)

  -- it is over
  pub record Off (early : Bool) (ns : Nodes) (stage : Stage Spot) : Type 0 where
    pub late : early ≡ false
    pub goes_away : goes (turned stage) ≡ away
    pub well : EndsWell (ends_with 0 (turned stage))
    pub some : 0 < stops ns

  in_call : (o : Option (List ℕ)) (t : Thread Spot Words) → IsInCall (Some (landing o t))
  in_call None t = tt
  in_call (Some list) t = tt

  thread_is : (o : Option (List ℕ)) (t : Thread Spot Words) → thread_at x (landing o t) ≡ t
  thread_is None t = refl
  thread_is (Some list) t = refl

  -- a Look is done
  pub looks_on : (early : Bool) (place slot base : ℕ) (rest : Nodes) (i : ℕ) (l : Words) (o : Option (List ℕ)) → Flat rest → Asked early rest l.temps → Sits instrs (more_nodes (plain place (look slot base)) rest) i → (early ≡ true → m ≡ first)
      → On early (more_nodes (plain place (look slot base)) rest) (landing o (thread i l))
  looks_on early place slot base rest i l o f asked sits still =
      let a = look_at instrs place slot base rest i sits in
      let stage = landing o (thread i l) in
      let here : x.flow.here (thread_at x stage).top.at ≡ does place (look slot base) = ap (λ (t : Thread Spot Words). x.flow.here t.top.at) (thread_is o (thread i l)) ∙ a.here_is in
      let q = looked_at x 0 m place slot base (thread i l) in
      let e = look_effect_is x 0 m place slot base stage (in_call o (thread i l)) here in
      let u = look_turned_is x 0 m place slot base stage (in_call o (thread i l)) here in
      record {
        later = early;
        rest = rest;
        at = i + 1;
        words = q.top.own;
        list = None;
        memory = m;
        is = e ∙ (ap (λ (t : Thread Spot Words). record { memory = m; stage = Some (going (looked_at x 0 m place slot base t)); end = None }) (thread_is o (thread i l))
            ∙ ap (λ (k : Spot). record { memory = m; stage = Some (going (record { top = record { at = k; own = q.top.own }; callers = [] })); end = None }) (a.next_is true));
        goes_on = ap goes u;
        flat = f;
        asked = asked;
        sits = a.behind;
        count = refl;
        threads = refl;
        leaving = refl;
        still = still;
        tells = tells_nothing early (turned stage) u;
      } where
        tells_nothing : (early : Bool) (u : Turned) → u ≡ turns.looked → Tells early early u
        tells_nothing true u e = ap (λ u. step_answers (how_of u)) e
        tells_nothing false u e = tt

  -- what comes of a step that is done so
  abbrev outcome_effect : (place : ℕ) (s : Step) → (stage : Stage Spot) → (i : ℕ) → Words → Done → Effect Spot
  outcome_effect place s stage i l d = effects.effect_of_outcome 0 stage (thread i l) (own_list s) m (outcome_at x 0 m place s (thread i l) d)

  abbrev outcome_turns : (place : ℕ) (s : Step) → (i : ℕ) → Words → Done → Turned
  outcome_turns place s i l d = outcome_turned x 0 m (choice_at x 0 m place s l) (does place (step s)) (outcome_at x 0 m place s (thread i l) d)

  module _ (place : ℕ) (s : Step) (rest : Nodes) (i : ℕ) (l : Words) (o : Option (List ℕ)) (f : Flat rest) (sits : Sits instrs (more_nodes (plain place (step s)) rest) i) where
    abbrev stage : Stage Spot
    stage = landing o (thread i l)

    abbrev ns : Nodes
    ns = more_nodes (plain place (step s)) rest

    a : Rattle.headline_example.proofs.Alone.ActAt instrs (step s) place rest i
    a = step_at instrs place s rest i sits

    here : x.flow.here (thread_at x stage).top.at ≡ does place (step s)
    here = ap (λ (t : Thread Spot Words). x.flow.here t.top.at) (thread_is o (thread i l)) ∙ a.here_is

    effect_is : effect stage ≡ outcome_effect place s stage i l (done_at x 0 m place s l)
    effect_is = step_effect_is x 0 m place s stage (in_call o (thread i l)) here
        ∙ ap (λ (t : Thread Spot Words). effects.effect_of_outcome 0 stage t (own_list s) m (outcome_at x 0 m place s t (done_at x 0 m place s t.top.own))) (thread_is o (thread i l))

    turned_is : turned stage ≡ outcome_turns place s i l (done_at x 0 m place s l)
    turned_is = step_turned_is x 0 m place s stage (in_call o (thread i l)) here
        ∙ ap (λ (t : Thread Spot Words). outcome_turned x 0 m (choice_at x 0 m place s t.top.own) (does place (step s)) (outcome_at x 0 m place s t (done_at x 0 m place s t.top.own))) (thread_is o (thread i l))

    -- with the word that was given
    abbrev with_word : Option ℕ → Words
    with_word None = l
    with_word (Some word) = record { function = l.function; temps = set_if l.temps s.to word; slots = l.slots; below = l.below }

    went_effect : (word : Option ℕ) (n : Memory) → outcome_effect place s stage i l (accesses.went word n) ≡ record { memory = n; stage = Some (landing (own_list s) (thread (i + 1) (with_word word))); end = None }
    went_effect None n = ap (λ (k : Spot). record { memory = n; stage = Some (landing (own_list s) (record { top = record { at = k; own = l }; callers = [] })); end = None }) (a.next_is true)
    went_effect (Some word) n = ap (λ (k : Spot). record { memory = n; stage = Some (landing (own_list s) (record { top = record { at = k; own = with_word (Some word) }; callers = [] })); end = None }) (a.next_is true)

    went_turns : (word : Option ℕ) (n : Memory) → outcome_turns place s i l (accesses.went word n) ≡ done_turned x m (choice_at x 0 m place s l) s.action
    went_turns None n = refl
    went_turns (Some word) n = refl

    -- a step behind the malloc
    late : Fine rest → (d : Done) → IsDone m d → done_at x 0 m place s l ≡ d → done_turned x m (choice_at x 0 m place s l) s.action ≡ turns.stepped → On false ns stage ⊎ Off false ns stage
    late fine (accesses.went word n) h e t = inl (record {
      later = false;
      rest = rest;
      at = i + 1;
      words = with_word word;
      list = own_list s;
      memory = n;
      is = effect_is ∙ (ap (outcome_effect place s stage i l) e ∙ went_effect word n);
      goes_on = ap goes (turned_is ∙ (ap (outcome_turns place s i l) e ∙ (went_turns word n ∙ t)));
      flat = f;
      asked = fine;
      sits = a.behind;
      count = refl;
      threads = h.0;
      leaving = h.1;
      still = λ (q : false ≡ true). absurd (cc q);
      tells = tt;
    })
    late fine (accesses.over (accesses.trap word kind)) h e t =
        let u : turned stage ≡ turns.trapped word kind = turned_is ∙ ap (outcome_turns place s i l) e in
        inr (record { late = refl; goes_away = ap goes u; well = subst (λ u. EndsWell (ends_with 0 u)) (sym u) tt; some = omega arith })
    late fine (accesses.over accesses.output_limit) h e t =
        let u : turned stage ≡ turns.passed_limit = turned_is ∙ ap (outcome_turns place s i l) e in
        inr (record { late = refl; goes_away = ap goes u; well = subst (λ u. EndsWell (ends_with 0 u)) (sym u) tt; some = omega arith })
    late fine accesses.waits h e t = absurd h
    late fine accesses.unfit h e t = absurd h

    pub step_late : FitsAction s.action s.places s.temps → Fine rest → On false ns stage ⊎ Off false ns stage
    step_late fit fine = let d = fits x m l s.action s.places s.temps fit in late fine (done_at x 0 m place s l) d.done_ refl d.turned

    -- the malloc, where an object is chosen
    pub malloc_on : s.action ≡ malloc → (id at word : ℕ) (n : Memory) → n.threads ≡ m.threads → n.leaving ≡ m.leaving → choice_at x 0 m place s l ≡ accesses.got id at → done_at x 0 m place s l ≡ accesses.went (Some word) n → Fine rest → On true ns stage
    malloc_on is_malloc id at word n threads leaving chosen done_is fine =
        let u : turned stage ≡ turns.got id at =
        turned_is ∙ (ap (outcome_turns place s i l) done_is ∙ (went_turns (Some word) n ∙ (ap (done_turned x m (choice_at x 0 m place s l)) is_malloc ∙ ap (λ c. done_turned x m c malloc) chosen))) in
        record {
          later = false;
          rest = rest;
          at = i + 1;
          words = with_word (Some word);
          list = own_list s;
          memory = n;
          is = effect_is ∙ (ap (outcome_effect place s stage i l) done_is ∙ went_effect (Some word) n);
          goes_on = ap goes u;
          flat = f;
          asked = fine;
          sits = a.behind;
          count = refl;
          threads = threads;
          leaving = leaving;
          still = λ (q : false ≡ true). absurd (cc q);
          tells = ap (λ u. step_answers (how_of u)) u;
        }

  -- the return of main
  pub returns_off : (place : ℕ) (temp : Option ℕ) (rest : Nodes) (i : ℕ) (l : Words) (o : Option (List ℕ)) → Sits instrs (more_nodes (ret place temp) rest) i → Off false (more_nodes (ret place temp) rest) (landing o (thread i l))
  returns_off place temp rest i l o sits =
      let stage = landing o (thread i l) in
      let here : x.flow.here (thread_at x stage).top.at ≡ returns temp = ap (λ (t : Thread Spot Words). x.flow.here t.top.at) (thread_is o (thread i l)) ∙ ret_at instrs place temp rest i sits in
      let u = leave_turned_is x 0 m temp stage (in_call o (thread i l)) here (ap (λ (t : Thread Spot Words). t.callers) (thread_is o (thread i l))) in
      record { late = refl; goes_away = ap goes u; well = subst (λ u. EndsWell (ends_with 0 u)) (sym u) tt; some = omega arith }
