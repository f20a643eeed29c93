-- Allocations that are served one after the other: so many threads, counted from 0, have had their turn.
use Rattle.std.proofs.Common.{◌≡◌, ◌≢◌, ℕ, zero, suc, ◌+◌, ◌<◌, ◌≤◌, true, false, List, [], ◌∷◌, ◌++◌, length, get_or, set, map, add-one, Option, Some, None, refl, sym, ap, ◌∙◌, subst, append_assoc, arith}
use Rattle.std.specs.Prelude.{All, is_some}
use Rattle.std.specs.List.{range_with_len}
use Rattle.std.proofs.lemmas.List.{append-nil, drop_all, get_or-set_other, length-append, length-set, map-append, set-get_or}
use Rattle.ak_trace.specs.declared.entry.Entry.{Entry}
use Rattle.block_store.specs.Runs.{own_at}
use Rattle.struct_ir.specs.Instrs.{LinearCode}
use Rattle.struct_ir.specs.Linear.{Spot}
use Rattle.flat_meaning.specs.Effects.{Effect, serve_effect}
use Rattle.flat_meaning.specs.Events.{MachineState, Serve, after_serves, new_stages, put, put_if, stage_made}
use Rattle.flat_meaning.specs.Image.{Image, linear_image}
use Rattle.flat_meaning.specs.Memory.{Memory, words_leaving}
use Rattle.flat_meaning.specs.Stages.{Stage}
use Rattle.flat_rules.specs.Entries.{served_entry}
use Rattle.flat_rules.specs.Lawful.{AreHome, IsHomeAt, IsOfRun}
use Rattle.flat_threads.specs.Belonging.{IsContextOf}
use Rattle.flat_threads.specs.Contexts.{Context}
use Rattle.flat_machine.specs.Machine.{machine_of}
use Rattle.flat_machine.specs.Shares.{Shared, image_of, limits_of}
use Rattle.flat_machine.specs.Sweeping.{at_home, context_at, home_at, if_wants, place_at, serve_of, served_of, serves_from, serves_if, stage_home, stage_or, waits_at_home}
use Rattle.flat_machine.specs.inner.Swept.{IsServed, IsServedIf, serve_now, serves_below, state_below}
use Rattle.flat_machine.specs.lemmas.Homes.{after_serves-append, each_here, own_at_set-later, length-stages_home, own_at_home, home_at_set, home_is, none_served, wants_same}

-- ---- one more behind the others

pub range_push : (a n j : ℕ) → a + n ≡ j → range_with_len a (suc n) ≡ range_with_len a n ++ j ∷ []
range_push a zero j e = let same : a ≡ j = omega arith in ap (λ k. k ∷ []) same
range_push a (suc n) j e = ap (λ ks. a ∷ ks) (range_push (a + 1) n j (omega arith))

module _ (x : Image Spot) where
  -- the serves of one thread in a state
  abbrev pub turn_of : MachineState Spot → (thread : ℕ) → List Serve
  turn_of s thread = serves_if x s thread (own_at s.own thread)

  pub serves_from-push : (threads : List ℕ) (k : ℕ) (s : MachineState Spot) → serves_from x (threads ++ k ∷ []) s ≡ serves_from x threads s ++ turn_of (after_serves x (serves_from x threads s) s) k
  serves_from-push [] k s = append-nil (turn_of s k)
  serves_from-push (t ∷ threads) k s =
      let v = turn_of s t in
      let next = after_serves x v s in
      let rest = serves_from x threads next in
      ap (λ (ws : List Serve). v ++ ws) (serves_from-push threads k next)
      ∙ sym (append_assoc v rest (turn_of (after_serves x rest next) k))
      ∙ ap (λ (now : MachineState Spot). (v ++ rest) ++ turn_of now k) (sym (after_serves-append x v rest s))

-- the entry of an allocation that was served
abbrev pub told : Serve → Entry
told v = served_entry 0 (served_of v)

module _ (code : LinearCode) (s : Shared) (home : List (Option Context)) where
  -- after these serves
  pub record IsAfter (vs : List Serve) (count : ℕ) (shared : Shared) (places : List (Option Context)) : Type 0 where
    pub now : shared ≡ record s { memory = (after_serves (image_of code s) vs (at_home s home)).memory; made = s.made ++ map told vs }
    pub there : places ≡ home_at code (after_serves (image_of code s) vs (at_home s home)).own home
    pub long : length (after_serves (image_of code s) vs (at_home s home)).own ≡ length s.memory.threads
    pub threads : (after_serves (image_of code s) vs (at_home s home)).memory.threads ≡ s.memory.threads
    pub limits : limits_of shared ≡ limits_of s
    pub later : (k : ℕ) → count ≤ k → own_at (after_serves (image_of code s) vs (at_home s home)).own k ≡ own_at (at_home s home).own k
    pub unserved : (k : ℕ) → count ≤ k → get_or places k None ≡ get_or home k None
    pub few : length shared.made ≤ length s.made + count
    pub serves : is_some shared.memory.leaving ≡ true
    pub leaving : length (words_leaving shared.memory.leaving) ≤ count

  -- so many threads have had their turn
  abbrev pub IsBelow : (count : ℕ) → Shared → List (Option Context) → Type 0
  IsBelow count shared places = IsAfter (serves_below code s home count) count shared places

  module _ (all : All (IsOfRun (machine_of code) (IsContextOf code)) home) (homes : AreHome (machine_of code) s home) (begun : s.memory.leaving ≡ Some []) where
    pub none_below : IsBelow 0 s home
    none_below = record {
      now = ap (λ (made : List Entry). record s { made = made }) (sym (append-nil s.made));
      there = sym (home_is code s.memory.threads home all);
      long = length-stages_home s.memory.threads home;
      threads = refl;
      limits = refl;
      later = λ k le. refl;
      unserved = λ k le. refl;
      few = omega arith;
      serves = ap is_some begun;
      leaving = omega (arith, ap (λ (words : Option (List ℕ)). length (words_leaving words)) begun);
    }

    module _ (vs : List Serve) (n : ℕ) (shared : Shared) (places : List (Option Context)) (is : IsAfter vs n shared places) (below : n < length s.memory.threads) where
      abbrev x : Image Spot
      x = image_of code s

      abbrev state : MachineState Spot
      state = after_serves x vs (at_home s home)

      within : n < length home
      within = omega (arith, homes.0)

      own_stage : (t : _) × (own_at state.own n ≡ stage_home t (get_or home n None))
      own_stage = let there = own_at_home s.memory.threads home n below within in (there.0, is.later n (omega arith) ∙ there.1)

      of_run : IsOfRun (machine_of code) (IsContextOf code) (get_or home n None)
      of_run = all n None within

      -- it didn't wait
      pub none_more : (q : Option Context) → q ≡ get_or places n None → waits_at_home (get_or places n None) ≡ false → IsAfter (vs ++ turn_of x state n) (n + 1) shared (set places n q)
      none_more q same none =
          let idle : turn_of x state n ≡ [] = ap (serves_if x state n) own_stage.1 ∙ none_served code s state n own_stage.0 (get_or home n None) of_run (ap waits_at_home (sym (is.unserved n (omega arith))) ∙ none) in
          let kept : set places n q ≡ places = ap (set places n) same ∙ set-get_or places n None in
          let whole : vs ++ turn_of x state n ≡ vs = ap (λ (ws : List Serve). vs ++ ws) idle ∙ append-nil vs in
          let after : IsAfter vs (n + 1) shared places = record { now = is.now; there = is.there; long = is.long; threads = is.threads; limits = is.limits; later = λ k le. is.later k (omega arith); unserved = λ k le. is.unserved k (omega arith); few = omega (arith, is.few); serves = is.serves; leaving = omega (arith, is.leaving) } in
          subst (λ (ws : List Serve). IsAfter ws (n + 1) shared (set places n q)) (sym whole) (subst (λ (ps : List (Option Context)). IsAfter vs (n + 1) shared ps) (sym kept) after)

      -- it waited, and was served
      module _ (new : Shared) (c d : Context) (place : get_or places n None ≡ Some c) (served : IsServed code shared new c d) where
        at_first : get_or home n None ≡ Some c
        at_first = sym (is.unserved n (omega arith)) ∙ place

        number : c.number ≡ n
        number = (subst (IsHomeAt (machine_of code) s n) at_first (each_here (IsHomeAt (machine_of code) s) home n None homes.1 within)).thread

        stage_is : own_at state.own n ≡ Some served.stage
        stage_is = own_stage.1 ∙ ap (stage_home own_stage.0) at_first ∙ ap (stage_or own_stage.0) served.is

        same_memory : shared.memory ≡ state.memory
        same_memory = ap (λ (v : Shared). v.memory) is.now

        same_image : image_of code shared ≡ x
        same_image = ap (linear_image code) is.limits

        abbrev serve : Serve
        serve = serve_of x state n served.stage

        -- how it's served, in whichever image and memory
        abbrev serve_in : Image Spot → Memory → (thread : ℕ) → Serve
        serve_in y m k = serve_of y (record { memory = m; own = []; end = None }) k served.stage

        same_serve : serve_now code shared c.number served.stage ≡ serve
        same_serve = ap (λ y. serve_in y shared.memory c.number) same_image ∙ ap (λ m. serve_in x m c.number) same_memory ∙ ap (serve_in x state.memory) number

        turn_is : turn_of x state n ≡ serve ∷ []
        turn_is = ap (serves_if x state n) stage_is ∙ ap (λ b. if_wants b serve) (wants_same code s served.stage ∙ served.wants)

        abbrev effect : Effect Spot
        effect = record { memory = new.memory; stage = Some served.behind; end = None }

        effect_is : serve_effect x n serve.choice served.stage state.memory ≡ effect
        effect_is =
            sym (
            ap (λ y. serve_effect y c.number (serve_in y shared.memory c.number).choice served.stage shared.memory) same_image
            ∙ ap (λ m. serve_effect x c.number (serve_in x m c.number).choice served.stage m) same_memory
            ∙ ap (λ k. serve_effect x k (serve_in x state.memory k).choice served.stage state.memory) number
            )
            ∙ served.effect

        abbrev behind : MachineState Spot
        behind = put state n effect

        after_is : after_serves x (vs ++ serve ∷ []) (at_home s home) ≡ behind
        after_is = after_serves-append x vs (serve ∷ []) (at_home s home) ∙ ap (put_if state n (serve_effect x n serve.choice)) stage_is ∙ ap (put state n) effect_is

        same_threads : new.memory.threads ≡ s.memory.threads
        same_threads = served.threads ∙ ap (λ (m : Memory). m.threads) same_memory ∙ is.threads

        none_new : new_stages state.own new.memory ≡ []
        none_new = ap (map stage_made) (drop_all (length state.own) new.memory.threads (omega (arith, ap length same_threads, is.long)))

        own_is : behind.own ≡ set state.own n (Some served.behind)
        own_is = ap (λ (os : List (Option (Stage Spot))). set state.own n (Some served.behind) ++ os) none_new ∙ append-nil (set state.own n (Some served.behind))

        place_behind : place_at code (get_or home n None) (Some served.behind) ≡ Some d
        place_behind =
            ap (λ p. place_at code p (Some served.behind)) at_first ∙ ap (λ o. Some (context_at code c o (Some served.behind))) served.is ∙ ap Some (sym served.context)

        -- in that state
        pub record IsIn (now : MachineState Spot) : Type 0 where
          pub memory : new.memory ≡ now.memory
          pub there : set places n (Some d) ≡ home_at code now.own home
          pub long : length now.own ≡ length s.memory.threads
          pub threads : now.memory.threads ≡ s.memory.threads
          pub later : (k : ℕ) → n + 1 ≤ k → own_at now.own k ≡ own_at (at_home s home).own k

        is_in_behind : IsIn behind
        is_in_behind = record {
          memory = refl;
          there =
              ap (λ (ps : List (Option Context)). set ps n (Some d)) is.there
              ∙ ap (set (home_at code state.own home) n) (sym place_behind)
              ∙ sym (home_at_set code state.own home n (Some served.behind) (omega (arith, is.long)) within)
              ∙ ap (λ (os : List (Option (Stage Spot))). home_at code os home) (sym own_is);
          long = ap length own_is ∙ length-set state.own n (Some served.behind) ∙ is.long;
          threads = same_threads;
          later = λ k le. ap (λ (os : List (Option (Stage Spot))). own_at os k) own_is ∙ own_at_set-later state.own n k (Some served.behind) (omega arith) ∙ is.later k (omega arith);
        }

        made_is : new.made ≡ s.made ++ map told (vs ++ serve ∷ [])
        made_is =
            ap (λ (v : Shared). v.made) served.shared
            ∙ ap (λ (es : List Entry). es ++ told (serve_now code shared c.number served.stage) ∷ []) (ap (λ (v : Shared). v.made) is.now)
            ∙ ap (λ v. (s.made ++ map told vs) ++ told v ∷ []) same_serve
            ∙ append_assoc s.made (map told vs) (told serve ∷ [])
            ∙ ap (λ (es : List Entry). s.made ++ es) (sym (map-append told vs (serve ∷ [])))

        rest_is : (memory : Memory) (made : List Entry) → new ≡ record shared { memory = new.memory; made = new.made } → new.memory ≡ memory → new.made ≡ made → new ≡ record s { memory = memory; made = made }
        rest_is memory made kept m e =
            kept
            ∙ ap (λ (v : Shared). record v { memory = new.memory; made = new.made }) is.now
            ∙ ap (λ m. record s { memory = m; made = new.made }) m
            ∙ ap (λ e. record s { memory = memory; made = e }) e

        kept : new ≡ record shared { memory = new.memory; made = new.made }
        kept = served.shared ∙ ap (λ e. record shared { memory = new.memory; made = e }) (sym (ap (λ (v : Shared). v.made) served.shared))

        in_state : IsIn (after_serves x (vs ++ serve ∷ []) (at_home s home))
        in_state = subst IsIn (sym after_is) is_in_behind

        one : IsAfter (vs ++ serve ∷ []) (n + 1) new (set places n (Some d))
        one = record {
          now = rest_is (after_serves x (vs ++ serve ∷ []) (at_home s home)).memory (s.made ++ map told (vs ++ serve ∷ [])) kept in_state.memory made_is;
          there = in_state.there;
          long = in_state.long;
          threads = in_state.threads;
          limits = served.limits ∙ is.limits;
          later = in_state.later;
          unserved = λ k le. let apart : k ≢ n = λ e. omega arith in get_or-set_other places n k (Some d) None apart ∙ is.unserved k (omega arith);
          few = omega (arith, ap length (ap (λ (v : Shared). v.made) served.shared), length-append shared.made (told (serve_now code shared c.number served.stage) ∷ []), is.few);
          serves = served.serves is.serves;
          leaving = omega (arith, served.leaving, is.leaving);
        }

        pub one_more : IsAfter (vs ++ turn_of x state n) (n + 1) new (set places n (Some d))
        one_more = subst (λ (ws : List Serve). IsAfter (vs ++ ws) (n + 1) new (set places n (Some d))) (sym turn_is) one

    -- the next thread has had its turn
    pub next_below : (n : ℕ) (shared new : Shared) (places : List (Option Context)) (q : Option Context) → IsBelow n shared places → n < length s.memory.threads → IsServedIf code shared new (get_or places n None) q → IsBelow (n + 1) new (set places n q)
    next_below n shared new places q is below served =
        let more : serves_below code s home (n + 1) ≡ serves_below code s home n ++ turn_of (image_of code s) (state_below code s home n) n =
        ap (λ (ks : List ℕ). serves_from (image_of code s) ks (at_home s home)) (ap (range_with_len 0) (add-one n) ∙ range_push 0 n n (omega arith)) ∙ serves_from-push (image_of code s) (range_with_len 0 n) n (at_home s home) in
        subst (λ (vs : List Serve). IsAfter vs (n + 1) new (set places n q)) (sym more)
        (elim (waits_at_home (get_or places n None)) as (λ t. waits_at_home (get_or places n None) ≡ t → IsAfter (serves_below code s home n ++ turn_of (image_of code s) (state_below code s home n) n) (n + 1) new (set places n q)) [
          | true ↦ λ w. (
              let at = served.waits w in
              subst (λ o. IsAfter (serves_below code s home n ++ turn_of (image_of code s) (state_below code s home n) n) (n + 1) new (set places n o)) (sym at.is_behind)
              (one_more (serves_below code s home n) n shared places is below new at.context at.behind at.is at.served))
          | false ↦ λ w. (
              let none = served.none w in
              subst (λ v. IsAfter (serves_below code s home n ++ turn_of (image_of code s) (state_below code s home n) n) (n + 1) v (set places n q)) (sym none.0)
              (none_more (serves_below code s home n) n shared places is below q none.1 w))
        ] refl)
