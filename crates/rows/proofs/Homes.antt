-- The threads at home behind a turn.
use Rattle.std.proofs.Common.{◌≡◌, ◌≢◌, ℕ, zero, suc, ◌+◌, ◌<◌, ◌≤◌, List, [], ◌∷◌, ◌++◌, length, get_or, set, ap, sym, subst, ◌∙◌, refl, arith, inl, inr, Option, Some, None}
use Rattle.std.specs.Prelude.{◌⊎◌, All}
use Rattle.std.specs.List.{AllZip}
use Rattle.std.proofs.lemmas.Bool.{cases_eq}
use Rattle.std.proofs.lemmas.List.{length-set, length_push, get_or_append_left, get_or_push, get_or-set_other, get_or-set_same}
use Rattle.flat_rules.specs.declared.step.Step.{Step}
use Rattle.flat_rules.specs.Lawful.{AreHome, EachAt, IsFlat, IsHomeAt, IsOfRun, IsOpened, KeptAt}
use Rattle.flat_rules.specs.Machine.{Machine}
use Rattle.rows.specs.Runs.{IsPlace, IsRun, Turns}

module _ {S C : Type 0} (m : Machine S C) (SharedOf : S → Type 0) (ContextOf : C → Type 0) where
  -- ---- a turn of one thread

  module _ (s s' : S) (t : ℕ) (c : C) (last : Step) (turns : Turns m SharedOf ContextOf s s' t c last) where
    -- another's place
    place_kept : (k : ℕ) → k ≢ t → (o : Option C) → IsPlace m SharedOf ContextOf s k o → IsPlace m SharedOf ContextOf s' k o
    place_kept k not None has = turns.others k not ∙ has
    place_kept k not (Some d) place =
        let on = place.0 in
        let made : m.thread_of d < m.threads s' = omega (arith, on.lives.made, turns.more) in (
          record {
            lives = record {
              shared = turns.shared;
              context = on.lives.context;
              made = made;
              going = turns.others (m.thread_of d) (λ e. not (sym on.thread ∙ e)) ∙ on.lives.going;
            };
            progress = on.progress;
            thread = on.thread;
          },
          place.1,
        )

    -- a thread that had a place has this one now
    pub run_set : (homes : List (Option C)) (o : Option C) → IsRun m SharedOf ContextOf s homes → t < length homes → IsPlace m SharedOf ContextOf s' t o → IsRun m SharedOf ContextOf s' (set homes t o)
    run_set homes o run there place = record {
      shared = turns.shared;
      most = turns.most;
      short = omega (arith, length-set homes t o, run.short, turns.more);
      places = λ k d below. places k d (omega (arith, length-set homes t o, below)) (cases_eq k t);
      later = λ k le. let far : length homes ≤ k = omega (arith, length-set homes t o, le) in turns.others k (λ e. absurd (omega (arith, e, far, there))) ∙ run.later k far;
    }
      where
        places : (k : ℕ) (d : Option C) → k < length homes → (k ≡ t) ⊎ (k ≢ t) → IsPlace m SharedOf ContextOf s' k (get_or (set homes t o) k d)
        places k d below (inl e) = subst (λ (j : ℕ). IsPlace m SharedOf ContextOf s' j (get_or (set homes t o) j d)) (sym e) (subst (IsPlace m SharedOf ContextOf s' t) (sym (get_or-set_same homes t o d there)) place)
        places k d below (inr not) = subst (IsPlace m SharedOf ContextOf s' k) (sym (get_or-set_other homes t k o d not)) (place_kept k not (get_or homes k d) (run.places k d below))

    -- a thread that was made has its first place
    pub run_push : (homes : List (Option C)) (o : Option C) → IsRun m SharedOf ContextOf s homes → t ≡ length homes → t < m.threads s → IsPlace m SharedOf ContextOf s' t o → IsRun m SharedOf ContextOf s' (homes ++ o ∷ [])
    run_push homes o run at made place = record {
      shared = turns.shared;
      most = turns.most;
      short = omega (arith, length_push homes o, at, made, turns.more);
      places = λ k d below. places k d (omega (arith, length_push homes o, below)) (cases_eq k t);
      later = λ k le. let far : length homes + 1 ≤ k = omega (arith, length_push homes o, le) in turns.others k (λ e. absurd (omega (arith, e, far, at))) ∙ run.later k (omega (arith, far));
    }
      where
        pushed : (d : Option C) → get_or (homes ++ o ∷ []) t d ≡ o
        pushed d = get_or_push homes o d t (sym at)

        places : (k : ℕ) (d : Option C) → k < length homes + 1 → (k ≡ t) ⊎ (k ≢ t) → IsPlace m SharedOf ContextOf s' k (get_or (homes ++ o ∷ []) k d)
        places k d below (inl e) = subst (λ (j : ℕ). IsPlace m SharedOf ContextOf s' j (get_or (homes ++ o ∷ []) j d)) (sym e) (subst (IsPlace m SharedOf ContextOf s' t) (sym (pushed d)) place)
        places k d below (inr not) =
            let within : k < length homes = omega (arith, below, at, not) in
            subst (IsPlace m SharedOf ContextOf s' k) (sym (get_or_append_left homes (o ∷ []) d k within)) (place_kept k not (get_or homes k d) (run.places k d within))

  -- ---- a barrier

  module _ (s : S) where
    of_place : (k : ℕ) (o : Option C) → IsPlace m SharedOf ContextOf s k o → IsOfRun m ContextOf o
    of_place k None place = tt
    of_place k (Some c) place = place.0.lives.context

    home_place : (k : ℕ) (o : Option C) → IsPlace m SharedOf ContextOf s k o → IsHomeAt m s k o
    home_place k None place = λ below. place
    home_place k (Some c) place =
        let on = place.0 in
        let made : k < m.threads s = subst (λ (j : ℕ). j < m.threads s) on.thread on.lives.made in
        record { thread = on.thread; stands = place.1; rests = inr (on.progress, made) }

    each_home : (homes : List (Option C)) (n : ℕ) → ((k : ℕ) (d : Option C) → k < length homes → IsPlace m SharedOf ContextOf s (n + k) (get_or homes k d)) → EachAt (IsHomeAt m s) n homes
    each_home [] n places = tt
    each_home (o ∷ homes) n places = (
      home_place n o (let z : n + 0 ≡ n = omega arith in subst (λ (j : ℕ). IsPlace m SharedOf ContextOf s j o) z (places 0 o (omega arith))),
      each_home homes (n + 1) (λ k d below. let z : n + suc k ≡ (n + 1) + k = omega arith in subst (λ (j : ℕ). IsPlace m SharedOf ContextOf s j (get_or homes k d)) z (places (suc k) d (omega (arith, below)))),
    )

    module _ (homes : List (Option C)) (run : IsRun m SharedOf ContextOf s homes) where
      pub all_of_run : All (IsOfRun m ContextOf) homes
      all_of_run k d below = of_place k (get_or homes k d) (run.places k d below)

      pub are_home : length homes ≡ m.threads s → AreHome m s homes
      are_home all = (omega (arith, all), each_home homes 0 (λ k d below. let z : k ≡ 0 + k = omega arith in subst (λ (j : ℕ). IsPlace m SharedOf ContextOf s j (get_or homes k d)) z (run.places k d below)))

  kept_length : (xs ys : List (Option C)) → AllZip (KeptAt m ContextOf) xs ys → length ys ≡ length xs
  kept_length [] [] kept = refl
  kept_length [] (y ∷ ys) kept = absurd kept
  kept_length (x ∷ xs) [] kept = absurd kept
  kept_length (x ∷ xs) (y ∷ ys) kept = let z = kept_length xs ys kept.1 in omega (arith, z)

  kept_at : (xs ys : List (Option C)) → AllZip (KeptAt m ContextOf) xs ys → (k : ℕ) (d : Option C) → k < length xs → KeptAt m ContextOf (get_or xs k d) (get_or ys k d)
  kept_at [] ys kept k d below = absurd (omega arith)
  kept_at (x ∷ xs) [] kept k d below = absurd kept
  kept_at (x ∷ xs) (y ∷ ys) kept zero d below = kept.0
  kept_at (x ∷ xs) (y ∷ ys) kept (suc k) d below = kept_at xs ys kept.1 k d (omega arith)

  module _ (s s' : S) (shared : SharedOf s') (threads : m.threads s' ≡ m.threads s) (ends : (k : ℕ) → m.has_ended s' k ≡ m.has_ended s k) where
    place_swept : (k : ℕ) (o p : Option C) → IsPlace m SharedOf ContextOf s k o → KeptAt m ContextOf o p → IsPlace m SharedOf ContextOf s' k p
    place_swept k None None place kept = ends k ∙ place
    place_swept k None (Some d) place kept = absurd kept
    place_swept k (Some c) None place kept = absurd kept
    place_swept k (Some c) (Some d) place kept =
        let on = place.0 in
        let thread : m.thread_of d ≡ k = kept.1 ∙ on.thread in
        let made : m.thread_of d < m.threads s' = omega (arith, on.lives.made, kept.1, threads) in (
          record {
            lives = record { shared = shared; context = kept.0; made = made; going = ends (m.thread_of d) ∙ (ap (m.has_ended s) kept.1 ∙ on.lives.going) };
            progress = kept.2 ∙ on.progress;
            thread = thread;
          },
          kept.3 ∙ place.1,
        )

    run_kept : (homes homes' : List (Option C)) → AllZip (KeptAt m ContextOf) homes homes' → IsRun m SharedOf ContextOf s homes → IsRun m SharedOf ContextOf s' homes'
    run_kept homes homes' kept run =
        let long = kept_length homes homes' kept in
        record {
          shared = shared;
          most = omega (arith, threads, run.most);
          short = omega (arith, long, threads, run.short);
          places = λ k d below. let within : k < length homes = omega (arith, long, below) in place_swept k (get_or homes k d) (get_or homes' k d) (run.places k d within) (kept_at homes homes' kept k d within);
          later = λ k le. ends k ∙ run.later k (omega (arith, long, le));
        }

  -- a run behind a barrier
  pub run_swept : IsFlat m SharedOf ContextOf → (s s' : S) (homes homes' : List (Option C)) → IsRun m SharedOf ContextOf s homes → length homes ≡ m.threads s → s' ≡ (m.barrier s homes).shared → homes' ≡ (m.barrier s homes).homes → IsRun m SharedOf ContextOf s' homes'
  run_swept flat s s' homes homes' run all shared swept =
      let h = flat.sweeps s homes run.shared (all_of_run s homes run) (are_home s homes run all) in
      subst (λ (z : S × List (Option C)). IsRun m SharedOf ContextOf z.0 z.1) (λ i. (sym shared i, sym swept i)) (run_kept s (m.barrier s homes).shared h.of_ h.threads h.ends homes (m.barrier s homes).homes h.kept run)

  -- nothing has run
  pub run_opened : (s : S) → IsOpened m SharedOf s → IsRun m SharedOf ContextOf s []
  run_opened s opened = record {
    shared = opened.of_;
    most = omega (arith, opened.one);
    short = omega arith;
    places = λ k d below. absurd (omega (arith, below));
    later = λ k le. opened.going k;
  }
