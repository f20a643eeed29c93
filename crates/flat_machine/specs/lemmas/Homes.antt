-- Places of home by number, and their stages.
use Rattle.std.proofs.Common.{◌≡◌, ℕ, zero, suc, ◌+◌, ◌<◌, false, List, [], ◌∷◌, ◌++◌, length, get_or, set, Option, Some, None, refl, sym, ap, ◌∙◌, subst, arith}
use Rattle.std.specs.Prelude.{All, flat_map, take}
use Rattle.block_store.specs.Runs.{own_at}
use Rattle.struct_ir.specs.Instrs.{LinearCode}
use Rattle.struct_ir.specs.Linear.{Spot}
use Rattle.flat_meaning.specs.Allowed.{handles_if}
use Rattle.flat_meaning.specs.Events.{MachineState, Serve, after_serve, after_serves}
use Rattle.flat_meaning.specs.Image.{Image}
use Rattle.flat_meaning.specs.Memory.{Made}
use Rattle.flat_meaning.specs.Ready as stages
use Rattle.flat_meaning.specs.Stages.{Stage, starts, going, waiting, landed}
use Rattle.flat_rules.specs.Lawful.{EachAt, IsOfRun}
use Rattle.flat_threads.specs.Belonging.{IsContextOf}
use Rattle.flat_threads.specs.Contexts.{Context, own_image, standing}
use Rattle.flat_threads.specs.Waits.{waits_at}
use Rattle.flat_machine.specs.Machine.{machine_of}
use Rattle.flat_machine.specs.Readiness.{wants_room}
use Rattle.flat_machine.specs.Shares.{Shared, image_of}
use Rattle.flat_machine.specs.Sweeping.{context_at, home_at, if_wants, place_at, serve_of, serves_if, stage_home, stage_or, stages_home, waits_at_home}
use Rattle.flat_machine.specs.inner.Swept.{handles_home}
use Rattle.flat_machine.specs.lemmas.Waits.{waits_are_told}

-- ---- each at its place

pub each_at : {A : Type 0} (at : ℕ → A → Type 0) (k : ℕ) (xs : List A) (n : ℕ) (d : A) → EachAt at k xs → n < length xs → at (k + n) (get_or xs n d)
each_at at k [] n d each below = absurd (omega arith)
each_at at k (x ∷ xs) zero d each below = let here : k ≡ k + 0 = omega arith in subst (λ (j : ℕ). at j x) here each.0
each_at at k (x ∷ xs) (suc n) d each below = let here : k + 1 + n ≡ k + suc n = omega arith in subst (λ (j : ℕ). at j (get_or xs n d)) here (each_at at (k + 1) xs n d each.1 (omega arith))

pub each_here : {A : Type 0} (at : ℕ → A → Type 0) (xs : List A) (n : ℕ) (d : A) → EachAt at 0 xs → n < length xs → at n (get_or xs n d)
each_here at xs n d each below = let same : 0 + n ≡ n = omega arith in subst (λ (j : ℕ). at j (get_or xs n d)) same (each_at at 0 xs n d each below)

-- within a list what is read past it doesn't matter
pub get_or_any : {A : Type 0} (xs : List A) (n : ℕ) (d e : A) → n < length xs → get_or xs n d ≡ get_or xs n e
get_or_any [] n d e below = absurd (omega arith)
get_or_any (x ∷ xs) zero d e below = refl
get_or_any (x ∷ xs) (suc n) d e below = get_or_any xs n d e (omega arith)

-- ---- stages by number

module _ {A : Type 0} where
  pub own_at_set : (own : List (Option A)) (n : ℕ) (v : Option A) → n < length own → own_at (set own n v) n ≡ v
  own_at_set [] n v below = absurd (omega arith)
  own_at_set (x ∷ own) zero v below = refl
  own_at_set (x ∷ own) (suc n) v below = own_at_set own n v (omega arith)

  pub own_at_set-later : (own : List (Option A)) (n k : ℕ) (v : Option A) → n < k → own_at (set own n v) k ≡ own_at own k
  own_at_set-later [] n k v below = refl
  own_at_set-later (x ∷ own) n zero v below = absurd (omega arith)
  own_at_set-later (x ∷ own) zero (suc k) v below = refl
  own_at_set-later (x ∷ own) (suc n) (suc k) v below = own_at_set-later own n k v (omega arith)

pub length-stages_home : (ts : List Made) (home : List (Option Context)) → length (stages_home ts home) ≡ length ts
length-stages_home [] home = refl
length-stages_home (t ∷ ts) [] = ap suc (length-stages_home ts [])
length-stages_home (t ∷ ts) (c ∷ home) = ap suc (length-stages_home ts home)

-- the stage of a place
pub own_at_home : (ts : List Made) (home : List (Option Context)) (n : ℕ) → n < length ts → n < length home → (t : Made) × (own_at (stages_home ts home) n ≡ stage_home t (get_or home n None))
own_at_home [] home n below within = absurd (omega arith)
own_at_home (t ∷ ts) [] n below within = absurd (omega arith)
own_at_home (t ∷ ts) (c ∷ home) zero below within = (t, refl)
own_at_home (t ∷ ts) (c ∷ home) (suc n) below within = own_at_home ts home n (omega arith) (omega arith)

-- ---- serves

-- one behind the other
pub after_serves-append : (x : Image Spot) (vs ws : List Serve) (s : MachineState Spot) → after_serves x (vs ++ ws) s ≡ after_serves x ws (after_serves x vs s)
after_serves-append x [] ws s = refl
after_serves-append x (v ∷ vs) ws s = after_serves-append x vs ws (after_serve x s v)

-- ---- places with other stages

module _ (code : LinearCode) where
  pub home_at_set : (own : List (Option (Stage Spot))) (home : List (Option Context)) (n : ℕ) (stage : Option (Stage Spot)) → n < length own → n < length home → home_at code (set own n stage) home ≡ set (home_at code own home) n (place_at code (get_or home n None) stage)
  home_at_set [] home n stage below within = absurd (omega arith)
  home_at_set (o ∷ own) [] n stage below within = absurd (omega arith)
  home_at_set (o ∷ own) (c ∷ home) zero stage below within = refl
  home_at_set (o ∷ own) (c ∷ home) (suc n) stage below within = ap (λ (places : List (Option Context)). place_at code c o ∷ places) (home_at_set own home n stage (omega arith) (omega arith))

  -- with its own stage a context is as it is
  context_is : (t : Made) (c : Context) (stage : Option (Stage Spot)) → c.stage ≡ stage → c.wait ≡ waits_at (own_image code) c.stage → context_at code c stage (stage_or t stage) ≡ c
  context_is t c None is wait = refl
  context_is t c (Some before) is wait = ap (λ (o : Option (Stage Spot)). standing c o (waits_at (own_image code) o)) (sym is) ∙ ap (λ w. standing c c.stage w) (sym wait)

  pub place_is : (t : Made) (p : Option Context) → IsOfRun (machine_of code) (IsContextOf code) p → place_at code p (stage_home t p) ≡ p
  place_is t None of_run = refl
  place_is t (Some c) of_run = ap Some (context_is t c c.stage refl of_run.wait)

  rest_of : {A : Type 0} (P : A → Type 0) (x : A) (xs : List A) → All P (x ∷ xs) → All P xs
  rest_of P x xs all = λ k d below. all (suc k) d (omega arith)

  pub home_is : (ts : List Made) (home : List (Option Context)) → All (IsOfRun (machine_of code) (IsContextOf code)) home → home_at code (stages_home ts home) home ≡ home
  home_is [] [] all = refl
  home_is [] (c ∷ home) all = refl
  home_is (t ∷ ts) [] all = refl
  home_is (t ∷ ts) (c ∷ home) all =
      ap (λ p. p ∷ home_at code (stages_home ts home) home) (place_is t c (all 0 c (omega arith))) ∙ ap (λ (places : List (Option Context)). c ∷ places) (home_is ts home (rest_of (IsOfRun (machine_of code) (IsContextOf code)) c home all))

  -- ---- handles

  handles_same : (s : Shared) (t : Made) (p : Option Context) → handles_if (image_of code s).flow (stage_home t p) ≡ handles_home code p
  handles_same s t None = refl
  handles_same s t (Some c) = by_stage c.stage
    where
      by_stage : (stage : Option (Stage Spot)) → handles_if (image_of code s).flow (stage_or t stage) ≡ handles_if (own_image code).flow stage
      by_stage None = refl
      by_stage (Some stage) = refl

  -- those of all threads that were made
  pub handles_of_home : (s : Shared) (ts : List Made) (home : List (Option Context)) → flat_map (handles_if (image_of code s).flow) (stages_home ts home) ≡ flat_map (handles_home code) (take (length ts) home)
  handles_of_home s [] home = refl
  handles_of_home s (t ∷ ts) [] = handles_of_home s ts [] ∙ none (length ts)
    where
      none : (n : ℕ) → flat_map (handles_home code) (take n []) ≡ []
      none zero = refl
      none (suc n) = refl
  handles_of_home s (t ∷ ts) (c ∷ home) = ap (λ (ws : List ℕ). ws ++ flat_map (handles_if (image_of code s).flow) (stages_home ts home)) (handles_same s t c) ∙ ap (λ (ws : List ℕ). handles_home code c ++ ws) (handles_of_home s ts home)

  -- ---- who waits for room

  -- whatever the limits
  pub wants_same : (s : Shared) (stage : Stage Spot) → stages.wants_room (image_of code s) stage ≡ stages.wants_room (own_image code) stage
  wants_same s (starts function argument) = refl
  wants_same s (going t) = refl
  wants_same s (waiting t) = refl
  wants_same s (landed list t) = refl

  -- one that doesn't isn't served
  pub none_served : (s : Shared) (now : MachineState Spot) (k : ℕ) (t : Made) (p : Option Context) → IsOfRun (machine_of code) (IsContextOf code) p → waits_at_home p ≡ false → serves_if (image_of code s) now k (stage_home t p) ≡ []
  none_served s now k t None of_run none = refl
  none_served s now k t (Some c) of_run none = by_stage c.stage refl
    where
      by_stage : (stage : Option (Stage Spot)) → c.stage ≡ stage → serves_if (image_of code s) now k (stage_or t stage) ≡ []
      by_stage None is = refl
      by_stage (Some stage) is =
          let waits : stages.wants_room (own_image code) stage ≡ false = sym (waits_are_told.room (own_image code) stage) ∙ ap (λ (o : Option (Stage Spot)). wants_room (waits_at (own_image code) o)) (sym is) ∙ ap wants_room (sym of_run.wait) ∙ none in
          ap (λ b. if_wants b (serve_of (image_of code s) now k stage)) (wants_same s stage ∙ waits)
