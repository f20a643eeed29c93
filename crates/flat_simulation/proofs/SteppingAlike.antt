-- Threads of two codes that stand before the same do the same there.
use Rattle.std.proofs.Common.{◌≡◌, ℕ, List, [], ◌∷◌, true, ◌==◌, Option, Some, None, refl, sym, ap, subst, ◌∙◌}
use Rattle.std.specs.Prelude.{if◌then◌else◌, slice_get}
use Rattle.block_store.specs.declared.values.Answer.{Answer}
use Rattle.struct_ir.specs.Nodes.{set, call, step, look, safepoint, begin_object, end_object}
use Rattle.struct_ir.specs.Flow.{Here, does, tests, passes, round, returns, Flow, IsCall}
use Rattle.struct_ir.specs.Machine.{Point}
use Rattle.struct_ir.specs.Threads.{Served, serves, waits, refuses, fails, Thread, Outcome, went, ended, blocked, broke, unfit, served, finished, left_call, stop_at}
use Rattle.struct_ir.specs.Alike.{LevelThreads, SameThreads, SameOutcomes}
use Rattle.struct_ir.proofs.Level.{stop_same}
use Rattle.flat_meaning.specs.Image.{Layout, Image}
use Rattle.flat_meaning.specs.Words.{Words}
use Rattle.flat_meaning.specs.Memory.{Memory}
use Rattle.flat_meaning.specs.Accesses.{Fault, Choice, plain, got, null, wait}
use Rattle.flat_meaning.specs.Machine.{words_machine, words_world}
use Rattle.flat_meaning.specs.Stages.{Stage, Before, safe, looks, steps, calls, turn_over, nothing, before_here, before}
use Rattle.flat_meaning.specs.Effects.{exit_of, own_list_of, landing, effect_of_outcome, stop_of, step_effect}
use Rattle.flat_meaning.specs.Order.{pick_if, tried_if, answer_of, answer_here, step_picks}
use Rattle.flat_meaning.specs.Emitted.{AreOne, IsSafepoint, CallsAreGuarded}
use Rattle.flat_simulation.specs.inner.Level.{image, level, StagesMatch, EffectsMatch}
use Rattle.flat_simulation.proofs.GoingAlike.{mirror}

-- it is not done, and the thread doesn't wait: its stage stays
abbrev pub IsStuck : {P : Type 0} → Outcome P Words Fault Memory → Type 0
IsStuck (went t m) = ⊥
IsStuck (ended l m) = ⊥
IsStuck blocked = ⊥
IsStuck (broke f) = Unit {0}
IsStuck unfit = Unit {0}

-- no turn is over there, and no call is entered
abbrev pub IsStep : Before → Type 0
IsStep safe = ⊥
IsStep looks = Unit {0}
IsStep steps = Unit {0}
IsStep (calls function) = ⊥
IsStep turn_over = ⊥
IsStep nothing = ⊥

-- ---- where a thread goes on behind what it stood before

module _ {P : Type 0} (x : Image P) (thread : ℕ) (choice : Choice) (t : Thread P Words) (m : Memory) where
  -- behind a step or a Look
  abbrev pub GoesBehind : Outcome P Words Fault Memory → Type 0
  GoesBehind (went q m2) = q.top.at ≡ x.flow.next t.top.at true
  GoesBehind (ended l m2) = Unit {0}
  GoesBehind blocked = Unit {0}
  GoesBehind (broke f) = Unit {0}
  GoesBehind unfit = Unit {0}

  served_behind : (r : Served Words Fault Memory) → GoesBehind (served x.flow t r)
  served_behind (serves l m2) = refl
  served_behind waits = tt
  served_behind refuses = tt
  served_behind (fails f) = tt

  finished_behind : (r : Served Words Fault Memory) → GoesBehind (finished r)
  finished_behind (serves l m2) = tt
  finished_behind waits = tt
  finished_behind refuses = tt
  finished_behind (fails f) = tt

  left_behind : (temp : Option ℕ) (callers : List (Point P Words)) → IsStep (before_here callers (returns temp)) → GoesBehind (left_call x.flow (words_world x.layout thread) choice t.top.own temp m callers)
  left_behind temp [] e = finished_behind _
  left_behind temp (c ∷ callers) e = absurd e

  here_behind : (h : Here) → IsStep (before_here t.callers h) → GoesBehind (stop_at x.flow (words_machine x.layout thread) (words_world x.layout thread) x.start choice t m h)
  here_behind (does place (set to calc)) e = tt
  here_behind (does place (call c)) e = absurd e
  here_behind (does place (step s)) e = served_behind _
  here_behind (does place (look slot base)) e = served_behind _
  here_behind (does place (safepoint slots)) e = absurd e
  here_behind (does place (begin_object i)) e = tt
  here_behind (does place (end_object i)) e = tt
  here_behind (tests place temp) e = tt
  here_behind passes e = tt
  here_behind round e = absurd e
  here_behind (returns temp) e = left_behind temp t.callers e

  pub step_behind : IsStep (before x t) → GoesBehind (stop_of x thread choice t m)
  step_behind e = here_behind (x.flow.here t.top.at) e

no_safepoint : {A : Type 0} (callers : List A) (h : Here) → IsStep (before_here callers h) → IsSafepoint h → ⊥
no_safepoint callers (does place (set to calc)) b s = s
no_safepoint callers (does place (call c)) b s = s
no_safepoint callers (does place (step z)) b s = s
no_safepoint callers (does place (look slot base)) b s = s
no_safepoint callers (does place (safepoint slots)) b s = b
no_safepoint callers (does place (begin_object i)) b s = s
no_safepoint callers (does place (end_object i)) b s = s
no_safepoint callers (tests place temp) b s = s
no_safepoint callers passes b s = s
no_safepoint callers round b s = s
no_safepoint callers (returns temp) b s = s

module _ {P Q : Type 0} (Y : Layout) (C : Flow P) (D : Flow Q) (code : ℕ → P) (code' : ℕ → Q) (R : P → Q → Type 0) (one : AreOne (image C code Y) (image D code' Y) R) (guarded : CallsAreGuarded (image D code' Y)) (thread : ℕ) (choice : Choice) where
  abbrev x : Image P
  x = image C code Y

  abbrev y : Image Q
  y = image D code' Y

  abbrev Level : Outcome P Words Fault Memory → Outcome Q Words Fault Memory → Type 0
  Level o o' = SameOutcomes (LevelThreads C D R) o o'

  module _ (t : Thread P Words) (u : Thread Q Words) (s : SameThreads C D R t u) (m : Memory) where
    -- the same comes of both
    pub same_outcome : Level (stop_of x thread choice t m) (stop_of y thread choice u m)
    same_outcome = stop_same C D one.shrinks.0 one.shrinks.1 (words_machine Y thread) (words_world Y thread) R (mirror Y C D code code' R one thread) code code' one.starts choice t u m s

    landing_match : (list : Option (List ℕ)) (q : Thread P Words) (v : Thread Q Words) → LevelThreads C D R q v → (IsCall (D.here v.top.at) → ⊥) → StagesMatch C D R (Some (landing list q)) (Some (landing list v))
    landing_match None q v l n = level l n
    landing_match (Some list) q v l n = (refl, l)

    -- what comes of what both threads stood before, from stages that match where those stay
    acted_match : (g : Stage P) (h : Stage Q) (list : Option (List ℕ)) (o : Outcome P Words Fault Memory) (o' : Outcome Q Words Fault Memory) → Level o o' → GoesBehind y thread choice u m o' → (IsCall (D.here (D.next u.top.at true)) → ⊥)
        → (IsStuck o' → StagesMatch C D R (Some g) (Some h)) → EffectsMatch C D R (effect_of_outcome thread g t list m o) (effect_of_outcome thread h u list m o')
    acted_match g h list (went q m2) (went v m3) e b n k = record { memory = e.1; end = refl; stage = landing_match list q v e.0 (λ c. n (subst (λ j. IsCall (D.here j)) b c)) }
    acted_match g h list (ended l m2) (ended l' m3) e b n k = record { memory = e.1; end = ap (λ (z : Memory). if thread == 0 then exit_of (slice_get z.threads 0) else None) e.1; stage = tt }
    acted_match g h list blocked blocked e b n k = record { memory = refl; end = refl; stage = s }
    acted_match g h list (broke f) (broke f') e b n k = record { memory = refl; end = ap (λ z. Some (Rattle.flat_meaning.specs.Effects.end_of z)) e; stage = k tt }
    acted_match g h list unfit unfit e b n k = record { memory = refl; end = refl; stage = k tt }
    acted_match g h list (went q m2) _ e b n k = absurd e
    acted_match g h list (ended l m2) _ e b n k = absurd e
    acted_match g h list blocked _ e b n k = absurd e
    acted_match g h list (broke f) _ e b n k = absurd e
    acted_match g h list unfit _ e b n k = absurd e

    -- a step or a Look
    pub step_match : (g : Stage P) (h : Stage Q) → IsStep (before y u) → (IsStuck (stop_of y thread choice u m) → StagesMatch C D R (Some g) (Some h)) → EffectsMatch C D R (step_effect x thread choice g t m) (step_effect y thread choice h u m)
    step_match g h b k =
        let not : IsCall (D.here (D.next u.top.at true)) → ⊥ = λ c. no_safepoint u.callers (D.here u.top.at) b (guarded.behind u.top.at true c) in
        subst (λ (z : Here). EffectsMatch C D R (step_effect x thread choice g t m) (effect_of_outcome thread h u (own_list_of z) m (stop_of y thread choice u m))) (sym s.top.same.here)
        (acted_match g h (own_list_of (C.here t.top.at)) (stop_of x thread choice t m) (stop_of y thread choice u m) same_outcome (step_behind y thread choice u m b) not k)

    -- ---- turns

    picks_alike : (a : Answer) (o : Outcome P Words Fault Memory) (o' : Outcome Q Words Fault Memory) → Level o o' → pick_if thread a o ≡ pick_if thread a o'
    picks_alike a (went q m2) (went v m3) e = refl
    picks_alike a (ended l m2) (ended l' m3) e = refl
    picks_alike a blocked blocked e = refl
    picks_alike a (broke f) (broke f') e = refl
    picks_alike a unfit unfit e = refl
    picks_alike a (went q m2) _ e = absurd e
    picks_alike a (ended l m2) _ e = absurd e
    picks_alike a blocked _ e = absurd e
    picks_alike a (broke f) _ e = absurd e
    picks_alike a unfit _ e = absurd e

    pub step_picks_same : step_picks x m thread choice t ≡ step_picks y m thread choice u
    step_picks_same =
        picks_alike (answer_of x m choice t) (stop_of x thread choice t m) (stop_of y thread choice u m) same_outcome
        ∙ ap (λ (h : Here). pick_if thread (answer_here x m choice h) (stop_of y thread choice u m)) (sym s.top.same.here)

    tried_alike : (c : Choice) (h : Here) (o : Outcome P Words Fault Memory) (o' : Outcome Q Words Fault Memory) → Level o o' → tried_if thread c h o ≡ tried_if thread c h o'
    tried_alike wait h o o' e = refl
    tried_alike c h (went q m2) (went v m3) e = by c
      where
        by : (c : Choice) → tried_if thread c h (went q m2) ≡ tried_if thread c h (went v m3)
        by plain = refl
        by (got id place) = refl
        by null = refl
        by wait = refl
    tried_alike c h (ended l m2) (ended l' m3) e = by c
      where
        by : (c : Choice) → tried_if {P = P} thread c h (ended l m2) ≡ tried_if {P = Q} thread c h (ended l' m3)
        by plain = refl
        by (got id place) = refl
        by null = refl
        by wait = refl
    tried_alike c h blocked blocked e = by c
      where
        by : (c : Choice) → tried_if {P = P} thread c h blocked ≡ tried_if {P = Q} thread c h blocked
        by plain = refl
        by (got id place) = refl
        by null = refl
        by wait = refl
    tried_alike c h (broke f) (broke f') e = by c
      where
        by : (c : Choice) → tried_if {P = P} thread c h (broke f) ≡ tried_if {P = Q} thread c h (broke f')
        by plain = refl
        by (got id place) = refl
        by null = refl
        by wait = refl
    tried_alike c h unfit unfit e = by c
      where
        by : (c : Choice) → tried_if {P = P} thread c h unfit ≡ tried_if {P = Q} thread c h unfit
        by plain = refl
        by (got id place) = refl
        by null = refl
        by wait = refl
    tried_alike c h (went q m2) _ e = absurd e
    tried_alike c h (ended l m2) _ e = absurd e
    tried_alike c h blocked _ e = absurd e
    tried_alike c h (broke f) _ e = absurd e
    tried_alike c h unfit _ e = absurd e

    pub tried_same : tried_if thread choice (C.here t.top.at) (stop_of x thread choice t m) ≡ tried_if thread choice (D.here u.top.at) (stop_of y thread choice u m)
    tried_same =
        tried_alike choice (C.here t.top.at) (stop_of x thread choice t m) (stop_of y thread choice u m) same_outcome
        ∙ ap (λ (h : Here). tried_if thread choice h (stop_of y thread choice u m)) (sym s.top.same.here)
