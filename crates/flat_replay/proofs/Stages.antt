-- The stages of all threads, where contexts change and threads are made.
use Rattle.std.proofs.Common.{◌≡◌, ℕ, zero, suc, ◌<◌, ◌≤◌, cond, List, [], ◌∷◌, ◌++◌, length, map, set, get_or, Option, Some, None, refl, sym, ap, ◌∙◌, arith}
use Rattle.std.specs.Prelude.{count_by, drop, slice_get}
use Rattle.std.specs.List.{AllZip}
use Rattle.std.proofs.lemmas.List.Sums.{sum_by-cons}
use Rattle.struct_ir.specs.Instrs.{LinearCode}
use Rattle.struct_ir.specs.Linear.{Spot}
use Rattle.flat_meaning.specs.Events.{stage_made}
use Rattle.flat_meaning.specs.Memory.{Made}
use Rattle.flat_meaning.specs.Stages.{Stage}
use Rattle.flat_rules.specs.Events.{place_after, places_after}
use Rattle.flat_rules.specs.Lawful.{KeptAt}
use Rattle.flat_rules.specs.States.{Place, unbegun, home, out, gone, at_home, homes_of, is_out}
use Rattle.flat_threads.specs.Belonging.{IsContextOf}
use Rattle.flat_threads.specs.Contexts.{Context}
use Rattle.flat_machine.specs.Machine.{machine_of}
use Rattle.flat_machine.specs.Sweeping.{stage_home, stage_or, stages_home}
use Rattle.flat_replay.specs.Journals.{context_in}
use Rattle.flat_replay.proofs.Turned.{KeptThreads}

-- ---- places

pub map-set : {A B : Type 0} (f : A → B) (xs : List A) (n : ℕ) (v : A) → map f (set xs n v) ≡ set (map f xs) n (f v)
map-set f [] n v = refl
map-set f (x ∷ xs) zero v = refl
map-set f (x ∷ xs) (suc n) v = ap (λ (ys : List _). f x ∷ ys) (map-set f xs n v)

pub context_at : (ps : List (Place Context)) (n : ℕ) → get_or (map context_in ps) n None ≡ context_in (get_or ps n gone)
context_at [] n = refl
context_at (p ∷ ps) zero = refl
context_at (p ∷ ps) (suc n) = context_at ps n

-- where none is out, the contexts are those at home
pub all_home : (ps : List (Place Context)) → count_by is_out ps ≡ 0 → map context_in ps ≡ homes_of ps
all_home [] none = refl
all_home (p ∷ ps) none =
    let b = sum_by-cons (λ (z : Place Context). cond {A = ℕ} (is_out z) 1 0) p ps in
    ap (λ (o : Option Context). o ∷ map context_in ps) (one p (omega (arith, b, none))) ∙ ap (λ (os : List (Option Context)). at_home p ∷ os) (all_home ps (omega (arith, b, none)))
  where
    one : (p : Place Context) → cond {A = ℕ} (is_out p) 1 0 ≡ 0 → context_in p ≡ at_home p
    one (unbegun c) e = refl
    one (home c) e = refl
    one (out w c n mood) e = absurd (cc e)
    one gone e = refl

-- behind a barrier they are as it left them
pub all_after : (code : LinearCode) (ps : List (Place Context)) (hs : List (Option Context)) → AllZip (KeptAt (machine_of code) (IsContextOf code)) (homes_of ps) hs → count_by is_out ps ≡ 0 → map context_in (places_after ps hs) ≡ hs
all_after code [] [] kept none = refl
all_after code [] (h ∷ hs) kept none = absurd kept
all_after code (p ∷ ps) [] kept none = absurd kept
all_after code (p ∷ ps) (h ∷ hs) kept none =
    let b = sum_by-cons (λ (z : Place Context). cond {A = ℕ} (is_out z) 1 0) p ps in
    ap (λ (o : Option Context). o ∷ map context_in (places_after ps hs)) (one p h kept.0 (omega (arith, b, none))) ∙ ap (λ (os : List (Option Context)). h ∷ os) (all_after code ps hs kept.1 (omega (arith, b, none)))
  where
    one : (p : Place Context) (h : Option Context) → KeptAt (machine_of code) (IsContextOf code) (at_home p) h → cond {A = ℕ} (is_out p) 1 0 ≡ 0 → context_in (place_after p h) ≡ h
    one (unbegun c) None q e = absurd q
    one (unbegun c) (Some d) q e = refl
    one (home c) None q e = absurd q
    one (home c) (Some d) q e = refl
    one (out w c n mood) h q e = absurd (cc e)
    one gone None q e = refl
    one gone (Some d) q e = absurd q

-- ---- stages

-- a context at the same stage
pub stages_same : (ts : List Made) (cs : List (Option Context)) (n : ℕ) (p : Option Context) → ((t : Made) → slice_get ts n ≡ Some t → stage_home t p ≡ stage_home t (get_or cs n None)) → stages_home ts (set cs n p) ≡ stages_home ts cs
stages_same [] [] n p same = refl
stages_same [] (c ∷ cs) n p same = refl
stages_same (t ∷ ts) [] n p same = refl
stages_same (t ∷ ts) (c ∷ cs) zero p same = ap (λ (o : Option (Stage Spot)). o ∷ stages_home ts cs) (same t refl)
stages_same (t ∷ ts) (c ∷ cs) (suc n) p same = ap (λ (os : List (Option (Stage Spot))). stage_home t c ∷ os) (stages_same ts cs n p same)

-- a context at another stage
pub stages_set : (ts : List Made) (cs : List (Option Context)) (n : ℕ) (p : Option Context) (stage : Option (Stage Spot)) → n < length cs → ((t : Made) → stage_home t p ≡ stage) → set (stages_home ts cs) n stage ≡ stages_home ts (set cs n p)
stages_set [] [] n p stage below is = refl
stages_set [] (c ∷ cs) n p stage below is = refl
stages_set (t ∷ ts) [] n p stage below is = absurd (omega (arith, below))
stages_set (t ∷ ts) (c ∷ cs) zero p stage below is = ap (λ (o : Option (Stage Spot)). o ∷ stages_home ts cs) (sym (is t))
stages_set (t ∷ ts) (c ∷ cs) (suc n) p stage below is = ap (λ (os : List (Option (Stage Spot))). stage_home t c ∷ os) (stages_set ts cs n p stage (omega (arith, below)) is)

-- a blank context
pub record IsBlank (p : Option Context) : Type 0 where
  pub context : Context
  pub is : p ≡ Some context
  pub blank : context.stage ≡ None

blank_home : (t : Made) (p : Option Context) → IsBlank p → stage_home t p ≡ stage_made t
blank_home t p b = ap (stage_home t) b.is ∙ ap (stage_or t) b.blank

kept_or : (t u : Made) → stage_made {P = Spot} u ≡ stage_made t → (o : Option (Stage Spot)) → stage_or t o ≡ stage_or u o
kept_or t u same None = sym same
kept_or t u same (Some stage) = refl

kept_home : (t u : Made) → stage_made {P = Spot} u ≡ stage_made t → (p : Option Context) → stage_home t p ≡ stage_home u p
kept_home t u same None = refl
kept_home t u same (Some c) = kept_or t u same c.stage

-- threads more, whose contexts are blank
pub stages_more : (ts us : List Made) (cs : List (Option Context)) → KeptThreads ts us → ((k : ℕ) → length ts ≤ k → k < length us → IsBlank (get_or cs k None)) → stages_home ts cs ++ map stage_made (drop (length ts) us) ≡ stages_home us cs
stages_more [] [] cs kept blank = refl
stages_more [] (u ∷ us) [] kept blank = absurd (let b = blank 0 (omega arith) (omega arith) in let bad = b.is in cc)
stages_more [] (u ∷ us) (c ∷ cs) kept blank =
    ap (λ (o : Option (Stage Spot)). o ∷ map stage_made us) (sym (blank_home u c (blank 0 (omega arith) (omega arith))))
    ∙ ap (λ (os : List (Option (Stage Spot))). stage_home u c ∷ os) (stages_more [] us cs (record { more = omega arith; kept = λ k d below. absurd (omega (arith, below)) }) (λ k le lt. blank (suc k) (omega arith) (omega (arith, lt))))
stages_more (t ∷ ts) [] cs kept blank = absurd (omega (arith, kept.more))
stages_more (t ∷ ts) (u ∷ us) [] kept blank =
    ap (λ (os : List (Option (Stage Spot))). None ∷ os) (stages_more ts us [] (record { more = omega (arith, kept.more); kept = λ k d below. kept.kept (suc k) d (omega (arith, below)) }) (λ k le lt. blank (suc k) (omega (arith, le)) (omega (arith, lt))))
stages_more (t ∷ ts) (u ∷ us) (c ∷ cs) kept blank =
    ap (λ (o : Option (Stage Spot)). o ∷ (stages_home ts cs ++ map stage_made (drop (length ts) us))) (kept_home t u (kept.kept 0 t (omega arith)) c)
    ∙ ap (λ (os : List (Option (Stage Spot))). stage_home u c ∷ os) (stages_more ts us cs (record { more = omega (arith, kept.more); kept = λ k d below. kept.kept (suc k) d (omega (arith, below)) }) (λ k le lt. blank (suc k) (omega (arith, le)) (omega (arith, lt))))
