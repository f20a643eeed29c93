-- A barrier behind an evacuation keeps what a barrier alone keeps.
use Rattle.std.proofs.Common.{◌≡◌, ℕ, ◌+◌, ◌<◌, ◌≤◌, Bool, true, false, List, [], ◌∷◌, length, sym, subst, ◌∙◌, refl, arith, Option, Some, None}
use Rattle.std.specs.Prelude.{◌⊎◌, All}
use mathlib.Core.Logic.{inl, inr}
use Rattle.flat_rules.specs.Machine.{Machine, blank, works, Cleared, sweep}
use Rattle.flat_rules.specs.Lawful.{IsFlat, IsAtHome, IsHomeAt, AreHome, EachAt, IsOfRun, Sweeps, Clears}

module _ {S C : Type 0} (m : Machine S C) (SharedOf : S → Type 0) (ContextOf : C → Type 0) where
  -- who is at home is there behind an evacuation too
  homes_at : (s s' : S) → m.threads s' ≡ m.threads s → ((k : ℕ) → m.has_ended s' k ≡ m.has_ended s k) → (k : ℕ) (hs : List (Option C)) → EachAt (IsHomeAt m s) k hs → EachAt (IsHomeAt m s') k hs
  homes_at s s' same ends k [] e = tt
  homes_at s s' same ends k (h ∷ hs) e = (one h e.0, homes_at s s' same ends (k + 1) hs e.1)
    where
      one : (h : Option C) → IsHomeAt m s k h → IsHomeAt m s' k h
      one None e = λ made. ends k ∙ e (subst (λ (n : ℕ). k < n) same made)
      one (Some c) e = subst (λ (n : ℕ). IsAtHome m n k c) (sym same) e

  module _ (flat : IsFlat m SharedOf ContextOf) where
    -- what a barrier asks holds behind an evacuation
    pub home_on : (s : S) (homes : List (Option C)) → AreHome m s homes → (v : Cleared S) → Clears m SharedOf s v → AreHome m v.shared homes
    home_on s homes home v c = ((let a = home.0 in let d = c.threads in omega arith), homes_at s v.shared c.threads c.ends 0 homes home.1)

    pub sweeps_on : (on : Bool) (s : S) (homes : List (Option C)) → SharedOf s → All (IsOfRun m ContextOf) homes → AreHome m s homes → Sweeps m SharedOf ContextOf s homes (sweep m on s homes)
    sweeps_on false s homes of_ all home = flat.sweeps s homes of_ all home
    sweeps_on true s homes of_ all home =
        let c = flat.clears s homes of_ all home in
        let b = flat.sweeps (m.evacuation s homes).shared homes c.of_ all (home_on s homes home (m.evacuation s homes) c) in record {
          of_ = b.of_;
          kept = b.kept;
          threads = b.threads ∙ c.threads;
          ends = λ k. b.ends k ∙ c.ends k;
        }
