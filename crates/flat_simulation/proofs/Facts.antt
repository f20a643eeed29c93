-- What a way says of a slot that is intact behind a list, an assignment, or an act.
use Rattle.std.proofs.Common.{◌≡◌, ◌≢◌, ℕ, ◌||◌, eqb, Bool, true, false, Option, Some, None, refl, ◌∙◌}
use Rattle.std.proofs.lemmas.Bool.{eqb-false}
use Rattle.struct_ir.specs.Pins.{Fact, unlooked, looked, assigning, listing}

-- behind a list it was intact before, and the list has it
pub listed_fact : (out : Bool) (f : Fact) (base : ℕ) → listing out f ≡ looked base false false → (out ≡ false) × (f ≡ looked base false false)
listed_fact out unlooked base e = absurd cc
listed_fact true (looked b stale true) base e = absurd cc
listed_fact true (looked b stale false) base e = absurd cc
listed_fact false (looked b stale true) base e = absurd cc
listed_fact false (looked b stale false) base e = (refl, e)

-- another register than this one, if there is one
abbrev pub IsOther : Option ℕ → ℕ → Type 0
IsOther None base = Unit {0}
IsOther (Some to) base = base ≢ to

-- behind an assignment it was intact before, and another register was assigned
pub assigned_fact : (to : Option ℕ) (f : Fact) (base : ℕ) → assigning to f ≡ looked base false false → IsOther to base × (f ≡ looked base false false)
assigned_fact None f base e = (tt, e)
assigned_fact (Some to) unlooked base e = absurd cc
assigned_fact (Some to) (looked b true lacked) base e = absurd cc
assigned_fact (Some to) (looked b false lacked) base e = by_test (eqb b to) refl e
  where
    by_test : (c : Bool) → eqb b to ≡ c → looked b (false || c) lacked ≡ looked base false false → IsOther (Some to) base × (looked b false lacked ≡ looked base false false)
    by_test true t e = absurd cc
    by_test false t e = let is : b ≡ base = cc in ((λ same. eqb-false b to t (is ∙ same)), e)
