-- The earlier of two faults.
use Rattle.std.proofs.Common.{◌≡◌, ℕ, suc, Bool, true, false, ◌⊎◌, inl, inr, refl, sym, ◌∙◌, arith, Option, Some, None}
use Rattle.std.proofs.lemmas.Bool.Decides.{eqb_tells, leb_tells}
use Rattle.pin_checker.specs.declared.fault.Why.{Why}
use Rattle.pin_checker.specs.declared.fault.Why.TheVariants.{BadTemp, NoLook, StaleLook, NotPinned}
use Rattle.pin_checker.specs.declared.fault.Fault.{Fault}
use Rattle.pin_checker.specs.Faults.{rank, NoLater}
use Rattle.pin_checker.specs.inner.Reports.{is_before, earlier, noted}

abbrev pub made : ℕ → Why → Fault
made place why = record { place = place; why = why }

-- the one is no later than the other, if there is another
abbrev pub AtMost : Option Fault → Option Fault → Type 0
AtMost c None = Unit {0}
AtMost None (Some g) = ⊥
AtMost (Some f) (Some g) = NoLater f.place f.why g.place g.why

no_later_then : (p q r : ℕ) (u v w : Why) → NoLater p u q v → NoLater q v r w → NoLater p u r w
no_later_then p q r u v w (inl h) (inl i) = inl (omega arith)
no_later_then p q r u v w (inl h) (inr i) = inl (let e = i.0 in omega arith)
no_later_then p q r u v w (inr h) (inl i) = inl (let e = h.0 in omega arith)
no_later_then p q r u v w (inr h) (inr i) = inr (h.0 ∙ i.0, let e = h.1 in let f = i.1 in omega arith)

pub at_most_then : (a b c : Option Fault) → AtMost a b → AtMost b c → AtMost a c
at_most_then a b None h i = tt
at_most_then a None (Some g) h i = absurd i
at_most_then None (Some f) (Some g) h i = absurd h
at_most_then (Some e) (Some f) (Some g) h i = no_later_then e.place f.place g.place e.why f.why g.why h i

before_tells : (f g : Fault) → ((is_before f g ≡ true) × NoLater f.place f.why g.place g.why) ⊎ ((is_before f g ≡ false) × NoLater g.place g.why f.place f.why)
before_tells f g = elim (leb_tells (suc f.place) g.place) [
  | inl h ↦ inl (rw h.0 refl, inl h.1)
  | inr h ↦ elim (eqb_tells f.place g.place) [
    | inl e ↦ elim (leb_tells (suc (rank f.why)) (rank g.why)) [
      | inl r ↦ inl (rw (h.0, e.0, r.0) refl, inr (e.1, (let le = r.1 in omega arith)))
      | inr r ↦ inr (rw (h.0, e.0, r.0) refl, inr (sym e.1, (let le = r.1 in omega arith)))
    ]
    | inr e ↦ inr (rw (h.0, e.0) refl, inl (let ne = e.1 in let le = h.1 in omega arith))
  ]
]

pub no_later_self : (p : ℕ) (w : Why) → NoLater p w p w
no_later_self p w = inr (refl, omega arith)

-- the earlier of two is no later than either
earlier_least : (f : Fault) (best : Option Fault) → AtMost (earlier f best) (Some f) × AtMost (earlier f best) best
earlier_least f None = (no_later_self f.place f.why, tt)
earlier_least f (Some g) = elim (before_tells f g) [
  | inl h ↦ rw h.0 (no_later_self f.place f.why, h.1)
  | inr h ↦ rw h.0 (h.1, no_later_self g.place g.why)
]

pub noted_least : (c : Option Fault) (is : Bool) (place : ℕ) (why : Why) (best : Option Fault) → AtMost c (noted is place why best) → AtMost c best × (is ≡ true → AtMost c (Some (made place why)))
noted_least c true place why best h =
    let e = earlier_least (made place why) best in
    (at_most_then c (earlier (made place why) best) best h e.1, λ y. at_most_then c (earlier (made place why) best) (Some (made place why)) h e.0)
noted_least c false place why best h = (h, λ y. absurd cc)

-- the earlier of two is one of them
pub earlier_one : (P : Option Fault → Type 0) (f : Fault) (best : Option Fault) → P (Some f) → P best → P (earlier f best)
earlier_one P f None x y = x
earlier_one P f (Some g) x y = elim (is_before f g) as (λ v. P (Rattle.std.specs.Prelude.if◌then◌else◌ v (Some f) (Some g))) [ true ↦ x | false ↦ y ]

-- reasons of one rank are one
pub same_rank : (u v : Why) → rank u ≡ rank v → u ≡ v
same_rank BadTemp BadTemp e = refl
same_rank NoLook NoLook e = refl
same_rank StaleLook StaleLook e = refl
same_rank NotPinned NotPinned e = refl
same_rank BadTemp NoLook e = absurd (omega (arith, e))
same_rank BadTemp StaleLook e = absurd (omega (arith, e))
same_rank BadTemp NotPinned e = absurd (omega (arith, e))
same_rank NoLook BadTemp e = absurd (omega (arith, e))
same_rank NoLook StaleLook e = absurd (omega (arith, e))
same_rank NoLook NotPinned e = absurd (omega (arith, e))
same_rank StaleLook BadTemp e = absurd (omega (arith, e))
same_rank StaleLook NoLook e = absurd (omega (arith, e))
same_rank StaleLook NotPinned e = absurd (omega (arith, e))
same_rank NotPinned BadTemp e = absurd (omega (arith, e))
same_rank NotPinned NoLook e = absurd (omega (arith, e))
same_rank NotPinned StaleLook e = absurd (omega (arith, e))
