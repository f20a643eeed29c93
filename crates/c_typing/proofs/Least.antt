-- The least of some faults.
use Rattle.std.proofs.Common.{◌≡◌, ◌≢◌, ◌⊎◌, inl, inr, refl, Bool, true, false, List, [], ◌∷◌, Some, Contains, subst, arith, if◌then◌else◌}
use Rattle.std.specs.List.{AllByRecursion}
use Rattle.std.proofs.lemmas.Bool.Decides.{nat_tests}
use Rattle.std.proofs.lemmas.List.Elements.{Contains-get_or, Contains-append_right}
use Rattle.c_lex.specs.declared.refusal.Refusal.{Refusal}
use Rattle.c_typing.specs.Faults.{Judged, typed, faulty, faults, first, earlier, least, comes_before}
use Rattle.c_typing.specs.Laws.{IsLeast, RefusesLeast, TypedOrRefused}
use Rattle.c_typing.specs.Programs.{judged_file}

not_before_first : (r m : Refusal) → comes_before r (earlier r m) ≡ false
unfolding earlier
not_before_first r m = grind (arith, nat_tests)

not_before_second : (r m s : Refusal) → comes_before s m ≡ false → comes_before s (earlier r m) ≡ false
unfolding earlier
not_before_second r m s h = grind (arith, nat_tests)

still_least : (r m : Refusal) (ss : List Refusal) → AllByRecursion (λ s. comes_before s m ≡ false) ss → AllByRecursion (λ s. comes_before s (earlier r m) ≡ false) ss
still_least r m [] h = tt
still_least r m (s ∷ ss) h = (not_before_second r m s h.0, still_least r m ss h.1)

none_before : (r : Refusal) (rs : List Refusal) → AllByRecursion (λ s. comes_before s (least r rs) ≡ false) (r ∷ rs)
none_before r [] = (not_before r, tt)
  where
    not_before : (r : Refusal) → comes_before r r ≡ false
    not_before r = grind (arith, nat_tests)
none_before r (s ∷ ss) = (not_before_first r (least s ss), still_least r (least s ss) (s ∷ ss) (none_before s ss))

is_there : (r : Refusal) (rs : List Refusal) → Contains (r ∷ rs) (least r rs)
unfolding earlier
is_there r [] = Contains-get_or (r ∷ []) 0 r (omega arith)
is_there r (s ∷ ss) = by (comes_before (least s ss) r) (is_there s ss)
  where
    by : (b : Bool) → Contains (s ∷ ss) (least s ss) → Contains (r ∷ s ∷ ss) (if b then least s ss else r)
    by true later = Contains-append_right (r ∷ []) (s ∷ ss) (least s ss) later
    by false later = Contains-get_or (r ∷ s ∷ ss) 0 r (omega arith)

least_of : {A : Type 0} (j : Judged A) (r : Refusal) → first j ≡ Some r → IsLeast r (faults j)
least_of (typed x) r h = cc
least_of (faulty s ss) r h =
    let is : least s ss ≡ r = cc in
    subst (λ t. IsLeast t (s ∷ ss)) is (record { here = is_there s ss; least = none_before s ss })

pub refuses_least : RefusesLeast
refuses_least text f r h = least_of (judged_file text f) r h

one_or_other : {A : Type 0} (j : Judged A) → ((x : A) × (j ≡ typed x) × (faults j ≡ [])) ⊎ ((r : Refusal) × (first j ≡ Some r) × (faults j ≢ []))
one_or_other (typed x) = inl (x, refl, refl)
one_or_other (faulty r rs) = inr (least r rs, refl, λ e. cc)

pub typed_or_refused : TypedOrRefused
typed_or_refused text f = one_or_other (judged_file text f)
