-- Codes that mirror each other have the same runs.
use Rattle.std.proofs.Common.{◌≡◌, ℕ, zero, suc, ◌+◌, ◌<◌, Bool, true, false, Result, Ok, Err, refl, sym, ap, subst, ◌∙◌, arith}
use Rattle.struct_ir.specs.Flow.{Here, does, tests, passes, round, returns, Flow, Stays, Shrinks}
use Rattle.struct_ir.specs.Machine.{Machine, Point, Ahead, goes, stops, breaks, after_act, tested, stopped_or, ahead_at, ahead, further, run}
use Rattle.struct_ir.specs.Mirrors.{Both, Match, both, first, second, IsMirror, EndAlike, MirrorsRuns}
use Rattle.struct_ir.proofs.Runs.{unfolds, smaller}

module _ {P Q L F : Type 0} (C : Flow P) (D : Flow Q) (M : Machine L F) (R : P → Q → Type 0) (k : P) (j : Q) (r : R k j) (b : Both C D R k j) where
  -- what is ahead of the two
  abbrev Alike : Ahead P L F → Ahead Q L F → Type 0
  Alike (goes p) (goes q) = (q.own ≡ p.own) × R p.at q.at
  Alike stops stops = Unit {0}
  Alike (breaks f) (breaks g) = g ≡ f
  Alike _ _ = ⊥

  abbrev Nexts : Type 0
  Nexts = (c : Bool) → R (C.next k c) (D.next j c)

  acted_alike : Nexts → (s : Bool) (x : Result L F) → Alike (stopped_or s (after_act (C.next k true) x)) (stopped_or s (after_act (D.next j true) x))
  acted_alike on true x = tt
  acted_alike on false (Ok l) = (refl, on true)
  acted_alike on false (Err f) = refl

  tested_alike : Nexts → (l : L) (x : Result Bool F) → Alike (tested C (record { at = k; own = l }) x) (tested D (record { at = j; own = l }) x)
  tested_alike on l (Ok c) = (refl, on c)
  tested_alike on l (Err f) = refl

  at_alike : (h : Here) → (Stays h → Nexts) → (l : L) → Alike (ahead_at C M (record { at = k; own = l }) h) (ahead_at D M (record { at = j; own = l }) h)
  at_alike (does place a) on l = acted_alike (on tt) (M.stops a) (M.does place a l)
  at_alike (tests place t) on l = tested_alike (on tt) l (M.test place t l)
  at_alike passes on l = (refl, on tt true)
  at_alike round on l = tt
  at_alike (returns t) on l = tt

  ahead_alike : (l : L) → Alike (ahead C M (record { at = k; own = l })) (ahead D M (record { at = j; own = l }))
  ahead_alike l = subst (λ (h : Here). Alike (ahead C M (record { at = k; own = l })) (ahead_at D M (record { at = j; own = l }) h)) (sym b.here) (at_alike (C.here k) b.next l)

  further_alike : (go : Point P L → Result (Point P L) F) (go' : Point Q L → Result (Point Q L) F) (l : L) (x : Ahead P L F) (y : Ahead Q L F) → Alike x y
      → ((p : Point P L) (q : Point Q L) → x ≡ goes p → y ≡ goes q → q.own ≡ p.own → R p.at q.at → EndAlike C D R (go p) (go' q))
      → EndAlike C D R (further go (record { at = k; own = l }) x) (further go' (record { at = j; own = l }) y)
  further_alike go go' l (goes p) (goes q) a h = h p q refl refl a.0 a.1
  further_alike go go' l stops stops a h = (refl, r, b)
  further_alike go go' l (breaks f) (breaks g) a h = a
  further_alike go go' l (goes p) stops a h = absurd a
  further_alike go go' l (goes p) (breaks g) a h = absurd a
  further_alike go go' l stops (goes q) a h = absurd a
  further_alike go go' l stops (breaks g) a h = absurd a
  further_alike go go' l (breaks f) (goes q) a h = absurd a
  further_alike go go' l (breaks f) stops a h = absurd a

module _ {P Q L F : Type 0} (C : Flow P) (D : Flow Q) (c_shrinks : Shrinks C) (d_shrinks : Shrinks D) (M : Machine L F) (R : P → Q → Type 0) (mirror : IsMirror C D M R) where
  within : (n : ℕ) (k : P) (j : Q) (l : L) → C.size k + D.size j < n → R k j → Match C D M R k j → EndAlike C D R (run C M (record { at = k; own = l })) (run D M (record { at = j; own = l }))
  within zero k j l le r m = absurd (omega arith)
  within (suc n) k j l le r (both b) =
      let p : Point P L = record { at = k; own = l } in
      let q : Point Q L = record { at = j; own = l } in
      let on : EndAlike C D R (further (run C M) p (ahead C M p)) (further (run D M) q (ahead D M q))
      = further_alike C D M R k j r b (run C M) (run D M) l (ahead C M p) (ahead D M q) (ahead_alike C D M R k j r b l) (λ p' q' e e' same r'.
      let h = smaller C c_shrinks M p p' e in
      let h' = smaller D d_shrinks M q q' e' in
      subst (λ (x : L). EndAlike C D R (run C M p') (run D M (record { at = q'.at; own = x }))) (sym same) (within n p'.at q'.at p'.own (omega arith) r' (mirror p'.at q'.at r'))) in
      subst (λ x. EndAlike C D R x (run D M q)) (sym (unfolds C c_shrinks M p)) (subst (λ x. EndAlike C D R (further (run C M) p (ahead C M p)) x) (sym (unfolds D d_shrinks M q)) on)
  within (suc n) k j l le r (first idle r') =
      let p : Point P L = record { at = k; own = l } in
      let h = smaller C c_shrinks M p (record { at = C.next k true; own = l }) (idle l) in
      subst (λ x. EndAlike C D R x (run D M (record { at = j; own = l }))) (sym (unfolds C c_shrinks M p ∙ ap (further (run C M) p) (idle l)))
      (within n (C.next k true) j l (omega arith) r' (mirror _ _ r'))
  within (suc n) k j l le r (second idle r') =
      let q : Point Q L = record { at = j; own = l } in
      let h = smaller D d_shrinks M q (record { at = D.next j true; own = l }) (idle l) in
      subst (λ x. EndAlike C D R (run C M (record { at = k; own = l })) x) (sym (unfolds D d_shrinks M q ∙ ap (further (run D M) q) (idle l)))
      (within n k (D.next j true) l (omega arith) r' (mirror _ _ r'))

  pub mirrors_runs : MirrorsRuns C D M R
  mirrors_runs k j l r = within (suc (C.size k + D.size j)) k j l (omega arith) r (mirror k j r)
