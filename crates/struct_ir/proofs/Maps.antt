-- A map of code maps its runs.
use Rattle.std.proofs.Common.{◌≡◌, ℕ, zero, suc, ◌<◌, Bool, true, false, Result, Ok, Err, refl, sym, ap, ◌∙◌, arith, ◌⊎◌, inl, inr}
use Rattle.struct_ir.specs.Flow.{Here, does, tests, passes, round, returns, Flow, Shrinks}
use Rattle.struct_ir.specs.Machine.{Machine, Point, Ahead, goes, stops, breaks, after_act, tested, stopped_or, ahead_at, ahead, further, run}
use Rattle.struct_ir.specs.Maps.{point_mapped, end_mapped, Carries, Vanishes, IsMap, MapsRuns}
use Rattle.struct_ir.specs.Laws.{MapsMapRuns}
use Rattle.struct_ir.proofs.Runs.{unfolds, smaller}

module _ {P Q L F : Type 0} (C : Flow P) (D : Flow Q) (M : Machine L F) (f : P → Q) where
  abbrev carried : Point P L → Point Q L
  carried p = point_mapped f p

  abbrev on_map : Ahead P L F → Ahead Q L F
  on_map (goes q) = goes (carried q)
  on_map stops = stops
  on_map (breaks e) = breaks e

  acted_same : (k : P) (s : Bool) (r : Result L F) → stopped_or s (after_act (f k) r) ≡ on_map (stopped_or s (after_act k r))
  acted_same k true r = refl
  acted_same k false (Ok l) = refl
  acted_same k false (Err e) = refl

  tested_same : (p : Point P L) → ((c : Bool) → D.next (f p.at) c ≡ f (C.next p.at c)) → (r : Result Bool F) → tested D (carried p) r ≡ on_map (tested C p r)
  tested_same p on (Ok c) = ap (λ (k : Q). goes (record { at = k; own = p.own })) (on c)
  tested_same p on (Err e) = refl

  at_same : (p : Point P L) → ((c : Bool) → D.next (f p.at) c ≡ f (C.next p.at c)) → (h : Here) → ahead_at D M (carried p) h ≡ on_map (ahead_at C M p h)
  at_same p on (does place a) = ap (λ (k : Q). stopped_or (M.stops a) (after_act k (M.does place a p.own))) (on true) ∙ acted_same (C.next p.at true) (M.stops a) (M.does place a p.own)
  at_same p on (tests place t) = tested_same p on (M.test place t p.own)
  at_same p on passes = ap (λ (k : Q). goes (record { at = k; own = p.own })) (on true)
  at_same p on round = refl
  at_same p on (returns t) = refl

  -- where the map carries a position, the step is the same
  pub step_same : (p : Point P L) → Carries C D f p.at → ahead D M (carried p) ≡ on_map (ahead C M p)
  step_same p c = ap (ahead_at D M (carried p)) c.here ∙ at_same p c.next (C.here p.at)

  further_moved : (go : Point Q L → Result (Point Q L) F) (go' : Point P L → Result (Point P L) F) (p : Point P L) (x : Ahead P L F)
      → ((q : Point P L) → x ≡ goes q → go (carried q) ≡ end_mapped f (go' q)) → further go (carried p) (on_map x) ≡ end_mapped f (further go' p x)
  further_moved go go' p (goes q) h = h q refl
  further_moved go go' p stops h = refl
  further_moved go go' p (breaks e) h = refl

module _ {P Q L F : Type 0} (C : Flow P) (D : Flow Q) (c_shrinks : Shrinks C) (d_shrinks : Shrinks D) (M : Machine L F) (f : P → Q) (maps : IsMap C D M f) where
  within : (n : ℕ) (p : Point P L) → C.size p.at < n → Carries C D f p.at ⊎ Vanishes C M f p.at → run D M (point_mapped f p) ≡ end_mapped f (run C M p)
  within zero p le m = absurd (omega arith)
  within (suc n) p le (inl carries) =
      unfolds D d_shrinks M (point_mapped f p)
      ∙ (ap (further (run D M) (point_mapped f p)) (step_same C D M f p carries)
      ∙ (further_moved C D M f (run D M) (run C M) p (ahead C M p) (λ q e. let h = smaller C c_shrinks M p q e in within n q (omega arith) (maps q.at))
      ∙ ap (end_mapped f) (sym (unfolds C c_shrinks M p))))
  within (suc n) p le (inr v) =
      let q : Point P L = record { at = C.next p.at true; own = p.own } in
      let e : ahead C M p ≡ goes q = v.idle p.own in
      let h = smaller C c_shrinks M p q e in
      let there : run D M (point_mapped f p) ≡ run D M (point_mapped f q) = ap (λ (k : Q). run D M (record { at = k; own = p.own })) (sym v.there) in
      let once : run C M p ≡ run C M q = unfolds C c_shrinks M p ∙ ap (further (run C M) p) e in
      there ∙ (within n q (omega arith) (maps q.at) ∙ ap (end_mapped f) (sym once))

  pub maps_runs : MapsRuns C D M f
  maps_runs p = within (suc (C.size p.at)) p (omega arith) (maps p.at)

pub maps_map_runs : (P Q L F : Type 0) → MapsMapRuns P Q L F
maps_map_runs P Q L F C c_shrinks D d_shrinks M f maps = maps_runs C D c_shrinks d_shrinks M f maps
