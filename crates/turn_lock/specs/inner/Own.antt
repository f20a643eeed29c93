-- For the laws of objects: an entry of a worker is the worker's own.
use Rattle.std.specs.Prelude.{◌≡◌, ◌==◌, Bool, true, false, T, if◌then◌else◌, cond, [], ◌∷◌}
use Rattle.std.proofs.Common.{ap, refl}
use Rattle.std.proofs.Math.Dec.{eqb_refl}
use Rattle.ak_trace.specs.declared.entry.Entry.{Entry}
use Rattle.turn_lock.specs.Histories.{of_worker}

is_true : (b : Bool) → T b → b ≡ true
is_true true t = refl
is_true false t = absurd t

-- a call that leaves one entry of its worker, or none
pub own_if : (b : Bool) (e : Entry) → of_worker e.worker (if b then e ∷ [] else []) ≡ (if b then e ∷ [] else [])
own_if true e = ap (λ (same : Bool). cond same (e ∷ []) []) (is_true (e.worker == e.worker) (eqb_refl e.worker))
own_if false e = refl
