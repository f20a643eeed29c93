use Rattle.std.proofs.Common.{rules, ◌≡◌, ◌∙◌, ap, sym, Some, arith, subst}
use Rattle.turn_lock.specs.declared.lock.Pass.{Pass}
use Rattle.bench.specs.declared.turns.calls.Calls.{Calls}
use Rattle.turn_lock.specs.Locks.{IsPassOf, worker_of}
use Rattle.std.proofs.lemmas.Option.{slice_get-get_or, slice_get_within, get_or_from_slice_get}
use Rattle.bench.proofs.turns.take_all.Goals as goal

pub map_vec-requires-after_bounds : goal.map_vec-requires-after_bounds
map_vec-requires-after_bounds g c κs within = λ i x l e. let made = c.in_ok-lock.ensures in let at = slice_get-get_or c.in_ok-lock.all.items i x l ∙ ap (λ z. Some z) (sym e) in
    (made.passes i x at).0

pub close-requires : goal.close-requires
close-requires g c = let made = c.in_ok-lock.ensures in let len = c.in_ok-done.ensures.len in record {
  passes = (
    search rules,
    λ k p e.
        let inside = slice_get_within c.in_ok-done.done.items k p e in let ok = c.in_ok-done.done.ok.0 in let ok' = c.in_ok-lock.all.ok.0 in
        let r = (c.in_ok-done.ensures.each k p (omega arith)).1 in let at = get_or_from_slice_get c.in_ok-done.done.items k p p e in let met = r.call.met in
        let was = made.passes k r.job (slice_get-get_or c.in_ok-lock.all.items k r.job (omega arith) ∙ ap (λ z. Some z) (sym r.job_read)) in
        subst (λ (z : Pass Calls). IsPassOf c.in_ok-lock.lock z × (worker_of z ≡ k)) at (met.0, met.1 ∙ was.1),
  );
}
