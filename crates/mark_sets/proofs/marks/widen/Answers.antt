use Rattle.std.proofs.Common.{None, ℕ, length, get_or, ap, ◌∙◌, arith, length-append, ◌∷◌, []}
use Rattle.std.specs.Prelude.{Option}
use Rattle.mark_sets.proofs.Bits.{none_more}
use Rattle.mark_sets.proofs.marks.widen.Goals as goal

pub room-preserved : goal.room-preserved
room-preserved c =
    let old = c.room.held.items in
    let e = ap (λ l. length l) c.in_ok-push.ensures.items in
    let none : Option ℕ = None in
    let n = length-append old (none ∷ []) in
    record {
      long = omega arith;
      same = λ d. ap (λ l. get_or l d None) c.in_ok-push.ensures.items ∙ (none_more old d ∙ c.room.invariant.same d);
    }

pub returns : goal.returns
returns c = record { wide = omega arith; same = c.room.invariant.same }
