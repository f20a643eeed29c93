use Rattle.std.proofs.Common.{ap, ◌∙◌, arith, length-append, ◌∷◌, []}
use Rattle.mark_sets.specs.Words.{has}
use Rattle.mark_sets.proofs.Wordly.{none_more}
use Rattle.mark_sets.proofs.words.widen.Goals as goal

pub words-preserved : goal.words-preserved
words-preserved c =
    let old = c.words.set.items in
    let e = ap (λ l. Rattle.std.proofs.Common.length l) c.in_ok-push.ensures.items in
    let n = length-append old (0 ∷ []) in
    record {
      long = omega arith;
      same = λ j. ap (λ l. has l j) c.in_ok-push.ensures.items ∙ (none_more old j ∙ c.words.invariant.same j);
    }

pub returns : goal.returns
returns c = record { wide = omega arith; same = c.words.invariant.same }
