use Rattle.std.proofs.Common.{ap, ◌∙◌, arith, length, length-append, slice_index, ◌∷◌, []}
use Rattle.std.specs.Prelude.{bit_and, bit_xor}
use Rattle.mark_sets.proofs.Wordly.{chosen_more, chosen_has}
use Rattle.mark_sets.proofs.words.chosen.Goals as goal

pub words-preserved : goal.words-preserved
words-preserved c =
    let k = c.words.k in
    let old = c.words.out.items in
    let y = c.word-first.result in
    let n = c.word.result in
    let s = c.word-in-words.result in
    let made = chosen_more old c.args.set.now c.args.yes.now c.args.no.now k y n s c.words.invariant.long c.words.invariant.each c.word-first.ensures c.word.ensures c.word-in-words.ensures in
    let e = ap (λ l. length l) c.in_ok-push.ensures.items in
    let m = length-append old (bit_xor y (bit_and (bit_xor y n) s) ∷ []) in
    record {
      long = omega arith;
      each = λ j h. ap (λ l. slice_index l j) c.in_ok-push.ensures.items ∙ made j h;
    }

pub returns : goal.returns
returns c =
    let g = c.greater-most.ensures.first in
    let h = c.greater-most.ensures.second in
    chosen_has c.words.out.items c.args.set.now c.args.yes.now c.args.no.now c.words.k c.words.invariant.long (omega arith) (omega arith) (λ j le. c.words.invariant.each j le)
