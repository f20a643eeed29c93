use Rattle.std.proofs.Common.{◌/◌, slice_index, ap, ◌∙◌, arith}
use Rattle.mark_sets.proofs.Bit.{taken_gone, taken_others}
use Rattle.mark_sets.proofs.Wordly.{past}
use Rattle.mark_sets.proofs.words.remove.Goals as goal

pub returns-then-at-len-clause-gone : goal.returns-then-at-len-clause-gone
returns-then-at-len-clause-gone c = taken_gone c.args.set.now.items c.args.i c.word.result (c.word.ensures ∙ ap (λ l. slice_index l (c.args.i / 64)) c.deref.ensures.value) (let h = c.if-at-len.true in let e = c.len.ensures in omega (arith, h, e))

pub returns-then-at-len-clause-others : goal.returns-then-at-len-clause-others
returns-then-at-len-clause-others c = taken_others c.args.set.now.items c.args.i c.word.result (c.word.ensures ∙ ap (λ l. slice_index l (c.args.i / 64)) c.deref.ensures.value) (let h = c.if-at-len.true in let e = c.len.ensures in omega (arith, h, e))

pub returns-else-at-len-clause-gone : goal.returns-else-at-len-clause-gone
returns-else-at-len-clause-gone c = past c.args.set.now.items c.args.i (let h = c.if-at-len.false in let e = c.len.ensures in omega (arith, h, e))
