use Rattle.std.proofs.Common.{◌∙◌}
use Rattle.flat_words.proofs.Quotients.{remainder_is, remainder_is-zero}
use Rattle.flat_words.proofs.dividing.remainder.Goals as goal

pub returns-then-y-eq0 : goal.returns-then-y-eq0
returns-then-y-eq0 c = c.word_in.ensures ∙ remainder_is-zero c.args.t c.args.a c.args.b c.in-Some.x c.in-Some-natural.y c.in-Some.ensures.some c.in-Some-natural.ensures.some c.if-y-eq0.true

pub returns : goal.returns
returns c = c.word_in-2.ensures ∙ remainder_is c.args.t c.args.a c.args.b c.in-Some.x c.in-Some-natural.y c.in-Some.ensures.some c.in-Some-natural.ensures.some c.if-y-eq0.false
