use Rattle.std.proofs.Common.{◌∙◌}
use Rattle.flat_words.proofs.Tests.{eq_is}
use Rattle.flat_words.proofs.comparing.equal.Goals as goal

pub returns : goal.returns
returns c = c.from.ensures ∙ eq_is c.args.t c.args.a c.args.b c.above_least.result c.above_least-2.result c.above_least.ensures.above c.above_least-2.ensures.above
