use Rattle.std.proofs.Common.{◌∙◌}
use Rattle.flat_words.proofs.Tests.{ne_is}
use Rattle.flat_words.proofs.comparing.unequal.Goals as goal

pub returns : goal.returns
returns c = c.from.ensures ∙ ne_is c.args.t c.args.a c.args.b c.above_least.result c.above_least-2.result c.above_least.ensures.above c.above_least-2.ensures.above
