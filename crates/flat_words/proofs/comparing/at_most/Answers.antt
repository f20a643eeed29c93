use Rattle.std.proofs.Common.{◌∙◌}
use Rattle.flat_words.proofs.Tests.{le_is, ge_is_le}
use Rattle.flat_words.proofs.comparing.at_most.Goals as goal

pub returns-clause-less : goal.returns-clause-less
returns-clause-less c = c.from.ensures ∙ le_is c.args.t c.args.a c.args.b c.above_least.result c.above_least-2.result c.above_least.ensures.above c.above_least-2.ensures.above

pub returns-clause-greater : goal.returns-clause-greater
returns-clause-greater c = returns-clause-less c ∙ ge_is_le c.args.t c.args.a c.args.b
