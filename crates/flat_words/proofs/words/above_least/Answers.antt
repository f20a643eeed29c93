use Rattle.flat_words.proofs.Reading.{above_is, above_below}
use Rattle.flat_words.proofs.words.above_least.Goals as goal

pub returns-clause-above : goal.returns-clause-above
returns-clause-above c = above_is c.args.t c.args.word c.half.result c.half.ensures.far

pub returns-clause-below : goal.returns-clause-below
returns-clause-below c = above_below c.args.t _
