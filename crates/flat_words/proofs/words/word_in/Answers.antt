use Rattle.flat_words.proofs.Reading.{word_is}
use Rattle.flat_words.proofs.words.word_in.Goals as goal

pub returns : goal.returns
returns c = word_is c.args.t c.args.word c.above_least.result c.half.result c.half.ensures.far c.half.ensures.small c.above_least.ensures.above
