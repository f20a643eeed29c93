use Rattle.std.proofs.Common.{◌∙◌}
use Rattle.flat_words.proofs.Shifts.{left_is}
use Rattle.flat_words.proofs.shifting.shift_left.Goals as goal

pub returns : goal.returns
returns c = c.word_in.ensures ∙ left_is c.args.t c.args.a c.args.b c.places.result c.places.ensures.value
