use Rattle.std.proofs.Common.{◌∙◌}
use Rattle.flat_words.proofs.Shifts.{right_is}
use Rattle.flat_words.proofs.shifting.shift_right.Goals as goal

pub returns-in-Some : goal.returns-in-Some
returns-in-Some c = c.word_in.ensures ∙ right_is c.args.t c.args.a c.args.b c.in-Some.x c.places.result c.in-Some.ensures.some c.places.ensures.value
