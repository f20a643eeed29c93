use Rattle.ak_words.proofs.Shifts.{right_result, right_result-no_count}
use Rattle.ak_words.proofs.evaluation.shift_right.Goals as goal

pub returns-in-Some : goal.returns-in-Some
returns-in-Some c = right_result c.args.a c.args.b c.in-Some.count c.in-Some.ensures.within c.in-Some.ensures.value c.wrapping.result c.wrapping.ensures

pub returns-in-None : goal.returns-in-None
returns-in-None c = right_result-no_count c.args.a c.args.b c.in-None.ensures.none
