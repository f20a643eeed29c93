use Rattle.std.proofs.Common.{◌∙◌}
use Rattle.mark_sets.proofs.words.insert.Goals as goal

pub returns-clause-others : goal.returns-clause-others
returns-clause-others c = λ j apart. c.put.ensures.others j apart ∙ c.in_ok-widen.ensures.same j
