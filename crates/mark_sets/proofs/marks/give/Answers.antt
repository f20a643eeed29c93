use Rattle.std.proofs.Common.{◌==◌, if◌then◌else◌, Some, None, ap, ◌∙◌}
use Rattle.mark_sets.specs.Views.{first_of}
use Rattle.mark_sets.proofs.marks.give.Goals as goal

pub returns : goal.returns
returns c = λ d. c.place_at.ensures d ∙ ap (λ o. first_of o (if d == c.args.b then Some c.args.i else None)) (c.in_ok-widen.ensures.same d)
