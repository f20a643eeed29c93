use Rattle.move_plan.proofs.Unique.{slide_unique, longest_after_slide}
use Rattle.move_plan.proofs.sliding.slide_is_unique.Goals as goal

pub returns-clause-unique : goal.returns-clause-unique
returns-clause-unique c = slide_unique

pub returns-clause-longest : goal.returns-clause-longest
returns-clause-longest c = longest_after_slide
