use Rattle.mark_sets.proofs.HeadRows.{later_none}
use Rattle.mark_sets.proofs.heads.nothing.Goals as goal

pub returns : goal.returns
returns c = λ all i. later_none c.new.result.items c.new-2.result.items c.new.ensures.items c.new-2.ensures.items all i
