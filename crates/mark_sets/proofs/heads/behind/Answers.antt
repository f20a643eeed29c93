use Rattle.mark_sets.proofs.HeadRows.{later_all}
use Rattle.mark_sets.proofs.heads.behind.Goals as goal

pub returns : goal.returns
returns c = λ all i lt. later_all c.new-none.result.items c.in_ok-all.all.items c.new-none.ensures.items all i (c.in_ok-all.ensures i lt)
