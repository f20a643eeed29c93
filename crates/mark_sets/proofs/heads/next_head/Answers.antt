use Rattle.std.proofs.Common.{sym, ◌∙◌}
use Rattle.mark_sets.specs.Words.{has}
use Rattle.mark_sets.proofs.HeadRows.{head_got}
use Rattle.mark_sets.proofs.heads.next_head.Goals as goal

pub returns-clause-head : goal.returns-clause-head
returns-clause-head c = λ i. c.in_ok-head.ensures i ∙ sym (head_got c.args.outline.now.heads.items c.args.next.now c.index.result.now (has c.args.on.now i) i c.requires c.index.ensures)
