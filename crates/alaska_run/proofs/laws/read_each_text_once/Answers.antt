use Rattle.alaska_run.proofs.Reasons.{one_tree, not_both, one_reason, each_read}
use Rattle.alaska_run.proofs.laws.read_each_text_once.Goals as goal

pub returns-clause-either : goal.returns-clause-either
returns-clause-either c = each_read c.each_is_read.ensures c.tokens_end_once.ensures c.each_is_judged.ensures

pub returns-clause-not_both : goal.returns-clause-not_both
returns-clause-not_both c = not_both c.only.ensures c.exclusive.ensures c.exclusive-2.ensures

pub returns-clause-one_tree : goal.returns-clause-one_tree
returns-clause-one_tree c = one_tree c.only.ensures

pub returns-clause-one_reason : goal.returns-clause-one_reason
returns-clause-one_reason c = one_reason c.only.ensures c.one_refusal.ensures c.exclusive.ensures c.one_refusal-2.ensures c.exclusive-2.ensures
