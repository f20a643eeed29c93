use Rattle.std.proofs.Common.{sym, ◌∙◌}
use Rattle.c_lex.proofs.laws.one_refusal.Goals as goal

pub returns : goal.returns
returns c text r s this that = let same = sym this ∙ that in cc
