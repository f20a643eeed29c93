use Rattle.std.proofs.Common.{sym, ◌∙◌}
use Rattle.c_lex.proofs.laws.exclusive.Goals as goal

pub returns : goal.returns
returns c text ts r are refuses = let same = sym are.2 ∙ refuses in cc
