use Rattle.std.proofs.Common.{◌∙◌}
use Rattle.c_lex.proofs.NameMaps.{look_up-entries}
use Rattle.c_lex.proofs.lexer.Names.number_of.Goals as goal

pub returns : goal.returns
returns c = c.copied.ensures ∙ c.get.ensures.value ∙ look_up-entries _ c.args.self.now.numbers.entries
