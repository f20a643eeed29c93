use Rattle.std.proofs.Common.{map, ap, ◌∙◌}
use Rattle.c_lex.specs.inner.Lexing.{entry_of}
use Rattle.c_lex.proofs.NameMaps.{insert-entries}
use Rattle.c_lex.proofs.lexer.Names.define.Goals as goal

pub returns-clause-added : goal.returns-clause-added
returns-clause-added c = ap (map entry_of) c.in_ok-insert.ensures.entries ∙ insert-entries _ c.args.number c.args.self.now.numbers.entries c.requires.fresh
