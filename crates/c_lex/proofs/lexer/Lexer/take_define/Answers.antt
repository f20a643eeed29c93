use Rattle.std.proofs.Common.{sym}
use Rattle.c_lex.specs.inner.Lexing.{names_in}
use Rattle.c_lex.proofs.Defines.{defined-fresh}
use Rattle.c_lex.proofs.lexer.Lexer.take_define.Goals as goal

pub define-requires-clause-fresh : goal.define-requires-clause-fresh
define-requires-clause-fresh c = defined-fresh c.args.self.now.names.text.now (names_in c.args.self.now.names) c.args.place c.args.define c.in-Ok.number (sym c.in-Ok.ensures)
