use Rattle.std.proofs.Common.{◌++◌, ◌∷◌, [], ap, sym, ◌∙◌}
use Rattle.std.specs.List.{slice_range}
use Rattle.std.specs.Map.{lookup}
use Rattle.std.specs.Str.{bytes_eq}
use Rattle.c_lex.specs.Tokens.{token, named, reading}
use Rattle.c_lex.specs.inner.Lexing.{joined, names_in}
use Rattle.c_lex.proofs.Pieces.{joined-with_token}
use Rattle.c_lex.proofs.lexer.Lexer.take_name.Goals as goal

pub returns-clause-taken : goal.returns-clause-taken
returns-clause-taken c = λ rest. joined-with_token c.args.self.now.tokens.items (token (named (lookup (bytes_eq (slice_range c.args.self.now.names.text.now c.args.from c.args.to)) (names_in c.args.self.now.names))) c.args.from c.args.to) (reading c.args.self.now.names.text.now (names_in c.args.self.now.names) rest)
    ∙ ap (λ items. joined items (reading c.args.self.now.names.text.now (names_in c.args.self.now.names) rest)) (sym (c.in_ok-push.ensures.items ∙ ap (λ t. c.args.self.now.tokens.items ++ t ∷ []) (c.token.ensures ∙ ap (λ kind. token kind c.args.from c.args.to) c.kind_of-kind.ensures)))
