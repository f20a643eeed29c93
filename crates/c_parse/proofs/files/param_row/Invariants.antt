use Rattle.std.proofs.Common.{◌<◌, map, length}
use Rattle.c_lex.specs.declared.token.Mark.TheVariants.{Comma}
use Rattle.c_tree.specs.SyntaxViews.{param_view}
use Rattle.c_grammar.specs.inner.Readers.{pushed}
use Rattle.c_grammar.specs.inner.Tokens.{is_mark}
use Rattle.c_parse.specs.inner.Parts.{next_param, param_row}
use Rattle.parse_expressions.proofs.CodeLoops.{Going}
use Rattle.c_parse.proofs.files.param_row.Given as goal

abbrev pub invariant-params : goal.invariant-params
invariant-params l = record {
  going : Going (λ _. is_mark Comma) (λ _. next_param) pushed (param_row l.fn.parser.count l.fn.parser.rest.now) (map param_view l.all.items) l.parser.count l.parser.rest.now;
  takes : length l.parser.rest.now < length l.fn.parser.rest.now;
}

abbrev pub decreases-params : goal.decreases-params
decreases-params l = length l.parser.rest.now
