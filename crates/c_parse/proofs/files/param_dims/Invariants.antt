use Rattle.std.proofs.Common.{◌+◌, ◌≤◌, map, length}
use Rattle.c_lex.specs.declared.token.Mark.TheVariants.{OpenBracket}
use Rattle.c_tree.specs.SyntaxViews.{param_dim_view}
use Rattle.c_grammar.specs.inner.Readers.{pushed}
use Rattle.c_grammar.specs.inner.Tokens.{is_mark}
use Rattle.c_grammar.specs.inner.Reading.{param_dim}
use Rattle.c_parse.specs.inner.Parts.{param_dims}
use Rattle.parse_expressions.proofs.CodeLoops.{Going}
use Rattle.c_parse.proofs.files.param_dims.Given as goal

abbrev pub invariant-dims : goal.invariant-dims
invariant-dims l = record {
  going : Going (λ _. is_mark OpenBracket) (λ front. param_dim 127 (l.before + length front)) pushed (param_dims 127 l.before l.fn.parser.count l.fn.parser.rest.now) (map param_dim_view l.all.items) l.parser.count l.parser.rest.now;
  keeps : length l.parser.rest.now ≤ length l.fn.parser.rest.now;
}

abbrev pub decreases-dims : goal.decreases-dims
decreases-dims l = length l.parser.rest.now
