use Rattle.std.proofs.Common.{◌≤◌, map, length}
use Rattle.c_tree.specs.SyntaxViews.{external_view}
use Rattle.c_grammar.specs.inner.Readers.{pushed}
use Rattle.c_grammar.specs.inner.Reading.{begins_external, external}
use Rattle.c_parse.specs.inner.Parts.{external_row}
use Rattle.parse_expressions.proofs.CodeLoops.{Going}
use Rattle.c_parse.proofs.files.external_row.Given as goal

abbrev pub invariant-externals : goal.invariant-externals
invariant-externals l = record {
  going : Going (λ _. begins_external) (λ _. external) pushed (external_row l.fn.parser.count l.fn.parser.rest.now) (map external_view l.all.items) l.parser.count l.parser.rest.now;
  keeps : length l.parser.rest.now ≤ length l.fn.parser.rest.now;
}

abbrev pub decreases-externals : goal.decreases-externals
decreases-externals l = length l.parser.rest.now
