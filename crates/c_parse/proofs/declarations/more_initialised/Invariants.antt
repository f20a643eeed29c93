use Rattle.std.proofs.Common.{◌-◌, ◌≤◌, [], ◌∷◌, map, length}
use Rattle.c_lex.specs.declared.token.Mark.TheVariants.{Comma}
use Rattle.c_tree.specs.SyntaxViews.{init_declarator_view}
use Rattle.c_grammar.specs.inner.Readers.{pushed}
use Rattle.c_grammar.specs.inner.Tokens.{is_mark}
use Rattle.c_parse.specs.inner.Boxes.{boxed_initialised_view}
use Rattle.c_parse.specs.inner.Parts.{next_initialised, more_initialised}
use Rattle.parse_expressions.proofs.CodeLoops.{Going}
use Rattle.c_parse.proofs.declarations.more_initialised.Given as goal

abbrev pub invariant-declarators : goal.invariant-declarators
invariant-declarators l = record {
  going : Going (λ _. is_mark Comma) (λ _. next_initialised l.braces l.room (l.room - 1)) pushed (more_initialised l.braces l.room (l.room - 1) (boxed_initialised_view l.fn.first ∷ []) l.fn.parser.count l.fn.parser.rest.now) (map init_declarator_view l.all.items) l.parser.count l.parser.rest.now;
  keeps : length l.parser.rest.now ≤ length l.fn.parser.rest.now;
}

abbrev pub decreases-declarators : goal.decreases-declarators
decreases-declarators l = length l.parser.rest.now
