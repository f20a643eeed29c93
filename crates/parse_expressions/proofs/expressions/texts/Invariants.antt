use Rattle.std.proofs.Common.{◌<◌, length}
use Rattle.c_grammar.specs.inner.Readers.{row_from, pushed}
use Rattle.c_grammar.specs.inner.Tokens.{tok, text_of, is_text}
use Rattle.parse_expressions.proofs.CodeLoops.{Going}
use Rattle.parse_expressions.proofs.expressions.texts.Given as goal

abbrev pub invariant-texts : goal.invariant-texts
invariant-texts l = record {
  going : Going (λ _. is_text) (λ _. tok l.room text_of) pushed (row_from (tok l.room text_of) is_text (tok l.room text_of) l.fn.parser.count l.fn.parser.rest.now) l.all.items l.parser.count l.parser.rest.now;
  takes : length l.parser.rest.now < length l.fn.parser.rest.now;
}

abbrev pub decreases-texts : goal.decreases-texts
decreases-texts l = length l.parser.rest.now
