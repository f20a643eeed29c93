use Rattle.std.proofs.Common.{◌≡◌, ◌≤◌, length}
use Rattle.c_grammar.specs.Grammar.{stars}
use Rattle.c_grammar.specs.inner.Readers.{choice, pushed}
use Rattle.c_grammar.specs.inner.Tokens.{is_pointer}
use Rattle.c_grammar.specs.inner.Reading.{pointer_start, pointer_by, pointers}
use Rattle.parse_expressions.proofs.CodeLoops.{Going}
use Rattle.parse_expressions.proofs.pointers.pointers.Given as goal

abbrev pub invariant-pointers : goal.invariant-pointers
invariant-pointers l = record {
  going : Going (λ _. is_pointer) (λ front. choice pointer_start (pointer_by l.room (stars 0 front))) pushed (pointers l.room l.fn.parser.count l.fn.parser.rest.now) l.all.items l.parser.count l.parser.rest.now;
  before : l.before ≡ stars 0 l.all.items;
  keeps : length l.parser.rest.now ≤ length l.fn.parser.rest.now;
}

abbrev pub decreases-pointers : goal.decreases-pointers
decreases-pointers l = length l.parser.rest.now
