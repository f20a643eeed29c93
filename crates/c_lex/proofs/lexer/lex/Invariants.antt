use Rattle.std.proofs.Common.{◌≡◌, ◌≤◌, ◌-◌, length, drop}
use Rattle.c_lex.specs.Tokens.{pieces, reading_of}
use Rattle.c_lex.specs.inner.Lexing.{outcome}
use Rattle.c_lex.proofs.lexer.lex.Given as goal

abbrev pub invariant-loop-place : goal.invariant-loop-place
invariant-loop-place l = record {
  within : l.place ≤ length l.text;
  text_is : l.lexer.names.text.now ≡ l.text;
  same : outcome l.lexer (pieces l.is_line_start l.place 0 (drop l.place l.text)) ≡ reading_of l.text;
}

abbrev pub decreases-loop-place : goal.decreases-loop-place
decreases-loop-place l = length l.text - l.place
