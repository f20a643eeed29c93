use Rattle.std.proofs.Common.{◌≡◌, drop}
use Rattle.std.specs.List.{find}
use Rattle.std.specs.Str.{bytes_eq}
use Rattle.c_lex.specs.Spellings.{word_text, word_of}
use Rattle.c_lex.proofs.spelling.word_of.Given as goal

abbrev pub invariant-loop-word : goal.invariant-loop-word
invariant-loop-word l = word_of l.run ≡ find (λ word. bytes_eq (word_text word) l.run) (drop l.word-index l.word-items)
