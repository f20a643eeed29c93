use Rattle.std.proofs.Common.{◌∙◌, sym, arith}
use Rattle.c_lex.specs.declared.token.Word.TheVariants as words
use Rattle.std.specs.Str.{bytes_eq}
use Rattle.c_lex.specs.Spellings.{word_text, all_words}
use Rattle.c_lex.proofs.Finds.{find-drop_yes, find-drop_no}
use Rattle.c_lex.proofs.spelling.word_of.Goals as goal

pub returns-then-eq : goal.returns-then-eq
unfolding all_words
returns-then-eq c = sym (c.loop-word.invariant ∙ find-drop_yes (λ word. bytes_eq (word_text word) c.args.run.now) all_words c.loop-word.word-index words.Auto (omega arith) (cc))

pub loop-word-preserved : goal.loop-word-preserved
unfolding all_words
loop-word-preserved c = c.loop-word.invariant ∙ find-drop_no (λ word. bytes_eq (word_text word) c.args.run.now) all_words c.loop-word.word-index words.Auto (omega arith) (cc)
