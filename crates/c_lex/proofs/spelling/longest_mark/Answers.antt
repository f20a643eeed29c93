use Rattle.std.proofs.Common.{◌∙◌, sym, ap, nat_eq, arith}
use Rattle.c_lex.specs.declared.token.Mark.TheVariants as marks
use Rattle.std.specs.List.{starts_with}
use Rattle.c_lex.specs.Spellings.{mark_text, longest_marks_first}
use Rattle.c_lex.proofs.Finds.{find-drop_yes, find-drop_no}
use Rattle.c_lex.proofs.spelling.longest_mark.Goals as goal

pub returns-then-starts_with-clause-mark : goal.returns-then-starts_with-clause-mark
unfolding longest_marks_first
returns-then-starts_with-clause-mark c = sym (c.loop-mark.invariant ∙ find-drop_yes (λ mark. starts_with nat_eq c.args.bytes.now (mark_text mark)) longest_marks_first c.loop-mark.mark-index marks.Ellipsis (omega arith) (sym (c.starts_with.ensures.value ∙ ap (starts_with nat_eq c.args.bytes.now) c.mark_bytes.ensures.text) ∙ c.if-starts_with.true))

pub loop-mark-preserved : goal.loop-mark-preserved
unfolding longest_marks_first
loop-mark-preserved c = c.loop-mark.invariant ∙ find-drop_no (λ mark. starts_with nat_eq c.args.bytes.now (mark_text mark)) longest_marks_first c.loop-mark.mark-index marks.Ellipsis (omega arith) (sym (c.starts_with.ensures.value ∙ ap (starts_with nat_eq c.args.bytes.now) c.mark_bytes.ensures.text) ∙ c.if-starts_with.false)
