use Rattle.std.proofs.Common.{◌≡◌, drop, nat_eq}
use Rattle.std.specs.List.{find, starts_with}
use Rattle.c_lex.specs.Spellings.{mark_text, mark_of}
use Rattle.c_lex.proofs.spelling.longest_mark.Given as goal

abbrev pub invariant-loop-mark : goal.invariant-loop-mark
invariant-loop-mark l = mark_of l.bytes ≡ find (λ mark. starts_with nat_eq l.bytes (mark_text mark)) (drop l.mark-index l.mark-items)
