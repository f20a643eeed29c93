use Rattle.std.proofs.Common.{◌≡◌, drop, false}
use Rattle.c_lex.specs.Items.{comment_len}
use Rattle.c_lex.proofs.item.comment_len.Given as goal

abbrev pub invariant-loop-i : goal.invariant-loop-i
invariant-loop-i l = comment_len false 0 l.bytes ≡ comment_len l.after_star l.i (drop l.i l.bytes)
