use Rattle.std.proofs.Common.{◌≡◌, drop, false}
use Rattle.c_lex.specs.Quoted.{closing}
use Rattle.c_lex.proofs.quoted.closing.Given as goal

abbrev pub invariant-loop-i : goal.invariant-loop-i
invariant-loop-i l = closing l.quote false 0 l.bytes ≡ closing l.quote l.hidden l.i (drop l.i l.bytes)
