use Rattle.std.proofs.Common.{◌≡◌, ◌+◌, drop, false}
use Rattle.c_lex.specs.Constants.{number_len}
use Rattle.c_lex.proofs.constant.number_len.Given as goal

abbrev pub invariant-loop-i : goal.invariant-loop-i
invariant-loop-i l = l.i + number_len l.after_exponent (drop l.i l.bytes) ≡ number_len false l.bytes
