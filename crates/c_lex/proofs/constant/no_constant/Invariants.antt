use Rattle.std.proofs.Common.{◌≡◌, drop}
use Rattle.std.specs.List.{list_any}
use Rattle.c_lex.specs.Constants.{is_floating_byte}
use Rattle.c_lex.proofs.constant.no_constant.Given as goal

abbrev pub invariant-loop-byte : goal.invariant-loop-byte
invariant-loop-byte l = list_any (is_floating_byte l.base) l.run ≡ list_any (is_floating_byte l.base) (drop l.byte-index l.run)
