use Rattle.std.proofs.Common.{◌≡◌, ◌<◌, ◌^◌, take}
use Rattle.std.specs.Str.Parse.{digits_value}
use Rattle.c_lex.proofs.constant.value_of.Given as goal

abbrev pub invariant-loop-digit : goal.invariant-loop-digit
invariant-loop-digit l = record {
  fits : l.value < 2 ^ 64;
  so_far : l.value ≡ digits_value l.radix (take l.digit-index l.digits);
}
