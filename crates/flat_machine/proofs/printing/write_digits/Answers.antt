use Rattle.std.proofs.Common.{◌∙◌, ap, false, arith}
use Rattle.std.proofs.Math.ListN.{drop_of_length-le}
use Rattle.std.specs.Fmt.{digits_onto}
use Rattle.std.proofs.DigitsParse.{digits_onto-nil}
use Rattle.flat_machine.proofs.printing.write_digits.Goals as goal

pub loop-first-init : goal.loop-first-init
loop-first-init c = record {
  within = omega arith;
  size = c.told-into;
  written = ap (digits_onto 64 c.args.base false c.args.number) (drop_of_length-le c.args.into.now {i = 64} (omega (arith, c.told-into))) ∙ digits_onto-nil _ _ _;
}
