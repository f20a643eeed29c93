use Rattle.std.proofs.Common.{◌≡◌, ◌++◌, take}
use Rattle.std.specs.Prelude.{vec_capacity}
use Rattle.flat_machine.proofs.printing.append.Given as goal

abbrev pub invariant-loop-byte : goal.invariant-loop-byte
invariant-loop-byte l = record {
  items : l.output.items ≡ l.initial.output.items ++ take l.byte-index l.bytes;
  capacity : vec_capacity l.output ≡ vec_capacity l.initial.output;
}
