use Rattle.std.proofs.Common.{◌≡◌, ◌++◌}
use Rattle.std.specs.Prelude.{vec_capacity}
use Rattle.flat_store.specs.Flat.{bytes_from}
use Rattle.flat_machine.proofs.printing.append_text.Given as goal

abbrev pub invariant-loop-i : goal.invariant-loop-i
invariant-loop-i l = record {
  items : l.output.items ≡ l.initial.output.items ++ bytes_from l.flat l.at l.i;
  capacity : vec_capacity l.output ≡ vec_capacity l.initial.output;
}
