-- The machine is one that the rules of a run are of.
use Rattle.std.proofs.Common.{refl}
use Rattle.flat_machine.specs.Laws.{MachineIsFlat}
use Rattle.flat_machine.specs.lemmas.Lawful.{begins, blank_of, few_served, works_on}
use Rattle.flat_machine.specs.lemmas.Kept.{clears, sweeps}
use Rattle.flat_machine.specs.lemmas.Goes.{goes_on}
use Rattle.flat_machine.specs.lemmas.Leaves.{leaves}

pub machine_is_flat : MachineIsFlat
machine_is_flat code = record {
  blank_of = blank_of code;
  blank_thread = λ k. refl;
  blank_progress = λ k. refl;
  blank_stands = λ k. refl;
  blank_waits = λ k. refl;
  few = few_served code;
  begins = begins code;
  works = works_on code;
  goes_on = goes_on code;
  leaves = leaves code;
  sweeps = sweeps code;
  clears = λ s homes shared all are. clears code s homes shared;
}
