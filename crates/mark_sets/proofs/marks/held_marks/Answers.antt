use Rattle.std.proofs.Common.{length, refl}
use Rattle.mark_sets.specs.declared.marks.Marks.{Marks}
use Rattle.mark_sets.proofs.Bits.{own_bits}
use Rattle.mark_sets.proofs.marks.held_marks.Goals as goal

pub returns-clause-own : goal.returns-clause-own
returns-clause-own c =
    let x : Marks = record { held = c.in_ok-held.held; count = length c.args.bases.now } in
    own_bits x c.args.bases.now c.in_ok-held.ensures refl
