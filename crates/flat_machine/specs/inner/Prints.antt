-- What printing a part leaves.
use Rattle.std.specs.Prelude.{◌≡◌, ℕ, List, ◌++◌, Result, Ok, Err}
use Rattle.flat_meaning.specs.Printing.{Read, reads, outside, too_long}
use Rattle.flat_machine.specs.declared.printing.Fault.{Fault}
use Rattle.flat_machine.specs.declared.printing.Fault.TheVariants as faults
use Rattle.flat_machine.specs.Shares.{Shared}
use Rattle.flat_machine.specs.inner.Dones.{with_memory}

-- with more output
abbrev pub with_more : Shared → List ℕ → Shared
with_more s all = with_memory s (record s.memory { output = s.memory.output ++ all })

-- what was read is printed behind the output; where it wasn't read, a part of it may be
abbrev pub PrintsPart : Read → (old new : Shared) → Result Unit Fault → Type 0
PrintsPart (reads all) old new r = (r ≡ Ok tt) × (new ≡ with_more old all)
PrintsPart (outside address) old new r = (r ≡ Err (faults.Outside address)) × (more : List ℕ) × (new ≡ with_more old more)
PrintsPart too_long old new r = (r ≡ Err faults.Full) × (more : List ℕ) × (new ≡ with_more old more)
