use Rattle.flat_threads.proofs.Pinned.{Pins}
use Rattle.flat_threads.proofs.calls.Calls.pin_callers.Given as goal

abbrev pub invariant-loop-at : goal.invariant-loop-at
invariant-loop-at l = Pins l.program l.self-inside.registers.items l.self-inside.slots l.self-inside.top l.self-inside.callers.items l.fn.into l.into l.at
