use Rattle.std.proofs.Common.{◌≡◌, take, vec_capacity}
use Rattle.flat_threads.proofs.context.keep_list.Given as goal

abbrev pub invariant-loop-slot : goal.invariant-loop-slot
invariant-loop-slot l = (l.list.items ≡ take l.slot-index l.slots) × (vec_capacity l.list ≡ vec_capacity l.fn.list)
