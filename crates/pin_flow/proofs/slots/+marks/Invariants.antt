use Rattle.std.proofs.Common.{drop}
use Rattle.struct_ir.specs.Views.{nodes_view}
use Rattle.pin_flow.specs.Looks.{some_act}
use Rattle.pin_flow.specs.Slots.{accesses}
use Rattle.pin_flow.specs.inner.Marked.{IsLeft}
use Rattle.pin_flow.proofs.slots.+marks.Given as goal

-- with those that are left, all are marked
abbrev pub invariant-mark_row-loop-n : goal.invariant-mark_row-loop-n
invariant-mark_row-loop-n l = IsLeft l.fn.seen.items l.seen.items (λ b. some_act (accesses b) (nodes_view (drop l.n-index l.rows))) (λ b. some_act (accesses b) (nodes_view l.rows))
