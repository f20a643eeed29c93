use Rattle.std.proofs.Common.{◌≡◌, drop}
use Rattle.struct_ir.specs.Views.{nodes_view, followed}
use Rattle.pin_flow.proofs.rows.+copies.Given as goal

-- so far
abbrev pub invariant-copy_row-loop-n : goal.invariant-copy_row-loop-n
invariant-copy_row-loop-n l = followed l.out.items (nodes_view (drop l.n-index l.rows)) ≡ nodes_view l.rows
