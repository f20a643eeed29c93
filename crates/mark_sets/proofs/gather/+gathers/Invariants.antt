use Rattle.std.proofs.Common.{◌≡◌, ℕ, Bool, Some, take, drop}
use Rattle.struct_ir.specs.Views.{nodes_view}
use Rattle.pin_flow.specs.declared.mark.Mark.{Mark as CodeMark}
use Rattle.pin_flow.specs.Marks.{in_turn, flow}
use Rattle.pin_flow.specs.Views.{mark_view}
use Rattle.mark_sets.specs.Sets.{state_at, ways_at}
use Rattle.mark_sets.specs.Views.{pairs_view, pair_ways_view, bit_of}
use Rattle.mark_sets.specs.Added.{Gathers}
use Rattle.mark_sets.proofs.gather.+gathers.Given as goal

-- what is ahead, with the nodes that are left, is the row; and what the loops so far add is gathered
abbrev pub invariant-gather_row-loop-n : goal.invariant-gather_row-loop-n
invariant-gather_row-loop-n l = record {
  ways : (k : CodeMark) (i : ℕ) (v : Bool) → bit_of l.marks k ≡ Some i
      → in_turn (ways_at (i, v) (pair_ways_view l.ahead)) (flow (mark_view k) (nodes_view (drop l.n-index l.rows)) (state_at (i, v) (pairs_view l.ahead.on)))
      ≡ flow (mark_view k) (nodes_view l.rows) (state_at (i, v) (pairs_view l.fn.before));
  sets : Gathers l.marks l.fn.sets.items l.sets.items (nodes_view (take l.n-index l.rows));
}
