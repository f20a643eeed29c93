use Rattle.std.proofs.Common.{◌≡◌, drop}
use Rattle.struct_ir.specs.Views.{nodes_view}
use Rattle.pin_flow.specs.Marks.{good, bad, in_turn, flow}
use Rattle.pin_flow.specs.Views.{mark_view, ways_view}
use Rattle.pin_flow.proofs.flow.+boths.Given as goal

-- what is ahead, with the nodes that are left, is the row, from either state
abbrev pub invariant-both_in-loop-n : goal.invariant-both_in-loop-n
invariant-both_in-loop-n l = record {
  good : in_turn (ways_view l.both.good) (flow (mark_view l.mark) (nodes_view (drop l.n-index l.rows)) (ways_view l.both.good).on) ≡ flow (mark_view l.mark) (nodes_view l.rows) good;
  bad : in_turn (ways_view l.both.bad) (flow (mark_view l.mark) (nodes_view (drop l.n-index l.rows)) (ways_view l.both.bad).on) ≡ flow (mark_view l.mark) (nodes_view l.rows) bad;
}
