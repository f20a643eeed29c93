use Rattle.std.proofs.Common.{◌≡◌, drop}
use Rattle.struct_ir.specs.Views.{nodes_view}
use Rattle.pin_flow.specs.Marks.{in_turn, flow}
use Rattle.pin_flow.specs.Views.{mark_view, state_view, ways_view}
use Rattle.pin_flow.proofs.flow.+flows.Given as goal

-- what is ahead, with the nodes that are left, is the row
abbrev pub invariant-ways_of-loop-n : goal.invariant-ways_of-loop-n
invariant-ways_of-loop-n l =
    in_turn (ways_view l.ahead) (flow (mark_view l.mark) (nodes_view (drop l.n-index l.rows)) (ways_view l.ahead).on) ≡ flow (mark_view l.mark) (nodes_view l.rows) (state_view l.fn.before)
