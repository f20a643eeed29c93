use Rattle.std.proofs.Common.{◌≡◌, ℕ, ◌≤◌, length, get_or, take, drop}
use Rattle.struct_ir.specs.declared.code.Node.{Node as CodeNode}
use Rattle.struct_ir.specs.Views.{nodes_view, followed}
use Rattle.pin_flow.specs.Held.{held}
use Rattle.pin_flow.specs.Marks.{in_turn, flow}
use Rattle.pin_flow.specs.Views.{state_view, ways_view}
use Rattle.pin_frames.specs.Views.{lives_view}
use Rattle.pin_frames.specs.inner.Place.{listed_one, behind}
use Rattle.pin_frames.proofs.listing.+lists.Given as goal

-- with what is made of the nodes that are left, which are as they were, it is what is to be made; so is where control leaves the row
abbrev pub invariant-list_row-loop-n : goal.invariant-list_row-loop-n
invariant-list_row-loop-n l = record {
  made : followed (take l.n-index l.rows) (listed_one l.slot l.b (nodes_view (drop l.n-index l.rows)) (ways_view l.ahead).on (lives_view l.after)) ≡ listed_one l.slot l.b (nodes_view l.fn.rows) (state_view l.fn.before) (lives_view l.after);
  ways : in_turn (ways_view l.ahead) (flow (held l.b) (nodes_view (drop l.n-index l.rows)) (ways_view l.ahead).on) ≡ flow (held l.b) (nodes_view l.fn.rows) (state_view l.fn.before);
  later : l.lives.items ≡ behind l.slot l.b (nodes_view (drop l.n-index l.rows)) (lives_view l.after);
  unvisited : (length l.rows ≡ length l.fn.rows) × ((k : ℕ) (d : CodeNode) → l.n-index ≤ k → get_or l.rows k d ≡ get_or l.fn.rows k d);
}
