use Rattle.std.proofs.Common.{ap, ◌∙◌}
use Rattle.struct_ir.specs.Views.{node_view}
use Rattle.pin_flow.specs.Held.{held}
use Rattle.pin_flow.specs.Marks.{in_turn}
use Rattle.pin_flow.specs.Views.{leaf}
use Rattle.pin_flow.proofs.FlowRows.{leaf_is}
use Rattle.mark_sets.specs.Views.{sets_view, ways_view}
use Rattle.hoist_pass.specs.inner.Sets.{bit, has_bit, states, ways_by}
use Rattle.std.proofs.Common.{refl}
use Rattle.hoist_pass.proofs.ByBit.{flow_leaf}
use Rattle.hoist_pass.proofs.DroppedRows.{no_loops, leaf_made}
use Rattle.hoist_pass.proofs.dropping.drop_leaf.Goals as goal

pub returns-clause-none : goal.returns-clause-none
returns-clause-none c = no_loops (node_view c.args.n) c.requires.leaf

pub returns-clause-ways : goal.returns-clause-ways
returns-clause-ways c = λ b.
    let x = c.args.marks.now in
    let s = states x (sets_view c.args.ahead.on) b in
    c.in_ok-ways.ensures b ∙ ap (in_turn (ways_by (bit x b) (ways_view c.args.ahead))) (leaf_is (held b) c.args.n s (leaf (held b) (node_view c.args.n) s) (flow_leaf (node_view c.args.n) c.requires.leaf) refl)

pub returns-clause-node : goal.returns-clause-node
returns-clause-node c = leaf_made (has_bit c.args.marks.now) (node_view c.args.n) (states c.args.marks.now (sets_view c.args.ahead.on)) c.requires.leaf
