use Rattle.std.proofs.Common.{◌<◌, ◌-◌, ◌&&◌, sym, ap, ◌∙◌, arith}
use Rattle.std.specs.Prelude.{nat_le}
use Rattle.struct_ir.specs.Views.{node_view, nodes_view}
use Rattle.struct_ir.proofs.Views.{if_is, loop_is}
use Rattle.code_save.specs.Saves.{node_depth, depth}
use Rattle.code_save.proofs.Depths.{le_max, goes_on, stops, ends, none_within}
use Rattle.code_save.proofs.depth.+within.Goals as goal

pub are_within-returns-then-levels-eq0 : goal.are_within-returns-then-levels-eq0
are_within-returns-then-levels-eq0 t c = none_within c.args.nodes.now c.is_empty.result c.args.levels c.if-levels-eq0.true c.is_empty.ensures

pub are_within-loop-n-preserved : goal.are_within-loop-n-preserved
are_within-loop-n-preserved t c = let pos : 0 < c.args.levels = omega arith in goes_on c.args.levels pos c.args.nodes.now c.loop-n.n-index c.n-item.result (nat_le (depth (nodes_view c.args.nodes.now)) c.args.levels) c.loop-n-test.true (c.if-not-node_is_within.ensures ∙ ap (λ n. nat_le (node_depth (node_view n)) (c.args.levels - 1)) c.n-item.is) c.loop-n.invariant

pub are_within-returns-then-not-node_is_within : goal.are_within-returns-then-not-node_is_within
are_within-returns-then-not-node_is_within t c = let pos : 0 < c.args.levels = omega arith in stops c.args.levels pos c.args.nodes.now c.loop-n.n-index c.n-item.result (nat_le (depth (nodes_view c.args.nodes.now)) c.args.levels) c.loop-n-test.true (c.if-not-node_is_within.ensures ∙ ap (λ n. nat_le (node_depth (node_view n)) (c.args.levels - 1)) c.n-item.is) c.loop-n.invariant

pub are_within-returns : goal.are_within-returns
are_within-returns t c = ends c.args.levels c.args.nodes.now c.loop-n.n-index (nat_le (depth (nodes_view c.args.nodes.now)) c.args.levels) c.loop-n-test.false c.loop-n.invariant

pub node_is_within-returns-in-If : goal.node_is_within-returns-in-If
node_is_within-returns-in-If t c = c.both_within.ensures ∙ (λ i. nat_le (depth (nodes_view (c.deref.ensures.value i))) c.args.levels && nat_le (depth (nodes_view (c.deref-in-If.ensures.value i))) c.args.levels) ∙ sym (le_max (depth (nodes_view c.in-If.one.items)) (depth (nodes_view c.in-If.other.items)) c.args.levels) ∙ ap (λ n. nat_le (node_depth n) c.args.levels) (sym (if_is c.args.n.now _ c.in-If.one c.in-If.other c.in-If.is))

pub node_is_within-returns-in-Loop : goal.node_is_within-returns-in-Loop
node_is_within-returns-in-Loop t c = c.both_within-in-Loop.ensures ∙ (λ i. nat_le (depth (nodes_view (c.deref-in-Loop.ensures.value i))) c.args.levels && nat_le (depth (nodes_view (c.deref-in-Loop-2.ensures.value i))) c.args.levels) ∙ sym (le_max (depth (nodes_view c.in-Loop.body.items)) (depth (nodes_view c.in-Loop.latch.items)) c.args.levels) ∙ ap (λ n. nat_le (node_depth n) c.args.levels) (sym (loop_is c.args.n.now c.in-Loop.body c.in-Loop.latch c.in-Loop.is))
