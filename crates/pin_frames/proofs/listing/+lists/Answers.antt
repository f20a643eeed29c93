use Rattle.std.proofs.Common.{◌≡◌, ◌≢◌, ◌<◌, ◌+◌, length, drop, ap, ◌∙◌, refl, rules, arith, length-set, get_or-set_other}
use Rattle.std.specs.Global.{Vec}
use Rattle.std.specs.Vec.{with_items}
use Rattle.struct_ir.specs.declared.code.Node.{Node as CodeNode}
use Rattle.struct_ir.specs.declared.code.NodeKind.TheViews as views
use Rattle.struct_ir.specs.Views.{kind_view, nodes_view}
use Rattle.pin_flow.specs.Marks.{Ways, in_turn, turned, end_state, head_of, flow}
use Rattle.pin_flow.specs.Held.{held}
use Rattle.pin_flow.specs.Live.{live, head_live}
use Rattle.pin_flow.specs.Views.{state_view, ways_view}
use Rattle.pin_flow.proofs.FlowRows.{row_over, either_is, round_is, loop_from}
use Rattle.pin_frames.specs.Views.{lives_view}
use Rattle.pin_frames.specs.inner.Place.{listed_one, behind, last_in}
use Rattle.pin_flow.proofs.InPlace.{row_set, row_done, ways_set, temp_of_if, row_within}
use Rattle.mark_sets.proofs.LiveRows.{latch_from}
use Rattle.pin_frames.proofs.ListRows.{last_behind, listed_more, popped_at, popped_set, if_listed, loop_listed}
use Rattle.pin_frames.proofs.listing.+lists.Goals as goal

pub list_row-loop-n-preserved : goal.list_row-loop-n-preserved
list_row-loop-n-preserved t c =
    let slot = c.args.slot in
    let b = c.args.b in
    let xs = c.loop-n.rows in
    let i = c.loop-n.n-index in
    let d = c.n-item.result in
    let y = c.list_node.new.n in
    let a = ways_view c.loop-n.ahead in
    let o = ways_view c.in_ok-ahead.ahead in
    let after = lives_view c.args.after in
    let rest = nodes_view (drop (i + 1) xs) in
    let lt : i < length xs = omega arith in
    let later : c.pop.new.self.items ≡ behind slot b rest after =
    popped_at slot b xs i d after c.loop-n.lives.items c.pop.new.self.items c.loop-n.lives.len lt c.loop-n.invariant.later c.loop-n.lives.ok.0 c.pop.ensures.rest in
    record {
      made = row_set (λ r. listed_one slot b r a.on after) (λ r. listed_one slot b r o.on after) xs i d y _ lt c.loop-n.invariant.made
          (listed_more slot b _ y rest a o after (lives_view c.lives_of-later.result) c.last_of.result c.lives_of-later.ensures
          (c.last_of.ensures ∙ (ap last_in (c.deref.ensures.value ∙ later) ∙ last_behind slot b rest after)) c.in_ok-ahead.ensures.node c.in_ok-ahead.ensures.ways);
      ways = ways_set (held b) xs i d y a o _ lt c.loop-n.invariant.ways c.in_ok-ahead.ensures.ways;
      later = popped_set slot b xs i y after c.pop.new.self.items later;
      unvisited = (
        length-set xs i y ∙ c.loop-n.invariant.unvisited.0,
        λ k e le. let ne : k ≢ i = omega arith in get_or-set_other xs i k y e ne ∙ c.loop-n.invariant.unvisited.1 k e (omega arith),
      );
    }

pub list_row-returns-clause-ways : goal.list_row-returns-clause-ways
list_row-returns-clause-ways t c = row_over (held c.args.b) c.loop-n.rows c.loop-n.n-index (ways_view c.loop-n.ahead) _ (omega arith) c.loop-n.invariant.ways

pub list_row-returns-clause-row : goal.list_row-returns-clause-row
list_row-returns-clause-row t c =
    row_done (λ r. listed_one c.args.slot c.args.b r (ways_view c.loop-n.ahead).on (lives_view c.args.after)) c.loop-n.rows c.loop-n.n-index _ (omega arith) refl c.loop-n.invariant.made

pub list_node-returns-in_ok-second-in-If-clause-ways : goal.list_node-returns-in_ok-second-in-If-clause-ways
list_node-returns-in_ok-second-in-If-clause-ways t c =
    let m = held c.args.b in
    let s = state_view c.args.ahead.on in
    let d0 = c.deref_mut.ensures.value ∙ ap (λ (u : Vec CodeNode). u.items) c.in-If.one-is in
    let d1 = c.deref_mut-in-If.ensures.value ∙ ap (λ (u : Vec CodeNode). u.items) c.in-If.other-is in
    c.one_behind.ensures
    ∙ ap (in_turn (ways_view c.args.ahead))
    (either_is m c.args.n.now c.in-If.field-0 c.in-If.one c.in-If.other s (ways_view c.in_ok-first-in-If.first) (ways_view c.in_ok-second-in-If.second) (ways_view c.both_ways.result) c.in-If.is
    (c.in_ok-first-in-If.ensures.ways ∙ ap (λ r. flow m (nodes_view r) s) d0)
    (c.in_ok-second-in-If.ensures.ways ∙ ap (λ r. flow m (nodes_view r) s) d1) c.both_ways.ensures)

pub list_node-returns-in_ok-second-in-If-clause-node : goal.list_node-returns-in_ok-second-in-If-clause-node
list_node-returns-in_ok-second-in-If-clause-node t c =
    let slot = c.args.slot in
    let b = c.args.b in
    let s = state_view c.args.ahead.on in
    let l = lives_view c.args.after in
    let v = c.in-If.one in
    let w = c.in-If.other in
    let ys = c.list_row.new.rows in
    let zs = c.list_row-in-If.new.rows in
    let d0 : c.deref_mut.result.now ≡ v.items = c.deref_mut.ensures.value ∙ ap (λ (u : Vec CodeNode). u.items) c.in-If.one-is in
    let d1 : c.deref_mut-in-If.result.now ≡ w.items = c.deref_mut-in-If.ensures.value ∙ ap (λ (u : Vec CodeNode). u.items) c.in-If.other-is in
    temp_of_if c.args.n.now.place _ c.in-If.field-0 _ _ (search (rules, views.the_lemmas, c.in-If.is))
    ∙ ((λ i. kind_view c.args.n.now.place (views.If c.in-If.field-0 (with_items (c.in-If.one-is i) ys) (with_items (c.in-If.other-is i) zs)))
    ∙ if_listed slot b c.in-If.field-0 c.args.n.now v w (with_items v ys) (with_items w zs) s l c.in-If.is
    (row_within (λ r. listed_one slot b r s l) v c.deref_mut.result.now ys d0 (omega (arith, c.list_row.auto.rows, ap length d0, v.ok.0)) c.in_ok-first-in-If.ensures.row)
    (row_within (λ r. listed_one slot b r s l) w c.deref_mut-in-If.result.now zs d1 (omega (arith, c.list_row-in-If.auto.rows, ap length d1, w.ok.0)) c.in_ok-second-in-If.ensures.row))

pub list_node-returns-in_ok-second-in-Loop-clause-ways : goal.list_node-returns-in_ok-second-in-Loop-clause-ways
list_node-returns-in_ok-second-in-Loop-clause-ways t c =
    let m = held c.args.b in
    let s = state_view c.args.ahead.on in
    let h = state_view c.head_from-head.result in
    let z = state_view c.end_of.result in
    let v = c.in-Loop.body in
    let w = c.in-Loop.step in
    let first = ways_view c.in_ok-first-in-Loop.first in
    let second = ways_view c.in_ok-second-in-Loop.second in
    let d0 = c.deref.ensures.value ∙ ap (λ (u : Vec CodeNode). u.items) c.in-Loop.body-is in
    let d1 = c.deref-in-Loop.ensures.value ∙ ap (λ (u : Vec CodeNode). u.items) c.in-Loop.step-is in
    let d2 = c.deref_mut-in-Loop.ensures.value ∙ ap (λ (u : Vec CodeNode). u.items) c.in-Loop.body-is in
    let d3 = c.deref_mut-in-Loop-2.ensures.value ∙ ap (λ (u : Vec CodeNode). u.items) c.in-Loop.step-is in
    c.one_behind-in-Loop.ensures
    ∙ ap (in_turn (ways_view c.args.ahead))
    (loop_from m c.args.n.now v w s h (turned first second) (ways_view c.all_on.result) c.in-Loop.is
    (c.head_from-head.ensures ∙ (λ i. head_of (flow m (nodes_view (d0 i))) (flow m (nodes_view (d1 i))) s))
    (round_is m (nodes_view v.items) (nodes_view w.items) h z first second (turned first second)
    (c.in_ok-first-in-Loop.ensures.ways ∙ ap (λ r. flow m (nodes_view r) h) d2) c.end_of.ensures
    (c.in_ok-second-in-Loop.ensures.ways ∙ ap (λ r. flow m (nodes_view r) z) d3) refl)
    (c.all_on.ensures ∙ ap (λ (o : Ways). Rattle.pin_flow.specs.Marks.at o.broken) c.around.ensures))

pub list_node-returns-in_ok-second-in-Loop-clause-node : goal.list_node-returns-in_ok-second-in-Loop-clause-node
list_node-returns-in_ok-second-in-Loop-clause-node t c =
    let slot = c.args.slot in
    let b = c.args.b in
    let m = held b in
    let s = state_view c.args.ahead.on in
    let l = lives_view c.args.after in
    let v = c.in-Loop.body in
    let w = c.in-Loop.step in
    let ys = c.list_row-in-Loop.new.rows in
    let zs = c.list_row-in-Loop-2.new.rows in
    let h = state_view c.head_from-head.result in
    let z = state_view c.end_of.result in
    let p = lives_view c.lives_of.result in
    let q = lives_view c.lives_of-latch.result in
    let d0 : c.deref.result.now ≡ v.items = c.deref.ensures.value ∙ ap (λ (u : Vec CodeNode). u.items) c.in-Loop.body-is in
    let d1 : c.deref-in-Loop.result.now ≡ w.items = c.deref-in-Loop.ensures.value ∙ ap (λ (u : Vec CodeNode). u.items) c.in-Loop.step-is in
    let d2 : c.deref-in-Loop-2.result.now ≡ v.items = c.deref-in-Loop-2.ensures.value ∙ ap (λ (u : Vec CodeNode). u.items) c.in-Loop.body-is in
    let d3 : c.deref-in-Loop-3.result.now ≡ w.items = c.deref-in-Loop-3.ensures.value ∙ ap (λ (u : Vec CodeNode). u.items) c.in-Loop.step-is in
    let d4 : c.deref-in-Loop-4.result.now ≡ w.items = c.deref-in-Loop-4.ensures.value ∙ ap (λ (u : Vec CodeNode). u.items) c.in-Loop.step-is in
    let top : c.head_live-top.result ≡ head_live slot b (nodes_view v.items) (nodes_view w.items) c.args.after.on = c.head_live-top.ensures ∙ (λ i. head_live slot b (nodes_view (d2 i)) (nodes_view (d3 i)) c.args.after.on) in
    let d7 : c.deref_mut-in-Loop.result.now ≡ v.items = c.deref_mut-in-Loop.ensures.value ∙ ap (λ (u : Vec CodeNode). u.items) c.in-Loop.body-is in
    let d8 : c.deref_mut-in-Loop-2.result.now ≡ w.items = c.deref_mut-in-Loop-2.ensures.value ∙ ap (λ (u : Vec CodeNode). u.items) c.in-Loop.step-is in
    (λ i. kind_view c.args.n.now.place (views.Loop (with_items (c.in-Loop.body-is i) ys) (with_items (c.in-Loop.step-is i) zs)))
    ∙ loop_listed slot b c.args.n.now v w (with_items v ys) (with_items w zs) s h z l p q c.head_live-top.result c.live_row-end.result c.in-Loop.is
    (c.head_from-head.ensures ∙ (λ i. head_of (flow m (nodes_view (d0 i))) (flow m (nodes_view (d1 i))) s))
    (c.end_of.ensures ∙ ap end_state (c.in_ok-first-in-Loop.ensures.ways ∙ ap (λ r. flow m (nodes_view r) h) d7))
    top
    (latch_from slot b (nodes_view v.items) (nodes_view w.items) c.args.after.on c.head_live-top.result c.live_row-end.result q top c.lives_of-latch.ensures (c.live_row-end.ensures ∙ ap (λ r. live slot b (nodes_view r) q) d4))
    c.lives_of.ensures c.lives_of-latch.ensures
    (row_within (λ r. listed_one slot b r h p) v c.deref_mut-in-Loop.result.now ys d7 (omega (arith, c.list_row-in-Loop.auto.rows, ap length d7, v.ok.0)) c.in_ok-first-in-Loop.ensures.row)
    (row_within (λ r. listed_one slot b r z q) w c.deref_mut-in-Loop-2.result.now zs d8 (omega (arith, c.list_row-in-Loop-2.auto.rows, ap length d8, w.ok.0)) c.in_ok-second-in-Loop.ensures.row)
