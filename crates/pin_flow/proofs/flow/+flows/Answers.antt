use Rattle.std.proofs.Common.{◌≡◌, true, refl, ap, ◌∙◌, inl, inr}
use Rattle.struct_ir.specs.Views.{node_view, nodes_view}
use Rattle.pin_flow.specs.Marks.{flow}
use Rattle.pin_flow.specs.Views.{mark_view, state_view, ways_view}
use Rattle.pin_flow.specs.inner.Both.{from}
use Rattle.pin_flow.proofs.FlowRows.{row_on, row_over, either_is, is_leaf, leaf_of, leaf_is, plain_of, is_plain, act_behind}
use Rattle.pin_flow.proofs.BothRows.{from_node}
use Rattle.pin_flow.proofs.flow.+flows.Goals as goal

pub ways_of-loop-n-preserved : goal.ways_of-loop-n-preserved
ways_of-loop-n-preserved t c =
    row_on (mark_view c.args.mark) c.args.rows.now c.loop-n.n-index c.n-item.result (ways_view c.loop-n.ahead) (ways_view c.behind-ahead.result) _ _
    c.loop-n-test.true c.n-item.is c.loop-n.invariant refl c.behind-ahead.ensures

pub ways_of-returns : goal.ways_of-returns
ways_of-returns t c = row_over (mark_view c.args.mark) c.args.rows.now c.loop-n.n-index (ways_view c.loop-n.ahead) _ c.loop-n-test.false c.loop-n.invariant

pub behind-returns-in-Set : goal.behind-returns-in-Set
behind-returns-in-Set t c =
    let l : is_plain (node_view c.args.n.now) ≡ true = elim c.in-Set.is [
      | inl (x, y, e) ↦ plain_of c.args.n.now _ e refl
      | inr (inl (x, e)) ↦ plain_of c.args.n.now _ e refl
      | inr (inr (inl (x, e))) ↦ plain_of c.args.n.now _ e refl
      | inr (inr (inr (x, y, e))) ↦ plain_of c.args.n.now _ e refl
    ] in
    act_behind (mark_view c.args.mark) c.args.n.now (ways_view c.args.ahead) (ways_view c.on_to-in-Set.result) (state_view c.state-in-Set.result) l c.state-in-Set.ensures c.on_to-in-Set.ensures

pub behind-returns-in-Safepoint : goal.behind-returns-in-Safepoint
behind-returns-in-Safepoint t c =
    let l : is_plain (node_view c.args.n.now) ≡ true = elim c.in-Safepoint.is [
      | inl (x, e) ↦ plain_of c.args.n.now _ e refl
      | inr (inl (x, e)) ↦ plain_of c.args.n.now _ e refl
      | inr (inr (x, e)) ↦ plain_of c.args.n.now _ e refl
    ] in
    act_behind (mark_view c.args.mark) c.args.n.now (ways_view c.args.ahead) (ways_view c.on_to.result) (state_view c.state.result) l c.state.ensures c.on_to.ensures

pub ways_of_node-returns-in-If : goal.ways_of_node-returns-in-If
ways_of_node-returns-in-If t c =
    either_is (mark_view c.args.mark) c.args.n.now c.in-If.field-0 c.in-If.one c.in-If.other (state_view c.args.before) (ways_view c.ways_of-first.result) (ways_view c.ways_of.result) (ways_view c.both_ways.result) c.in-If.is
    (c.ways_of-first.ensures ∙ ap (λ l. flow (mark_view c.args.mark) (nodes_view l) (state_view c.args.before)) c.deref.ensures.value)
    (c.ways_of.ensures ∙ ap (λ l. flow (mark_view c.args.mark) (nodes_view l) (state_view c.args.before)) c.deref-in-If.ensures.value) c.both_ways.ensures

pub ways_of_node-returns-in-Set : goal.ways_of_node-returns-in-Set
ways_of_node-returns-in-Set t c =
    let l : is_leaf (node_view c.args.n.now) ≡ true = elim c.in-Set.is [
      | inl (x, y, e) ↦ leaf_of c.args.n.now _ e refl
      | inr (inl (x, e)) ↦ leaf_of c.args.n.now _ e refl
      | inr (inr (inl (x, e))) ↦ leaf_of c.args.n.now _ e refl
      | inr (inr (inr (x, y, e))) ↦ leaf_of c.args.n.now _ e refl
    ] in
    leaf_is (mark_view c.args.mark) c.args.n.now (state_view c.args.before) (ways_view c.leaf_at-in-Set.result) l c.leaf_at-in-Set.ensures

pub ways_of_node-returns-in-Safepoint : goal.ways_of_node-returns-in-Safepoint
ways_of_node-returns-in-Safepoint t c =
    let l : is_leaf (node_view c.args.n.now) ≡ true = elim c.in-Safepoint.is [
      | inl (x, e) ↦ leaf_of c.args.n.now _ e refl
      | inr (inl (x, e)) ↦ leaf_of c.args.n.now _ e refl
      | inr (inr (x, e)) ↦ leaf_of c.args.n.now _ e refl
    ] in
    leaf_is (mark_view c.args.mark) c.args.n.now (state_view c.args.before) (ways_view c.leaf_at-in-Safepoint.result) l c.leaf_at-in-Safepoint.ensures

pub ways_of_node-returns-in-Break : goal.ways_of_node-returns-in-Break
ways_of_node-returns-in-Break t c =
    let l : is_leaf (node_view c.args.n.now) ≡ true = elim c.in-Break.is [
      | inl e ↦ leaf_of c.args.n.now _ e refl
      | inr (inl e) ↦ leaf_of c.args.n.now _ e refl
      | inr (inr (x, e)) ↦ leaf_of c.args.n.now _ e refl
    ] in
    leaf_is (mark_view c.args.mark) c.args.n.now (state_view c.args.before) (ways_view c.leaf_at.result) l c.leaf_at.ensures

pub ways_of_node-returns-in-Loop : goal.ways_of_node-returns-in-Loop
ways_of_node-returns-in-Loop t c =
    let m = mark_view c.args.mark in
    let s = state_view c.args.before in
    c.from.ensures ∙ (ap (λ z. from z s) c.both_at.ensures ∙ from_node m (node_view c.args.n.now) s)
