use Rattle.std.proofs.Common.{◌≡◌, true, refl, ap, ◌∙◌, inl, inr}
use Rattle.struct_ir.specs.Views.{node_view, nodes_view}
use Rattle.pin_flow.specs.Marks.{AllPaths, good, bad, flow}
use Rattle.pin_flow.specs.Views.{mark_view, ways_view}
use Rattle.pin_flow.specs.inner.Both.{both_of, from, both_view}
use Rattle.pin_flow.proofs.FlowRows.{row_on, row_over, is_leaf, leaf_of}
use Rattle.pin_flow.proofs.BothRows.{from_node, row_start, branches_are, loops_are, leaves_are}
use Rattle.pin_flow.proofs.flow.+boths.Goals as goal

pub both_in-loop-n-init : goal.both_in-loop-n-init
both_in-loop-n-init t c =
    let m = mark_view c.args.mark in
    let rows = nodes_view c.args.rows.now in
    record {
      good = row_start m rows good (ways_view c.all_on.result) c.all_on.ensures;
      bad = row_start m rows bad (ways_view c.all_on-2.result) c.all_on-2.ensures;
    }

pub both_in-loop-n-preserved : goal.both_in-loop-n-preserved
both_in-loop-n-preserved t c =
    let m = mark_view c.args.mark in
    let x = c.n-item.result in
    let g = ways_view c.loop-n.both.good in
    let b = ways_view c.loop-n.both.bad in
    let next = λ (t : AllPaths). ap (λ z. from z t) c.both_at-next.ensures ∙ from_node m (node_view x) t in
    record {
      good = row_on m c.args.rows.now c.loop-n.n-index x g (ways_view c.one_behind.result) (ways_view c.from.result) _ c.loop-n-test.true c.n-item.is c.loop-n.invariant.good (c.from.ensures ∙ next g.on) c.one_behind.ensures;
      bad = row_on m c.args.rows.now c.loop-n.n-index x b (ways_view c.one_behind-in-loop-n.result) (ways_view c.from-in-loop-n.result) _ c.loop-n-test.true c.n-item.is c.loop-n.invariant.bad (c.from-in-loop-n.ensures ∙ next b.on) c.one_behind-in-loop-n.ensures;
    }

pub both_in-returns : goal.both_in-returns
both_in-returns t c =
    let m = mark_view c.args.mark in
    let g = row_over m c.args.rows.now c.loop-n.n-index (ways_view c.loop-n.both.good) _ c.loop-n-test.false c.loop-n.invariant.good in
    let b = row_over m c.args.rows.now c.loop-n.n-index (ways_view c.loop-n.both.bad) _ c.loop-n-test.false c.loop-n.invariant.bad in
    λ i. record { good = g i; bad = b i }

pub both_at-returns-in-If : goal.both_at-returns-in-If
both_at-returns-in-If t c =
    let m = mark_view c.args.mark in
    branches_are m c.args.n.now c.in-If.field-0 c.in-If.one c.in-If.other (both_view c.both_in-first.result) (both_view c.both_in-second.result) _ c.in-If.is
    (c.both_in-first.ensures ∙ ap (λ l. both_of (flow m (nodes_view l))) c.deref.ensures.value)
    (c.both_in-second.ensures ∙ ap (λ l. both_of (flow m (nodes_view l))) c.deref-in-If.ensures.value) c.both_ways.ensures c.both_ways-in-If.ensures

pub both_at-returns-in-Loop : goal.both_at-returns-in-Loop
both_at-returns-in-Loop t c =
    let m = mark_view c.args.mark in
    loops_are m c.args.n.now c.in-Loop.body c.in-Loop.step (both_view c.both_in-first-in-Loop.result) (both_view c.both_in-second-in-Loop.result) _ c.in-Loop.is
    (c.both_in-first-in-Loop.ensures ∙ ap (λ l. both_of (flow m (nodes_view l))) c.deref-in-Loop.ensures.value)
    (c.both_in-second-in-Loop.ensures ∙ ap (λ l. both_of (flow m (nodes_view l))) c.deref-in-Loop-2.ensures.value) c.looped.ensures c.looped-in-Loop.ensures

pub both_at-returns-in-Set : goal.both_at-returns-in-Set
both_at-returns-in-Set t c =
    let l : is_leaf (node_view c.args.n.now) ≡ true = elim c.in-Set.is [
      | inl (x, y, e) ↦ leaf_of c.args.n.now _ e refl
      | inr (inl (x, e)) ↦ leaf_of c.args.n.now _ e refl
      | inr (inr (inl (x, e))) ↦ leaf_of c.args.n.now _ e refl
      | inr (inr (inr (x, y, e))) ↦ leaf_of c.args.n.now _ e refl
    ] in
    leaves_are (mark_view c.args.mark) c.args.n.now (both_view c.alone-in-Set.result) l c.alone-in-Set.ensures

pub both_at-returns-in-Safepoint : goal.both_at-returns-in-Safepoint
both_at-returns-in-Safepoint t c =
    let l : is_leaf (node_view c.args.n.now) ≡ true = elim c.in-Safepoint.is [
      | inl (x, e) ↦ leaf_of c.args.n.now _ e refl
      | inr (inl (x, e)) ↦ leaf_of c.args.n.now _ e refl
      | inr (inr (x, e)) ↦ leaf_of c.args.n.now _ e refl
    ] in
    leaves_are (mark_view c.args.mark) c.args.n.now (both_view c.alone-in-Safepoint.result) l c.alone-in-Safepoint.ensures

pub both_at-returns-in-Break : goal.both_at-returns-in-Break
both_at-returns-in-Break t c =
    let l : is_leaf (node_view c.args.n.now) ≡ true = elim c.in-Break.is [
      | inl e ↦ leaf_of c.args.n.now _ e refl
      | inr (inl e) ↦ leaf_of c.args.n.now _ e refl
      | inr (inr (x, e)) ↦ leaf_of c.args.n.now _ e refl
    ] in
    leaves_are (mark_view c.args.mark) c.args.n.now (both_view c.alone.result) l c.alone.ensures
