use Rattle.std.proofs.Common.{ap, ◌∙◌, refl, inl, inr}
use Rattle.struct_ir.specs.Views.{node_view, nodes_view}
use Rattle.pin_flow.specs.Views.{state_view}
use Rattle.pin_checker.specs.inner.SearchViews.{search_view}
use Rattle.pin_checker.specs.inner.Found.{found_in, from, found_view}
use Rattle.pin_checker.proofs.FoundRows.{idle_search, followed, row_on, row_over, row_start, branch_found, from_node, leaf_of}
use Rattle.pin_checker.proofs.found.+founds.Goals as goal

pub found_in-loop-n-init : goal.found_in-loop-n-init
found_in-loop-n-init t c =
    let s = search_view c.args.search in
    let rows = nodes_view c.args.rows.now in
    ap (λ a. followed s a rows) c.nothing-all.ensures ∙ row_start s rows (state_view c.args.before)

pub found_in-loop-n-preserved : goal.found_in-loop-n-preserved
found_in-loop-n-preserved t c =
    row_on (search_view c.args.search) c.args.rows.now c.loop-n.n-index c.n-item.result (found_view c.loop-n.all) (found_view c.behind-all.result) _ (found_view c.found_at-next.result) c.loop-n-test.true c.n-item.is c.loop-n.invariant
    c.found_at-next.ensures c.behind-all.ensures

pub found_in-returns : goal.found_in-returns
found_in-returns t c = row_over (search_view c.args.search) c.args.rows.now c.loop-n.n-index (found_view c.loop-n.all) _ c.loop-n-test.false c.loop-n.invariant

pub found_at-returns-in-If : goal.found_at-returns-in-If
found_at-returns-in-If t c =
    let s = search_view c.args.search in
    let t = state_view c.args.before in
    branch_found s c.args.n.now c.in-If.field-0 c.in-If.one c.in-If.other t (found_view c.found_in-first.result) (found_view c.found_in-second.result) (found_view c.one_of.result) c.in-If.is
    (c.found_in-first.ensures ∙ ap (λ l. found_in s (nodes_view l) t) c.deref.ensures.value) (c.found_in-second.ensures ∙ ap (λ l. found_in s (nodes_view l) t) c.deref-in-If.ensures.value) c.one_of.ensures

pub found_at-returns-in-Loop : goal.found_at-returns-in-Loop
found_at-returns-in-Loop t c =
    let t = state_view c.args.before in
    c.from.ensures ∙ (ap (λ z. from z t) c.both_at.ensures ∙ from_node (search_view c.args.search) (idle_search c.args.search) (node_view c.args.n.now) t)

pub found_at-returns-in-Set : goal.found_at-returns-in-Set
found_at-returns-in-Set t c = c.itself-in-Set.ensures (elim c.in-Set.is [
  | inl (x, y, e) ↦ leaf_of c.args.n.now _ e refl
  | inr (inl (x, e)) ↦ leaf_of c.args.n.now _ e refl
  | inr (inr (inl (x, e))) ↦ leaf_of c.args.n.now _ e refl
  | inr (inr (inr (x, y, e))) ↦ leaf_of c.args.n.now _ e refl
])

pub found_at-returns-in-Safepoint : goal.found_at-returns-in-Safepoint
found_at-returns-in-Safepoint t c = c.itself-in-Safepoint.ensures (elim c.in-Safepoint.is [
  | inl (x, e) ↦ leaf_of c.args.n.now _ e refl
  | inr (inl (x, e)) ↦ leaf_of c.args.n.now _ e refl
  | inr (inr (x, e)) ↦ leaf_of c.args.n.now _ e refl
])

pub found_at-returns-in-Break : goal.found_at-returns-in-Break
found_at-returns-in-Break t c = c.itself.ensures (elim c.in-Break.is [
  | inl e ↦ leaf_of c.args.n.now _ e refl
  | inr (inl e) ↦ leaf_of c.args.n.now _ e refl
  | inr (inr (x, e)) ↦ leaf_of c.args.n.now _ e refl
])
