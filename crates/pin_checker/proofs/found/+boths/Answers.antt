use Rattle.std.proofs.Common.{refl, ap, ◌∙◌, inl, inr}
use Rattle.struct_ir.specs.Views.{node_view, nodes_view}
use Rattle.pin_flow.specs.Marks.{AllPaths, good, bad}
use Rattle.pin_checker.specs.inner.SearchViews.{search_view}
use Rattle.pin_checker.specs.inner.Found.{both_of, found_in, from, found_view, both_view}
use Rattle.pin_checker.proofs.FoundRows.{idle_search, from_node, followed, row_on, row_over, row_start, branches_found, rounds_found, leaf_of}
use Rattle.pin_checker.proofs.found.+boths.Goals as goal

pub both_in-loop-n-init : goal.both_in-loop-n-init
both_in-loop-n-init t c =
    let s = search_view c.args.search in
    let rows = nodes_view c.args.rows.now in
    record {
      good = ap (λ a. followed s a rows) c.nothing.ensures ∙ row_start s rows good;
      bad = ap (λ a. followed s a rows) c.nothing-2.ensures ∙ row_start s rows bad;
    }

pub both_in-loop-n-preserved : goal.both_in-loop-n-preserved
both_in-loop-n-preserved t c =
    let s = search_view c.args.search in
    let x = c.n-item.result in
    let g = found_view c.loop-n.both.good in
    let b = found_view c.loop-n.both.bad in
    let next = λ (t : AllPaths). ap (λ z. from z t) c.both_at-next.ensures ∙ from_node s (idle_search c.args.search) (node_view x) t in
    record {
      good = row_on s c.args.rows.now c.loop-n.n-index x g (found_view c.behind.result) _ (found_view c.from.result) c.loop-n-test.true c.n-item.is c.loop-n.invariant.good (c.from.ensures ∙ next g.ways.on) c.behind.ensures;
      bad = row_on s c.args.rows.now c.loop-n.n-index x b (found_view c.behind-in-loop-n.result) _ (found_view c.from-in-loop-n.result) c.loop-n-test.true c.n-item.is c.loop-n.invariant.bad (c.from-in-loop-n.ensures ∙ next b.ways.on) c.behind-in-loop-n.ensures;
    }

pub both_in-returns : goal.both_in-returns
both_in-returns t c =
    let s = search_view c.args.search in
    let g = row_over s c.args.rows.now c.loop-n.n-index (found_view c.loop-n.both.good) _ c.loop-n-test.false c.loop-n.invariant.good in
    let b = row_over s c.args.rows.now c.loop-n.n-index (found_view c.loop-n.both.bad) _ c.loop-n-test.false c.loop-n.invariant.bad in
    λ i. record { good = g i; bad = b i }

pub both_at-returns-in-If : goal.both_at-returns-in-If
both_at-returns-in-If t c =
    let s = search_view c.args.search in
    branches_found s c.args.n.now c.in-If.field-0 c.in-If.one c.in-If.other (both_view c.both_in-first.result) (both_view c.both_in-second.result) _ c.in-If.is
    (c.both_in-first.ensures ∙ ap (λ l. both_of (found_in s (nodes_view l))) c.deref.ensures.value)
    (c.both_in-second.ensures ∙ ap (λ l. both_of (found_in s (nodes_view l))) c.deref-in-If.ensures.value) c.one_of.ensures c.one_of-in-If.ensures

pub both_at-returns-in-Loop : goal.both_at-returns-in-Loop
both_at-returns-in-Loop t c =
    let s = search_view c.args.search in
    rounds_found s (idle_search c.args.search) c.args.n.now c.in-Loop.body c.in-Loop.step (both_view c.both_in-first-in-Loop.result) (both_view c.both_in-second-in-Loop.result) _ c.in-Loop.is
    (c.both_in-first-in-Loop.ensures ∙ ap (λ l. both_of (found_in s (nodes_view l))) c.deref-in-Loop.ensures.value)
    (c.both_in-second-in-Loop.ensures ∙ ap (λ l. both_of (found_in s (nodes_view l))) c.deref-in-Loop-2.ensures.value) c.looped.ensures c.looped-in-Loop.ensures

pub both_at-returns-in-Set : goal.both_at-returns-in-Set
both_at-returns-in-Set t c = c.alone-in-Set.ensures (elim c.in-Set.is [
  | inl (x, y, e) ↦ leaf_of c.args.n.now _ e refl
  | inr (inl (x, e)) ↦ leaf_of c.args.n.now _ e refl
  | inr (inr (inl (x, e))) ↦ leaf_of c.args.n.now _ e refl
  | inr (inr (inr (x, y, e))) ↦ leaf_of c.args.n.now _ e refl
])

pub both_at-returns-in-Safepoint : goal.both_at-returns-in-Safepoint
both_at-returns-in-Safepoint t c = c.alone-in-Safepoint.ensures (elim c.in-Safepoint.is [
  | inl (x, e) ↦ leaf_of c.args.n.now _ e refl
  | inr (inl (x, e)) ↦ leaf_of c.args.n.now _ e refl
  | inr (inr (x, e)) ↦ leaf_of c.args.n.now _ e refl
])

pub both_at-returns-in-Break : goal.both_at-returns-in-Break
both_at-returns-in-Break t c = c.alone.ensures (elim c.in-Break.is [
  | inl e ↦ leaf_of c.args.n.now _ e refl
  | inr (inl e) ↦ leaf_of c.args.n.now _ e refl
  | inr (inr (x, e)) ↦ leaf_of c.args.n.now _ e refl
])
