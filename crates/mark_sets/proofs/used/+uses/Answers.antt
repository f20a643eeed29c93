use Rattle.std.proofs.Common.{◌≡◌, true, inl, inr, sym, ap, [], ◌∷◌, ◌∙◌, append-nil, arith, refl, rules}
use Rattle.std.proofs.lemmas.Result.{IfOk-weaker}
use Rattle.struct_ir.specs.Views.{kind_view, node_view, nodes_view}
use Rattle.std.specs.Prelude.{◌||◌, ◌&&◌, not}
use Rattle.pin_flow.specs.Live.{uses, live, live_node, head_live}
use Rattle.pin_flow.specs.Views.{act_is, looks_slot}
use Rattle.pin_flow.proofs.FlowRows.{is_plain, plain_of}
use Rattle.mark_sets.specs.Words.{has}
use Rattle.mark_sets.specs.Homes.{Tells, lives_in}
use Rattle.mark_sets.proofs.Backwards.{step_back, size_back, if_size, loop_size}
use Rattle.mark_sets.proofs.LiveRows.{live_start, live_more, live_if, live_head, live_act_at}
use Rattle.mark_sets.proofs.HomeSlots.{has_nothing}
use Rattle.mark_sets.proofs.LiveRows.{head_by}
use Rattle.mark_sets.proofs.used.+uses.Goals as goal

pub used_row-row-init : goal.used_row-row-init
used_row-row-init t c = ([], sym (append-nil c.args.rows.now), λ b i e. live_start i b (lives_in c.args.on.items c.args.out.now c.args.end.now i))

pub used_row-used_node-requires : goal.used_row-used_node-requires
used_row-used_node-requires t c =
    let h = size_back c.args.rows.now c.row.left.now c.row.invariant.0 c.n-item.result c.in-len1-up.len_at_least c.n-item.is c.row.invariant.1 in
    (omega (arith, h), tt)

pub used_row-row-preserved : goal.used_row-row-preserved
used_row-row-preserved t c = (
  c.n-item.result ∷ c.row.invariant.0,
  step_back c.args.rows.now c.row.left.now c.row.invariant.0 c.n-item.result c.in-len1-up.len_at_least c.n-item.is c.row.invariant.1,
  λ b i e. live_more i b c.n-item.result c.row.invariant.0 (lives_in c.args.on.items c.args.out.now c.args.end.now i) (has c.row.set.items i) (has c.in_ok-set.set.items i) (lives_in c.row.set.items c.args.out.now c.args.end.now i)
      (c.row.invariant.2 b i e) refl (c.in_ok-set.ensures b i e),
)

pub head_used-returns : goal.head_used-returns
head_used-returns t c =
    let bs = c.args.homes.now.bases.items in
    let body = nodes_view c.args.body.now in
    let step = nodes_view c.args.step.now in
    let on = c.args.on.now in
    let latch = c.in_ok-latch.latch.items in
    let start = c.in_ok-start.start.items in
    let again : start ≡ latch = search rules in
    IfOk-weaker c.used_row-2.result
    (λ s. Tells bs s.items (λ i b. live i b body (lives_in start on c.deref-3.result.now i)))
    (λ s. Tells bs s.items (λ i b. head_live i b body step (has on i)))
    (λ s f b i e. head_by i b body step (has on i) (has s.items i) (has latch i) (has start i) (has c.deref-3.result.now i) (has c.new.result.items i) (has c.deref.result.now i)
    (ap (λ l. has l i) c.new.ensures.items ∙ has_nothing i) (ap (λ l. has l i) (c.deref.ensures.value ∙ c.new-none.ensures.items) ∙ has_nothing i)
    (c.in_ok-latch.ensures b i e) (ap (λ l. has l i) again) (ap (λ l. has l i) c.deref-3.ensures.value) (f b i e)) c.used_row-2.ensures

pub used_node-used_row-requires : goal.used_node-used_row-requires
used_node-used_row-requires t c =
    let e = if_size c.args.n.now c.in-If.field-0 c.in-If.one c.in-If.other c.in-If.is in
    rw c.deref-in-If.ensures.value (omega (arith, e), tt)

pub used_node-used_row-requires-in-If : goal.used_node-used_row-requires-in-If
used_node-used_row-requires-in-If t c =
    let e = if_size c.args.n.now c.in-If.field-0 c.in-If.one c.in-If.other c.in-If.is in
    rw c.deref-in-If-2.ensures.value (omega (arith, e), tt)

pub used_node-head_used-requires : goal.used_node-head_used-requires
used_node-head_used-requires t c =
    let e = loop_size c.args.n.now c.in-Loop.body c.in-Loop.step c.in-Loop.is in
    rw (c.deref-in-Loop.ensures.value, c.deref-in-Loop-2.ensures.value) (omega (arith, e), tt)

pub used_node-returns-in_ok-second-in-If : goal.used_node-returns-in_ok-second-in-If
used_node-returns-in_ok-second-in-If t c =
    let again : c.in_ok-start-in-If.start.items ≡ c.args.on.items = search rules in
    λ b i e.
    live_if i b c.args.n.now c.in-If.field-0 c.in-If.one c.in-If.other (lives_in c.args.on.items c.args.out.now c.args.end.now i) (has c.in_ok-first-in-If.first.items i) (has c.in_ok-second-in-If.second.items i) (has c.united.result.items i)
    c.in-If.is
    (c.in_ok-first-in-If.ensures b i e ∙ (λ j. live i b (nodes_view (c.deref-in-If.ensures.value j)) (lives_in (again j) c.args.out.now c.args.end.now i)))
    (c.in_ok-second-in-If.ensures b i e ∙ ap (λ l. live i b (nodes_view l) (lives_in c.args.on.items c.args.out.now c.args.end.now i)) c.deref-in-If-2.ensures.value) (c.united.ensures i)

pub used_node-returns-in-Loop : goal.used_node-returns-in-Loop
used_node-returns-in-Loop t c =
    let bs = c.args.homes.now.bases.items in
    let d1 = c.deref-in-Loop.ensures.value in
    let d2 = c.deref-in-Loop-2.ensures.value in
    let d3 = c.deref-in-Loop-3.ensures.value in
    IfOk-weaker c.head_used.result
    (λ s. Tells bs s.items (λ i b. head_live i b (nodes_view c.deref-in-Loop.result.now) (nodes_view c.deref-in-Loop-2.result.now) (has c.deref-in-Loop-3.result.now i)))
    (λ s. Tells bs s.items (λ i b. live_node i b (node_view c.args.n.now) (lives_in c.args.on.items c.args.out.now c.args.end.now i)))
    (λ s f b i e. live_head i b c.args.n.now c.in-Loop.body c.in-Loop.step (lives_in c.args.on.items c.args.out.now c.args.end.now i) (has s.items i) c.in-Loop.is
    (f b i e ∙ (λ j. head_live i b (nodes_view (d1 j)) (nodes_view (d2 j)) (has (d3 j) i)))) c.head_used.ensures

pub used_node-returns-in_ok-to_vec-in-Break : goal.used_node-returns-in_ok-to_vec-in-Break
unfolding live
used_node-returns-in_ok-to_vec-in-Break t c =
    let same : c.in_ok-to_vec-in-Break.field-0.items ≡ c.args.out.now = search rules in
    λ b i e. ap (λ l. has l i) same ∙ ap (λ k. live_node i b (kind_view c.args.n.now.place k) (lives_in c.args.on.items c.args.out.now c.args.end.now i)) (sym c.in-Break.is)

pub used_node-returns-in_ok-to_vec-in-Next : goal.used_node-returns-in_ok-to_vec-in-Next
unfolding live
used_node-returns-in_ok-to_vec-in-Next t c =
    let same : c.in_ok-to_vec-in-Next.field-0.items ≡ c.args.end.now = search rules in
    λ b i e. ap (λ l. has l i) same ∙ ap (λ k. live_node i b (kind_view c.args.n.now.place k) (lives_in c.args.on.items c.args.out.now c.args.end.now i)) (sym c.in-Next.is)

pub used_node-returns-in-Ret : goal.used_node-returns-in-Ret
unfolding live
used_node-returns-in-Ret t c = λ b i e.
    ap (λ l. has l i) c.new.ensures.items ∙ (has_nothing i ∙ ap (λ k. live_node i b (kind_view c.args.n.now.place k) (lives_in c.args.on.items c.args.out.now c.args.end.now i)) (sym c.in-Ret.is))

pub used_node-returns-in-Set : goal.used_node-returns-in-Set
used_node-returns-in-Set t c =
    let l : is_plain (node_view c.args.n.now) ≡ true = elim c.in-Set.is [
      | inl (x, y, e) ↦ plain_of c.args.n.now _ e refl
      | inr (inl (x, e)) ↦ plain_of c.args.n.now _ e refl
      | inr (inr (inl (x, e))) ↦ plain_of c.args.n.now _ e refl
      | inr (inr (inr (x, y, e))) ↦ plain_of c.args.n.now _ e refl
    ] in
    let bs = c.args.homes.now.bases.items in
    IfOk-weaker c.used_act-in-Set.result
    (λ s. Tells bs s.items (λ i b. act_is (uses i b) (node_view c.args.n.now) || (not (looks_slot i (node_view c.args.n.now)) && has c.args.on.items i)))
    (λ s. Tells bs s.items (λ i b. live_node i b (node_view c.args.n.now) (lives_in c.args.on.items c.args.out.now c.args.end.now i)))
    (λ s f b i e. f b i e ∙ live_act_at i b (node_view c.args.n.now) (lives_in c.args.on.items c.args.out.now c.args.end.now i) l) c.used_act-in-Set.ensures

pub used_node-returns-in-Safepoint : goal.used_node-returns-in-Safepoint
used_node-returns-in-Safepoint t c =
    let l : is_plain (node_view c.args.n.now) ≡ true = elim c.in-Safepoint.is [
      | inl (x, e) ↦ plain_of c.args.n.now _ e refl
      | inr (inl (x, e)) ↦ plain_of c.args.n.now _ e refl
      | inr (inr (x, e)) ↦ plain_of c.args.n.now _ e refl
    ] in
    let bs = c.args.homes.now.bases.items in
    IfOk-weaker c.used_act.result
    (λ s. Tells bs s.items (λ i b. act_is (uses i b) (node_view c.args.n.now) || (not (looks_slot i (node_view c.args.n.now)) && has c.args.on.items i)))
    (λ s. Tells bs s.items (λ i b. live_node i b (node_view c.args.n.now) (lives_in c.args.on.items c.args.out.now c.args.end.now i)))
    (λ s f b i e. f b i e ∙ live_act_at i b (node_view c.args.n.now) (lives_in c.args.on.items c.args.out.now c.args.end.now i) l) c.used_act.ensures
