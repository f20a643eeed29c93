use Rattle.std.proofs.Common.{◌≡◌, true, inl, inr, sym, ap, [], ◌∷◌, ◌∙◌, append-nil, arith, refl}
use Rattle.struct_ir.specs.Views.{kind_view, node_view, nodes_view}
use Rattle.pin_flow.specs.Live.{live, live_node}
use Rattle.pin_frames.specs.Views.{lives_view}
use Rattle.mark_sets.proofs.Backwards.{step_back, size_back, if_size, loop_size}
use Rattle.pin_flow.proofs.FlowRows.{is_plain, plain_of}
use Rattle.mark_sets.proofs.LiveRows.{live_start, live_more, live_if, live_loop, live_act_at}
use Rattle.pin_frames.proofs.lives.+lives.Goals as goal

pub live_row-row-init : goal.live_row-row-init
live_row-row-init t c = ([], sym (append-nil c.args.rows.now), live_start c.args.slot c.args.b (lives_view c.args.after))

pub live_row-live_node-on-requires : goal.live_row-live_node-on-requires
live_row-live_node-on-requires t c =
    let h = size_back c.args.rows.now c.row.left.now c.row.invariant.0 c.n-item.result c.in-len1-up.len_at_least c.n-item.is c.row.invariant.1 in
    (omega (arith, h), tt)

pub live_row-row-preserved : goal.live_row-row-preserved
live_row-row-preserved t c = (
  c.n-item.result ∷ c.row.invariant.0,
  step_back c.args.rows.now c.row.left.now c.row.invariant.0 c.n-item.result c.in-len1-up.len_at_least c.n-item.is c.row.invariant.1,
  live_more c.args.slot c.args.b c.n-item.result c.row.invariant.0 (lives_view c.args.after) c.row.on c.live_node-on.result (lives_view c.lives_of.result) c.row.invariant.2 c.lives_of.ensures c.live_node-on.ensures,
)

pub live_node-live_row-first-requires : goal.live_node-live_row-first-requires
live_node-live_row-first-requires t c =
    let e = if_size c.args.n.now c.in-If.field-0 c.in-If.one c.in-If.other c.in-If.is in
    rw c.deref.ensures.value (omega (arith, e), tt)

pub live_node-live_row-requires : goal.live_node-live_row-requires
live_node-live_row-requires t c =
    let e = if_size c.args.n.now c.in-If.field-0 c.in-If.one c.in-If.other c.in-If.is in
    rw c.deref-in-If.ensures.value (omega (arith, e), tt)

pub live_node-live_row-end-requires : goal.live_node-live_row-end-requires
live_node-live_row-end-requires t c =
    let e = loop_size c.args.n.now c.in-Loop.body c.in-Loop.step c.in-Loop.is in
    rw c.deref-in-Loop.ensures.value (omega (arith, e), tt)

pub live_node-live_row-requires-in-Loop : goal.live_node-live_row-requires-in-Loop
live_node-live_row-requires-in-Loop t c =
    let e = loop_size c.args.n.now c.in-Loop.body c.in-Loop.step c.in-Loop.is in
    rw c.deref-in-Loop-2.ensures.value (omega (arith, e), tt)

pub live_node-returns-in-If : goal.live_node-returns-in-If
live_node-returns-in-If t c =
    live_if c.args.slot c.args.b c.args.n.now c.in-If.field-0 c.in-If.one c.in-If.other (lives_view c.args.after) c.live_row-first.result c.live_row.result c.either.result c.in-If.is
    (c.live_row-first.ensures ∙ ap (λ l. live c.args.slot c.args.b (nodes_view l) (lives_view c.args.after)) c.deref.ensures.value)
    (c.live_row.ensures ∙ ap (λ l. live c.args.slot c.args.b (nodes_view l) (lives_view c.args.after)) c.deref-in-If.ensures.value) c.either.ensures

pub live_node-returns-in-Loop : goal.live_node-returns-in-Loop
live_node-returns-in-Loop t c =
    live_loop c.args.slot c.args.b c.args.n.now c.in-Loop.body c.in-Loop.step (lives_view c.args.after) (lives_view c.lives_of.result) (lives_view c.lives_of-in-Loop.result) c.live_row-end.result c.live_row-in-Loop.result c.in-Loop.is
    c.lives_of.ensures (c.live_row-end.ensures ∙ ap (λ l. live c.args.slot c.args.b (nodes_view l) (lives_view c.lives_of.result)) c.deref-in-Loop.ensures.value)
    c.lives_of-in-Loop.ensures (c.live_row-in-Loop.ensures ∙ ap (λ l. live c.args.slot c.args.b (nodes_view l) (lives_view c.lives_of-in-Loop.result)) c.deref-in-Loop-2.ensures.value)

pub live_node-returns-in-Break : goal.live_node-returns-in-Break
unfolding live
live_node-returns-in-Break t c = ap (λ k. live_node c.args.slot c.args.b (kind_view c.args.n.now.place k) (lives_view c.args.after)) (sym c.in-Break.is)

pub live_node-returns-in-Next : goal.live_node-returns-in-Next
unfolding live
live_node-returns-in-Next t c = ap (λ k. live_node c.args.slot c.args.b (kind_view c.args.n.now.place k) (lives_view c.args.after)) (sym c.in-Next.is)

pub live_node-returns-in-Ret : goal.live_node-returns-in-Ret
unfolding live
live_node-returns-in-Ret t c = ap (λ k. live_node c.args.slot c.args.b (kind_view c.args.n.now.place k) (lives_view c.args.after)) (sym c.in-Ret.is)

pub live_node-returns-in-Set : goal.live_node-returns-in-Set
live_node-returns-in-Set t c =
    let l : is_plain (node_view c.args.n.now) ≡ true = elim c.in-Set.is [
      | inl (x, y, e) ↦ plain_of c.args.n.now _ e refl
      | inr (inl (x, e)) ↦ plain_of c.args.n.now _ e refl
      | inr (inr (inl (x, e))) ↦ plain_of c.args.n.now _ e refl
      | inr (inr (inr (x, y, e))) ↦ plain_of c.args.n.now _ e refl
    ] in
    c.act_live-in-Set.ensures ∙ live_act_at c.args.slot c.args.b (node_view c.args.n.now) (lives_view c.args.after) l

pub live_node-returns-in-Safepoint : goal.live_node-returns-in-Safepoint
live_node-returns-in-Safepoint t c =
    let l : is_plain (node_view c.args.n.now) ≡ true = elim c.in-Safepoint.is [
      | inl (x, e) ↦ plain_of c.args.n.now _ e refl
      | inr (inl (x, e)) ↦ plain_of c.args.n.now _ e refl
      | inr (inr (x, e)) ↦ plain_of c.args.n.now _ e refl
    ] in
    c.act_live.ensures ∙ live_act_at c.args.slot c.args.b (node_view c.args.n.now) (lives_view c.args.after) l
