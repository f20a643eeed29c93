use Rattle.std.proofs.Common.{◌≡◌, true, inl, inr, sym, subst, ap, [], ◌∷◌, ◌∙◌, append-nil, arith, refl}
use Rattle.std.proofs.lemmas.Option.{IfSome_then}
use Rattle.struct_ir.specs.Views.{kind_view, node_view, nodes_view}
use Rattle.pin_flow.specs.Live.{live, live_node, head_live}
use Rattle.pin_frames.specs.Views.{lives_view}
use Rattle.mark_sets.proofs.Backwards.{step_back, size_back, if_size, loop_size}
use Rattle.pin_flow.proofs.FlowRows.{is_plain, plain_of}
use Rattle.mark_sets.proofs.LiveRows.{live_start, live_more, live_if, live_head, latch_from, live_act_at}
use Rattle.pin_frames.proofs.FreeRows.{IsFree, free_more, if_free, loop_free}
use Rattle.pin_frames.proofs.unlisted.+frees.Goals as goal

pub free_row-row-init : goal.free_row-row-init
free_row-row-init t c = ([], sym (append-nil c.args.rows.now), live_start c.args.slot c.args.b (lives_view c.args.after), λ s. refl)

pub free_row-free_node-requires : goal.free_row-free_node-requires
free_row-free_node-requires t c =
    let h = size_back c.args.rows.now c.row.left.now c.row.invariant.0 c.n-item.result c.in-len1-up.len_at_least c.n-item.is c.row.invariant.1 in
    (omega (arith, h), tt)

pub free_row-row-preserved : goal.free_row-row-preserved
free_row-row-preserved t c = (
  c.n-item.result ∷ c.row.invariant.0,
  step_back c.args.rows.now c.row.left.now c.row.invariant.0 c.n-item.result c.in-len1-up.len_at_least c.n-item.is c.row.invariant.1,
  live_more c.args.slot c.args.b c.n-item.result c.row.invariant.0 (lives_view c.args.after) c.row.on c.in_ok-on.on (lives_view c.lives_of.result) c.row.invariant.2 c.lives_of.ensures c.in_ok-on.ensures.live,
  free_more c.args.slot c.args.b c.n-item.result c.row.invariant.0 (lives_view c.args.after) (lives_view c.lives_of.result) c.row.on c.row.invariant.2 c.lives_of.ensures c.in_ok-on.ensures.free c.row.invariant.3,
)

pub free_node-free_row-requires : goal.free_node-free_row-requires
free_node-free_row-requires t c =
    let e = if_size c.args.n.now c.in-If.field-0 c.in-If.one c.in-If.other c.in-If.is in
    rw c.deref.ensures.value (omega (arith, e), tt)

pub free_node-free_row-requires-in-If : goal.free_node-free_row-requires-in-If
free_node-free_row-requires-in-If t c =
    let e = if_size c.args.n.now c.in-If.field-0 c.in-If.one c.in-If.other c.in-If.is in
    rw c.deref-in-If.ensures.value (omega (arith, e), tt)

pub free_node-free_row-requires-in-Loop : goal.free_node-free_row-requires-in-Loop
free_node-free_row-requires-in-Loop t c =
    let e = loop_size c.args.n.now c.in-Loop.body c.in-Loop.step c.in-Loop.is in
    rw c.deref-in-Loop-3.ensures.value (omega (arith, e), tt)

pub free_node-free_row-requires-in-Loop-2 : goal.free_node-free_row-requires-in-Loop-2
free_node-free_row-requires-in-Loop-2 t c =
    let e = loop_size c.args.n.now c.in-Loop.body c.in-Loop.step c.in-Loop.is in
    rw c.deref-in-Loop-4.ensures.value (omega (arith, e), tt)

pub free_node-returns-in_ok-second-in-If-clause-live : goal.free_node-returns-in_ok-second-in-If-clause-live
free_node-returns-in_ok-second-in-If-clause-live t c =
    let after = lives_view c.args.after in
    live_if c.args.slot c.args.b c.args.n.now c.in-If.field-0 c.in-If.one c.in-If.other after c.in_ok-first-in-If.first c.in_ok-second-in-If.second c.either.result c.in-If.is
    (c.in_ok-first-in-If.ensures.live ∙ ap (λ l. live c.args.slot c.args.b (nodes_view l) after) c.deref.ensures.value)
    (c.in_ok-second-in-If.ensures.live ∙ ap (λ l. live c.args.slot c.args.b (nodes_view l) after) c.deref-in-If.ensures.value) c.either.ensures

pub free_node-returns-in_ok-second-in-If-clause-free : goal.free_node-returns-in_ok-second-in-If-clause-free
free_node-returns-in_ok-second-in-If-clause-free t c =
    let after = lives_view c.args.after in
    if_free c.args.slot c.args.b c.args.n.now c.in-If.field-0 c.in-If.one c.in-If.other after c.in-If.is
    (subst (λ l. IsFree c.args.slot c.args.b (nodes_view l) after) c.deref.ensures.value c.in_ok-first-in-If.ensures.free)
    (subst (λ l. IsFree c.args.slot c.args.b (nodes_view l) after) c.deref-in-If.ensures.value c.in_ok-second-in-If.ensures.free)

pub free_node-returns-in_ok-free_row-in-Loop-clause-live : goal.free_node-returns-in_ok-free_row-in-Loop-clause-live
free_node-returns-in_ok-free_row-in-Loop-clause-live t c =
    live_head c.args.slot c.args.b c.args.n.now c.in-Loop.body c.in-Loop.step (lives_view c.args.after) c.head_live-top.result c.in-Loop.is
    (c.head_live-top.ensures ∙ (λ i. head_live c.args.slot c.args.b (nodes_view (c.deref-in-Loop.ensures.value i)) (nodes_view (c.deref-in-Loop-2.ensures.value i)) c.args.after.on))

pub free_node-returns-in_ok-free_row-in-Loop-clause-free : goal.free_node-returns-in_ok-free_row-in-Loop-clause-free
free_node-returns-in_ok-free_row-in-Loop-clause-free t c =
    let slot = c.args.slot in
    let b = c.args.b in
    let first = lives_view c.lives_of.result in
    let second = lives_view c.lives_of-latch.result in
    let body = nodes_view c.in-Loop.body.items in
    let step = nodes_view c.in-Loop.step.items in
    let top : c.head_live-top.result ≡ head_live slot b body step c.args.after.on = c.head_live-top.ensures ∙ (λ i. head_live slot b (nodes_view (c.deref-in-Loop.ensures.value i)) (nodes_view (c.deref-in-Loop-2.ensures.value i)) c.args.after.on) in
    loop_free slot b c.args.n.now c.in-Loop.body c.in-Loop.step (lives_view c.args.after) first second c.head_live-top.result c.in_ok-end-in-Loop.end c.in-Loop.is top
    (latch_from slot b body step c.args.after.on c.head_live-top.result c.in_ok-end-in-Loop.end second top c.lives_of-latch.ensures (c.in_ok-end-in-Loop.ensures.live ∙ ap (λ r. live slot b (nodes_view r) second) c.deref-in-Loop-3.ensures.value))
    c.lives_of.ensures c.lives_of-latch.ensures
    (subst (λ l. IsFree slot b (nodes_view l) first) c.deref-in-Loop-4.ensures.value c.in_ok-free_row-in-Loop.ensures.free)
    (subst (λ l. IsFree slot b (nodes_view l) second) c.deref-in-Loop-3.ensures.value c.in_ok-end-in-Loop.ensures.free)

pub free_node-returns-in-Break-clause-live : goal.free_node-returns-in-Break-clause-live
unfolding live
free_node-returns-in-Break-clause-live t c = ap (λ k. live_node c.args.slot c.args.b (kind_view c.args.n.now.place k) (lives_view c.args.after)) (sym c.in-Break.is)

pub free_node-returns-in-Next-clause-live : goal.free_node-returns-in-Next-clause-live
unfolding live
free_node-returns-in-Next-clause-live t c = ap (λ k. live_node c.args.slot c.args.b (kind_view c.args.n.now.place k) (lives_view c.args.after)) (sym c.in-Next.is)

pub free_node-returns-in-Ret-clause-live : goal.free_node-returns-in-Ret-clause-live
unfolding live
free_node-returns-in-Ret-clause-live t c = ap (λ k. live_node c.args.slot c.args.b (kind_view c.args.n.now.place k) (lives_view c.args.after)) (sym c.in-Ret.is)

pub free_node-returns-in-Set-clause-live : goal.free_node-returns-in-Set-clause-live
free_node-returns-in-Set-clause-live t c =
    let l : is_plain (node_view c.args.n.now) ≡ true = elim c.in-Set.is [
      | inl (x, y, e) ↦ plain_of c.args.n.now _ e refl
      | inr (inl (x, e)) ↦ plain_of c.args.n.now _ e refl
      | inr (inr (inl (x, e))) ↦ plain_of c.args.n.now _ e refl
      | inr (inr (inr (x, y, e))) ↦ plain_of c.args.n.now _ e refl
    ] in
    IfSome_then c.free_alone-in-Set.result c.free_alone-in-Set.ensures.live (λ on e. e ∙ live_act_at c.args.slot c.args.b (node_view c.args.n.now) (lives_view c.args.after) l)

pub free_node-returns-in-Safepoint-clause-live : goal.free_node-returns-in-Safepoint-clause-live
free_node-returns-in-Safepoint-clause-live t c =
    let l : is_plain (node_view c.args.n.now) ≡ true = elim c.in-Safepoint.is [
      | inl (x, e) ↦ plain_of c.args.n.now _ e refl
      | inr (inl (x, e)) ↦ plain_of c.args.n.now _ e refl
      | inr (inr (x, e)) ↦ plain_of c.args.n.now _ e refl
    ] in
    IfSome_then c.free_alone.result c.free_alone.ensures.live (λ on e. e ∙ live_act_at c.args.slot c.args.b (node_view c.args.n.now) (lives_view c.args.after) l)
