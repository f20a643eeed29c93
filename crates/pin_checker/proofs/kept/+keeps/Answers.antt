use Rattle.std.proofs.Common.{◌≡◌, ◌+◌, ◌-◌, ◌||◌, ◌&&◌, suc, length, take, true, inl, inr, [], ◌∷◌, sym, ap, subst, ◌∙◌, append-nil, arith, refl, rules}
use Rattle.std.specs.Prelude.{not}
use Rattle.std.proofs.lemmas.Bool.{and_parts}
use Rattle.std.proofs.lemmas.Result.{IfOk-weaker, on_ok_weaker}
use Rattle.struct_ir.specs.Views.{kind_view, node_view, nodes_view}
use Rattle.struct_ir.proofs.Views.{if_is, loop_is}
use Rattle.pin_flow.specs.Live.{uses, live, live_node, head_live}
use Rattle.pin_flow.specs.Views.{act_is, looks_slot}
use Rattle.pin_flow.proofs.FlowRows.{is_plain, plain_of}
use Rattle.mark_sets.specs.Added.{loops, loops_in}
use Rattle.mark_sets.specs.Heads.{AreHeads, AreHeadsIn}
use Rattle.mark_sets.specs.Words.{has}
use Rattle.mark_sets.specs.Homes.{Tells, lives_in}
use Rattle.mark_sets.proofs.Backwards.{step_back, size_back, if_size, loop_size}
use Rattle.mark_sets.proofs.HeadRows.{plain_has_none}
use Rattle.mark_sets.proofs.HomeSlots.{has_nothing}
use Rattle.mark_sets.proofs.LiveRows.{live_start, live_more, live_if, live_head}
use Rattle.mark_sets.proofs.Told.{act_told}
use Rattle.pin_checker.specs.inner.Uses.{AreKept, AreKeptIn, AreKeptLoop}
use Rattle.pin_checker.proofs.KeptRows.{acts_kept, kept_start, kept_more, within_back, heads_back, if_kept, loop_kept, kept_at, round_kept, way_kept}
use Rattle.pin_checker.proofs.kept.+keeps.Goals as goal

-- ---- rows

pub kept_row-row-init : goal.kept_row-row-init
kept_row-row-init t c =
    let out = c.args.out.now in
    let end = c.args.end.now in
    ([], sym (append-nil c.args.rows.now), omega arith, (λ b i e. live_start i b (lives_in c.args.on.items out end i)), (λ g. kept_start c.args.outline.now.homes.bases.items c.args.on.items out end))

pub kept_row-kept_node-requires : goal.kept_row-kept_node-requires
kept_row-kept_node-requires t c =
    let h = size_back c.args.rows.now c.row.left.now c.row.invariant.0 c.n-item.result c.in-len1-up.len_at_least c.n-item.is c.row.invariant.1 in
    let o = c.args.outline.now in
    let bs = o.homes.bases.items in
    let left = c.row.left.now in
    let front = take (length left - 1) left in
    let rest = c.row.invariant.0 in
    let x = c.n-item.result in
    let cut = step_back c.args.rows.now left rest x c.in-len1-up.len_at_least c.n-item.is c.row.invariant.1 in
    let is = c.row.invariant.2 in (
      omega (arith, h),
      (
        c.requires.homes,
        (within_back bs o.heads.items c.args.next.now c.row.next c.args.rows.now front rest x cut is c.requires.within, heads_back bs o.heads.items c.args.next.now c.row.next c.args.rows.now front rest x cut is c.requires.heads),
      ),
    )

pub kept_row-row-preserved : goal.kept_row-row-preserved
kept_row-row-preserved t c =
    let bs = c.args.outline.now.homes.bases.items in
    let on = c.args.on.items in
    let set = c.row.set.items in
    let out = c.args.out.now in
    let end = c.args.end.now in
    let rest = c.row.invariant.0 in
    let is = c.row.invariant.2 in
    let used = c.row.invariant.3 in
    let new = c.in_ok-node.ensures.next in
    let x = c.n-item.result in (
      x ∷ rest,
      step_back c.args.rows.now c.row.left.now rest x c.in-len1-up.len_at_least c.n-item.is c.row.invariant.1,
      omega (arith, is, new),
      (λ b i e. live_more i b x rest (lives_in on out end i) (has set i) (has c.in_ok-node.node.on.items i) (lives_in set out end i) (used b i e) refl (c.in_ok-node.ensures.used b i e)),
      (λ g.
          let p = and_parts c.in_ok-node.node.kept c.row.kept (sym c.both-kept.ensures ∙ g) in
          kept_more bs on set out end (nodes_view rest) used (node_view x) (c.in_ok-node.ensures.kept p.0) (c.row.invariant.4 p.1)),
    )

-- ---- branches

pub kept_node-kept_row-requires : goal.kept_node-kept_row-requires
kept_node-kept_row-requires t c =
    let e = if_size c.args.n.now c.in-If.field-0 c.in-If.one c.in-If.other c.in-If.is in
    let is = if_is c.args.n.now c.in-If.field-0 c.in-If.one c.in-If.other c.in-If.is in
    let l = ap loops_in is in
    let w = c.requires.within in
    let a = subst (λ y. AreHeadsIn c.args.outline.now.homes.bases.items c.args.outline.now.heads.items c.args.next.now y) is c.requires.heads in
    rw c.deref-in-If.ensures.value (omega (arith, e), (c.requires.homes, (omega (arith, l, w), a.0)))

pub kept_node-kept_row-requires-in-If : goal.kept_node-kept_row-requires-in-If
kept_node-kept_row-requires-in-If t c =
    let e = if_size c.args.n.now c.in-If.field-0 c.in-If.one c.in-If.other c.in-If.is in
    let is = if_is c.args.n.now c.in-If.field-0 c.in-If.one c.in-If.other c.in-If.is in
    let l = ap loops_in is in
    let w = c.requires.within in
    let f = c.in_ok-first-in-If.ensures.next ∙ ap (λ y. c.args.next.now + loops (nodes_view y)) c.deref-in-If.ensures.value in
    let a = subst (λ y. AreHeadsIn c.args.outline.now.homes.bases.items c.args.outline.now.heads.items c.args.next.now y) is c.requires.heads in
    let b = subst (λ k. AreHeads c.args.outline.now.homes.bases.items c.args.outline.now.heads.items k (nodes_view c.in-If.other.items)) (sym f) a.1 in
    rw c.deref-in-If-2.ensures.value (omega (arith, e), (c.requires.homes, (omega (arith, l, w, f), b)))

pub kept_node-returns-in_ok-second-in-If-clause-next : goal.kept_node-returns-in_ok-second-in-If-clause-next
kept_node-returns-in_ok-second-in-If-clause-next t c =
    let l = ap loops_in (if_is c.args.n.now c.in-If.field-0 c.in-If.one c.in-If.other c.in-If.is) in
    let f = c.in_ok-first-in-If.ensures.next ∙ ap (λ y. c.args.next.now + loops (nodes_view y)) c.deref-in-If.ensures.value in
    let g = c.in_ok-second-in-If.ensures.next ∙ ap (λ y. c.kept_row.new.next + loops (nodes_view y)) c.deref-in-If-2.ensures.value in
    omega (arith, l, f, g)

pub kept_node-returns-in_ok-second-in-If-clause-used : goal.kept_node-returns-in_ok-second-in-If-clause-used
kept_node-returns-in_ok-second-in-If-clause-used t c =
    let out = c.args.out.now in
    let end = c.args.end.now in
    let again : c.in_ok-start-in-If.start.items ≡ c.args.on.items = search rules in
    λ b i e.
    live_if i b c.args.n.now c.in-If.field-0 c.in-If.one c.in-If.other (lives_in c.args.on.items out end i) (has c.in_ok-first-in-If.first.on.items i) (has c.in_ok-second-in-If.second.on.items i) (has c.both_walked.result.on.items i)
    c.in-If.is
    (c.in_ok-first-in-If.ensures.used b i e ∙ (λ j. live i b (nodes_view (c.deref-in-If.ensures.value j)) (lives_in (again j) out end i)))
    (c.in_ok-second-in-If.ensures.used b i e ∙ ap (λ l. live i b (nodes_view l) (lives_in c.args.on.items out end i)) c.deref-in-If-2.ensures.value) (c.both_walked.ensures.used i)

pub kept_node-returns-in_ok-second-in-If-clause-kept : goal.kept_node-returns-in_ok-second-in-If-clause-kept
kept_node-returns-in_ok-second-in-If-clause-kept t c = λ g.
    let bs = c.args.outline.now.homes.bases.items in
    let out = c.args.out.now in
    let end = c.args.end.now in
    let again : c.in_ok-start-in-If.start.items ≡ c.args.on.items = search rules in
    let p = and_parts c.in_ok-first-in-If.first.kept c.in_ok-second-in-If.second.kept (sym c.both_walked.ensures.kept ∙ g) in
    if_kept bs c.args.on.items c.in_ok-start-in-If.start.items out end c.args.n.now c.in-If.field-0 c.in-If.one c.in-If.other c.in-If.is again
    (subst (λ l. AreKept bs (nodes_view l) c.in_ok-start-in-If.start.items out end) c.deref-in-If.ensures.value (c.in_ok-first-in-If.ensures.kept p.0))
    (subst (λ l. AreKept bs (nodes_view l) c.args.on.items out end) c.deref-in-If-2.ensures.value (c.in_ok-second-in-If.ensures.kept p.1))

-- ---- loops

pub kept_loop-next_head-requires : goal.kept_loop-next_head-requires
kept_loop-next_head-requires t c = let w = c.requires.within in omega (arith, w)

pub kept_loop-kept_row-requires : goal.kept_loop-kept_row-requires
kept_loop-kept_row-requires t c =
    let o = c.args.outline.now in
    let w = c.requires.within in
    let f = c.in_ok-head.ensures.next in (
      omega arith,
      (
        c.requires.homes,
        (
          omega (arith, w, f),
          subst (λ k. AreHeads o.homes.bases.items o.heads.items k (nodes_view c.args.step.now)) (omega (arith, f)) c.requires.heads.1,
        ),
      ),
    )

pub kept_loop-kept_row-requires-2 : goal.kept_loop-kept_row-requires-2
kept_loop-kept_row-requires-2 t c =
    let o = c.args.outline.now in
    let w = c.requires.within in
    let f = c.in_ok-head.ensures.next in
    let g = c.in_ok-latch.ensures.next in (
      omega arith,
      (
        c.requires.homes,
        (
          omega (arith, w, f, g),
          subst (λ k. AreHeads o.homes.bases.items o.heads.items k (nodes_view c.args.body.now)) (omega (arith, f, g)) c.requires.heads.2,
        ),
      ),
    )

pub kept_loop-returns-clause-next : goal.kept_loop-returns-clause-next
kept_loop-returns-clause-next t c =
    let f = c.in_ok-head.ensures.next in
    let g = c.in_ok-latch.ensures.next in
    let h = c.in_ok-first.ensures.next in
    omega (arith, f, g, h)

pub kept_loop-returns-clause-used : goal.kept_loop-returns-clause-used
kept_loop-returns-clause-used t c = λ b i e. c.in_ok-head.ensures.head i ∙ c.requires.heads.0 b i (has c.args.on.now i) e

pub kept_loop-returns-clause-kept : goal.kept_loop-returns-clause-kept
kept_loop-returns-clause-kept t c = λ g.
    let bs = c.args.outline.now.homes.bases.items in
    let on = c.args.on.now in
    let body = nodes_view c.args.body.now in
    let step = nodes_view c.args.step.now in
    let head = c.in_ok-head.head.items in
    let heads : Tells bs head (λ i b. head_live i b body step (has on i)) = λ b i e. c.in_ok-head.ensures.head i ∙ c.requires.heads.0 b i (has on i) e in
    let top = c.in_ok-top.top.items in
    let latch = c.in_ok-latch.latch in
    let last = c.in_ok-last.last.items in
    let h : c.deref-2.result.now ≡ head = c.deref-2.ensures.value in
    let l : c.deref-4.result.now ≡ latch.on.items = c.deref-4.ensures.value in
    let tops : top ≡ head = search rules in
    let same : last ≡ latch.on.items = search rules in
    let ends : Tells bs latch.on.items (λ i b. live i b step (lives_in top on head i)) = λ b i e. c.in_ok-latch.ensures.used b i e ∙ (λ j. live i b step (lives_in top on (h j) i)) in
    let p = and_parts c.in_ok-first.first.kept latch.kept (sym c.both.ensures ∙ g) in
    round_kept bs on head top latch.on.items body step tops last same heads ends (kept_at bs last refl refl l (c.in_ok-first.ensures.kept p.0)) (kept_at bs top refl refl h (c.in_ok-latch.ensures.kept p.1))

pub kept_node-kept_loop-requires : goal.kept_node-kept_loop-requires
kept_node-kept_loop-requires t c =
    let e = loop_size c.args.n.now c.in-Loop.body c.in-Loop.step c.in-Loop.is in
    let is = loop_is c.args.n.now c.in-Loop.body c.in-Loop.step c.in-Loop.is in
    let l = ap loops_in is in
    let w = c.requires.within in
    let a = subst (λ y. AreHeadsIn c.args.outline.now.homes.bases.items c.args.outline.now.heads.items c.args.next.now y) is c.requires.heads in
    rw (c.deref-in-Loop.ensures.value, c.deref-in-Loop-2.ensures.value) (omega (arith, e), (c.requires.homes, (omega (arith, l, w), a)))

pub kept_node-returns-in-Loop-clause-next : goal.kept_node-returns-in-Loop-clause-next
kept_node-returns-in-Loop-clause-next t c =
    let d0 = c.deref-in-Loop.ensures.value in
    let d1 = c.deref-in-Loop-2.ensures.value in
    let l = ap loops_in (loop_is c.args.n.now c.in-Loop.body c.in-Loop.step c.in-Loop.is) in
    on_ok_weaker c.kept_loop.result (λ f.
    let g = f ∙ (λ j. c.args.next.now + suc (loops (nodes_view (d0 j)) + loops (nodes_view (d1 j)))) in
    omega (arith, l, g)) c.kept_loop.ensures.next

pub kept_node-returns-in-Loop-clause-used : goal.kept_node-returns-in-Loop-clause-used
kept_node-returns-in-Loop-clause-used t c =
    let bs = c.args.outline.now.homes.bases.items in
    let d0 = c.deref-in-Loop.ensures.value in
    let d1 = c.deref-in-Loop-2.ensures.value in
    let o = c.deref-in-Loop-3.ensures.value in
    IfOk-weaker c.kept_loop.result
    (λ w. Tells bs w.on.items (λ i b. head_live i b (nodes_view c.deref-in-Loop.result.now) (nodes_view c.deref-in-Loop-2.result.now) (has c.deref-in-Loop-3.result.now i)))
    (λ w. Tells bs w.on.items (λ i b. live_node i b (node_view c.args.n.now) (lives_in c.args.on.items c.args.out.now c.args.end.now i)))
    (λ w f b i e. live_head i b c.args.n.now c.in-Loop.body c.in-Loop.step (lives_in c.args.on.items c.args.out.now c.args.end.now i) (has w.on.items i) c.in-Loop.is
    (f b i e ∙ (λ j. head_live i b (nodes_view (d0 j)) (nodes_view (d1 j)) (has (o j) i)))) c.kept_loop.ensures.used

pub kept_node-returns-in-Loop-clause-kept : goal.kept_node-returns-in-Loop-clause-kept
kept_node-returns-in-Loop-clause-kept t c =
    let bs = c.args.outline.now.homes.bases.items in
    let v = c.in-Loop.body in
    let w = c.in-Loop.step in
    let d0 : c.deref-in-Loop.result.now ≡ v.items = c.deref-in-Loop.ensures.value in
    let d1 : c.deref-in-Loop-2.result.now ≡ w.items = c.deref-in-Loop-2.ensures.value in
    let o : c.deref-in-Loop-3.result.now ≡ c.args.on.items = c.deref-in-Loop-3.ensures.value in
    IfOk-weaker c.kept_loop.result
    (λ x. x.kept ≡ true → AreKeptLoop bs (nodes_view c.deref-in-Loop.result.now) (nodes_view c.deref-in-Loop-2.result.now) c.deref-in-Loop-3.result.now)
    (λ x. x.kept ≡ true → AreKeptIn bs (node_view c.args.n.now) c.args.on.items c.args.out.now c.args.end.now)
    (λ x f g. loop_kept bs c.args.on.items c.args.out.now c.args.end.now c.args.n.now v w c.in-Loop.is (subst (λ y. y) (λ j. AreKeptLoop bs (nodes_view (d0 j)) (nodes_view (d1 j)) (o j)) (f g))) c.kept_loop.ensures.kept

-- ---- the others

pub kept_node-returns-in-Break-clause-next : goal.kept_node-returns-in-Break-clause-next
kept_node-returns-in-Break-clause-next t c =
    let z : loops_in (node_view c.args.n.now) ≡ 0 = ap (λ k. loops_in (kind_view c.args.n.now.place k)) c.in-Break.is in
    IfOk-weaker c.led_to.result (λ w. w.on.items ≡ c.args.out.now) (λ w. c.args.next.now ≡ c.args.next.now + loops_in (node_view c.args.n.now)) (λ w f. omega (arith, z)) c.led_to.ensures

pub kept_node-returns-in-Break-clause-used : goal.kept_node-returns-in-Break-clause-used
unfolding live
kept_node-returns-in-Break-clause-used t c =
    IfOk-weaker c.led_to.result (λ w. w.on.items ≡ c.args.out.now)
    (λ w. Tells c.args.outline.now.homes.bases.items w.on.items (λ i b. live_node i b (node_view c.args.n.now) (lives_in c.args.on.items c.args.out.now c.args.end.now i)))
    (λ w f b i e. ap (λ l. has l i) f ∙ ap (λ k. live_node i b (kind_view c.args.n.now.place k) (lives_in c.args.on.items c.args.out.now c.args.end.now i)) (sym c.in-Break.is)) c.led_to.ensures

pub kept_node-returns-in-Break-clause-kept : goal.kept_node-returns-in-Break-clause-kept
kept_node-returns-in-Break-clause-kept t c =
    IfOk-weaker c.led_to.result (λ w. w.on.items ≡ c.args.out.now) (λ w. w.kept ≡ true → AreKeptIn c.args.outline.now.homes.bases.items (node_view c.args.n.now) c.args.on.items c.args.out.now c.args.end.now)
    (λ w f g b i e. way_kept i b c.args.n.now _ (lives_in c.args.on.items c.args.out.now c.args.end.now i) c.in-Break.is refl) c.led_to.ensures

pub kept_node-returns-in-Next-clause-next : goal.kept_node-returns-in-Next-clause-next
kept_node-returns-in-Next-clause-next t c =
    let z : loops_in (node_view c.args.n.now) ≡ 0 = ap (λ k. loops_in (kind_view c.args.n.now.place k)) c.in-Next.is in
    IfOk-weaker c.led_to-in-Next.result (λ w. w.on.items ≡ c.args.end.now) (λ w. c.args.next.now ≡ c.args.next.now + loops_in (node_view c.args.n.now)) (λ w f. omega (arith, z)) c.led_to-in-Next.ensures

pub kept_node-returns-in-Next-clause-used : goal.kept_node-returns-in-Next-clause-used
unfolding live
kept_node-returns-in-Next-clause-used t c =
    IfOk-weaker c.led_to-in-Next.result (λ w. w.on.items ≡ c.args.end.now)
    (λ w. Tells c.args.outline.now.homes.bases.items w.on.items (λ i b. live_node i b (node_view c.args.n.now) (lives_in c.args.on.items c.args.out.now c.args.end.now i)))
    (λ w f b i e. ap (λ l. has l i) f ∙ ap (λ k. live_node i b (kind_view c.args.n.now.place k) (lives_in c.args.on.items c.args.out.now c.args.end.now i)) (sym c.in-Next.is)) c.led_to-in-Next.ensures

pub kept_node-returns-in-Next-clause-kept : goal.kept_node-returns-in-Next-clause-kept
kept_node-returns-in-Next-clause-kept t c =
    IfOk-weaker c.led_to-in-Next.result (λ w. w.on.items ≡ c.args.end.now) (λ w. w.kept ≡ true → AreKeptIn c.args.outline.now.homes.bases.items (node_view c.args.n.now) c.args.on.items c.args.out.now c.args.end.now)
    (λ w f g b i e. way_kept i b c.args.n.now _ (lives_in c.args.on.items c.args.out.now c.args.end.now i) c.in-Next.is refl) c.led_to-in-Next.ensures

pub kept_node-returns-in-Ret-clause-next : goal.kept_node-returns-in-Ret-clause-next
kept_node-returns-in-Ret-clause-next t c =
    let z : loops_in (node_view c.args.n.now) ≡ 0 = ap (λ k. loops_in (kind_view c.args.n.now.place k)) c.in-Ret.is in
    omega (arith, z)

pub kept_node-returns-in-Ret-clause-used : goal.kept_node-returns-in-Ret-clause-used
unfolding live
kept_node-returns-in-Ret-clause-used t c = λ b i e.
    ap (λ l. has l i) c.new.ensures.items ∙ (has_nothing i ∙ ap (λ k. live_node i b (kind_view c.args.n.now.place k) (lives_in c.args.on.items c.args.out.now c.args.end.now i)) (sym c.in-Ret.is))

pub kept_node-returns-in-Ret-clause-kept : goal.kept_node-returns-in-Ret-clause-kept
kept_node-returns-in-Ret-clause-kept t c = λ g b i e. way_kept i b c.args.n.now _ (lives_in c.args.on.items c.args.out.now c.args.end.now i) c.in-Ret.is refl

pub kept_node-returns-in-Set-clause-next : goal.kept_node-returns-in-Set-clause-next
kept_node-returns-in-Set-clause-next t c =
    let l : is_plain (node_view c.args.n.now) ≡ true = elim c.in-Set.is [
      | inl (x, y, e) ↦ plain_of c.args.n.now _ e refl
      | inr (inl (x, e)) ↦ plain_of c.args.n.now _ e refl
      | inr (inr (inl (x, e))) ↦ plain_of c.args.n.now _ e refl
      | inr (inr (inr (x, y, e))) ↦ plain_of c.args.n.now _ e refl
    ] in
    let z = plain_has_none (node_view c.args.n.now) l in
    IfOk-weaker c.kept_act-in-Set.result (λ w. Tells c.args.outline.now.homes.bases.items w.on.items (λ i b. act_is (uses i b) (node_view c.args.n.now) || (not (looks_slot i (node_view c.args.n.now)) && has c.args.on.items i)))
    (λ w. c.args.next.now ≡ c.args.next.now + loops_in (node_view c.args.n.now)) (λ w f. omega (arith, z)) c.kept_act-in-Set.ensures.used

pub kept_node-returns-in-Set-clause-used : goal.kept_node-returns-in-Set-clause-used
kept_node-returns-in-Set-clause-used t c =
    let l : is_plain (node_view c.args.n.now) ≡ true = elim c.in-Set.is [
      | inl (x, y, e) ↦ plain_of c.args.n.now _ e refl
      | inr (inl (x, e)) ↦ plain_of c.args.n.now _ e refl
      | inr (inr (inl (x, e))) ↦ plain_of c.args.n.now _ e refl
      | inr (inr (inr (x, y, e))) ↦ plain_of c.args.n.now _ e refl
    ] in
    act_told c.kept_act-in-Set.result c.args.outline.now.homes.bases.items c.args.on.items c.args.out.now c.args.end.now _ c.args.n.now c.kept_act-in-Set.ensures.used refl l

pub kept_node-returns-in-Set-clause-kept : goal.kept_node-returns-in-Set-clause-kept
kept_node-returns-in-Set-clause-kept t c =
    let l : is_plain (node_view c.args.n.now) ≡ true = elim c.in-Set.is [
      | inl (x, y, e) ↦ plain_of c.args.n.now _ e refl
      | inr (inl (x, e)) ↦ plain_of c.args.n.now _ e refl
      | inr (inr (inl (x, e))) ↦ plain_of c.args.n.now _ e refl
      | inr (inr (inr (x, y, e))) ↦ plain_of c.args.n.now _ e refl
    ] in
    acts_kept c.kept_act-in-Set.result c.args.outline.now.homes.bases.items c.args.on.items c.args.out.now c.args.end.now c.args.n.now c.kept_act-in-Set.ensures.kept l

pub kept_node-returns-in-Safepoint-clause-next : goal.kept_node-returns-in-Safepoint-clause-next
kept_node-returns-in-Safepoint-clause-next t c =
    let l : is_plain (node_view c.args.n.now) ≡ true = elim c.in-Safepoint.is [
      | inl (x, e) ↦ plain_of c.args.n.now _ e refl
      | inr (inl (x, e)) ↦ plain_of c.args.n.now _ e refl
      | inr (inr (x, e)) ↦ plain_of c.args.n.now _ e refl
    ] in
    let z = plain_has_none (node_view c.args.n.now) l in
    IfOk-weaker c.kept_act.result (λ w. Tells c.args.outline.now.homes.bases.items w.on.items (λ i b. act_is (uses i b) (node_view c.args.n.now) || (not (looks_slot i (node_view c.args.n.now)) && has c.args.on.items i)))
    (λ w. c.args.next.now ≡ c.args.next.now + loops_in (node_view c.args.n.now)) (λ w f. omega (arith, z)) c.kept_act.ensures.used

pub kept_node-returns-in-Safepoint-clause-used : goal.kept_node-returns-in-Safepoint-clause-used
kept_node-returns-in-Safepoint-clause-used t c =
    let l : is_plain (node_view c.args.n.now) ≡ true = elim c.in-Safepoint.is [
      | inl (x, e) ↦ plain_of c.args.n.now _ e refl
      | inr (inl (x, e)) ↦ plain_of c.args.n.now _ e refl
      | inr (inr (x, e)) ↦ plain_of c.args.n.now _ e refl
    ] in
    act_told c.kept_act.result c.args.outline.now.homes.bases.items c.args.on.items c.args.out.now c.args.end.now _ c.args.n.now c.kept_act.ensures.used refl l

pub kept_node-returns-in-Safepoint-clause-kept : goal.kept_node-returns-in-Safepoint-clause-kept
kept_node-returns-in-Safepoint-clause-kept t c =
    let l : is_plain (node_view c.args.n.now) ≡ true = elim c.in-Safepoint.is [
      | inl (x, e) ↦ plain_of c.args.n.now _ e refl
      | inr (inl (x, e)) ↦ plain_of c.args.n.now _ e refl
      | inr (inr (x, e)) ↦ plain_of c.args.n.now _ e refl
    ] in
    acts_kept c.kept_act.result c.args.outline.now.homes.bases.items c.args.on.items c.args.out.now c.args.end.now c.args.n.now c.kept_act.ensures.kept l
