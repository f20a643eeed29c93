use Rattle.std.proofs.Common.{◌≡◌, ◌<◌, ◌+◌, ◌-◌, ℕ, suc, [], ◌∷◌, length, drop, get_or, true, inl, inr, refl, sym, ap, subst, ◌∙◌, arith, rules}
use Rattle.std.specs.Global.{Vec}
use Rattle.std.specs.Vec.{with_items}
use Rattle.std.proofs.lemmas.Bool.{and_parts}
use Rattle.std.proofs.lemmas.Result.{IfOk-weaker, on_ok_weaker}
use Rattle.struct_ir.specs.Structured.{row_size, node_size}
use Rattle.struct_ir.specs.declared.code.Node.{Node as CodeNode}
use Rattle.struct_ir.specs.declared.code.NodeKind.TheViews as views
use Rattle.struct_ir.specs.Views.{kind_view, node_view, nodes_view}
use Rattle.struct_ir.proofs.Views.{if_is, loop_is}
use Rattle.pin_flow.specs.Live.{Live, live, live_node, head_live, body_lives, latch_lives}
use Rattle.pin_flow.specs.Slots.{slot_in}
use Rattle.pin_flow.proofs.FlowRows.{is_plain, plain_of}
use Rattle.pin_flow.proofs.InPlace.{temp_of_if, row_within}
use Rattle.mark_sets.specs.Words.{has}
use Rattle.mark_sets.proofs.Bits.{on_both}
use Rattle.mark_sets.specs.Added.{loops, loops_in}
use Rattle.mark_sets.specs.Heads.{AreHeads, AreHeadsIn}
use Rattle.mark_sets.specs.Homes.{Tells, lives_in}
use Rattle.pin_frames.specs.inner.Together.{used_listed, used_listed_in, AreKept, AreKeptIn, AreKeptLoop}
use Rattle.mark_sets.proofs.Backwards.{if_size, loop_size}
use Rattle.mark_sets.proofs.LiveRows.{live_more, live_if, live_head}
use Rattle.mark_sets.proofs.HeadRows.{none_over, plain_has_none, heads_in, within_in, next_in}
use Rattle.mark_sets.proofs.HomeSlots.{has_nothing}
use Rattle.pin_frames.proofs.TogetherRows.{same_item, put_item, rest_is, size_at, start_rows, start_made, start_used, start_kept, node_more, kept_more, if_done, if_kept, body_done, latch_done, both_kept, loop_done, loop_kept, act_keeps, way_kept, kept_at}
use Rattle.mark_sets.proofs.Told.{act_told}
use Rattle.pin_frames.proofs.together.+lists.Goals as goal

-- ---- rows

pub list_row-row-init : goal.list_row-row-init
list_row-row-init t c =
    let bs = c.args.outline.now.homes.bases.items in
    let all = c.args.rows.now in
    record {
      few = omega arith;
      next = none_over all (length all) c.args.next.now (omega arith);
      made = ([], start_rows bs c.args.on.items c.args.out.now c.args.end.now all (length all) (omega arith), start_made bs c.args.on.items c.args.out.now c.args.end.now all (length all) (omega arith));
      used = start_used bs c.args.on.items c.args.out.now c.args.end.now all (length all) (omega arith);
      kept = λ g. start_kept bs c.args.on.items c.args.out.now c.args.end.now all (length all) (omega arith);
    }

pub list_row-list_node-requires : goal.list_row-list_node-requires
list_row-list_node-requires t c =
    let all = c.args.rows.now in
    let xs = c.row.rows in
    let k = c.row.left - 1 in
    let x = c.index-rows-left.result in
    let m = c.row.invariant.made in
    let next : c.row.left ≡ k + 1 = omega arith in
    let here : x ≡ get_or all k x = same_item all xs m.0 k c.row.left next c.row.invariant.few m.1 x c.index-rows-left.is in
    let lt : k < length all = (let f = c.row.invariant.few in omega (arith, f)) in
    let h : node_size (node_view (get_or xs k x)) < row_size (nodes_view all) = subst (λ z. node_size (node_view z) < row_size (nodes_view all)) c.index-rows-left.is (size_at all k x lt here) in
    let old : get_or xs k x ≡ x = sym c.index-rows-left.is in
    let cut : drop k all ≡ x ∷ drop c.row.left all = rest_is all k c.row.left x next c.row.invariant.few here in
    let o = c.args.outline.now in
    let i = c.row.invariant.next in (
      omega (arith, h),
      (
        c.requires.homes,
        (
          within_in o.homes.bases.items o.heads.items c.args.next.now c.row.next k c.row.left all x (get_or xs k x) cut i old c.requires.within,
          heads_in o.homes.bases.items o.heads.items c.args.next.now c.row.next k c.row.left all x (get_or xs k x) cut i old c.requires.heads,
        ),
      ),
    )

pub list_row-row-preserved : goal.list_row-row-preserved
list_row-row-preserved t c =
    let bs = c.args.outline.now.homes.bases.items in
    let on = c.args.on.items in
    let out = c.args.out.now in
    let end = c.args.end.now in
    let set = c.row.set.items in
    let all = c.args.rows.now in
    let xs = c.row.rows in
    let k = c.row.left - 1 in
    let x = c.index-rows-left.result in
    let y = c.list_node.new.n in
    let rest = drop c.row.left all in
    let m = c.row.invariant.made in
    let used = c.row.invariant.used in
    let next : c.row.left ≡ k + 1 = omega arith in
    let here : x ≡ get_or all k x = same_item all xs m.0 k c.row.left next c.row.invariant.few m.1 x c.index-rows-left.is in
    let cut : drop k all ≡ x ∷ rest = rest_is all k c.row.left x next c.row.invariant.few here in
    let old : get_or xs k x ≡ x = sym c.index-rows-left.is in
    record {
      few = (let f = c.row.invariant.few in omega (arith, f));
      next = next_in bs c.args.outline.now.heads.items c.args.next.now c.row.next k c.row.left all x (get_or xs k x) cut c.row.invariant.next old c.list_node.new.next c.in_ok-node.ensures.next;
      made = (
        y ∷ m.0,
        put_item all xs m.0 k c.row.left next c.row.invariant.few m.1 y,
        node_more bs on set out end (nodes_view rest) used (node_view x) (node_view y) (nodes_view m.0)
            (c.in_ok-node.ensures.node ∙ ap (λ z. used_listed_in (slot_in bs) bs (node_view z) (λ b. lives_in set out end (slot_in bs b))) old) m.2
            ∙ ap (λ l. used_listed (slot_in bs) bs (nodes_view l) (λ b. lives_in on out end (slot_in bs b))) (sym cut),
      );
      used = λ b i e.
          live_more i b x rest (lives_in on out end i) (has set i) (has c.in_ok-node.node.on.items i) (lives_in set out end i) (used b i e) refl
          (c.in_ok-node.ensures.used b i e ∙ ap (λ z. live_node i b (node_view z) (lives_in set out end i)) old)
          ∙ ap (λ l. live i b (nodes_view l) (lives_in on out end i)) (sym cut);
      kept = λ g.
          let p = and_parts c.in_ok-node.node.kept c.row.kept (sym c.both-kept.ensures ∙ g) in
          subst (λ l. AreKept bs (nodes_view l) on out end) (sym cut)
          (kept_more bs on set out end (nodes_view rest) used (node_view x) (subst (λ z. AreKeptIn bs (node_view z) set out end) old (c.in_ok-node.ensures.kept p.0)) (c.row.invariant.kept p.1));
    }

-- ---- branches

pub list_node-list_row-requires : goal.list_node-list_row-requires
list_node-list_row-requires t c =
    let e = if_size c.args.n.now c.in-If.field-0 c.in-If.one c.in-If.other c.in-If.is in
    let d = c.deref_mut.ensures.value ∙ ap (λ (u : Vec CodeNode). u.items) c.in-If.one-is in
    let is = if_is c.args.n.now c.in-If.field-0 c.in-If.one c.in-If.other c.in-If.is in
    let l = ap loops_in is in
    let w = c.requires.within in
    let a = subst (λ y. AreHeadsIn c.args.outline.now.homes.bases.items c.args.outline.now.heads.items c.args.next.now y) is c.requires.heads in
    rw d (omega (arith, e), (c.requires.homes, (omega (arith, l, w), a.0)))

pub list_node-list_row-requires-in-If : goal.list_node-list_row-requires-in-If
list_node-list_row-requires-in-If t c =
    let e = if_size c.args.n.now c.in-If.field-0 c.in-If.one c.in-If.other c.in-If.is in
    let d0 = c.deref_mut.ensures.value ∙ ap (λ (u : Vec CodeNode). u.items) c.in-If.one-is in
    let d = c.deref_mut-in-If.ensures.value ∙ ap (λ (u : Vec CodeNode). u.items) c.in-If.other-is in
    let is = if_is c.args.n.now c.in-If.field-0 c.in-If.one c.in-If.other c.in-If.is in
    let l = ap loops_in is in
    let w = c.requires.within in
    let f = c.in_ok-first-in-If.ensures.next ∙ ap (λ y. c.args.next.now + loops (nodes_view y)) d0 in
    let a = subst (λ y. AreHeadsIn c.args.outline.now.homes.bases.items c.args.outline.now.heads.items c.args.next.now y) is c.requires.heads in
    let b = subst (λ k. AreHeads c.args.outline.now.homes.bases.items c.args.outline.now.heads.items k (nodes_view c.in-If.other.items)) (sym f) a.1 in
    rw d (omega (arith, e), (c.requires.homes, (omega (arith, l, w, f), b)))

pub list_node-returns-in_ok-second-in-If-clause-next : goal.list_node-returns-in_ok-second-in-If-clause-next
list_node-returns-in_ok-second-in-If-clause-next t c =
    let d0 = c.deref_mut.ensures.value ∙ ap (λ (u : Vec CodeNode). u.items) c.in-If.one-is in
    let d1 = c.deref_mut-in-If.ensures.value ∙ ap (λ (u : Vec CodeNode). u.items) c.in-If.other-is in
    let l = ap loops_in (if_is c.args.n.now c.in-If.field-0 c.in-If.one c.in-If.other c.in-If.is) in
    let f = c.in_ok-first-in-If.ensures.next ∙ ap (λ y. c.args.next.now + loops (nodes_view y)) d0 in
    let g = c.in_ok-second-in-If.ensures.next ∙ ap (λ y. c.list_row.new.next + loops (nodes_view y)) d1 in
    omega (arith, l, f, g)

pub list_node-returns-in_ok-second-in-If-clause-used : goal.list_node-returns-in_ok-second-in-If-clause-used
list_node-returns-in_ok-second-in-If-clause-used t c =
    let out = c.args.out.now in
    let end = c.args.end.now in
    let again : c.in_ok-start-in-If.start.items ≡ c.args.on.items = search rules in
    let d0 = c.deref_mut.ensures.value ∙ ap (λ (u : Vec CodeNode). u.items) c.in-If.one-is in
    let d1 = c.deref_mut-in-If.ensures.value ∙ ap (λ (u : Vec CodeNode). u.items) c.in-If.other-is in
    λ b i e.
    live_if i b c.args.n.now c.in-If.field-0 c.in-If.one c.in-If.other (lives_in c.args.on.items out end i) (has c.in_ok-first-in-If.first.on.items i) (has c.in_ok-second-in-If.second.on.items i) (has c.both_walked.result.on.items i)
    c.in-If.is
    (c.in_ok-first-in-If.ensures.used b i e ∙ (λ j. live i b (nodes_view (d0 j)) (lives_in (again j) out end i)))
    (c.in_ok-second-in-If.ensures.used b i e ∙ ap (λ l. live i b (nodes_view l) (lives_in c.args.on.items out end i)) d1) (c.both_walked.ensures.used i)

pub list_node-returns-in_ok-second-in-If-clause-kept : goal.list_node-returns-in_ok-second-in-If-clause-kept
list_node-returns-in_ok-second-in-If-clause-kept t c = λ g.
    let bs = c.args.outline.now.homes.bases.items in
    let out = c.args.out.now in
    let end = c.args.end.now in
    let again : c.in_ok-start-in-If.start.items ≡ c.args.on.items = search rules in
    let d0 = c.deref_mut.ensures.value ∙ ap (λ (u : Vec CodeNode). u.items) c.in-If.one-is in
    let d1 = c.deref_mut-in-If.ensures.value ∙ ap (λ (u : Vec CodeNode). u.items) c.in-If.other-is in
    let p = and_parts c.in_ok-first-in-If.first.kept c.in_ok-second-in-If.second.kept (sym c.both_walked.ensures.kept ∙ g) in
    if_kept bs c.args.on.items c.in_ok-start-in-If.start.items out end c.args.n.now c.in-If.field-0 c.in-If.one c.in-If.other c.in-If.is again
    (subst (λ l. AreKept bs (nodes_view l) c.in_ok-start-in-If.start.items out end) d0 (c.in_ok-first-in-If.ensures.kept p.0))
    (subst (λ l. AreKept bs (nodes_view l) c.args.on.items out end) d1 (c.in_ok-second-in-If.ensures.kept p.1))

pub list_node-returns-in_ok-second-in-If-clause-node : goal.list_node-returns-in_ok-second-in-If-clause-node
list_node-returns-in_ok-second-in-If-clause-node t c =
    let bs = c.args.outline.now.homes.bases.items in
    let s = slot_in bs in
    let on = c.args.on.items in
    let out = c.args.out.now in
    let end = c.args.end.now in
    let ls : ℕ → Live = λ b. lives_in on out end (slot_in bs b) in
    let v = c.in-If.one in
    let w = c.in-If.other in
    let ys = c.list_row.new.rows in
    let zs = c.list_row-in-If.new.rows in
    let again : c.in_ok-start-in-If.start.items ≡ c.args.on.items = search rules in
    let d0 : c.deref_mut.result.now ≡ v.items = c.deref_mut.ensures.value ∙ ap (λ (u : Vec CodeNode). u.items) c.in-If.one-is in
    let d1 : c.deref_mut-in-If.result.now ≡ w.items = c.deref_mut-in-If.ensures.value ∙ ap (λ (u : Vec CodeNode). u.items) c.in-If.other-is in
    temp_of_if c.args.n.now.place _ c.in-If.field-0 _ _ (search (rules, views.the_lemmas, c.in-If.is))
    ∙ ((λ i. kind_view c.args.n.now.place (views.If c.in-If.field-0 (with_items (c.in-If.one-is i) ys) (with_items (c.in-If.other-is i) zs)))
    ∙ if_done s bs ls c.args.n.now c.in-If.field-0 v w (with_items v ys) (with_items w zs) c.in-If.is
    (row_within (λ r. used_listed s bs r ls) v c.deref_mut.result.now ys d0 (omega (arith, c.list_row.auto.rows, ap length d0, v.ok.0))
    (c.in_ok-first-in-If.ensures.row ∙ ap (λ z. used_listed s bs (nodes_view c.deref_mut.result.now) (λ b. lives_in z out end (slot_in bs b))) again))
    (row_within (λ r. used_listed s bs r ls) w c.deref_mut-in-If.result.now zs d1 (omega (arith, c.list_row-in-If.auto.rows, ap length d1, w.ok.0)) c.in_ok-second-in-If.ensures.row))

-- ---- loops

pub list_loop-next_head-requires : goal.list_loop-next_head-requires
list_loop-next_head-requires t c = let w = c.requires.within in omega (arith, w)

pub list_loop-list_row-requires : goal.list_loop-list_row-requires
list_loop-list_row-requires t c =
    let o = c.args.outline.now in
    let w = c.requires.within in
    let f = c.in_ok-head.ensures.next in (
      omega arith,
      (
        c.requires.homes,
        (
          omega (arith, w, f),
          subst (λ k. AreHeads o.homes.bases.items o.heads.items k (nodes_view c.args.step.now)) (omega (arith, f)) c.requires.heads.1,
        ),
      ),
    )

pub list_loop-list_row-requires-2 : goal.list_loop-list_row-requires-2
list_loop-list_row-requires-2 t c =
    let o = c.args.outline.now in
    let w = c.requires.within in
    let f = c.in_ok-head.ensures.next in
    let g = c.in_ok-latch.ensures.next in (
      omega arith,
      (
        c.requires.homes,
        (
          omega (arith, w, f, g),
          subst (λ k. AreHeads o.homes.bases.items o.heads.items k (nodes_view c.args.body.now)) (omega (arith, f, g)) c.requires.heads.2,
        ),
      ),
    )

pub list_loop-returns-clause-next : goal.list_loop-returns-clause-next
list_loop-returns-clause-next t c =
    let f = c.in_ok-head.ensures.next in
    let g = c.in_ok-latch.ensures.next in
    let h = c.in_ok-first.ensures.next in
    omega (arith, f, g, h)

pub list_loop-returns-clause-used : goal.list_loop-returns-clause-used
list_loop-returns-clause-used t c = λ b i e. c.in_ok-head.ensures.head i ∙ c.requires.heads.0 b i (has c.args.on.now i) e

pub list_loop-returns-clause-kept : goal.list_loop-returns-clause-kept
list_loop-returns-clause-kept t c = λ g.
    let bs = c.args.outline.now.homes.bases.items in
    let on = c.args.on.now in
    let body = nodes_view c.args.body.now in
    let step = nodes_view c.args.step.now in
    let head = c.in_ok-head.head.items in
    let heads : Tells bs head (λ i b. head_live i b body step (has on i)) = λ b i e. c.in_ok-head.ensures.head i ∙ c.requires.heads.0 b i (has on i) e in
    let top = c.in_ok-top.top.items in
    let latch = c.in_ok-latch.latch in
    let last = c.in_ok-last.last.items in
    let h : c.deref-2.result.now ≡ head = c.deref-2.ensures.value in
    let l : c.deref-4.result.now ≡ latch.on.items = c.deref-4.ensures.value in
    let tops : top ≡ head = search rules in
    let same : last ≡ latch.on.items = search rules in
    let ends : Tells bs latch.on.items (λ i b. live i b step (lives_in top on head i)) = λ b i e. c.in_ok-latch.ensures.used b i e ∙ (λ j. live i b step (lives_in top on (h j) i)) in
    let p = and_parts c.in_ok-first.first.kept latch.kept (sym c.both.ensures ∙ g) in
    both_kept bs on head top latch.on.items body step tops last same heads ends
    (kept_at bs last refl refl l (c.in_ok-first.ensures.kept p.0))
    (kept_at bs top refl refl h (c.in_ok-latch.ensures.kept p.1))

pub list_loop-returns-clause-body : goal.list_loop-returns-clause-body
list_loop-returns-clause-body t c =
    let bs = c.args.outline.now.homes.bases.items in
    let on = c.args.on.now in
    let body = nodes_view c.args.body.now in
    let step = nodes_view c.args.step.now in
    let head = c.in_ok-head.head.items in
    let heads : Tells bs head (λ i b. head_live i b body step (has on i)) = λ b i e. c.in_ok-head.ensures.head i ∙ c.requires.heads.0 b i (has on i) e in
    let top = c.in_ok-top.top.items in
    let latch = c.in_ok-latch.latch in
    let last = c.in_ok-last.last.items in
    let h : c.deref-2.result.now ≡ head = c.deref-2.ensures.value in
    let l : c.deref-4.result.now ≡ latch.on.items = c.deref-4.ensures.value in
    let tops : top ≡ head = search rules in
    let same : last ≡ latch.on.items = search rules in
    let ends : Tells bs latch.on.items (λ i b. live i b step (lives_in top on head i)) = λ b i e. c.in_ok-latch.ensures.used b i e ∙ (λ j. live i b step (lives_in top on (h j) i)) in
    body_done bs on head top latch.on.items body step tops last same heads ends _
    (c.in_ok-first.ensures.row ∙ (λ j. used_listed (slot_in bs) bs body (λ b. lives_in last on (l j) (slot_in bs b))))

pub list_loop-returns-clause-step : goal.list_loop-returns-clause-step
list_loop-returns-clause-step t c =
    let bs = c.args.outline.now.homes.bases.items in
    let on = c.args.on.now in
    let body = nodes_view c.args.body.now in
    let step = nodes_view c.args.step.now in
    let head = c.in_ok-head.head.items in
    let heads : Tells bs head (λ i b. head_live i b body step (has on i)) = λ b i e. c.in_ok-head.ensures.head i ∙ c.requires.heads.0 b i (has on i) e in
    let top = c.in_ok-top.top.items in
    let latch = c.in_ok-latch.latch in
    let last = c.in_ok-last.last.items in
    let h : c.deref-2.result.now ≡ head = c.deref-2.ensures.value in
    let tops : top ≡ head = search rules in
    let same : last ≡ latch.on.items = search rules in
    let ends : Tells bs latch.on.items (λ i b. live i b step (lives_in top on head i)) = λ b i e. c.in_ok-latch.ensures.used b i e ∙ (λ j. live i b step (lives_in top on (h j) i)) in
    latch_done bs on head top latch.on.items body step tops last same heads ends _
    (c.in_ok-latch.ensures.row ∙ (λ j. used_listed (slot_in bs) bs step (λ b. lives_in top on (h j) (slot_in bs b))))

pub list_node-list_loop-requires : goal.list_node-list_loop-requires
list_node-list_loop-requires t c =
    let e = loop_size c.args.n.now c.in-Loop.body c.in-Loop.step c.in-Loop.is in
    let d0 = c.deref_mut-in-Loop.ensures.value ∙ ap (λ (u : Vec CodeNode). u.items) c.in-Loop.body-is in
    let d1 = c.deref_mut-in-Loop-2.ensures.value ∙ ap (λ (u : Vec CodeNode). u.items) c.in-Loop.step-is in
    let is = loop_is c.args.n.now c.in-Loop.body c.in-Loop.step c.in-Loop.is in
    let l = ap loops_in is in
    let w = c.requires.within in
    let a = subst (λ y. AreHeadsIn c.args.outline.now.homes.bases.items c.args.outline.now.heads.items c.args.next.now y) is c.requires.heads in
    rw (d0, d1) (omega (arith, e), (c.requires.homes, (omega (arith, l, w), a)))

pub list_node-returns-in-Loop-clause-next : goal.list_node-returns-in-Loop-clause-next
list_node-returns-in-Loop-clause-next t c =
    let d0 = c.deref_mut-in-Loop.ensures.value ∙ ap (λ (u : Vec CodeNode). u.items) c.in-Loop.body-is in
    let d1 = c.deref_mut-in-Loop-2.ensures.value ∙ ap (λ (u : Vec CodeNode). u.items) c.in-Loop.step-is in
    let l = ap loops_in (loop_is c.args.n.now c.in-Loop.body c.in-Loop.step c.in-Loop.is) in
    on_ok_weaker c.list_loop.result (λ f.
    let g = f ∙ (λ j. c.args.next.now + suc (loops (nodes_view (d0 j)) + loops (nodes_view (d1 j)))) in
    omega (arith, l, g)) c.list_loop.ensures.next

pub list_node-returns-in-Loop-clause-used : goal.list_node-returns-in-Loop-clause-used
list_node-returns-in-Loop-clause-used t c =
    let bs = c.args.outline.now.homes.bases.items in
    let d0 = c.deref_mut-in-Loop.ensures.value ∙ ap (λ (u : Vec CodeNode). u.items) c.in-Loop.body-is in
    let d1 = c.deref_mut-in-Loop-2.ensures.value ∙ ap (λ (u : Vec CodeNode). u.items) c.in-Loop.step-is in
    let o = c.deref-in-Loop.ensures.value in
    IfOk-weaker c.list_loop.result
    (λ w. Tells bs w.on.items (λ i b. head_live i b (nodes_view c.deref_mut-in-Loop.result.now) (nodes_view c.deref_mut-in-Loop-2.result.now) (has c.deref-in-Loop.result.now i)))
    (λ w. Tells bs w.on.items (λ i b. live_node i b (node_view c.args.n.now) (lives_in c.args.on.items c.args.out.now c.args.end.now i)))
    (λ w f b i e. live_head i b c.args.n.now c.in-Loop.body c.in-Loop.step (lives_in c.args.on.items c.args.out.now c.args.end.now i) (has w.on.items i) c.in-Loop.is
    (f b i e ∙ (λ j. head_live i b (nodes_view (d0 j)) (nodes_view (d1 j)) (has (o j) i)))) c.list_loop.ensures.used

pub list_node-returns-in-Loop-clause-kept : goal.list_node-returns-in-Loop-clause-kept
list_node-returns-in-Loop-clause-kept t c =
    let bs = c.args.outline.now.homes.bases.items in
    let v = c.in-Loop.body in
    let w = c.in-Loop.step in
    let d0 : c.deref_mut-in-Loop.result.now ≡ v.items = c.deref_mut-in-Loop.ensures.value ∙ ap (λ (u : Vec CodeNode). u.items) c.in-Loop.body-is in
    let d1 : c.deref_mut-in-Loop-2.result.now ≡ w.items = c.deref_mut-in-Loop-2.ensures.value ∙ ap (λ (u : Vec CodeNode). u.items) c.in-Loop.step-is in
    let o : c.deref-in-Loop.result.now ≡ c.args.on.items = c.deref-in-Loop.ensures.value in
    IfOk-weaker c.list_loop.result
    (λ x. x.kept ≡ true → AreKeptLoop bs (nodes_view c.deref_mut-in-Loop.result.now) (nodes_view c.deref_mut-in-Loop-2.result.now) c.deref-in-Loop.result.now)
    (λ x. x.kept ≡ true → AreKeptIn bs (node_view c.args.n.now) c.args.on.items c.args.out.now c.args.end.now)
    (λ x f g. loop_kept bs c.args.on.items c.args.out.now c.args.end.now c.args.n.now v w c.in-Loop.is (subst (λ y. y) (λ j. AreKeptLoop bs (nodes_view (d0 j)) (nodes_view (d1 j)) (o j)) (f g))) c.list_loop.ensures.kept

pub list_node-returns-in-Loop-clause-node : goal.list_node-returns-in-Loop-clause-node
list_node-returns-in-Loop-clause-node t c =
    let bs = c.args.outline.now.homes.bases.items in
    let s = slot_in bs in
    let on = c.args.on.items in
    let ls : ℕ → Live = λ b. lives_in on c.args.out.now c.args.end.now (slot_in bs b) in
    let v = c.in-Loop.body in
    let w = c.in-Loop.step in
    let xs = c.deref_mut-in-Loop.result.now in
    let ws = c.deref_mut-in-Loop-2.result.now in
    let ys = c.list_loop.new.body in
    let zs = c.list_loop.new.step in
    let d0 : xs ≡ v.items = c.deref_mut-in-Loop.ensures.value ∙ ap (λ (u : Vec CodeNode). u.items) c.in-Loop.body-is in
    let d1 : ws ≡ w.items = c.deref_mut-in-Loop-2.ensures.value ∙ ap (λ (u : Vec CodeNode). u.items) c.in-Loop.step-is in
    let o : c.deref-in-Loop.result.now ≡ on = c.deref-in-Loop.ensures.value in
    on_both c.list_loop.result c.list_loop.ensures.body c.list_loop.ensures.step
    (λ f g. (λ i. kind_view c.args.n.now.place (views.Loop (with_items (c.in-Loop.body-is i) ys) (with_items (c.in-Loop.step-is i) zs)))
    ∙ loop_done s bs ls c.args.n.now v w (with_items v ys) (with_items w zs) c.in-Loop.is
    (row_within (λ r. used_listed s bs r (λ b. body_lives (s b) b r (nodes_view w.items) (has on (s b)))) v xs ys d0 (omega (arith, c.list_loop.auto.body, ap length d0, v.ok.0))
    (f ∙ (λ j. used_listed s bs (nodes_view xs) (λ b. body_lives (s b) b (nodes_view xs) (nodes_view (d1 j)) (has (o j) (s b))))))
    (row_within (λ r. used_listed s bs r (λ b. latch_lives (s b) b (nodes_view v.items) r (has on (s b)))) w ws zs d1 (omega (arith, c.list_loop.auto.step, ap length d1, w.ok.0))
    (g ∙ (λ j. used_listed s bs (nodes_view ws) (λ b. latch_lives (s b) b (nodes_view (d0 j)) (nodes_view ws) (has (o j) (s b)))))))

-- ---- the others

pub list_node-returns-in-Break-clause-next : goal.list_node-returns-in-Break-clause-next
list_node-returns-in-Break-clause-next t c =
    let z : loops_in (node_view c.args.n.now) ≡ 0 = ap (λ k. loops_in (kind_view c.args.n.now.place k)) c.in-Break.is in
    IfOk-weaker c.led_to.result (λ w. w.on.items ≡ c.args.out.now) (λ w. c.args.next.now ≡ c.args.next.now + loops_in (node_view c.args.n.now)) (λ w f. omega (arith, z)) c.led_to.ensures

pub list_node-returns-in-Break-clause-used : goal.list_node-returns-in-Break-clause-used
unfolding live
list_node-returns-in-Break-clause-used t c =
    IfOk-weaker c.led_to.result (λ w. w.on.items ≡ c.args.out.now)
    (λ w. Tells c.args.outline.now.homes.bases.items w.on.items (λ i b. live_node i b (node_view c.args.n.now) (lives_in c.args.on.items c.args.out.now c.args.end.now i)))
    (λ w f b i e. ap (λ l. has l i) f ∙ ap (λ k. live_node i b (kind_view c.args.n.now.place k) (lives_in c.args.on.items c.args.out.now c.args.end.now i)) (sym c.in-Break.is)) c.led_to.ensures

pub list_node-returns-in-Break-clause-kept : goal.list_node-returns-in-Break-clause-kept
list_node-returns-in-Break-clause-kept t c =
    IfOk-weaker c.led_to.result (λ w. w.on.items ≡ c.args.out.now) (λ w. w.kept ≡ true → AreKeptIn c.args.outline.now.homes.bases.items (node_view c.args.n.now) c.args.on.items c.args.out.now c.args.end.now)
    (λ w f g b i e. way_kept i b c.args.n.now _ (lives_in c.args.on.items c.args.out.now c.args.end.now i) c.in-Break.is refl) c.led_to.ensures

pub list_node-returns-in-Next-clause-next : goal.list_node-returns-in-Next-clause-next
list_node-returns-in-Next-clause-next t c =
    let z : loops_in (node_view c.args.n.now) ≡ 0 = ap (λ k. loops_in (kind_view c.args.n.now.place k)) c.in-Next.is in
    IfOk-weaker c.led_to-in-Next.result (λ w. w.on.items ≡ c.args.end.now) (λ w. c.args.next.now ≡ c.args.next.now + loops_in (node_view c.args.n.now)) (λ w f. omega (arith, z)) c.led_to-in-Next.ensures

pub list_node-returns-in-Next-clause-used : goal.list_node-returns-in-Next-clause-used
unfolding live
list_node-returns-in-Next-clause-used t c =
    IfOk-weaker c.led_to-in-Next.result (λ w. w.on.items ≡ c.args.end.now)
    (λ w. Tells c.args.outline.now.homes.bases.items w.on.items (λ i b. live_node i b (node_view c.args.n.now) (lives_in c.args.on.items c.args.out.now c.args.end.now i)))
    (λ w f b i e. ap (λ l. has l i) f ∙ ap (λ k. live_node i b (kind_view c.args.n.now.place k) (lives_in c.args.on.items c.args.out.now c.args.end.now i)) (sym c.in-Next.is)) c.led_to-in-Next.ensures

pub list_node-returns-in-Next-clause-kept : goal.list_node-returns-in-Next-clause-kept
list_node-returns-in-Next-clause-kept t c =
    IfOk-weaker c.led_to-in-Next.result (λ w. w.on.items ≡ c.args.end.now) (λ w. w.kept ≡ true → AreKeptIn c.args.outline.now.homes.bases.items (node_view c.args.n.now) c.args.on.items c.args.out.now c.args.end.now)
    (λ w f g b i e. way_kept i b c.args.n.now _ (lives_in c.args.on.items c.args.out.now c.args.end.now i) c.in-Next.is refl) c.led_to-in-Next.ensures

pub list_node-returns-in-Ret-clause-next : goal.list_node-returns-in-Ret-clause-next
list_node-returns-in-Ret-clause-next t c =
    let z : loops_in (node_view c.args.n.now) ≡ 0 = ap (λ k. loops_in (kind_view c.args.n.now.place k)) c.in-Ret.is in
    omega (arith, z)

pub list_node-returns-in-Ret-clause-used : goal.list_node-returns-in-Ret-clause-used
unfolding live
list_node-returns-in-Ret-clause-used t c = λ b i e.
    ap (λ l. has l i) c.new.ensures.items ∙ (has_nothing i ∙ ap (λ k. live_node i b (kind_view c.args.n.now.place k) (lives_in c.args.on.items c.args.out.now c.args.end.now i)) (sym c.in-Ret.is))

pub list_node-returns-in-Ret-clause-kept : goal.list_node-returns-in-Ret-clause-kept
list_node-returns-in-Ret-clause-kept t c = λ g b i e. way_kept i b c.args.n.now _ (lives_in c.args.on.items c.args.out.now c.args.end.now i) c.in-Ret.is refl

pub list_node-returns-in-Set-clause-next : goal.list_node-returns-in-Set-clause-next
list_node-returns-in-Set-clause-next t c =
    let l : is_plain (node_view c.args.n.now) ≡ true = elim c.in-Set.is [
      | inl (x, y, e) ↦ plain_of c.args.n.now _ e refl
      | inr (inl (x, e)) ↦ plain_of c.args.n.now _ e refl
      | inr (inr (inl (x, e))) ↦ plain_of c.args.n.now _ e refl
      | inr (inr (inr (x, y, e))) ↦ plain_of c.args.n.now _ e refl
    ] in
    let z = plain_has_none (node_view c.args.n.now) l in
    on_ok_weaker c.list_act-in-Set.result (λ e. omega (arith, z)) c.list_act-in-Set.ensures.node

pub list_node-returns-in-Set-clause-used : goal.list_node-returns-in-Set-clause-used
list_node-returns-in-Set-clause-used t c =
    let l : is_plain (node_view c.args.n.now) ≡ true = elim c.in-Set.is [
      | inl (x, y, e) ↦ plain_of c.args.n.now _ e refl
      | inr (inl (x, e)) ↦ plain_of c.args.n.now _ e refl
      | inr (inr (inl (x, e))) ↦ plain_of c.args.n.now _ e refl
      | inr (inr (inr (x, y, e))) ↦ plain_of c.args.n.now _ e refl
    ] in
    let bs = c.args.outline.now.homes.bases.items in
    act_told c.list_act-in-Set.result bs c.args.on.items c.args.out.now c.args.end.now _ c.args.n.now c.list_act-in-Set.ensures.used (search (rules, views.the_lemmas, c.in-Set.is)) l

pub list_node-returns-in-Set-clause-kept : goal.list_node-returns-in-Set-clause-kept
list_node-returns-in-Set-clause-kept t c =
    let l : is_plain (node_view c.args.n.now) ≡ true = elim c.in-Set.is [
      | inl (x, y, e) ↦ plain_of c.args.n.now _ e refl
      | inr (inl (x, e)) ↦ plain_of c.args.n.now _ e refl
      | inr (inr (inl (x, e))) ↦ plain_of c.args.n.now _ e refl
      | inr (inr (inr (x, y, e))) ↦ plain_of c.args.n.now _ e refl
    ] in
    let bs = c.args.outline.now.homes.bases.items in
    act_keeps c.list_act-in-Set.result bs c.args.on.items c.args.out.now c.args.end.now _ c.args.n.now c.list_act-in-Set.ensures.kept (search (rules, views.the_lemmas, c.in-Set.is)) l

pub list_node-returns-in-Safepoint-clause-next : goal.list_node-returns-in-Safepoint-clause-next
list_node-returns-in-Safepoint-clause-next t c =
    let l : is_plain (node_view c.args.n.now) ≡ true = elim c.in-Safepoint.is [
      | inl (x, e) ↦ plain_of c.args.n.now _ e refl
      | inr (inl (x, e)) ↦ plain_of c.args.n.now _ e refl
      | inr (inr (x, e)) ↦ plain_of c.args.n.now _ e refl
    ] in
    let z = plain_has_none (node_view c.args.n.now) l in
    on_ok_weaker c.list_act.result (λ e. omega (arith, z)) c.list_act.ensures.node

pub list_node-returns-in-Safepoint-clause-used : goal.list_node-returns-in-Safepoint-clause-used
list_node-returns-in-Safepoint-clause-used t c =
    let l : is_plain (node_view c.args.n.now) ≡ true = elim c.in-Safepoint.is [
      | inl (x, e) ↦ plain_of c.args.n.now _ e refl
      | inr (inl (x, e)) ↦ plain_of c.args.n.now _ e refl
      | inr (inr (x, e)) ↦ plain_of c.args.n.now _ e refl
    ] in
    let bs = c.args.outline.now.homes.bases.items in
    act_told c.list_act.result bs c.args.on.items c.args.out.now c.args.end.now _ c.args.n.now c.list_act.ensures.used (search (rules, views.the_lemmas, c.in-Safepoint.is)) l

pub list_node-returns-in-Safepoint-clause-kept : goal.list_node-returns-in-Safepoint-clause-kept
list_node-returns-in-Safepoint-clause-kept t c =
    let l : is_plain (node_view c.args.n.now) ≡ true = elim c.in-Safepoint.is [
      | inl (x, e) ↦ plain_of c.args.n.now _ e refl
      | inr (inl (x, e)) ↦ plain_of c.args.n.now _ e refl
      | inr (inr (x, e)) ↦ plain_of c.args.n.now _ e refl
    ] in
    let bs = c.args.outline.now.homes.bases.items in
    act_keeps c.list_act.result bs c.args.on.items c.args.out.now c.args.end.now _ c.args.n.now c.list_act.ensures.kept (search (rules, views.the_lemmas, c.in-Safepoint.is)) l
