use Rattle.std.proofs.Common.{◌≡◌, ℕ, Bool, set, true, inl, inr, sym, ap, subst, [], ◌∷◌, ◌∙◌, length, List, append-nil, arith, refl, rules, Result, Ok, Err, IfOk, OnOk}
use Rattle.std.proofs.lemmas.Result.{IfOk-weaker, on_ok_weaker}
use Rattle.std.specs.Prelude.{◌||◌, ◌&&◌, not}
use Rattle.struct_ir.specs.declared.code.Node.{Node as CodeNode}
use Rattle.struct_ir.specs.Views.{kind_view, node_view, nodes_view}
use Rattle.struct_ir.proofs.Views.{if_is, loop_is}
use Rattle.pin_flow.specs.Live.{uses, lives, live, live_node, head_live}
use Rattle.pin_flow.specs.Views.{act_is, looks_slot}
use Rattle.pin_flow.proofs.FlowRows.{is_plain, plain_of, is_leaf, leaf_of}
use Rattle.mark_sets.specs.declared.heads.Later.{Later}
use Rattle.mark_sets.specs.Heads.{later_in, TellsBy, lives_by, IsHead, HasHeads, HasHeadsIn, HasHeadsWithin}
use Rattle.mark_sets.proofs.Backwards.{step_back, size_back, none_left, if_size, loop_size}
use Rattle.mark_sets.proofs.LiveRows.{live_start, live_more, live_if, live_head, live_act_at, head_by}
use Rattle.mark_sets.proofs.HomeSlots.{slot_found}
use Rattle.mark_sets.proofs.HeadRows.{heads_none, heads_more, heads_leaf, heads_if, heads_within, heads_loop}
use Rattle.mark_sets.proofs.heads.+heads.Goals as goal

always : {T E P : Type 0} (r : Result T E) → P → OnOk r P
always (Ok x) p = p
always (Err e) p = tt

act_by : {E : Type 0} (r : Result Later E) (bs : List ℕ) (n : CodeNode) (on out end : Later) → is_plain (node_view n) ≡ true → IfOk r (λ l. TellsBy bs l (λ i b all. act_is (uses i b) (node_view n) || (not (looks_slot i (node_view n)) && later_in on all i)))
    → IfOk r (λ l. TellsBy bs l (λ i b all. live_node i b (node_view n) (lives_by on out end i all)))
act_by (Ok l) bs n on out end p f = λ b i all e. f b i all e ∙ live_act_at i b (node_view n) (lives_by on out end i all) p
act_by (Err x) bs n on out end p f = tt

pub heads_row-row-init : goal.heads_row-row-init
heads_row-row-init t c = ([], sym (append-nil c.args.rows.now), λ b i all e. live_start i b (lives_by c.args.on c.args.out.now c.args.end.now i all), heads_none c.args.homes.now.bases.items c.args.heads.now.items)

pub heads_row-heads_node-requires : goal.heads_row-heads_node-requires
heads_row-heads_node-requires t c =
    let h = size_back c.args.rows.now c.row.left.now c.row.invariant.0 c.n-item.result c.in-len1-up.len_at_least c.n-item.is c.row.invariant.1 in
    (omega (arith, h), tt)

pub heads_row-row-preserved : goal.heads_row-row-preserved
heads_row-row-preserved t c = (
  c.n-item.result ∷ c.row.invariant.0,
  step_back c.args.rows.now c.row.left.now c.row.invariant.0 c.n-item.result c.in-len1-up.len_at_least c.n-item.is c.row.invariant.1,
  λ b i all e. live_more i b c.n-item.result c.row.invariant.0 (lives_by c.args.on c.args.out.now c.args.end.now i all) (later_in c.row.used all i) (later_in c.in_ok-used.used all i) (lives_by c.row.used c.args.out.now c.args.end.now i all)
      (c.row.invariant.2 b i all e) refl (c.in_ok-used.ensures.used b i all e),
  heads_more c.args.homes.now.bases.items c.args.heads.now.items c.row.heads.items c.heads_node.new.heads.items (node_view c.n-item.result) (nodes_view c.row.invariant.0) c.row.invariant.3 c.in_ok-used.ensures.heads,
)

pub heads_node-heads_row-requires : goal.heads_node-heads_row-requires
heads_node-heads_row-requires t c =
    let e = if_size c.args.n.now c.in-If.field-0 c.in-If.one c.in-If.other c.in-If.is in
    rw c.deref.ensures.value (omega (arith, e), tt)

pub heads_node-heads_row-requires-in-If : goal.heads_node-heads_row-requires-in-If
heads_node-heads_row-requires-in-If t c =
    let e = if_size c.args.n.now c.in-If.field-0 c.in-If.one c.in-If.other c.in-If.is in
    rw c.deref-in-If.ensures.value (omega (arith, e), tt)

pub heads_node-heads_loop-requires : goal.heads_node-heads_loop-requires
heads_node-heads_loop-requires t c =
    let e = loop_size c.args.n.now c.in-Loop.body c.in-Loop.step c.in-Loop.is in
    rw (c.deref-in-Loop.ensures.value, c.deref-in-Loop-2.ensures.value) (omega (arith, e), tt)

pub heads_node-returns-in_ok-second-in-If-clause-used : goal.heads_node-returns-in_ok-second-in-If-clause-used
heads_node-returns-in_ok-second-in-If-clause-used t c = λ b i all e.
    let out = c.args.out.now in
    let end = c.args.end.now in
    live_if i b c.args.n.now c.in-If.field-0 c.in-If.one c.in-If.other (lives_by c.args.on out end i all) (later_in c.in_ok-first-in-If.first all i) (later_in c.in_ok-second-in-If.second all i) (later_in c.either.result all i)
    c.in-If.is
    (c.in_ok-first-in-If.ensures.used b i all e ∙ (λ j. live i b (nodes_view (c.deref.ensures.value j)) (lives (c.in_ok-start-in-If.ensures all i j) (later_in out all i) (later_in end all i))))
    (c.in_ok-second-in-If.ensures.used b i all e ∙ ap (λ l. live i b (nodes_view l) (lives_by c.args.on out end i all)) c.deref-in-If.ensures.value) (c.either.ensures all i)

pub heads_node-returns-in_ok-second-in-If-clause-heads : goal.heads_node-returns-in_ok-second-in-If-clause-heads
heads_node-returns-in_ok-second-in-If-clause-heads t c =
    let bs = c.args.homes.now.bases.items in
    let n = c.args.n.now in
    let old = c.args.heads.now.items in
    let now = c.heads_row.new.heads.items in
    let new = c.heads_row-in-If.new.heads.items in
    let a = subst (λ l. HasHeads bs old now (nodes_view l)) c.deref.ensures.value c.in_ok-first-in-If.ensures.heads in
    let b = subst (λ l. HasHeads bs now new (nodes_view l)) c.deref-in-If.ensures.value c.in_ok-second-in-If.ensures.heads in
    subst (λ y. HasHeadsIn bs old new y) (sym (if_is n c.in-If.field-0 c.in-If.one c.in-If.other c.in-If.is))
    (heads_if bs old now new n.place c.in-If.field-0 (nodes_view c.in-If.one.items) (nodes_view c.in-If.other.items) a b)

pub heads_node-returns-in_ok-before-in-Loop-clause-used : goal.heads_node-returns-in_ok-before-in-Loop-clause-used
heads_node-returns-in_ok-before-in-Loop-clause-used t c = λ b i all e.
    let on = later_in c.args.on all i in
    live_head i b c.args.n.now c.in-Loop.body c.in-Loop.step (lives_by c.args.on c.args.out.now c.args.end.now i all) (later_in c.in_ok-before-in-Loop.before all i) c.in-Loop.is
    (c.in_ok-before-in-Loop.ensures all i ∙ (c.in_ok-head-in-Loop.ensures.used b i on e ∙ (λ j. head_live i b (nodes_view (c.deref-in-Loop.ensures.value j)) (nodes_view (c.deref-in-Loop-2.ensures.value j)) on)))

pub heads_node-returns-in_ok-before-in-Loop-clause-heads : goal.heads_node-returns-in_ok-before-in-Loop-clause-heads
heads_node-returns-in_ok-before-in-Loop-clause-heads t c =
    let bs = c.args.homes.now.bases.items in
    let n = c.args.n.now in
    let body = c.in-Loop.body in
    let step = c.in-Loop.step in
    let old = c.args.heads.now.items in
    let second = c.heads_loop.new.heads.items in
    let head = c.in_ok-head-in-Loop.head in
    let d0 = c.deref-in-Loop.ensures.value in
    let d1 = c.deref-in-Loop-2.ensures.value in
    let w : HasHeadsWithin bs c.push.new.self.items second (nodes_view body.items) (nodes_view step.items) =
    subst (λ y. y) (λ j. HasHeadsWithin bs c.push.new.self.items second (nodes_view (d0 j)) (nodes_view (d1 j))) c.in_ok-head-in-Loop.ensures.heads in
    let is : IsHead bs (later_in head) (nodes_view body.items) (nodes_view step.items) = λ b i on e.
    c.in_ok-head-in-Loop.ensures.used b i on e ∙ (λ j. head_live i b (nodes_view (d0 j)) (nodes_view (d1 j)) on) in
    let place : length old ≡ c.len-place.result = (let e = c.len-place.ensures in omega (arith, e)) in
    subst (λ k. HasHeadsIn bs old (set second k head) (node_view n)) place
    (subst (λ y. HasHeadsIn bs old (set second (length old) head) y) (sym (loop_is n body step c.in-Loop.is))
    (heads_loop bs old _ second _ head n.place (nodes_view body.items) (nodes_view step.items) c.in_ok-push-in-Loop.ensures.items w is))

pub heads_loop-returns-clause-used : goal.heads_loop-returns-clause-used
heads_loop-returns-clause-used t c =
    let bs = c.args.homes.now.bases.items in
    let body = nodes_view c.args.body.now in
    let step = nodes_view c.args.step.now in
    let out = c.in_ok-out.out in
    let latch = c.in_ok-latch.latch in
    let start = c.in_ok-start.start in
    IfOk-weaker c.heads_row-2.result
    (λ l. TellsBy bs l (λ i b all. live i b body (lives_by start out latch i all)))
    (λ l. TellsBy bs l (λ i b all. head_live i b body step all))
    (λ l f b i all e.
    let few = (slot_found bs b i 0 e).0 in
    let o : later_in out all i ≡ all = c.in_ok-out.ensures all i (let n = c.len.ensures in omega (arith, few, n)) in
    head_by i b body step all (later_in l all i) (later_in latch all i) (later_in start all i) (later_in latch all i) (later_in c.nothing.result all i) (later_in c.nothing-end.result all i)
    (c.nothing.ensures all i) (c.nothing-end.ensures all i)
    (c.in_ok-latch.ensures.used b i all e ∙ (λ j. live i b step (lives (later_in c.nothing.result all i) (o j) (later_in c.nothing-end.result all i))))
    (c.in_ok-start.ensures all i) refl
    (f b i all e ∙ (λ j. live i b body (lives (later_in start all i) (o j) (later_in latch all i))))) c.heads_row-2.ensures.used

pub heads_loop-returns-clause-heads : goal.heads_loop-returns-clause-heads
heads_loop-returns-clause-heads t c =
    let bs = c.args.homes.now.bases.items in
    on_ok_weaker c.heads_row-2.result
    (λ b. heads_within bs c.args.heads.now.items c.heads_row.new.heads.items c.heads_row-2.new.heads.items (nodes_view c.args.body.now) (nodes_view c.args.step.now) c.in_ok-latch.ensures.heads b)
    c.heads_row-2.ensures.heads

pub heads_node-returns-in-Set-clause-used : goal.heads_node-returns-in-Set-clause-used
heads_node-returns-in-Set-clause-used t c =
    let l : is_plain (node_view c.args.n.now) ≡ true = elim c.in-Set.is [
      | inl (x, y, e) ↦ plain_of c.args.n.now _ e refl
      | inr (inl (x, e)) ↦ plain_of c.args.n.now _ e refl
      | inr (inr (inl (x, e))) ↦ plain_of c.args.n.now _ e refl
      | inr (inr (inr (x, y, e))) ↦ plain_of c.args.n.now _ e refl
    ] in
    act_by c.acted-in-Set.result c.args.homes.now.bases.items c.args.n.now c.args.on c.args.out.now c.args.end.now l c.acted-in-Set.ensures

pub heads_node-returns-in-Set-clause-heads : goal.heads_node-returns-in-Set-clause-heads
heads_node-returns-in-Set-clause-heads t c =
    let l : is_leaf (node_view c.args.n.now) ≡ true = elim c.in-Set.is [
      | inl (x, y, e) ↦ leaf_of c.args.n.now _ e refl
      | inr (inl (x, e)) ↦ leaf_of c.args.n.now _ e refl
      | inr (inr (inl (x, e))) ↦ leaf_of c.args.n.now _ e refl
      | inr (inr (inr (x, y, e))) ↦ leaf_of c.args.n.now _ e refl
    ] in
    always c.acted-in-Set.result (heads_leaf c.args.homes.now.bases.items c.args.heads.now.items (node_view c.args.n.now) l)

pub heads_node-returns-in-Safepoint-clause-used : goal.heads_node-returns-in-Safepoint-clause-used
heads_node-returns-in-Safepoint-clause-used t c =
    let l : is_plain (node_view c.args.n.now) ≡ true = elim c.in-Safepoint.is [
      | inl (x, e) ↦ plain_of c.args.n.now _ e refl
      | inr (inl (x, e)) ↦ plain_of c.args.n.now _ e refl
      | inr (inr (x, e)) ↦ plain_of c.args.n.now _ e refl
    ] in
    act_by c.acted.result c.args.homes.now.bases.items c.args.n.now c.args.on c.args.out.now c.args.end.now l c.acted.ensures

pub heads_node-returns-in-Safepoint-clause-heads : goal.heads_node-returns-in-Safepoint-clause-heads
heads_node-returns-in-Safepoint-clause-heads t c =
    let l : is_leaf (node_view c.args.n.now) ≡ true = elim c.in-Safepoint.is [
      | inl (x, e) ↦ leaf_of c.args.n.now _ e refl
      | inr (inl (x, e)) ↦ leaf_of c.args.n.now _ e refl
      | inr (inr (x, e)) ↦ leaf_of c.args.n.now _ e refl
    ] in
    always c.acted.result (heads_leaf c.args.homes.now.bases.items c.args.heads.now.items (node_view c.args.n.now) l)

pub heads_node-returns-in-Break-clause-used : goal.heads_node-returns-in-Break-clause-used
unfolding live
heads_node-returns-in-Break-clause-used t c =
    IfOk-weaker c.copied-in-Break.result (λ l. (all : Bool) (i : ℕ) → later_in l all i ≡ later_in c.args.out.now all i)
    (λ l. TellsBy c.args.homes.now.bases.items l (λ i b all. live_node i b (node_view c.args.n.now) (lives_by c.args.on c.args.out.now c.args.end.now i all)))
    (λ l f b i all e. f all i ∙ ap (λ k. live_node i b (kind_view c.args.n.now.place k) (lives_by c.args.on c.args.out.now c.args.end.now i all)) (sym c.in-Break.is)) c.copied-in-Break.ensures

pub heads_node-returns-in-Break-clause-heads : goal.heads_node-returns-in-Break-clause-heads
heads_node-returns-in-Break-clause-heads t c = always c.copied-in-Break.result (heads_leaf c.args.homes.now.bases.items c.args.heads.now.items (node_view c.args.n.now) (leaf_of c.args.n.now _ c.in-Break.is refl))

pub heads_node-returns-in-Next-clause-used : goal.heads_node-returns-in-Next-clause-used
unfolding live
heads_node-returns-in-Next-clause-used t c =
    IfOk-weaker c.copied-in-Next.result (λ l. (all : Bool) (i : ℕ) → later_in l all i ≡ later_in c.args.end.now all i)
    (λ l. TellsBy c.args.homes.now.bases.items l (λ i b all. live_node i b (node_view c.args.n.now) (lives_by c.args.on c.args.out.now c.args.end.now i all)))
    (λ l f b i all e. f all i ∙ ap (λ k. live_node i b (kind_view c.args.n.now.place k) (lives_by c.args.on c.args.out.now c.args.end.now i all)) (sym c.in-Next.is)) c.copied-in-Next.ensures

pub heads_node-returns-in-Next-clause-heads : goal.heads_node-returns-in-Next-clause-heads
heads_node-returns-in-Next-clause-heads t c = always c.copied-in-Next.result (heads_leaf c.args.homes.now.bases.items c.args.heads.now.items (node_view c.args.n.now) (leaf_of c.args.n.now _ c.in-Next.is refl))

pub heads_node-returns-in-Ret-clause-used : goal.heads_node-returns-in-Ret-clause-used
unfolding live
heads_node-returns-in-Ret-clause-used t c = λ b i all e.
    c.nothing-in-Ret.ensures all i ∙ ap (λ k. live_node i b (kind_view c.args.n.now.place k) (lives_by c.args.on c.args.out.now c.args.end.now i all)) (sym c.in-Ret.is)

pub heads_node-returns-in-Ret-clause-heads : goal.heads_node-returns-in-Ret-clause-heads
heads_node-returns-in-Ret-clause-heads t c = heads_leaf c.args.homes.now.bases.items c.args.heads.now.items (node_view c.args.n.now) (leaf_of c.args.n.now _ c.in-Ret.is refl)
