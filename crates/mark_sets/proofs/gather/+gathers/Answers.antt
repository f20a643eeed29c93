use Rattle.std.proofs.Common.{◌≡◌, ℕ, List, set, length, arith, true, false, refl, sym, ap, ◌∙◌, inl, inr, subst, Result, Ok, Err, IfOk, OnOk}
use Rattle.std.specs.Global.{Vec}
use Rattle.struct_ir.specs.declared.code.Node.{Node as CodeNode}
use Rattle.struct_ir.specs.Views.{node_view, nodes_view}
use Rattle.struct_ir.proofs.Views.{if_is, loop_is}
use Rattle.pin_flow.specs.Marks.{AllPaths, Ways, ways, unreached, state_of, in_turn, end_state, flow, flow_node, round_of, head_of}
use Rattle.pin_flow.specs.Marks as flows
use Rattle.pin_flow.specs.Views.{mark_view, leaf}
use Rattle.pin_flow.proofs.Order.{flow_idle}
use Rattle.pin_flow.proofs.FlowRows.{row_on, row_over, either_is, loop_from, is_leaf, leaf_of, leaf_is}
use Rattle.mark_sets.specs.Sets.{state_at, ways_at, Both}
use Rattle.mark_sets.specs.declared.marks.Marks.{Marks}
use Rattle.mark_sets.specs.declared.pairs.PairWays.{PairWays}
use Rattle.mark_sets.specs.Views.{pairs_view, pair_ways_view, is_bad, led, GoesOn}
use Rattle.mark_sets.specs.Words.{has}
use Rattle.mark_sets.specs.Added.{Gathers, GathersIn, IsAdded}
use Rattle.mark_sets.proofs.Bits.{bits_of}
use Rattle.mark_sets.proofs.Rounds.{IsFlow, round_on, round_broken, head_is, loop_is_left}
use Rattle.mark_sets.proofs.AddedRows.{gathers_none, gathers_at, gathers_all, gathers_leaf, gathers_if, gathers_loop, gathers_of}
use Rattle.mark_sets.proofs.gather.+gathers.Goals as goal

-- a node that holds no others
leaf_whole : {E : Type 0} (x : Marks) (s : List (Vec ℕ)) (n : CodeNode) (a : PairWays) (r : Result PairWays E) → is_leaf (node_view n) ≡ true → IfOk r (λ o. GoesOn x (pair_ways_view a) (λ m t. leaf m (node_view n) t) (pair_ways_view o))
    → (IfOk r (λ o. GoesOn x (pair_ways_view a) (λ m t. flow_node m (node_view n) t) (pair_ways_view o))) × (OnOk r (GathersIn x s s (node_view n)))
leaf_whole x s n a (Ok o) l f =
    (λ k i v e. f k i v e ∙ ap (in_turn (ways_at (i, v) (pair_ways_view a))) (leaf_is (mark_view k) n (state_at (i, v) (pairs_view a.on)) (leaf (mark_view k) (node_view n) (state_at (i, v) (pairs_view a.on))) l refl), gathers_leaf x s (node_view n) l)
leaf_whole x s n a (Err e) l f = (tt, tt)

pub gather_row-loop-n-init : goal.gather_row-loop-n-init
gather_row-loop-n-init t c = record { ways = λ k i v e. refl; sets = gathers_none c.args.marks.now c.args.sets.now.items }

pub gather_row-loop-n-preserved : goal.gather_row-loop-n-preserved
gather_row-loop-n-preserved t c =
    let x = c.args.marks.now in
    let rows = c.args.rows.now in
    let j = c.loop-n.n-index in
    let n = c.n-item.result in
    record {
      ways = λ k i v e.
          let m = mark_view k in
          let a = ways_at (i, v) (pair_ways_view c.loop-n.ahead) in
          row_on m rows j n a (ways_at (i, v) (pair_ways_view c.in_ok-ahead.ahead)) _ _ c.loop-n-test.true c.n-item.is (c.loop-n.invariant.ways k i v e) refl (c.in_ok-ahead.ensures.ways k i v e);
      sets = gathers_at x c.args.sets.now.items c.loop-n.sets.items c.gather_node.new.sets.items rows j n c.loop-n-test.true c.n-item.is c.loop-n.invariant.sets c.in_ok-ahead.ensures.sets;
    }

pub gather_row-returns : goal.gather_row-returns
gather_row-returns t c = record {
  ways = λ k i v e. row_over (mark_view k) c.args.rows.now c.loop-n.n-index (ways_at (i, v) (pair_ways_view c.loop-n.ahead)) _ c.loop-n-test.false (c.loop-n.invariant.ways k i v e);
  sets = gathers_all c.args.marks.now c.args.sets.now.items c.loop-n.sets.items c.args.rows.now c.loop-n.n-index c.loop-n-test.false c.loop-n.invariant.sets;
}

pub gather_node-returns-in_ok-second-in-If : goal.gather_node-returns-in_ok-second-in-If
gather_node-returns-in_ok-second-in-If t c =
    let x = c.args.marks.now in
    let n = c.args.n.now in
    let one = c.in-If.one in
    let other = c.in-If.other in
    record {
      ways = λ k i v e.
          let m = mark_view k in
          let p : Both ℕ = (i, v) in
          let s = state_at p (pairs_view c.args.ahead.on) in
          let first = ways_at p (pair_ways_view c.in_ok-first-in-If.first) in
          let second = ways_at p (pair_ways_view c.in_ok-second-in-If.second) in
          let f : first ≡ flow m (nodes_view one.items) s = c.in_ok-first-in-If.ensures.ways k i v e ∙ (λ j. flow m (nodes_view (c.deref.ensures.value j)) (state_at p (c.in_ok-start-in-If.ensures j))) in
          let g : second ≡ flow m (nodes_view other.items) s = c.in_ok-second-in-If.ensures.ways k i v e ∙ (λ j. flow m (nodes_view (c.deref-in-If.ensures.value j)) (state_at p (c.in_ok-again-in-If.ensures j))) in
          c.one_behind.ensures i v
          ∙ ap (in_turn (ways_at p (pair_ways_view c.args.ahead))) (either_is m n c.in-If.field-0 one other s first second (ways_at p (pair_ways_view c.both_ways.result)) c.in-If.is f g (c.both_ways.ensures i v));
      sets =
          let a = subst (λ l. Gathers x c.args.sets.now.items c.gather_row.new.sets.items (nodes_view l)) c.deref.ensures.value c.in_ok-first-in-If.ensures.sets in
          let b = subst (λ l. Gathers x c.gather_row.new.sets.items c.gather_row-in-If.new.sets.items (nodes_view l)) c.deref-in-If.ensures.value c.in_ok-second-in-If.ensures.sets in
          subst (λ y. GathersIn x c.args.sets.now.items c.gather_row-in-If.new.sets.items y) (sym (if_is n c.in-If.field-0 one other c.in-If.is))
          (gathers_if x c.args.sets.now.items c.gather_row.new.sets.items c.gather_row-in-If.new.sets.items n.place c.in-If.field-0 (nodes_view one.items) (nodes_view other.items) a b);
    }

pub gather_node-returns-in_ok-behind-in-Loop-clause-ways : goal.gather_node-returns-in_ok-behind-in-Loop-clause-ways
gather_node-returns-in_ok-behind-in-Loop-clause-ways t c = λ k i v e.
    let x = c.args.marks.now in
    let n = c.args.n.now in
    let body = c.in-Loop.body in
    let step = c.in-Loop.step in
    let o = pair_ways_view c.in_ok-first-in-Loop.first in
    let s = pair_ways_view c.in_ok-second-in-Loop.second in
    let round = c.in_ok-round-in-Loop.round in
    let old = c.args.sets.now.items in
    let m = mark_view k in
    let p : Both ℕ = (i, v) in
    let u = state_at p (pairs_view c.args.ahead.on) in
    let f = flow m (nodes_view body.items) in
    let g = flow m (nodes_view step.items) in
    let few = (bits_of c.requires).few k i e in
    let isf : IsFlow o i f = λ w. c.in_ok-first-in-Loop.ensures.ways k i w e ∙ (λ j. flow m (nodes_view (c.deref-in-Loop.ensures.value j)) (c.in_ok-start-in-Loop.ensures i w few j)) in
    let isg : IsFlow s i g = λ w. c.in_ok-second-in-Loop.ensures.ways k i w e ∙ (λ j. flow m (nodes_view (c.deref-in-Loop-2.ensures.value j)) (c.in_ok-again-in-Loop.ensures i w few j)) in
    let idf = flow_idle m (nodes_view body.items) in
    let idg = flow_idle m (nodes_view step.items) in
    let on = round_on o s i f g isf isg idg true (state_at (i, true) (pairs_view round.on)) (c.in_ok-round-in-Loop.ensures.on i true) in
    let adds = c.added-adds.ensures i ∙ ap is_bad on in
    let good_one = round_broken o s i f g isf isg idg true (state_at (i, true) (pairs_view round.broken)) (c.in_ok-round-in-Loop.ensures.broken i true) in
    let bad_one = round_broken o s i f g isf isg idg false (state_at (i, false) (pairs_view round.broken)) (c.in_ok-round-in-Loop.ensures.broken i false) in
    let read = ap (λ l. has l i) c.deref-in-Loop-3.ensures.value in
    let head = head_is f g idf idg (has c.deref-in-Loop-3.result.now i) u (read ∙ adds) in
    let h = head_of f g u in
    let left : state_at p (pairs_view c.in_ok-behind-in-Loop.behind) ≡ (round_of f g h).broken =
    c.in_ok-behind-in-Loop.ensures i v
    ∙ (ap (led (state_at (i, true) (pairs_view round.broken)) (state_at (i, false) (pairs_view round.broken))) head
    ∙ loop_is_left f g idf idg (state_at (i, true) (pairs_view round.broken)) (state_at (i, false) (pairs_view round.broken)) h good_one bad_one) in
    c.on_to.ensures i v
    ∙ ap (in_turn (ways_at p (pair_ways_view c.args.ahead)))
    (loop_from m n body step u h (round_of f g h) (flows.at (state_at p (pairs_view c.in_ok-behind-in-Loop.behind))) c.in-Loop.is refl refl (ap flows.at left))

pub gather_node-returns-in_ok-behind-in-Loop-clause-sets : goal.gather_node-returns-in_ok-behind-in-Loop-clause-sets
gather_node-returns-in_ok-behind-in-Loop-clause-sets t c =
    let x = c.args.marks.now in
    let n = c.args.n.now in
    let body = c.in-Loop.body in
    let step = c.in-Loop.step in
    let o = pair_ways_view c.in_ok-first-in-Loop.first in
    let s = pair_ways_view c.in_ok-second-in-Loop.second in
    let round = c.in_ok-round-in-Loop.round in
    let old = c.args.sets.now.items in
    let second = c.gather_row-in-Loop.new.sets.items in
    let third = c.gather_row-in-Loop-2.new.sets.items in
    let a = gathers_of c.deref-in-Loop.ensures.value c.in_ok-first-in-Loop.ensures.sets in
    let b = gathers_of c.deref-in-Loop-2.ensures.value c.in_ok-second-in-Loop.ensures.sets in
    let is : IsAdded x c.added-adds.result.items (nodes_view body.items) (nodes_view step.items) = λ k i e.
    let m = mark_view k in
    let f = flow m (nodes_view body.items) in
    let g = flow m (nodes_view step.items) in
    let few = (bits_of c.requires).few k i e in
    let isf : IsFlow o i f = λ w. c.in_ok-first-in-Loop.ensures.ways k i w e ∙ (λ j. flow m (nodes_view (c.deref-in-Loop.ensures.value j)) (c.in_ok-start-in-Loop.ensures i w few j)) in
    let isg : IsFlow s i g = λ w. c.in_ok-second-in-Loop.ensures.ways k i w e ∙ (λ j. flow m (nodes_view (c.deref-in-Loop-2.ensures.value j)) (c.in_ok-again-in-Loop.ensures i w few j)) in
    c.added-adds.ensures i ∙ ap is_bad (round_on o s i f g isf isg (flow_idle m (nodes_view step.items)) true (state_at (i, true) (pairs_view round.on)) (c.in_ok-round-in-Loop.ensures.on i true)) in
    let place : length old ≡ c.len-place.result = (let e = c.len-place.ensures in omega (arith, e)) in
    subst (λ k. GathersIn x old (set third k c.added-adds.result) (node_view n)) place
    (subst (λ y. GathersIn x old (set third (length old) c.added-adds.result) y) (sym (loop_is n body step c.in-Loop.is))
    (gathers_loop x old _ second third _ c.added-adds.result n.place (nodes_view body.items) (nodes_view step.items) c.in_ok-push-in-Loop.ensures.items a b is))

pub gather_node-returns-in-Set-clause-ways : goal.gather_node-returns-in-Set-clause-ways
gather_node-returns-in-Set-clause-ways t c =
    let l : is_leaf (node_view c.args.n.now) ≡ true = elim c.in-Set.is [
      | inl (x, y, e) ↦ leaf_of c.args.n.now _ e refl
      | inr (inl (x, e)) ↦ leaf_of c.args.n.now _ e refl
      | inr (inr (inl (x, e))) ↦ leaf_of c.args.n.now _ e refl
      | inr (inr (inr (x, y, e))) ↦ leaf_of c.args.n.now _ e refl
    ] in
    (leaf_whole c.args.marks.now c.args.sets.now.items c.args.n.now c.args.ahead c.leaf-in-Set.result l c.leaf-in-Set.ensures).0

pub gather_node-returns-in-Set-clause-sets : goal.gather_node-returns-in-Set-clause-sets
gather_node-returns-in-Set-clause-sets t c =
    let l : is_leaf (node_view c.args.n.now) ≡ true = elim c.in-Set.is [
      | inl (x, y, e) ↦ leaf_of c.args.n.now _ e refl
      | inr (inl (x, e)) ↦ leaf_of c.args.n.now _ e refl
      | inr (inr (inl (x, e))) ↦ leaf_of c.args.n.now _ e refl
      | inr (inr (inr (x, y, e))) ↦ leaf_of c.args.n.now _ e refl
    ] in
    (leaf_whole c.args.marks.now c.args.sets.now.items c.args.n.now c.args.ahead c.leaf-in-Set.result l c.leaf-in-Set.ensures).1

pub gather_node-returns-in-Safepoint-clause-ways : goal.gather_node-returns-in-Safepoint-clause-ways
gather_node-returns-in-Safepoint-clause-ways t c =
    let l : is_leaf (node_view c.args.n.now) ≡ true = elim c.in-Safepoint.is [
      | inl (x, e) ↦ leaf_of c.args.n.now _ e refl
      | inr (inl (x, e)) ↦ leaf_of c.args.n.now _ e refl
      | inr (inr (x, e)) ↦ leaf_of c.args.n.now _ e refl
    ] in
    (leaf_whole c.args.marks.now c.args.sets.now.items c.args.n.now c.args.ahead c.leaf-in-Safepoint.result l c.leaf-in-Safepoint.ensures).0

pub gather_node-returns-in-Safepoint-clause-sets : goal.gather_node-returns-in-Safepoint-clause-sets
gather_node-returns-in-Safepoint-clause-sets t c =
    let l : is_leaf (node_view c.args.n.now) ≡ true = elim c.in-Safepoint.is [
      | inl (x, e) ↦ leaf_of c.args.n.now _ e refl
      | inr (inl (x, e)) ↦ leaf_of c.args.n.now _ e refl
      | inr (inr (x, e)) ↦ leaf_of c.args.n.now _ e refl
    ] in
    (leaf_whole c.args.marks.now c.args.sets.now.items c.args.n.now c.args.ahead c.leaf-in-Safepoint.result l c.leaf-in-Safepoint.ensures).1

pub gather_node-returns-in-Break-clause-ways : goal.gather_node-returns-in-Break-clause-ways
gather_node-returns-in-Break-clause-ways t c =
    let l : is_leaf (node_view c.args.n.now) ≡ true = elim c.in-Break.is [
      | inl e ↦ leaf_of c.args.n.now _ e refl
      | inr (inl e) ↦ leaf_of c.args.n.now _ e refl
      | inr (inr (x, e)) ↦ leaf_of c.args.n.now _ e refl
    ] in
    (leaf_whole c.args.marks.now c.args.sets.now.items c.args.n.now c.args.ahead c.leaf.result l c.leaf.ensures).0

pub gather_node-returns-in-Break-clause-sets : goal.gather_node-returns-in-Break-clause-sets
gather_node-returns-in-Break-clause-sets t c =
    let l : is_leaf (node_view c.args.n.now) ≡ true = elim c.in-Break.is [
      | inl e ↦ leaf_of c.args.n.now _ e refl
      | inr (inl e) ↦ leaf_of c.args.n.now _ e refl
      | inr (inr (x, e)) ↦ leaf_of c.args.n.now _ e refl
    ] in
    (leaf_whole c.args.marks.now c.args.sets.now.items c.args.n.now c.args.ahead c.leaf.result l c.leaf.ensures).1
