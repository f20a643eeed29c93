use Rattle.std.proofs.Common.{◌≡◌, ◌+◌, ℕ, sym, ap, refl, subst, ◌∙◌, arith}
use Rattle.struct_ir.specs.Structured.{row_size, node_size}
use Rattle.struct_ir.specs.Views.{node_view, nodes_view, followed}
use Rattle.struct_ir.proofs.Views.{if_is, loop_is}
use Rattle.pin_flow.specs.Marks.{Ways, at, in_turn, turned, end_state, head_of, flow}
use Rattle.pin_flow.specs.Held.{held}
use Rattle.pin_flow.proofs.FlowRows.{either_is, round_is, loop_from}
use Rattle.mark_sets.specs.Views.{sets_view, ways_view}
use Rattle.mark_sets.specs.Added.{loops, loops_in, set_at, AreAdded, AreAddedIn, IsAdded}
use Rattle.hoist_pass.specs.inner.Hoist.{dropped_all}
use Rattle.hoist_pass.specs.inner.Sets.{bit, has_bit, states, ways_by}
use Rattle.hoist_pass.proofs.ByBit.{join_by, on_by, either_by, turn_by, head_by}
use Rattle.hoist_pass.proofs.DroppedRows.{ways_begun, ways_more, ways_over, sizes_split, loops_split, added_split, loops_over, set_got, made_more, made_over, if_made, loop_made}
use Rattle.hoist_pass.proofs.dropping.+drops.Goals as goal

pub drop_node-drop_row-requires : goal.drop_node-drop_row-requires
drop_node-drop_row-requires t c =
    let is = if_is c.args.n c.in-If.temp c.in-If.one c.in-If.other c.in-If.is in
    let l = ap loops_in is in
    let w = c.requires.within in
    let z = ap node_size is in
    (omega (arith, z, c.decreases), (c.requires.own, (omega (arith, l, w), (subst (λ y. AreAddedIn c.args.marks.now c.args.sets.now c.args.next.now y) is c.requires.added).0)))

pub drop_node-drop_row-requires-in-If : goal.drop_node-drop_row-requires-in-If
drop_node-drop_row-requires-in-If t c =
    let is = if_is c.args.n c.in-If.temp c.in-If.one c.in-If.other c.in-If.is in
    let l = ap loops_in is in
    let w = c.requires.within in
    let e = c.in_ok-first-in-If.ensures.next in
    let z = ap node_size is in
    (omega (arith, z, c.decreases), (c.requires.own, (omega (arith, l, w, e), subst (λ k. AreAdded c.args.marks.now c.args.sets.now k (nodes_view c.in-If.other.items)) (sym e) (subst (λ y. AreAddedIn c.args.marks.now c.args.sets.now c.args.next.now y) is c.requires.added).1)))

pub drop_node-drop_row-requires-in-Loop : goal.drop_node-drop_row-requires-in-Loop
drop_node-drop_row-requires-in-Loop t c =
    let is = loop_is c.args.n c.in-Loop.body c.in-Loop.step c.in-Loop.is in
    let l = ap loops_in is in
    let w = c.requires.within in
    let z = ap node_size is in
    (omega (arith, z, c.decreases), (c.requires.own, (omega (arith, l, w), subst (λ k. AreAdded c.args.marks.now c.args.sets.now k (nodes_view c.in-Loop.body.items)) (omega arith) (subst (λ y. AreAddedIn c.args.marks.now c.args.sets.now c.args.next.now y) is c.requires.added).1)))

pub drop_node-drop_row-requires-in-Loop-2 : goal.drop_node-drop_row-requires-in-Loop-2
drop_node-drop_row-requires-in-Loop-2 t c =
    let is = loop_is c.args.n c.in-Loop.body c.in-Loop.step c.in-Loop.is in
    let l = ap loops_in is in
    let w = c.requires.within in
    let e = c.in_ok-first-in-Loop.ensures.next in
    let z = ap node_size is in
    (omega (arith, z, c.decreases), (c.requires.own, (omega (arith, l, w, e), subst (λ k. AreAdded c.args.marks.now c.args.sets.now k (nodes_view c.in-Loop.step.items)) (omega (arith, e)) (subst (λ y. AreAddedIn c.args.marks.now c.args.sets.now c.args.next.now y) is c.requires.added).2)))

pub drop_node-returns-in_ok-second-in-If-clause-next : goal.drop_node-returns-in_ok-second-in-If-clause-next
drop_node-returns-in_ok-second-in-If-clause-next t c =
    let n = c.args.n in
    let l = ap loops_in (if_is n c.in-If.temp c.in-If.one c.in-If.other c.in-If.is) in
    let d = c.in_ok-first-in-If.ensures.next in
    let e = c.in_ok-second-in-If.ensures.next in
    omega (arith, l, d, e)

pub drop_node-returns-in_ok-second-in-If-clause-ways : goal.drop_node-returns-in_ok-second-in-If-clause-ways
drop_node-returns-in_ok-second-in-If-clause-ways t c = λ b.
    let x = c.args.marks.now in
    let n = c.args.n in
    let o = bit x b in
    let m = held b in
    let one = c.in-If.one in
    let other = c.in-If.other in
    let a = ways_view c.args.ahead in
    let s = states x (sets_view c.args.ahead.on) b in
    let first = ways_view c.in_ok-first-in-If.first.ways in
    let second = ways_view c.in_ok-second-in-If.second.ways in
    let f : ways_by o first ≡ flow m (nodes_view one.items) s = c.in_ok-first-in-If.ensures.ways b ∙ (λ j. flow m (nodes_view one.items) (states x (c.in_ok-start-in-If.ensures j) b)) in
    let g : ways_by o second ≡ flow m (nodes_view other.items) s = c.in_ok-second-in-If.ensures.ways b ∙ (λ j. flow m (nodes_view other.items) (states x (c.in_ok-again-in-If.ensures j) b)) in
    turn_by (ways_view c.one_behind-ways.result) a (ways_view c.both_ways.result) c.one_behind-ways.ensures o
    ∙ ap (in_turn (ways_by o a)) (either_is m n c.in-If.temp one other s (ways_by o first) (ways_by o second) (ways_by o (ways_view c.both_ways.result)) c.in-If.is f g (either_by (ways_view c.both_ways.result) first second c.both_ways.ensures o))

pub drop_node-returns-in_ok-second-in-If-clause-node : goal.drop_node-returns-in_ok-second-in-If-clause-node
drop_node-returns-in_ok-second-in-If-clause-node t c =
    let x = c.args.marks.now in
    let n = c.args.n in
    let one = c.in-If.one in
    let other = c.in-If.other in
    if_made x n.place c.in-If.temp (nodes_view one.items) (nodes_view other.items) (nodes_view c.in_ok-first-in-If.first.rows.items) (nodes_view c.in_ok-second-in-If.second.rows.items)
    (node_view n) (node_view c.branches-node.result) (sets_view c.args.ahead.on) (sets_view c.in_ok-start-in-If.start) (sets_view c.in_ok-again-in-If.again)
    (if_is n c.in-If.temp one other c.in-If.is) c.branches-node.ensures c.in_ok-start-in-If.ensures c.in_ok-again-in-If.ensures c.in_ok-first-in-If.ensures.rows c.in_ok-second-in-If.ensures.rows

pub drop_node-returns-in_ok-second-in-Loop-clause-next : goal.drop_node-returns-in_ok-second-in-Loop-clause-next
drop_node-returns-in_ok-second-in-Loop-clause-next t c =
    let n = c.args.n in
    let l = ap loops_in (loop_is n c.in-Loop.body c.in-Loop.step c.in-Loop.is) in
    let d = c.in_ok-first-in-Loop.ensures.next in
    let e = c.in_ok-second-in-Loop.ensures.next in
    omega (arith, l, d, e)

pub drop_node-returns-in_ok-second-in-Loop-clause-ways : goal.drop_node-returns-in_ok-second-in-Loop-clause-ways
drop_node-returns-in_ok-second-in-Loop-clause-ways t c = λ b.
    let x = c.args.marks.now in
    let n = c.args.n in
    let body = c.in-Loop.body in
    let step = c.in-Loop.step in
    let bs = nodes_view body.items in
    let ls = nodes_view step.items in
    let on = sets_view c.args.ahead.on in
    let hs = sets_view c.in_ok-head-in-Loop.head in
    let zs = sets_view c.joined-end.result in
    let fw = c.in_ok-first-in-Loop.field-0.ways in
    let is = loop_is n body step c.in-Loop.is in
    let l = ap loops_in is in
    let w = c.requires.within in
    let added = subst (λ y. AreAddedIn x c.args.sets.now c.args.next.now y) is c.requires.added in
    let words : c.deref.result.now ≡ set_at c.args.sets.now c.args.next.now = c.deref.ensures.value ∙ set_got c.args.sets.now c.args.next.now c.index-sets-next.result (omega (arith, l, w)) c.index-sets-next.is in
    let known : IsAdded x c.deref.result.now bs ls = subst (λ k. IsAdded x k bs ls) (sym words) added.0 in
    let head : (b : ℕ) → states x hs b ≡ head_of (flow (held b) bs) (flow (held b) ls) (states x on b) = λ b.
    head_by x c.deref.result.now bs ls hs (sets_view c.in_ok-start-in-Loop.start) known c.in_ok-head-in-Loop.ensures b (bit x b) refl ∙ (λ j. head_of (flow (held b) bs) (flow (held b) ls) (states x (c.in_ok-start-in-Loop.ensures j) b)) in
    let left : (b : ℕ) → ways_by (bit x b) (ways_view fw) ≡ flow (held b) bs (states x hs b) = λ b. c.in_ok-first-in-Loop.ensures.ways b in
    let ended : (b : ℕ) → states x zs b ≡ end_state (ways_by (bit x b) (ways_view fw)) = λ b. join_by zs (sets_view fw.on) (sets_view fw.next) c.joined-end.ensures (bit x b) in
    let sw = c.in_ok-second-in-Loop.field-0.ways in
    let o = bit x b in
    let m = held b in
    let a = ways_view c.args.ahead in
    let s = states x on b in
    let h = states x hs b in
    let z = states x zs b in
    let first = ways_by o (ways_view fw) in
    let second = ways_by o (ways_view sw) in
    let around : second ≡ flow m ls z = c.in_ok-second-in-Loop.ensures.ways b in
    let round = round_is m bs ls h z first second (turned first second) (left b) (ended b) around refl in
    let behind = ways_view c.all_on-behind.result in
    let out : ways_by o behind ≡ at (turned first second).broken = on_by behind (sets_view c.joined.result) c.all_on-behind.ensures o ∙ ap at (join_by (sets_view c.joined.result) (sets_view fw.broken) (sets_view sw.broken) c.joined.ensures o) in
    turn_by (ways_view c.one_behind-ways-in-Loop.result) a behind c.one_behind-ways-in-Loop.ensures o
    ∙ ap (in_turn (ways_by o a)) (loop_from m n body step s h (turned first second) (ways_by o behind) c.in-Loop.is (head b) round out)

pub drop_node-returns-in_ok-second-in-Loop-clause-node : goal.drop_node-returns-in_ok-second-in-Loop-clause-node
drop_node-returns-in_ok-second-in-Loop-clause-node t c =
    let x = c.args.marks.now in
    let n = c.args.n in
    let body = c.in-Loop.body in
    let step = c.in-Loop.step in
    let bs = nodes_view body.items in
    let ls = nodes_view step.items in
    let on = sets_view c.args.ahead.on in
    let hs = sets_view c.in_ok-head-in-Loop.head in
    let zs = sets_view c.joined-end.result in
    let fw = c.in_ok-first-in-Loop.field-0.ways in
    let is = loop_is n body step c.in-Loop.is in
    let l = ap loops_in is in
    let w = c.requires.within in
    let added = subst (λ y. AreAddedIn x c.args.sets.now c.args.next.now y) is c.requires.added in
    let words : c.deref.result.now ≡ set_at c.args.sets.now c.args.next.now = c.deref.ensures.value ∙ set_got c.args.sets.now c.args.next.now c.index-sets-next.result (omega (arith, l, w)) c.index-sets-next.is in
    let known : IsAdded x c.deref.result.now bs ls = subst (λ k. IsAdded x k bs ls) (sym words) added.0 in
    let head : (b : ℕ) → states x hs b ≡ head_of (flow (held b) bs) (flow (held b) ls) (states x on b) = λ b.
    head_by x c.deref.result.now bs ls hs (sets_view c.in_ok-start-in-Loop.start) known c.in_ok-head-in-Loop.ensures b (bit x b) refl ∙ (λ j. head_of (flow (held b) bs) (flow (held b) ls) (states x (c.in_ok-start-in-Loop.ensures j) b)) in
    let left : (b : ℕ) → ways_by (bit x b) (ways_view fw) ≡ flow (held b) bs (states x hs b) = λ b. c.in_ok-first-in-Loop.ensures.ways b in
    let ended : (b : ℕ) → states x zs b ≡ end_state (ways_by (bit x b) (ways_view fw)) = λ b. join_by zs (sets_view fw.on) (sets_view fw.next) c.joined-end.ensures (bit x b) in
    loop_made x n.place bs ls (nodes_view c.in_ok-first-in-Loop.field-0.rows.items) (nodes_view c.in_ok-second-in-Loop.field-0.rows.items) (node_view n) (node_view c.rounds-node.result) on hs zs is c.rounds-node.ensures head
    (λ b. ended b ∙ ap end_state (left b)) c.in_ok-first-in-Loop.ensures.rows
    c.in_ok-second-in-Loop.ensures.rows

pub drop_row-loop-n-init : goal.drop_row-loop-n-init
drop_row-loop-n-init t c =
    let x = c.args.marks.now in
    let rows = c.args.rows.items in
    let e : c.into_iter-n-iterator.result.rest.items ≡ rows = c.into_iter-n-iterator.ensures.into_iter_gives.0 in
    let before = sets_view c.args.before in
    let ahead = ways_view c.all_on-ahead.result in
    let all : (b : ℕ) → ways_by (bit x b) ahead ≡ at (states x before b) = λ b. on_by ahead before c.all_on-ahead.ensures (bit x b) in
    record {
      size = let z = ap (λ l. row_size (nodes_view l)) e in omega (arith, z);
      next = ap (λ l. c.args.next.now + loops (nodes_view l)) e;
      added = subst (λ l. AreAdded x c.args.sets.now c.args.next.now (nodes_view l)) (sym e) c.requires.added;
      ways = λ b. ap (λ l. in_turn (ways_by (bit x b) ahead) (flow (held b) (nodes_view l) (ways_by (bit x b) ahead).on)) e ∙ ways_begun (held b) (nodes_view rows) (ways_by (bit x b) ahead) (states x before b) (all b);
      made = λ i. followed (c.in_ok-out.ensures.items i) (dropped_all (has_bit x) (nodes_view (e i)) (λ b. (all b i).on));
    }

pub drop_row-drop_node-requires : goal.drop_row-drop_node-requires
drop_row-drop_node-requires t c =
    let l = loops_split c.loop-n.n-iterator.rest.items c.next.new.self.rest.items c.in-Some.n c.in-Some.ensures.steps.0 in
    let i = c.loop-n.invariant.next in
    let w = c.requires.within in
    let z = sizes_split c.loop-n.n-iterator.rest.items c.next.new.self.rest.items c.in-Some.n c.in-Some.ensures.steps.0 in
    let y = c.loop-n.invariant.size in
    (omega (arith, z, y, c.decreases), (c.requires.own, (omega (arith, l, i, w), (added_split c.args.marks.now c.args.sets.now c.loop-n.next c.loop-n.n-iterator.rest.items c.next.new.self.rest.items c.in-Some.n c.in-Some.ensures.steps.0 c.loop-n.invariant.added).0)))

pub drop_row-loop-n-preserved : goal.drop_row-loop-n-preserved
drop_row-loop-n-preserved t c =
    let x = c.args.marks.now in
    let old = c.loop-n.n-iterator.rest.items in
    let rest = c.next.new.self.rest.items in
    let n = c.in-Some.n in
    let s = c.in-Some.ensures.steps.0 in
    let l = loops_split old rest n s in
    let i = c.loop-n.invariant.next in
    let e = c.in_ok-passed.ensures.next in
    let z = sizes_split old rest n s in
    let y = c.loop-n.invariant.size in
    record {
      size = omega (arith, z, y);
      next = omega (arith, l, i, e);
      added = subst (λ k. AreAdded x c.args.sets.now k (nodes_view rest)) (sym e) (added_split x c.args.sets.now c.loop-n.next old rest n s c.loop-n.invariant.added).1;
      ways = λ b. ways_more (held b) old rest n (ways_by (bit x b) (ways_view c.loop-n.ahead)) (ways_by (bit x b) (ways_view c.in_ok-passed.passed.ways)) _ s (c.loop-n.invariant.ways b) (c.in_ok-passed.ensures.ways b);
      made = made_more x c.loop-n.out.items c.add_if.new.out.items old rest n c.stays-kept.result (node_view c.in_ok-passed.passed.node) (sets_view c.loop-n.ahead.on) (sets_view c.in_ok-passed.passed.ways.on) _ s
          c.in_ok-add_if.ensures c.stays-kept.ensures c.in_ok-passed.ensures.node (λ b. ap (λ (o : Ways). o.on) (c.in_ok-passed.ensures.ways b)) c.loop-n.invariant.made;
    }

pub drop_row-returns-clause-next : goal.drop_row-returns-clause-next
drop_row-returns-clause-next t c =
    let h = c.in-None.ensures.steps.0 in
    let k = c.loop-n.n-iterator.rest.ok.0 in
    let z = loops_over c.loop-n.n-iterator.rest.items (omega (arith, h, k)) in
    let i = c.loop-n.invariant.next in
    omega (arith, z, i)

pub drop_row-returns-clause-ways : goal.drop_row-returns-clause-ways
drop_row-returns-clause-ways t c = λ b.
    let h = c.in-None.ensures.steps.0 in
    let k = c.loop-n.n-iterator.rest.ok.0 in
    ways_over (held b) c.loop-n.n-iterator.rest.items (ways_by (bit c.args.marks.now b) (ways_view c.loop-n.ahead)) _ (omega (arith, h, k)) (c.loop-n.invariant.ways b)

pub drop_row-returns-clause-rows : goal.drop_row-returns-clause-rows
drop_row-returns-clause-rows t c =
    let h = c.in-None.ensures.steps.0 in
    let k = c.loop-n.n-iterator.rest.ok.0 in
    made_over c.args.marks.now c.loop-n.out.items c.loop-n.n-iterator.rest.items (sets_view c.loop-n.ahead.on) _ (omega (arith, h, k)) c.loop-n.invariant.made
