-- Each mark's part of the sets is that mark's own state.
use Rattle.std.proofs.Common.{◌≡◌, Bool, true, false, refl, sym, ap, ◌∙◌}
use Rattle.std.specs.Prelude.{◌||◌, not}
use Rattle.struct_ir.specs.Nodes.{Node, plain, if_, loop, break_, next_, ret, Nodes, no_nodes, more_nodes}
use Rattle.pin_flow.specs.Marks.{Mark, AllPaths, unreached, good, join, state_of, after, Ways, ways, at, either, in_turn, end_state, turned, round_of, head_of, flow, flow_node}
use Rattle.pin_flow.proofs.Order.{flow_idle}
use Rattle.mark_sets.specs.Sets.{Sets, nowhere, bads, state_at, union, after_all, AllWays, ways_at, either_all, in_turn_all, end_all, turned_all, Both, begins, through, ways_through, round_through, killed_in, killed, with_killed, loop_through, all_flow, all_flow_node, summary}

not_or : (a b : Bool) → state_of (not (a || b)) ≡ join (state_of (not a)) (state_of (not b))
not_or true true = refl
not_or true false = refl
not_or false true = refl
not_or false false = refl

pub not_not : (v : Bool) → not (not v) ≡ v
not_not true = refl
not_not false = refl

union_at : {I : Type 0} (i : I) (t u : Sets I) → state_at i (union t u) ≡ join (state_at i t) (state_at i u)
union_at i nowhere u = refl
union_at i (bads f) nowhere = elim (f i) as (λ x. state_of (not x) ≡ join (state_of (not x)) unreached) [
  | true ↦ refl
  | false ↦ refl
]
union_at i (bads f) (bads g) = not_or (f i) (g i)

pub after_state : (f : Bool → Bool) (v : Bool) → state_of (f v) ≡ after f (state_of v)
after_state f true = refl
after_state f false = refl

pub after_at : {I : Type 0} (c : I → Bool → Bool) (i : I) (t : Sets I) → state_at i (after_all c t) ≡ after (c i) (state_at i t)
after_at c i nowhere = refl
after_at c i (bads f) = ap state_of (not_not (c i (not (f i)))) ∙ after_state (c i) (not (f i))

pub ways_same : (a b c a' b' c' : AllPaths) → a ≡ a' → b ≡ b' → c ≡ c' → ways a b c ≡ ways a' b' c'
ways_same a b c a' b' c' e f g = rw (e, f, g) refl

pub either_at : {I : Type 0} (i : I) (o p : AllWays I) → ways_at i (either_all o p) ≡ either (ways_at i o) (ways_at i p)
either_at i o p = ways_same _ _ _ _ _ _ (union_at i o.on p.on) (union_at i o.broken p.broken) (union_at i o.next p.next)

pub in_turn_at : {I : Type 0} (i : I) (o p : AllWays I) → ways_at i (in_turn_all o p) ≡ in_turn (ways_at i o) (ways_at i p)
in_turn_at i o p = ways_same _ _ _ _ _ _ refl (union_at i o.broken p.broken) (union_at i o.next p.next)

pub end_at : {I : Type 0} (i : I) (o : AllWays I) → state_at i (end_all o) ≡ end_state (ways_at i o)
end_at i o = union_at i o.on o.next

pub turned_at : {I : Type 0} (i : I) (o p : AllWays I) → ways_at i (turned_all o p) ≡ turned (ways_at i o) (ways_at i p)
turned_at i o p = ways_same _ _ _ _ _ _ (end_at i p) (union_at i o.broken p.broken) refl

-- ---- what a summary makes of a set

-- at a set that says no to these
through_at : {I J : Type 0} (k : J → I) (s : Sets (Both I)) (f : J → Bool) (j : J) → state_at j (through k s (bads f)) ≡ state_at (k j, not (f j)) s
through_at k nowhere f j = refl
through_at k (bads g) f j = refl

-- the summary is the flow f of each mark, from a yes and from a no
abbrev IsFlow : {I : Type 0} → AllWays (Both I) → (I → AllPaths → Ways) → Type 0
IsFlow {I} s f = (i : I) (v : Bool) → ways_at (i, v) s ≡ f i (state_of v)

abbrev IsIdle : {I : Type 0} → (I → AllPaths → Ways) → Type 0
IsIdle {I} f = (i : I) → f i unreached ≡ at unreached

ways_through_at : {I J : Type 0} (k : J → I) (s : AllWays (Both I)) (f : I → AllPaths → Ways) → IsFlow s f → IsIdle f → (t : Sets J) (j : J)
    → ways_at j (ways_through k s t) ≡ f (k j) (state_at j t)
ways_through_at k s f is idle nowhere j = sym (idle (k j))
ways_through_at k s f is idle (bads x) j =
    ways_same _ _ _ _ _ _ (through_at k s.on x j) (through_at k s.broken x j) (through_at k s.next x j) ∙ is (k j) (not (x j))

round_at : {I J : Type 0} (k : J → I) (b l : AllWays (Both I)) (f g : I → AllPaths → Ways) → IsFlow b f → IsIdle f → IsFlow l g → IsIdle g → (t : Sets J) (j : J)
    → ways_at j (round_through k b l t) ≡ round_of (f (k j)) (g (k j)) (state_at j t)
unfolding round_of
round_at k b l f g isf idf isg idg t j =
    let o = ways_through k b t in
    let first : ways_at j o ≡ f (k j) (state_at j t) = ways_through_at k b f isf idf t j in
    let middle : state_at j (end_all o) ≡ end_state (f (k j) (state_at j t)) = end_at j o ∙ ap end_state first in
    let second : ways_at j (ways_through k l (end_all o)) ≡ g (k j) (end_state (f (k j) (state_at j t))) = ways_through_at k l g isg idg (end_all o) j ∙ ap (g (k j)) middle in
    turned_at j o (ways_through k l (end_all o)) ∙ (ap (λ x. turned x (ways_at j (ways_through k l (end_all o)))) first ∙ ap (turned (f (k j) (state_at j t))) second)

killed_is : {I : Type 0} (s : Sets (Both I)) (i : I) (v : Bool) → state_of (not (v || killed_in s i)) ≡ join (state_of (not v)) (state_at (i, true) s)
killed_is nowhere i true = refl
killed_is nowhere i false = refl
killed_is (bads g) i true = refl
killed_is (bads g) i false = elim (g (i, true)) as (λ x. state_of (not x) ≡ join good (state_of (not x))) [
  | true ↦ refl
  | false ↦ refl
]

join_no : (v : Bool) (t u : AllPaths) → (v ≡ false → t ≡ u) → join (state_of (not v)) t ≡ join (state_of (not v)) u
join_no true t u e = refl
join_no false t u e = ap (join good) (e refl)

head_at : {I J : Type 0} (k : J → I) (b l : AllWays (Both I)) (f g : I → AllPaths → Ways) → IsFlow b f → IsIdle f → IsFlow l g → IsIdle g → (t : Sets J) (j : J)
    → state_at j (with_killed k (killed b l) t) ≡ head_of (f (k j)) (g (k j)) (state_at j t)
unfolding head_of round_of
head_at k b l f g isf idf isg idg nowhere j = rw (idf (k j), idg (k j)) refl
head_at {I} k b l f g isf idf isg idg (bads x) j =
    let r = round_through (λ (p : Both I). p.0) b l begins in
    let once : state_at (k j, true) r.on ≡ (round_of (f (k j)) (g (k j)) good).on = ap (λ (o : Ways). o.on) (round_at (λ (p : Both I). p.0) b l f g isf idf isg idg begins (k j, true)) in
    killed_is r.on (k j) (x j) ∙ join_no (x j) _ _ (λ e. once ∙ ap (λ v. (round_of (f (k j)) (g (k j)) (state_of (not v))).on) (sym e))

loop_at : {I J : Type 0} (k : J → I) (b l : AllWays (Both I)) (f g : I → AllPaths → Ways) → IsFlow b f → IsIdle f → IsFlow l g → IsIdle g → (t : Sets J) (j : J)
    → ways_at j (loop_through k b l t) ≡ at (round_of (f (k j)) (g (k j)) (head_of (f (k j)) (g (k j)) (state_at j t))).broken
loop_at k b l f g isf idf isg idg t j =
    let h = with_killed k (killed b l) t in
    let e : ways_at j (round_through k b l h) ≡ round_of (f (k j)) (g (k j)) (head_of (f (k j)) (g (k j)) (state_at j t)) =
    round_at k b l f g isf idf isg idg h j ∙ ap (round_of (f (k j)) (g (k j))) (head_at k b l f g isf idf isg idg t j) in
    ap (λ (o : Ways). at o.broken) e

-- ---- the walk

begins_at : {I : Type 0} (i : I) (v : Bool) → state_at (i, v) (begins {I = I}) ≡ state_of v
begins_at i v = ap state_of (not_not v)

mutual
  unfolding flow all_flow

  pub exact : {I J : Type 0} (m : I → Mark) (k : J → I) (ns : Nodes) (t : Sets J) (j : J) → ways_at j (all_flow m k ns t) ≡ flow (m (k j)) ns (state_at j t)
  exact m k no_nodes t j = refl
  exact m k (more_nodes n rest) t j =
      let o = all_flow_node m k n t in
      let e : ways_at j o ≡ flow_node (m (k j)) n (state_at j t) = exact_node m k n t j in
      let f : ways_at j (all_flow m k rest o.on) ≡ flow (m (k j)) rest (flow_node (m (k j)) n (state_at j t)).on =
      exact m k rest o.on j ∙ ap (λ (o : Ways). flow (m (k j)) rest o.on) e in
      in_turn_at j o (all_flow m k rest o.on) ∙ (ap (λ x. in_turn x (ways_at j (all_flow m k rest o.on))) e ∙ ap (in_turn (flow_node (m (k j)) n (state_at j t))) f)

  pub exact_node : {I J : Type 0} (m : I → Mark) (k : J → I) (n : Node) (t : Sets J) (j : J) → ways_at j (all_flow_node m k n t) ≡ flow_node (m (k j)) n (state_at j t)
  exact_node m k (plain p a) t j = ap at (after_at (λ j v. m (k j) a v) j t)
  exact_node m k (if_ p x one other) t j =
      let a = all_flow m k one t in
      let b = all_flow m k other t in
      either_at j a b ∙ (ap (λ x. either x (ways_at j b)) (exact m k one t j) ∙ ap (either (flow (m (k j)) one (state_at j t))) (exact m k other t j))
  exact_node {I} m k (loop p body latch) t j =
      loop_at k (all_flow m (λ (p : Both I). p.0) body begins) (all_flow m (λ (p : Both I). p.0) latch begins) (λ i. flow (m i) body) (λ i. flow (m i) latch)
      (λ i v. exact m (λ (p : Both I). p.0) body begins (i, v) ∙ ap (flow (m i) body) (begins_at i v)) (λ i. flow_idle (m i) body)
      (λ i v. exact m (λ (p : Both I). p.0) latch begins (i, v) ∙ ap (flow (m i) latch) (begins_at i v)) (λ i. flow_idle (m i) latch) t j
  exact_node m k (break_ p) t j = refl
  exact_node m k (next_ p) t j = refl
  exact_node m k (ret p x) t j = refl

pub summary_is : {I : Type 0} (m : I → Mark) (ns : Nodes) → IsFlow (summary m ns) (λ i. flow (m i) ns)
unfolding summary
summary_is {I} m ns i v = exact m (λ (p : Both I). p.0) ns begins (i, v) ∙ ap (flow (m i) ns) (begins_at i v)

pub sets_are_states : {I : Type 0} (m : I → Mark) (ns : Nodes) (t : Sets I) (i : I) → ways_at i (all_flow m (λ i. i) ns t) ≡ flow (m i) ns (state_at i t)
sets_are_states m ns t i = exact m (λ i. i) ns t i

pub summaries_are_flows : {I : Type 0} (m : I → Mark) (ns : Nodes) (t : Sets I) (i : I) → ways_at i (ways_through (λ i. i) (summary m ns) t) ≡ flow (m i) ns (state_at i t)
summaries_are_flows m ns t i = ways_through_at (λ i. i) (summary m ns) (λ i. flow (m i) ns) (summary_is m ns) (λ i. flow_idle (m i) ns) t i

pub heads_by_killed : {I : Type 0} (m : I → Mark) (body latch : Nodes) (t : Sets I) (i : I)
    → state_at i (with_killed (λ i. i) (killed (summary m body) (summary m latch)) t) ≡ head_of (flow (m i) body) (flow (m i) latch) (state_at i t)
heads_by_killed m body latch t i =
    head_at (λ i. i) (summary m body) (summary m latch) (λ i. flow (m i) body) (λ i. flow (m i) latch) (summary_is m body) (λ i. flow_idle (m i) body) (summary_is m latch) (λ i. flow_idle (m i) latch) t i
