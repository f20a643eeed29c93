-- The second walk comes to each act with each mark's own state.
use Rattle.std.proofs.Common.{◌≡◌, ℕ, Bool, true, List, [], refl, sym, ap, ◌∙◌, subst}
use Rattle.std.specs.Prelude.{◌↔◌}
use Rattle.struct_ir.specs.Nodes.{Act, Node, plain, if_, loop, break_, next_, ret, Nodes, no_nodes, more_nodes}
use Rattle.pin_flow.specs.Marks.{Mark, AllPaths, Ways, at, either, in_turn, turned, end_state, round_of, head_of, flow, flow_node, Each, EachIn}
use Rattle.mark_sets.specs.Sets.{Sets, ways_at, state_at, end_all, with_killed, killed, summary}
use Rattle.mark_sets.specs.Walks.{kills, kills_in, Went, walk, walk_in, AllEach, AllEachIn}
use Rattle.mark_sets.proofs.Exact.{after_at, either_at, in_turn_at, turned_at, end_at, heads_by_killed}

-- where the walk went is where each mark's flow leads, and this is left
record Went_by {I : Type 0} (w : Went I) (f : I → Ways) (r : List (I → Bool)) : Type 0 where
  ways : (i : I) → ways_at i w.ways ≡ f i
  left : w.left ≡ r

-- what the walk of a loop starts its rounds with
head_here : {I : Type 0} (m : I → Mark) (body latch : Nodes) (t : Sets I) (i : I)
    → state_at i (with_killed (λ i. i) (killed (summary m body) (summary m latch)) t) ≡ head_of (flow (m i) body) (flow (m i) latch) (state_at i t)
head_here m body latch t i = heads_by_killed m body latch t i

module _ {I : Type 0} (m : I → Mark) where
  mutual
    unfolding flow kills walk round_of

    by_row : (ns : Nodes) (t : Sets I) (r : List (I → Bool)) → Went_by (walk m ns t (kills m ns r)) (λ i. flow (m i) ns (state_at i t)) r
    by_row no_nodes t r = record { ways = λ i. refl; left = refl }
    by_row (more_nodes n rest) t r =
        let d = walk_in m n t (kills_in m n (kills m rest r)) in
        let a = by_node n t (kills m rest r) in
        let b = by_row rest d.ways.on r in
        let same : walk m rest d.ways.on d.left ≡ walk m rest d.ways.on (kills m rest r) = ap (walk m rest d.ways.on) a.left in
        let e = walk m rest d.ways.on d.left in
        let f : (i : I) → ways_at i e.ways ≡ flow (m i) rest (flow_node (m i) n (state_at i t)).on =
        λ i. ap (λ (w : Went I). ways_at i w.ways) same ∙ (b.ways i ∙ ap (λ (o : Ways). flow (m i) rest o.on) (a.ways i)) in
        record {
          ways = λ i. in_turn_at i d.ways e.ways ∙ (ap (λ x. in_turn x (ways_at i e.ways)) (a.ways i) ∙ ap (in_turn (flow_node (m i) n (state_at i t))) (f i));
          left = ap (λ (w : Went I). w.left) same ∙ b.left;
        }

    by_node : (n : Node) (t : Sets I) (r : List (I → Bool)) → Went_by (walk_in m n t (kills_in m n r)) (λ i. flow_node (m i) n (state_at i t)) r
    by_node (plain p a) t r = record { ways = λ i. ap at (after_at (λ j v. m j a v) i t); left = refl }
    by_node (if_ p x one other) t r =
        let d = walk m one t (kills m one (kills m other r)) in
        let a = by_row one t (kills m other r) in
        let b = by_row other t r in
        let same : walk m other t d.left ≡ walk m other t (kills m other r) = ap (walk m other t) a.left in
        let e = walk m other t d.left in
        let f : (i : I) → ways_at i e.ways ≡ flow (m i) other (state_at i t) = λ i. ap (λ (w : Went I). ways_at i w.ways) same ∙ b.ways i in
        record {
          ways = λ i. either_at i d.ways e.ways ∙ (ap (λ x. either x (ways_at i e.ways)) (a.ways i) ∙ ap (either (flow (m i) one (state_at i t))) (f i));
          left = ap (λ (w : Went I). w.left) same ∙ b.left;
        }
    by_node (loop p body latch) t r =
        let h = with_killed (λ i. i) (killed (summary m body) (summary m latch)) t in
        let d = walk m body h (kills m body (kills m latch r)) in
        let a = by_row body h (kills m latch r) in
        let g : Sets I = end_all d.ways in
        let b = by_row latch g r in
        let same : walk m latch g d.left ≡ walk m latch g (kills m latch r) = ap (walk m latch g) a.left in
        let e = walk m latch g d.left in
        let f : (i : I) → ways_at i d.ways ≡ flow (m i) body (head_of (flow (m i) body) (flow (m i) latch) (state_at i t)) = λ i. a.ways i ∙ ap (flow (m i) body) (head_here m body latch t i) in
        let u : (i : I) → ways_at i e.ways ≡ flow (m i) latch (end_state (flow (m i) body (head_of (flow (m i) body) (flow (m i) latch) (state_at i t)))) =
        λ i. ap (λ (w : Went I). ways_at i w.ways) same ∙ (b.ways i ∙ ap (flow (m i) latch) (end_at i d.ways ∙ ap end_state (f i))) in
        record {
          ways = λ i. ap (λ (o : Ways). at o.broken) (turned_at i d.ways e.ways ∙ (ap (λ x. turned x (ways_at i e.ways)) (f i) ∙ ap (turned (flow (m i) body (head_of (flow (m i) body) (flow (m i) latch) (state_at i t)))) (u i)));
          left = ap (λ (w : Went I). w.left) same ∙ b.left;
        }
    by_node (break_ p) t r = record { ways = λ i. refl; left = refl }
    by_node (next_ p) t r = record { ways = λ i. refl; left = refl }
    by_node (ret p x) t r = record { ways = λ i. refl; left = refl }

module _ {I : Type 0} (m : I → Mark) (R : I → Act → AllPaths → Type 0) where
  mutual
    unfolding flow kills walk

    pub to_row : (ns : Nodes) (t : Sets I) (r : List (I → Bool)) → AllEach R m ns t (kills m ns r) → (i : I) → Each (R i) (m i) ns (state_at i t)
    to_row no_nodes t r e i = tt
    to_row (more_nodes n rest) t r e i =
        let d = walk_in m n t (kills_in m n (kills m rest r)) in
        let a = by_node m n t (kills m rest r) in
        let e' : AllEach R m rest d.ways.on (kills m rest r) = subst (λ ks. AllEach R m rest d.ways.on ks) a.left e.1 in
        (to_node n t (kills m rest r) e.0 i, subst (λ (o : Ways). Each (R i) (m i) rest o.on) (a.ways i) (to_row rest d.ways.on r e' i))

    pub to_node : (n : Node) (t : Sets I) (r : List (I → Bool)) → AllEachIn R m n t (kills_in m n r) → (i : I) → EachIn (R i) (m i) n (state_at i t)
    to_node (plain p a) t r e i = e i
    to_node (if_ p x one other) t r e i =
        let a = by_row m one t (kills m other r) in
        let d = walk m one t (kills m one (kills m other r)) in
        let e' : AllEach R m other t (kills m other r) = subst (λ ks. AllEach R m other t ks) a.left e.1 in
        (to_row one t (kills m other r) e.0 i, to_row other t r e' i)
    to_node (loop p body latch) t r e i =
        let h = with_killed (λ i. i) (killed (summary m body) (summary m latch)) t in
        let d = walk m body h (kills m body (kills m latch r)) in
        let a = by_row m body h (kills m latch r) in
        let g : Sets I = end_all d.ways in
        let e' : AllEach R m latch g (kills m latch r) = subst (λ ks. AllEach R m latch g ks) a.left e.1 in
        let s : state_at i h ≡ head_of (flow (m i) body) (flow (m i) latch) (state_at i t) = head_here m body latch t i in
        let u : state_at i g ≡ end_state (flow (m i) body (head_of (flow (m i) body) (flow (m i) latch) (state_at i t))) = end_at i d.ways ∙ ap end_state (a.ways i ∙ ap (flow (m i) body) s) in
        (subst (λ x. Each (R i) (m i) body x) s (to_row body h (kills m latch r) e.0 i), subst (λ x. Each (R i) (m i) latch x) u (to_row latch g r e' i))
    to_node (break_ p) t r e i = tt
    to_node (next_ p) t r e i = tt
    to_node (ret p x) t r e i = tt

  mutual
    unfolding flow kills walk

    pub from_row : (ns : Nodes) (t : Sets I) (r : List (I → Bool)) → ((i : I) → Each (R i) (m i) ns (state_at i t)) → AllEach R m ns t (kills m ns r)
    from_row no_nodes t r e = tt
    from_row (more_nodes n rest) t r e =
        let d = walk_in m n t (kills_in m n (kills m rest r)) in
        let a = by_node m n t (kills m rest r) in
        let e' : (i : I) → Each (R i) (m i) rest (state_at i d.ways.on) = λ i. subst (λ (o : Ways). Each (R i) (m i) rest o.on) (sym (a.ways i)) ((e i).1) in
        (from_node n t (kills m rest r) (λ i. (e i).0), subst (λ ks. AllEach R m rest d.ways.on ks) (sym a.left) (from_row rest d.ways.on r e'))

    pub from_node : (n : Node) (t : Sets I) (r : List (I → Bool)) → ((i : I) → EachIn (R i) (m i) n (state_at i t)) → AllEachIn R m n t (kills_in m n r)
    from_node (plain p a) t r e = e
    from_node (if_ p x one other) t r e =
        let a = by_row m one t (kills m other r) in
        (from_row one t (kills m other r) (λ i. (e i).0), subst (λ ks. AllEach R m other t ks) (sym a.left) (from_row other t r (λ i. (e i).1)))
    from_node (loop p body latch) t r e =
        let h = with_killed (λ i. i) (killed (summary m body) (summary m latch)) t in
        let d = walk m body h (kills m body (kills m latch r)) in
        let a = by_row m body h (kills m latch r) in
        let g : Sets I = end_all d.ways in
        let s : (i : I) → state_at i h ≡ head_of (flow (m i) body) (flow (m i) latch) (state_at i t) = head_here m body latch t in
        let u : (i : I) → state_at i g ≡ end_state (flow (m i) body (head_of (flow (m i) body) (flow (m i) latch) (state_at i t))) = λ i. end_at i d.ways ∙ ap end_state (a.ways i ∙ ap (flow (m i) body) (s i)) in (
          from_row body h (kills m latch r) (λ i. subst (λ x. Each (R i) (m i) body x) (sym (s i)) ((e i).0)),
          subst (λ ks. AllEach R m latch g ks) (sym a.left) (from_row latch g r (λ i. subst (λ x. Each (R i) (m i) latch x) (sym (u i)) ((e i).1))),
        )
    from_node (break_ p) t r e = tt
    from_node (next_ p) t r e = tt
    from_node (ret p x) t r e = tt

pub walks_are_exact : (R : ℕ → Act → AllPaths → Bool) (m : ℕ → Mark) (ns : Nodes) (t : Sets ℕ)
    → AllEach (λ i a s. R i a s ≡ true) m ns t (kills m ns []) ↔ ((i : ℕ) → Each (λ a s. R i a s ≡ true) (m i) ns (state_at i t))
walks_are_exact R m ns t = (to_row m (λ i a s. R i a s ≡ true) ns t [], from_row m (λ i a s. R i a s ≡ true) ns t [])
