-- Where Looks are dropped, the states stay.
use Rattle.std.proofs.Common.{◌≡◌, ℕ, ◌≤◌, Bool, true, false, ◌||◌, refl, sym, ap, subst, ◌∙◌, arith}
use Rattle.std.specs.Prelude.{not}
use Rattle.struct_ir.specs.Nodes.{Act, Node, plain, if_, loop, break_, next_, ret, Nodes, no_nodes, more_nodes}
use Rattle.struct_ir.specs.Erased.{put}
use Rattle.pin_flow.specs.Marks.{Mark, AllPaths, unreached, good, bad, join, after, at, Ways, round_of, head_of, end_state, flow, flow_node, Each, EachIn}
use Rattle.pin_flow.specs.Looks.{act_looks}
use Rattle.pin_flow.specs.Held.{held}
use Rattle.hoist_pass.specs.inner.Hoist.{is_bad, needs, dropped, dropped_in}
use Rattle.pin_flow.proofs.Order.{rank, after_mono, IsMono, end_mono, head_mono, head_covers, flow_mono, node_mono}
use Rattle.pin_flow.proofs.Strip.{by_bool, also_same}
use Rattle.pin_flow.proofs.Fresh.{held_fair}

-- what isn't needed is a Look where the state isn't bad
unneeded : (x y : Bool) → (not x || y) ≡ false → (x ≡ true) × (y ≡ false)
unneeded true y e = (refl, e)
unneeded false y e = absurd cc

needed_bad : (x : Bool) (t : AllPaths) → (not x || is_bad t) ≡ true → x ≡ true → t ≡ bad
needed_bad x unreached e g = absurd (let h : (not x || false) ≡ false = rw g refl in cc)
needed_bad x good e g = absurd (let h : (not x || false) ≡ false = rw g refl in cc)
needed_bad x bad e g = refl

not_bad : (t : AllPaths) → is_bad t ≡ false → rank t ≤ 1
not_bad unreached e = omega arith
not_bad good e = omega arith
not_bad bad e = absurd cc

pub held_look : (b : ℕ) (a : Act) → act_looks b a ≡ true → (t : AllPaths) → rank t ≤ 1 → after (held b a) t ≡ t
held_look b a e unreached le = refl
held_look b a e good le = rw e refl
held_look b a e bad le = absurd (omega arith)

-- loops whose body and step are alike up to these states are alike
record Alike (f g f' g' : AllPaths → Ways) (t : AllPaths) : Type 0 where
  head : head_of f' g' t ≡ head_of f g t
  round : round_of f' g' (head_of f' g' t) ≡ round_of f g (head_of f g t)

round_alike : (f g f' g' : AllPaths → Ways) (u : AllPaths) → f' u ≡ f u → g' (end_state (f u)) ≡ g (end_state (f u)) → round_of f' g' u ≡ round_of f g u
unfolding round_of
round_alike f g f' g' u e e' = rw (e, e') refl

alike : (f g f' g' : AllPaths → Ways) → IsMono f → IsMono g → (t h : AllPaths) → rank (head_of f g t) ≤ rank h
    → ((u : AllPaths) → rank u ≤ rank h → f' u ≡ f u) → ((u : AllPaths) → rank u ≤ rank (end_state (f h)) → g' u ≡ g u) → Alike f g f' g' t
unfolding head_of
alike f g f' g' mf mg t h le e e' =
    let at_state : (u : AllPaths) → rank u ≤ rank h → round_of f' g' u ≡ round_of f g u = λ u l. round_alike f g f' g' u (e u l) (e' (end_state (f u)) (end_mono (f u) (f h) (mf u h l))) in
    let c = head_covers f g t in
    let first : head_of f' g' t ≡ head_of f g t = ap (λ (o : Ways). join t o.on) (at_state t (omega (arith, c))) in
    record { head = first; round = ap (round_of f' g') first ∙ at_state (head_of f g t) le }

module _ (b : ℕ) where
  abbrev m : Mark
  m = held b

  mono : (ns : Nodes) → IsMono (flow m ns)
  mono ns = flow_mono m (held_fair b) ns

  heads : (body latch : Nodes) → AllPaths → AllPaths
  heads body latch t = head_of (flow m body) (flow m latch) t

  mutual
    unfolding flow

    pub flow_dropped : (ns : Nodes) (t u : AllPaths) → rank u ≤ rank t → flow m (dropped b ns t) u ≡ flow m ns u
    flow_dropped no_nodes t u le = refl
    flow_dropped (more_nodes (plain p a) rest) t u le =
        by_bool (λ x. flow m (put x (plain p a) (dropped b rest (after (m a) t))) u ≡ flow m (more_nodes (plain p a) rest) u) (needs b (plain p a) t)
        (λ e. rw (flow_dropped rest (after (m a) t) (after (m a) u) (after_mono (m a) (held_fair b a) u t le)) refl)
        (λ e.
        let x = unneeded (act_looks b a) (is_bad t) e in
        let low = not_bad t x.1 in
        let same : after (m a) t ≡ t = held_look b a x.0 t low in
        let same' : after (m a) u ≡ u = held_look b a x.0 u (omega arith) in
        rw (same, same') (flow_dropped rest t u le))
    flow_dropped (more_nodes (if_ p x one other) rest) t u le =
        also_same m (if_ p x one other) (dropped_in b (if_ p x one other) t) rest (dropped b rest (flow_node m (if_ p x one other) t).on) u (node_dropped (if_ p x one other) t u le)
        (flow_dropped rest (flow_node m (if_ p x one other) t).on (flow_node m (if_ p x one other) u).on ((node_mono m (held_fair b) (if_ p x one other) u t le).on))
    flow_dropped (more_nodes (loop p body latch) rest) t u le =
        also_same m (loop p body latch) (dropped_in b (loop p body latch) t) rest (dropped b rest (flow_node m (loop p body latch) t).on) u (node_dropped (loop p body latch) t u le)
        (flow_dropped rest (flow_node m (loop p body latch) t).on (flow_node m (loop p body latch) u).on ((node_mono m (held_fair b) (loop p body latch) u t le).on))
    flow_dropped (more_nodes (break_ p) rest) t u le = also_same m (break_ p) (break_ p) rest (dropped b rest unreached) u refl (flow_dropped rest unreached unreached (omega arith))
    flow_dropped (more_nodes (next_ p) rest) t u le = also_same m (next_ p) (next_ p) rest (dropped b rest unreached) u refl (flow_dropped rest unreached unreached (omega arith))
    flow_dropped (more_nodes (ret p x) rest) t u le = also_same m (ret p x) (ret p x) rest (dropped b rest unreached) u refl (flow_dropped rest unreached unreached (omega arith))

    pub node_dropped : (n : Node) (t u : AllPaths) → rank u ≤ rank t → flow_node m (dropped_in b n t) u ≡ flow_node m n u
    node_dropped (plain p a) t u le = refl
    node_dropped (if_ p x one other) t u le = rw (flow_dropped one t u le, flow_dropped other t u le) refl
    node_dropped (loop p body latch) t u le =
        let h = head_of (flow m body) (flow m latch) t in
        let e = end_state (flow m body h) in
        let a = alike (flow m body) (flow m latch) (flow m (dropped b body h)) (flow m (dropped b latch e)) (mono body) (mono latch) u h (head_mono _ _ (mono body) (mono latch) u t le)
        (λ v l. flow_dropped body h v l) (λ v l. flow_dropped latch e v l) in
        ap (λ (o : Ways). at o.broken) a.round
    node_dropped (break_ p) t u le = refl
    node_dropped (next_ p) t u le = refl
    node_dropped (ret p x) t u le = refl

  -- what held of each act holds of each that is left, and a Look is left only where the state is bad
  module _ (Q : Act → AllPaths → Type 0) where
    abbrev pub Left : Act → AllPaths → Type 0
    Left a t = Q a t × (act_looks b a ≡ true → t ≡ bad)

    mutual
      unfolding flow

      pub each_dropped : (ns : Nodes) (t : AllPaths) → Each Q m ns t → Each Left m (dropped b ns t) t
      each_dropped no_nodes t e = tt
      each_dropped (more_nodes (plain p a) rest) t e =
          by_bool (λ x. Each Left m (put x (plain p a) (dropped b rest (after (m a) t))) t) (needs b (plain p a) t)
          (λ g. ((e.0, needed_bad (act_looks b a) t g), each_dropped rest (after (m a) t) e.1))
          (λ g.
          let x = unneeded (act_looks b a) (is_bad t) g in
          let same : after (m a) t ≡ t = held_look b a x.0 t (not_bad t x.1) in
          subst (λ (u : AllPaths). Each Left m (dropped b rest (after (m a) t)) u) same (each_dropped rest (after (m a) t) e.1))
      each_dropped (more_nodes (if_ p x one other) rest) t e =
          let n = if_ p x one other in (
            in_dropped (if_ p x one other) t refl e.0,
            subst (λ (o : Ways). Each Left m (dropped b rest (flow_node m n t).on) o.on) (sym (node_dropped n t t (omega arith))) (each_dropped rest (flow_node m n t).on e.1),
          )
      each_dropped (more_nodes (loop p body latch) rest) t e =
          let n = loop p body latch in (
            in_dropped (loop p body latch) t refl e.0,
            subst (λ (o : Ways). Each Left m (dropped b rest (flow_node m n t).on) o.on) (sym (node_dropped n t t (omega arith))) (each_dropped rest (flow_node m n t).on e.1),
          )
      each_dropped (more_nodes (break_ p) rest) t e = (tt, each_dropped rest unreached e.1)
      each_dropped (more_nodes (next_ p) rest) t e = (tt, each_dropped rest unreached e.1)
      each_dropped (more_nodes (ret p x) rest) t e = (tt, each_dropped rest unreached e.1)

      pub in_dropped : (n : Node) (t : AllPaths) → needs b n t ≡ true → EachIn Q m n t → EachIn Left m (dropped_in b n t) t
      in_dropped (plain p a) t g e = (e, needed_bad (act_looks b a) t g)
      in_dropped (if_ p x one other) t g e = (each_dropped one t e.0, each_dropped other t e.1)
      in_dropped (loop p body latch) t g e =
          let h = head_of (flow m body) (flow m latch) t in
          let z = end_state (flow m body h) in
          let a = alike (flow m body) (flow m latch) (flow m (dropped b body h)) (flow m (dropped b latch z)) (mono body) (mono latch) t h (omega arith)
          (λ v l. flow_dropped body h v l) (λ v l. flow_dropped latch z v l) in
          let same_end : end_state (flow m (dropped b body h) h) ≡ z = ap end_state (flow_dropped body h h (omega arith)) in (
            subst (λ (u : AllPaths). Each Left m (dropped b body h) u) (sym a.head) (each_dropped body h e.0),
            subst (λ (u : AllPaths). Each Left m (dropped b latch z) (end_state (flow m (dropped b body h) u))) (sym a.head)
                (subst (λ (u : AllPaths). Each Left m (dropped b latch z) u) (sym same_end) (each_dropped latch z e.1)),
          )
      in_dropped (break_ p) t g e = tt
      in_dropped (next_ p) t g e = tt
      in_dropped (ret p x) t g e = tt
