-- In a loop that doesn't assign the temporary, no Look of it is left.
use Rattle.std.proofs.Common.{◌≡◌, ℕ, ◌≤◌, Bool, true, false, ◌||◌, ◌&&◌, refl, sym, subst, arith}
use Rattle.std.proofs.lemmas.Bool.{or_parts, or_from, and_from}
use Rattle.std.specs.Prelude.{not}
use Rattle.struct_ir.specs.Nodes.{Act, look, Node, plain, if_, loop, break_, next_, ret, Nodes, no_nodes, more_nodes, node_place}
use Rattle.struct_ir.specs.Erased.{put}
use Rattle.pin_flow.specs.Marks.{Mark, AllPaths, unreached, good, bad, join, state_of, after, at, Ways, round_of, head_of, end_state, flow, flow_node}
use Rattle.pin_flow.specs.Looks.{act_looks, act_assigns, some_act, some_in, loop_assigns, loops_assign, loop_in_assigns}
use Rattle.pin_flow.specs.Held.{held}
use Rattle.hoist_pass.specs.inner.Hoist.{is_bad, needs, dropped, dropped_in, wants, lifted, lifted_in}
use Rattle.pin_flow.proofs.Order.{rank, rank_join}
use Rattle.pin_flow.proofs.Strip.{by_bool}

-- no state is bad
pub record Calm (o : Ways) : Type 0 where
  pub on : rank o.on ≤ 1
  pub broken : rank o.broken ≤ 1
  pub next : rank o.next ≤ 1

pub join_calm : (t u : AllPaths) → rank t ≤ 1 → rank u ≤ 1 → rank (join t u) ≤ 1
join_calm t u h g = omega (arith, rank_join t u)

at_calm : (t : AllPaths) → rank t ≤ 1 → Calm (at t)
at_calm t h = record { on = h; broken = omega arith; next = omega arith }

round_calm : (f g : AllPaths → Ways) → ((t : AllPaths) → rank t ≤ 1 → Calm (f t)) → ((t : AllPaths) → rank t ≤ 1 → Calm (g t)) → (t : AllPaths) → rank t ≤ 1 → Calm (round_of f g t)
unfolding round_of
round_calm f g cf cg t h =
    let a = cf t h in
    let b = cg (end_state (f t)) (join_calm _ _ a.on a.next) in
    record { on = join_calm _ _ b.on b.next; broken = join_calm _ _ a.broken b.broken; next = omega arith }

pub head_calm : (f g : AllPaths → Ways) → ((t : AllPaths) → rank t ≤ 1 → Calm (f t)) → ((t : AllPaths) → rank t ≤ 1 → Calm (g t)) → (t : AllPaths) → rank t ≤ 1 → rank (head_of f g t) ≤ 1
unfolding head_of
head_calm f g cf cg t h = join_calm _ _ h ((round_calm f g cf cg t h).on)

module _ (b : ℕ) where
  abbrev m : Mark
  m = held b

  held_calm : (a : Act) → act_assigns b a ≡ false → (t : AllPaths) → rank t ≤ 1 → rank (after (m a) t) ≤ 1
  held_calm a e unreached h = omega arith
  held_calm a e good h = by_bool (λ x. rank (state_of (x || (not (act_assigns b a) && true))) ≤ 1) (act_looks b a) (λ g. omega arith) (λ g. rw e (omega arith))
  held_calm a e bad h = absurd (omega arith)

  mutual
    unfolding flow

    pub calm : (ns : Nodes) → some_act (act_assigns b) ns ≡ false → (t : AllPaths) → rank t ≤ 1 → Calm (flow m ns t)
    calm no_nodes e t h = at_calm t h
    calm (more_nodes n rest) e t h =
        let p = or_parts (some_in (act_assigns b) n) (some_act (act_assigns b) rest) e in
        let x = node_calm n p.0 t h in
        let y = calm rest p.1 _ x.on in
        record { on = y.on; broken = join_calm _ _ x.broken y.broken; next = join_calm _ _ x.next y.next }

    node_calm : (n : Node) → some_in (act_assigns b) n ≡ false → (t : AllPaths) → rank t ≤ 1 → Calm (flow_node m n t)
    node_calm (plain p a) e t h = at_calm _ (held_calm a e t h)
    node_calm (if_ p x one other) e t h =
        let q = or_parts (some_act (act_assigns b) one) (some_act (act_assigns b) other) e in
        let c = calm one q.0 t h in
        let d = calm other q.1 t h in
        record { on = join_calm _ _ c.on d.on; broken = join_calm _ _ c.broken d.broken; next = join_calm _ _ c.next d.next }
    node_calm (loop p body latch) e t h =
        let q = or_parts (some_act (act_assigns b) body) (some_act (act_assigns b) latch) e in
        at_calm _ ((round_calm _ _ (calm body q.0) (calm latch q.1) _ (head_calm _ _ (calm body q.0) (calm latch q.1) t h)).broken)
    node_calm (break_ p) e t h = record { on = omega arith; broken = h; next = omega arith }
    node_calm (next_ p) e t h = record { on = omega arith; broken = omega arith; next = h }
    node_calm (ret p x) e t h = at_calm _ (omega arith)

  calm_not_bad : (t : AllPaths) → rank t ≤ 1 → is_bad t ≡ false
  calm_not_bad unreached h = refl
  calm_not_bad good h = refl
  calm_not_bad bad h = absurd (omega arith)

  look_needed : (x y : Bool) → y ≡ false → (not x || y) ≡ true → x ≡ false
  look_needed true y e g = absurd cc
  look_needed false y e g = refl

  mutual
    unfolding flow

    pub none_left : (ns : Nodes) → some_act (act_assigns b) ns ≡ false → (t : AllPaths) → rank t ≤ 1 → some_act (act_looks b) (dropped b ns t) ≡ false
    none_left no_nodes e t h = refl
    none_left (more_nodes (plain p a) rest) e t h =
        let q = or_parts (act_assigns b a) (some_act (act_assigns b) rest) e in
        let r = none_left rest q.1 (after (m a) t) (held_calm a q.0 t h) in
        let so : needs b (plain p a) t ≡ not (act_looks b a) = rw (calm_not_bad t h) (by_bool (λ x. (not x || false) ≡ not x) (act_looks b a) (λ g. refl) (λ g. refl)) in
        subst (λ (x : Bool). some_act (act_looks b) (put x (plain p a) (dropped b rest (after (m a) t))) ≡ false) (sym so)
        (by_bool (λ x. some_act (act_looks b) (put (not x) (plain p a) (dropped b rest (after (m a) t))) ≡ false) (act_looks b a) (λ g. r) (λ g. rw g r))
    none_left (more_nodes (if_ p x one other) rest) e t h =
        let n = if_ p x one other in
        let q = or_parts (some_in (act_assigns b) n) (some_act (act_assigns b) rest) e in
        or_from _ _ (none_in (if_ p x one other) q.0 t h refl) (none_left rest q.1 _ ((node_calm n q.0 t h).on))
    none_left (more_nodes (loop p body latch) rest) e t h =
        let n = loop p body latch in
        let q = or_parts (some_in (act_assigns b) n) (some_act (act_assigns b) rest) e in
        or_from _ _ (none_in (loop p body latch) q.0 t h refl) (none_left rest q.1 _ ((node_calm n q.0 t h).on))
    none_left (more_nodes (break_ p) rest) e t h = none_left rest e unreached (omega arith)
    none_left (more_nodes (next_ p) rest) e t h = none_left rest e unreached (omega arith)
    none_left (more_nodes (ret p x) rest) e t h = none_left rest e unreached (omega arith)

    none_in : (n : Node) → some_in (act_assigns b) n ≡ false → (t : AllPaths) → rank t ≤ 1 → needs b n t ≡ true → some_in (act_looks b) (dropped_in b n t) ≡ false
    none_in (plain p a) e t h g = look_needed (act_looks b a) (is_bad t) (calm_not_bad t h) g
    none_in (if_ p x one other) e t h g =
        let q = or_parts (some_act (act_assigns b) one) (some_act (act_assigns b) other) e in
        or_from _ _ (none_left one q.0 t h) (none_left other q.1 t h)
    none_in (loop p body latch) e t h g =
        let q = or_parts (some_act (act_assigns b) body) (some_act (act_assigns b) latch) e in
        let c = head_calm _ _ (calm body q.0) (calm latch q.1) t h in
        let d = calm body q.0 _ c in
        or_from _ _ (none_left body q.0 _ c) (none_left latch q.1 _ (join_calm _ _ d.on d.next))
    none_in (break_ p) e t h g = refl
    none_in (next_ p) e t h g = refl
    none_in (ret p x) e t h g = refl

  -- without Looks, loops need none
  mutual
    pub loops_bare : (ns : Nodes) → some_act (act_looks b) ns ≡ false → loops_assign b ns ≡ true
    loops_bare no_nodes e = refl
    loops_bare (more_nodes n rest) e =
        let q = or_parts (some_in (act_looks b) n) (some_act (act_looks b) rest) e in
        and_from _ _ (in_bare n q.0) (loops_bare rest q.1)

    in_bare : (n : Node) → some_in (act_looks b) n ≡ false → loop_in_assigns b n ≡ true
    in_bare (plain p a) e = refl
    in_bare (if_ p x one other) e =
        let q = or_parts (some_act (act_looks b) one) (some_act (act_looks b) other) e in
        and_from _ _ (loops_bare one q.0) (loops_bare other q.1)
    in_bare (loop p body latch) e =
        let q = or_parts (some_act (act_looks b) body) (some_act (act_looks b) latch) e in
        let so : loop_assigns b body latch ≡ true = rw (q.0, q.1) refl in
        and_from _ _ so (and_from _ _ (loops_bare body q.0) (loops_bare latch q.1))
    in_bare (break_ p) e = refl
    in_bare (next_ p) e = refl
    in_bare (ret p x) e = refl

  -- what no act is, none is after Looks are dropped
  mutual
    pub still_none : (f : Act → Bool) (ns : Nodes) (t : AllPaths) → some_act f ns ≡ false → some_act f (dropped b ns t) ≡ false
    still_none f no_nodes t e = refl
    still_none f (more_nodes (plain p a) rest) t e =
        let q = or_parts (f a) (some_act f rest) e in
        by_bool (λ x. some_act f (put x (plain p a) (dropped b rest (flow_node m (plain p a) t).on)) ≡ false) (needs b (plain p a) t)
        (λ g. or_from _ _ q.0 (still_none f rest _ q.1)) (λ g. still_none f rest _ q.1)
    still_none f (more_nodes (if_ p x one other) rest) t e =
        let q = or_parts (some_in f (if_ p x one other)) (some_act f rest) e in
        let r = or_parts (some_act f one) (some_act f other) q.0 in
        or_from _ _ (or_from _ _ (still_none f one t r.0) (still_none f other t r.1)) (still_none f rest _ q.1)
    still_none f (more_nodes (loop p body latch) rest) t e =
        let q = or_parts (some_in f (loop p body latch)) (some_act f rest) e in
        let r = or_parts (some_act f body) (some_act f latch) q.0 in
        or_from _ _ (or_from _ _ (still_none f body _ r.0) (still_none f latch _ r.1)) (still_none f rest _ q.1)
    still_none f (more_nodes (break_ p) rest) t e = still_none f rest _ e
    still_none f (more_nodes (next_ p) rest) t e = still_none f rest _ e
    still_none f (more_nodes (ret p x) rest) t e = still_none f rest _ e

  module _ (slot : ℕ) where
    -- where no Look is, none is lifted
    mutual
      pub lifts_none : (ns : Nodes) → some_act (act_looks b) ns ≡ false → some_act (act_looks b) (lifted slot b ns) ≡ false
      lifts_none no_nodes e = refl
      lifts_none (more_nodes n rest) e =
          let q = or_parts (some_in (act_looks b) n) (some_act (act_looks b) rest) e in
          subst (λ (x : Bool). some_act (act_looks b) (put x (plain (node_place n) (look slot b)) (more_nodes (lifted_in slot b n) (lifted slot b rest))) ≡ false) (sym (wants_none n q.0))
          (or_from _ _ (lifts_none_in n q.0) (lifts_none rest q.1))

      wants_none : (n : Node) → some_in (act_looks b) n ≡ false → wants b n ≡ false
      wants_none (plain p a) e = refl
      wants_none (if_ p x one other) e = refl
      wants_none (loop p body latch) e = rw e refl
      wants_none (break_ p) e = refl
      wants_none (next_ p) e = refl
      wants_none (ret p x) e = refl

      lifts_none_in : (n : Node) → some_in (act_looks b) n ≡ false → some_in (act_looks b) (lifted_in slot b n) ≡ false
      lifts_none_in (plain p a) e = e
      lifts_none_in (if_ p x one other) e =
          let q = or_parts (some_act (act_looks b) one) (some_act (act_looks b) other) e in
          or_from _ _ (lifts_none one q.0) (lifts_none other q.1)
      lifts_none_in (loop p body latch) e =
          let q = or_parts (some_act (act_looks b) body) (some_act (act_looks b) latch) e in
          or_from _ _ (lifts_none body q.0) (lifts_none latch q.1)
      lifts_none_in (break_ p) e = refl
      lifts_none_in (next_ p) e = refl
      lifts_none_in (ret p x) e = refl

    -- what no act is, none is after a Look is lifted that isn't either
    mutual
      pub lifts_still : (f : Act → Bool) → f (look slot b) ≡ false → (ns : Nodes) → some_act f ns ≡ false → some_act f (lifted slot b ns) ≡ false
      lifts_still f g no_nodes e = refl
      lifts_still f g (more_nodes n rest) e =
          let q = or_parts (some_in f n) (some_act f rest) e in
          let r = or_from _ _ (lifts_still_in f g n q.0) (lifts_still f g rest q.1) in
          by_bool (λ x. some_act f (put x (plain (node_place n) (look slot b)) (more_nodes (lifted_in slot b n) (lifted slot b rest))) ≡ false) (wants b n) (λ h. or_from _ _ g r) (λ h. r)

      lifts_still_in : (f : Act → Bool) → f (look slot b) ≡ false → (n : Node) → some_in f n ≡ false → some_in f (lifted_in slot b n) ≡ false
      lifts_still_in f g (plain p a) e = e
      lifts_still_in f g (if_ p x one other) e =
          let q = or_parts (some_act f one) (some_act f other) e in
          or_from _ _ (lifts_still f g one q.0) (lifts_still f g other q.1)
      lifts_still_in f g (loop p body latch) e =
          let q = or_parts (some_act f body) (some_act f latch) e in
          or_from _ _ (lifts_still f g body q.0) (lifts_still f g latch q.1)
      lifts_still_in f g (break_ p) e = refl
      lifts_still_in f g (next_ p) e = refl
      lifts_still_in f g (ret p x) e = refl
