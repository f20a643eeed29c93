-- Looks before loops make states no worse, and no loop that doesn't assign the temporary keeps one.
use Rattle.std.proofs.Common.{◌≡◌, ℕ, ◌≤◌, Bool, true, false, refl, arith}
use Rattle.std.proofs.lemmas.Bool.{eq-eqb}
use Rattle.struct_ir.specs.Nodes.{Act, look, Node, plain, if_, loop, break_, next_, ret, Nodes, no_nodes, more_nodes, node_place}
use Rattle.struct_ir.specs.Erased.{put}
use Rattle.pin_flow.specs.Marks.{Mark, AllPaths, unreached, good, bad, after, Ways, round_of, head_of, flow, flow_node, Each, EachIn}
use Rattle.pin_flow.specs.Looks.{act_looks}
use Rattle.pin_flow.specs.Held.{held}
use Rattle.hoist_pass.specs.inner.Hoist.{wants, lifted, lifted_in}
use Rattle.pin_flow.proofs.Order.{rank, Below, after_mono, join_mono, either_mono, in_turn_mono, at_mono, end_mono, turned_mono}
use Rattle.pin_flow.proofs.Sound.{IsDown}
use Rattle.pin_flow.proofs.Fresh.{held_fair}

module _ (slot b : ℕ) where
  abbrev m : Mark
  m = held b

  abbrev L : Act
  L = look slot b

  pub is_look : act_looks b L ≡ true
  is_look = eq-eqb b b refl

  pub look_after : (t : AllPaths) → (rank (after (m L) t) ≤ rank t) × (rank (after (m L) t) ≤ 1)
  look_after unreached = (omega arith, omega arith)
  look_after good = rw is_look (omega arith, omega arith)
  look_after bad = rw is_look (omega arith, omega arith)

  -- a Look put first, or none
  put_below : (x : Bool) (p : ℕ) (rest : Nodes) (t : AllPaths) (o : Ways) → ((u : AllPaths) → rank u ≤ rank t → Below (flow m rest u) o) → Below (flow m (put x (plain p L) rest) t) o
  unfolding flow
  put_below true p rest t o f = f (after (m L) t) ((look_after t).0)
  put_below false p rest t o f = f t (omega arith)

  round_below : (f g f' g' : AllPaths → Ways) → ((t u : AllPaths) → rank t ≤ rank u → Below (f' t) (f u)) → ((t u : AllPaths) → rank t ≤ rank u → Below (g' t) (g u)) → (t u : AllPaths) → rank t ≤ rank u → Below (round_of f' g' t) (round_of f g u)
  unfolding round_of
  round_below f g f' g' bf bg t u le = turned_mono _ _ _ _ (bf t u le) (bg _ _ (end_mono _ _ (bf t u le)))

  head_below : (f g f' g' : AllPaths → Ways) → ((t u : AllPaths) → rank t ≤ rank u → Below (f' t) (f u)) → ((t u : AllPaths) → rank t ≤ rank u → Below (g' t) (g u)) → (t u : AllPaths) → rank t ≤ rank u → rank (head_of f' g' t) ≤ rank (head_of f g u)
  unfolding head_of
  head_below f g f' g' bf bg t u le = join_mono _ _ _ _ le ((round_below f g f' g' bf bg t u le).on)

  mutual
    unfolding flow

    pub lifted_below : (ns : Nodes) (t u : AllPaths) → rank t ≤ rank u → Below (flow m (lifted slot b ns) t) (flow m ns u)
    lifted_below no_nodes t u le = at_mono t u le
    lifted_below (more_nodes n rest) t u le =
        put_below (wants b n) (node_place n) (more_nodes (lifted_in slot b n) (lifted slot b rest)) t (flow m (more_nodes n rest) u) (λ v l.
        let x = node_below n v u (omega arith) in
        in_turn_mono _ _ _ _ x (lifted_below rest _ _ x.on))

    pub node_below : (n : Node) (t u : AllPaths) → rank t ≤ rank u → Below (flow_node m (lifted_in slot b n) t) (flow_node m n u)
    node_below (plain p a) t u le = at_mono _ _ (after_mono (m a) (held_fair b a) t u le)
    node_below (if_ p x one other) t u le = either_mono _ _ _ _ (lifted_below one t u le) (lifted_below other t u le)
    node_below (loop p body latch) t u le =
        at_mono _ _ ((round_below _ _ _ _ (lifted_below body) (lifted_below latch) _ _ (head_below _ _ _ _ (lifted_below body) (lifted_below latch) t u le)).broken)
    node_below (break_ p) t u le = record { on = omega arith; broken = le; next = omega arith }
    node_below (next_ p) t u le = record { on = omega arith; broken = omega arith; next = le }
    node_below (ret p x) t u le = at_mono _ _ (omega arith)

  module _ (Q : Act → AllPaths → Type 0) (down : IsDown Q) (known : (t : AllPaths) → Q L t) where
    put_each : (x : Bool) (p : ℕ) (rest : Nodes) (t : AllPaths) → ((u : AllPaths) → rank u ≤ rank t → Each Q m rest u) → Each Q m (put x (plain p L) rest) t
    unfolding flow
    put_each true p rest t f = (known t, f (after (m L) t) ((look_after t).0))
    put_each false p rest t f = f t (omega arith)

    mutual
      unfolding flow

      pub each_lifted : (ns : Nodes) (t u : AllPaths) → rank t ≤ rank u → Each Q m ns u → Each Q m (lifted slot b ns) t
      each_lifted no_nodes t u le e = tt
      each_lifted (more_nodes n rest) t u le e =
          put_each (wants b n) (node_place n) (more_nodes (lifted_in slot b n) (lifted slot b rest)) t (λ v l.
          (in_lifted n v u (omega arith) e.0, each_lifted rest _ _ ((node_below n v u (omega arith)).on) e.1))

      in_lifted : (n : Node) (t u : AllPaths) → rank t ≤ rank u → EachIn Q m n u → EachIn Q m (lifted_in slot b n) t
      in_lifted (plain p a) t u le e = down a t u le e
      in_lifted (if_ p x one other) t u le e = (each_lifted one t u le e.0, each_lifted other t u le e.1)
      in_lifted (loop p body latch) t u le e =
          let h = head_below _ _ _ _ (lifted_below body) (lifted_below latch) t u le in
          (each_lifted body _ _ h e.0, each_lifted latch _ _ (end_mono _ _ (lifted_below body _ _ h)) e.1)
      in_lifted (break_ p) t u le e = tt
      in_lifted (next_ p) t u le e = tt
      in_lifted (ret p x) t u le e = tt
