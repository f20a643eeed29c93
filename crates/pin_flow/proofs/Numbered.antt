-- Numbers change nothing but places.
use Rattle.std.proofs.Common.{◌≡◌, ℕ, suc, ◌+◌, ◌≤◌, List, [], ◌∷◌, ◌++◌, Bool, false, ◌||◌, ◌&&◌, refl, sym, ap, subst, ◌∙◌, arith}
use Rattle.std.specs.Prelude.{not}
use Rattle.struct_ir.specs.Nodes.{Act, Node, plain, if_, loop, break_, next_, ret, Nodes, no_nodes, more_nodes}
use Rattle.struct_ir.specs.Structured.{node_size, row_size}
use Rattle.pin_flow.specs.Marks.{Mark, AllPaths, bad, at, Ways, either, round_of, head_of, end_state, flow, flow_node, Each, EachIn}
use Rattle.pin_flow.specs.Looks.{act_looks, act_assigns, some_act, some_in, loops_assign, loop_in_assigns}
use Rattle.pin_flow.specs.Held.{held, IsDue, HoistedThroughout}
use Rattle.pin_flow.specs.Live.{Live, lives, live, live_node}
use Rattle.pin_flow.specs.Points.{numbered, numbered_in, HoistedAtPoints, places_in, node_places, RiseWithin, NumbersRise}
use Rattle.pin_flow.proofs.Strip.{also_same}
use Rattle.pin_flow.proofs.Covers.{due_needed}

-- tests of acts
module _ (f : Act → Bool) where
  mutual
    pub some_numbered : (i : ℕ) (ns : Nodes) → some_act f (numbered i ns) ≡ some_act f ns
    some_numbered i no_nodes = refl
    some_numbered i (more_nodes n rest) = λ j. some_in_numbered i n j || some_numbered (i + node_size n) rest j

    some_in_numbered : (i : ℕ) (n : Node) → some_in f (numbered_in i n) ≡ some_in f n
    some_in_numbered i (plain p a) = refl
    some_in_numbered i (if_ p x one other) = λ j. some_numbered (suc i) one j || some_numbered (suc i + row_size one) other j
    some_in_numbered i (loop p body latch) = λ j. some_numbered (suc i) body j || some_numbered (suc i + row_size body) latch j
    some_in_numbered i (break_ p) = refl
    some_in_numbered i (next_ p) = refl
    some_in_numbered i (ret p x) = refl

-- loops that assign
module _ (b : ℕ) where
  mutual
    pub loops_numbered : (i : ℕ) (ns : Nodes) → loops_assign b (numbered i ns) ≡ loops_assign b ns
    loops_numbered i no_nodes = refl
    loops_numbered i (more_nodes n rest) = λ j. loop_in_numbered i n j && loops_numbered (i + node_size n) rest j

    loop_in_numbered : (i : ℕ) (n : Node) → loop_in_assigns b (numbered_in i n) ≡ loop_in_assigns b n
    loop_in_numbered i (plain p a) = refl
    loop_in_numbered i (if_ p x one other) = λ j. loops_numbered (suc i) one j && loops_numbered (suc i + row_size one) other j
    loop_in_numbered i (loop p body latch) =
        let k = suc i + row_size body in
        λ j. (not (some_numbered (act_looks b) (suc i) body j || some_numbered (act_looks b) k latch j) || (some_numbered (act_assigns b) (suc i) body j || some_numbered (act_assigns b) k latch j))
        && (loops_numbered (suc i) body j && loops_numbered k latch j)
    loop_in_numbered i (break_ p) = refl
    loop_in_numbered i (next_ p) = refl
    loop_in_numbered i (ret p x) = refl

-- states
module _ (m : Mark) where
  mutual
    unfolding flow

    pub flow_numbered : (i : ℕ) (ns : Nodes) (t : AllPaths) → flow m (numbered i ns) t ≡ flow m ns t
    flow_numbered i no_nodes t = refl
    flow_numbered i (more_nodes n rest) t = also_same m n (numbered_in i n) rest (numbered (i + node_size n) rest) t (node_numbered i n t) (flow_numbered (i + node_size n) rest (flow_node m n t).on)

    pub node_numbered : (i : ℕ) (n : Node) (t : AllPaths) → flow_node m (numbered_in i n) t ≡ flow_node m n t
    node_numbered i (plain p a) t = refl
    node_numbered i (if_ p x one other) t = λ j. either (flow_numbered (suc i) one t j) (flow_numbered (suc i + row_size one) other t j)
    node_numbered i (loop p body latch) t =
        let e : flow m (numbered (suc i) body) ≡ flow m body = λ j u. flow_numbered (suc i) body u j in
        let g : flow m (numbered (suc i + row_size body) latch) ≡ flow m latch = λ j u. flow_numbered (suc i + row_size body) latch u j in
        λ j. at (round_of (e j) (g j) (head_of (e j) (g j) t)).broken
    node_numbered i (break_ p) t = refl
    node_numbered i (next_ p) t = refl
    node_numbered i (ret p x) t = refl

  module _ (Q : Act → AllPaths → Type 0) where
    mutual
      pub each_numbered : (i : ℕ) (ns : Nodes) (t : AllPaths) → Each Q m ns t → Each Q m (numbered i ns) t
      each_numbered i no_nodes t e = tt
      each_numbered i (more_nodes n rest) t e = (
        in_numbered i n t e.0,
        subst (λ (o : Ways). Each Q m (numbered (i + node_size n) rest) o.on) (sym (node_numbered i n t)) (each_numbered (i + node_size n) rest _ e.1),
      )

      in_numbered : (i : ℕ) (n : Node) (t : AllPaths) → EachIn Q m n t → EachIn Q m (numbered_in i n) t
      in_numbered i (plain p a) t e = e
      in_numbered i (if_ p x one other) t e = (each_numbered (suc i) one t e.0, each_numbered (suc i + row_size one) other t e.1)
      in_numbered i (loop p body latch) t e =
          let k = suc i + row_size body in
          let f : flow m body ≡ flow m (numbered (suc i) body) = λ j u. sym (flow_numbered (suc i) body u) j in
          let g : flow m latch ≡ flow m (numbered k latch) = λ j u. sym (flow_numbered k latch u) j in (
            subst (λ (u : AllPaths). Each Q m (numbered (suc i) body) u) (λ j. head_of (f j) (g j) t) (each_numbered (suc i) body _ e.0),
            subst (λ (u : AllPaths). Each Q m (numbered k latch) u) (λ j. end_state (f j (head_of (f j) (g j) t))) (each_numbered k latch _ e.1),
          )
      in_numbered i (break_ p) t e = tt
      in_numbered i (next_ p) t e = tt
      in_numbered i (ret p x) t e = tt

-- what is used later
module _ (slot b : ℕ) where
  mutual
    unfolding live

    pub live_numbered : (i : ℕ) (ns : Nodes) (l : Live) → live slot b (numbered i ns) l ≡ live slot b ns l
    live_numbered i no_nodes l = refl
    live_numbered i (more_nodes n rest) l = live_in_numbered i n _ ∙ ap (λ x. live_node slot b n (lives x l.out l.end)) (live_numbered (i + node_size n) rest l)

    live_in_numbered : (i : ℕ) (n : Node) (l : Live) → live_node slot b (numbered_in i n) l ≡ live_node slot b n l
    live_in_numbered i (plain p a) l = refl
    live_in_numbered i (if_ p x one other) l = λ j. live_numbered (suc i) one l j || live_numbered (suc i + row_size one) other l j
    live_in_numbered i (loop p body latch) l = live_numbered (suc i) body _ ∙ ap (λ x. live slot b body (lives x l.on x)) (live_numbered (suc i + row_size body) latch (lives false l.on false))
    live_in_numbered i (break_ p) l = refl
    live_in_numbered i (next_ p) l = refl
    live_in_numbered i (ret p x) l = refl

-- ---- hoisted at each point

pub throughout_at_points : (ns : Nodes) → HoistedThroughout ns → HoistedAtPoints ns
throughout_at_points ns h = record {
  out_of_loops = λ b. loops_numbered b 0 ns ∙ h.out_of_loops b;
  needed = λ b. due_needed (numbered 0 ns) b (each_numbered (held b) (IsDue b) 0 ns bad (h.due b));
}

-- ---- numbers are apart

-- also from an earlier number on
earlier : (i k j : ℕ) (xs : List ℕ) → i ≤ k → RiseWithin k j xs → RiseWithin i j xs
earlier i k j [] le r = omega (arith, le, r)
earlier i k j (x ∷ rest) le r = (omega (arith, le, r.0), r.1)

-- rows one behind the other
behind_rise : (i k j : ℕ) (xs ys : List ℕ) → RiseWithin i k xs → RiseWithin k j ys → RiseWithin i j (xs ++ ys)
behind_rise i k j [] ys r s = earlier i k j ys r s
behind_rise i k j (x ∷ rest) ys r s = (r.0, behind_rise (suc x) k j rest ys r.1 s)

-- below a later number
below : (i j k : ℕ) (xs : List ℕ) → j ≤ k → RiseWithin i j xs → RiseWithin i k xs
below i j k [] le r = omega (arith, le, r)
below i j k (x ∷ rest) le r = (r.0, below (suc x) j k rest le r.1)

-- and both
two_rise : (i k r j : ℕ) (xs ys : List ℕ) → RiseWithin i k xs → RiseWithin k r ys → r ≤ j → RiseWithin i j (xs ++ ys)
two_rise i k r j xs ys one other le = behind_rise i k j xs ys one (below k r j ys le other)

mutual
  pub numbers_rise : NumbersRise
  numbers_rise i no_nodes = omega arith
  numbers_rise i (more_nodes n rest) =
      let k = i + node_size n in
      two_rise i k (k + row_size rest) (i + (node_size n + row_size rest + 1)) (node_places (numbered_in i n)) (places_in (numbered k rest)) (node_rises i n) (numbers_rise k rest) (omega arith)

  node_rises : (i : ℕ) (n : Node) → RiseWithin i (i + node_size n) (node_places (numbered_in i n))
  node_rises i (plain p a) = (omega arith, omega arith)
  node_rises i (if_ p x one other) =
      let k = suc i + row_size one in (
        omega arith,
        two_rise (suc i) k (k + row_size other) (i + (row_size one + row_size other + 1)) (places_in (numbered (suc i) one)) (places_in (numbered k other)) (numbers_rise (suc i) one) (numbers_rise k other) (omega arith),
      )
  node_rises i (loop p body latch) =
      let k = suc i + row_size body in (
        omega arith,
        two_rise (suc i) k (k + row_size latch) (i + (row_size body + row_size latch + 4)) (places_in (numbered (suc i) body)) (places_in (numbered k latch)) (numbers_rise (suc i) body) (numbers_rise k latch) (omega arith),
      )
  node_rises i (break_ p) = (omega arith, omega arith)
  node_rises i (next_ p) = (omega arith, omega arith)
  node_rises i (ret p x) = (omega arith, omega arith)
