-- Marks that agree on the acts of code agree on its states.
use Rattle.std.proofs.Common.{◌≡◌, Bool, false, refl, sym, ap, subst, ◌∙◌}
use Rattle.std.proofs.lemmas.Bool.{or_parts}
use Rattle.struct_ir.specs.Nodes.{Act, Node, plain, if_, loop, break_, next_, ret, Nodes, no_nodes, more_nodes}
use Rattle.pin_flow.specs.Marks.{Mark, AllPaths, after, at, Ways, in_turn, round_of, head_of, end_state, flow, flow_node, Each, EachIn}
use Rattle.pin_flow.specs.Looks.{some_act, some_in}

-- f: the acts on which they may differ
module _ (m m' : Mark) (f : Act → Bool) (agree : (a : Act) → f a ≡ false → (v : Bool) → m' a v ≡ m a v) where
  after_agree : (a : Act) → f a ≡ false → (t : AllPaths) → after (m' a) t ≡ after (m a) t
  after_agree a e t = λ i. after (λ v. agree a e v i) t

  mutual
    unfolding flow

    pub flow_agree : (ns : Nodes) → some_act f ns ≡ false → (t : AllPaths) → flow m' ns t ≡ flow m ns t
    flow_agree no_nodes e t = refl
    flow_agree (more_nodes n rest) e t =
        let q = or_parts (some_in f n) (some_act f rest) e in
        ap (λ (o : Ways). in_turn o (flow m' rest o.on)) (node_agree n q.0 t) ∙ ap (λ (o : Ways). in_turn (flow_node m n t) o) (flow_agree rest q.1 (flow_node m n t).on)

    pub node_agree : (n : Node) → some_in f n ≡ false → (t : AllPaths) → flow_node m' n t ≡ flow_node m n t
    node_agree (plain p a) e t = ap (λ (u : AllPaths). at u) (after_agree a e t)
    node_agree (if_ p x one other) e t =
        let q = or_parts (some_act f one) (some_act f other) e in
        rw (flow_agree one q.0 t, flow_agree other q.1 t) refl
    node_agree (loop p body latch) e t =
        let q = or_parts (some_act f body) (some_act f latch) e in
        let g : flow m' body ≡ flow m body = λ i u. flow_agree body q.0 u i in
        let h : flow m' latch ≡ flow m latch = λ i u. flow_agree latch q.1 u i in
        λ i. at (round_of (g i) (h i) (head_of (g i) (h i) t)).broken
    node_agree (break_ p) e t = refl
    node_agree (next_ p) e t = refl
    node_agree (ret p x) e t = refl

  module _ (Q : Act → AllPaths → Type 0) where
    mutual
      pub each_agree : (ns : Nodes) → some_act f ns ≡ false → (t : AllPaths) → Each Q m ns t → Each Q m' ns t
      each_agree no_nodes e t h = tt
      each_agree (more_nodes n rest) e t h =
          let q = or_parts (some_in f n) (some_act f rest) e in
          (in_agree n q.0 t h.0, subst (λ (o : Ways). Each Q m' rest o.on) (sym (node_agree n q.0 t)) (each_agree rest q.1 _ h.1))

      in_agree : (n : Node) → some_in f n ≡ false → (t : AllPaths) → EachIn Q m n t → EachIn Q m' n t
      in_agree (plain p a) e t h = h
      in_agree (if_ p x one other) e t h =
          let q = or_parts (some_act f one) (some_act f other) e in
          (each_agree one q.0 t h.0, each_agree other q.1 t h.1)
      in_agree (loop p body latch) e t h =
          let q = or_parts (some_act f body) (some_act f latch) e in
          let g : flow m body ≡ flow m' body = λ i u. sym (flow_agree body q.0 u) i in
          let k : flow m latch ≡ flow m' latch = λ i u. sym (flow_agree latch q.1 u) i in (
            subst (λ (u : AllPaths). Each Q m' body u) (λ i. head_of (g i) (k i) t) (each_agree body q.0 _ h.0),
            subst (λ (u : AllPaths). Each Q m' latch u) (λ i. end_state (g i (head_of (g i) (k i) t))) (each_agree latch q.1 _ h.1),
          )
      in_agree (break_ p) e t h = tt
      in_agree (next_ p) e t h = tt
      in_agree (ret p x) e t h = tt

-- what follows from Q and from what no act is
module _ (m : Mark) (Q R : Act → AllPaths → Type 0) (f : Act → Bool) (then_too : (a : Act) (t : AllPaths) → f a ≡ false → Q a t → R a t) where
  mutual
    pub each_weaker : (ns : Nodes) → some_act f ns ≡ false → (t : AllPaths) → Each Q m ns t → Each R m ns t
    each_weaker no_nodes e t h = tt
    each_weaker (more_nodes n rest) e t h =
        let q = or_parts (some_in f n) (some_act f rest) e in
        (in_weaker n q.0 t h.0, each_weaker rest q.1 _ h.1)

    in_weaker : (n : Node) → some_in f n ≡ false → (t : AllPaths) → EachIn Q m n t → EachIn R m n t
    in_weaker (plain p a) e t h = then_too a t e h
    in_weaker (if_ p x one other) e t h =
        let q = or_parts (some_act f one) (some_act f other) e in
        (each_weaker one q.0 t h.0, each_weaker other q.1 t h.1)
    in_weaker (loop p body latch) e t h =
        let q = or_parts (some_act f body) (some_act f latch) e in
        (each_weaker body q.0 _ h.0, each_weaker latch q.1 _ h.1)
    in_weaker (break_ p) e t h = tt
    in_weaker (next_ p) e t h = tt
    in_weaker (ret p x) e t h = tt

-- nothing is any act
abbrev pub no_act : Act → Bool
no_act a = false

mutual
  pub no_acts : (ns : Nodes) → some_act no_act ns ≡ false
  no_acts no_nodes = refl
  no_acts (more_nodes n rest) = rw (no_acts_in n, no_acts rest) refl

  no_acts_in : (n : Node) → some_in no_act n ≡ false
  no_acts_in (plain p a) = refl
  no_acts_in (if_ p x one other) = rw (no_acts one, no_acts other) refl
  no_acts_in (loop p body latch) = rw (no_acts body, no_acts latch) refl
  no_acts_in (break_ p) = refl
  no_acts_in (next_ p) = refl
  no_acts_in (ret p x) = refl

-- each act has what is always so
mutual
  pub each_always : (m : Mark) (Q : Act → AllPaths → Type 0) → ((a : Act) (t : AllPaths) → Q a t) → (ns : Nodes) (t : AllPaths) → Each Q m ns t
  each_always m Q f no_nodes t = tt
  each_always m Q f (more_nodes n rest) t = (in_always m Q f n t, each_always m Q f rest _)

  in_always : (m : Mark) (Q : Act → AllPaths → Type 0) → ((a : Act) (t : AllPaths) → Q a t) → (n : Node) (t : AllPaths) → EachIn Q m n t
  in_always m Q f (plain p a) t = f a t
  in_always m Q f (if_ p x one other) t = (each_always m Q f one t, each_always m Q f other t)
  in_always m Q f (loop p body latch) t = (each_always m Q f body _, each_always m Q f latch _)
  in_always m Q f (break_ p) t = tt
  in_always m Q f (next_ p) t = tt
  in_always m Q f (ret p x) t = tt
