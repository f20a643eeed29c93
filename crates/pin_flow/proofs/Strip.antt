-- Code without some acts: what doesn't see them is the same.
use Rattle.std.proofs.Common.{◌≡◌, ℕ, Bool, true, false, ◌||◌, refl, sym, ap, subst, ◌∙◌}
use Rattle.struct_ir.specs.Nodes.{Act, Node, plain, if_, loop, break_, next_, ret, Nodes, no_nodes, more_nodes}
use Rattle.struct_ir.specs.Lists.{bare_act}
use Rattle.struct_ir.specs.Erased.{is_kept, put, erased}
use Rattle.pin_flow.specs.Marks.{Mark, AllPaths, unreached, after, at, Ways, in_turn, round_of, head_of, end_state, flow, flow_node, Each, EachIn}
use Rattle.pin_flow.specs.Looks.{act_looks, act_assigns, some_act, some_in, loops_assign}
use Rattle.pin_flow.proofs.Sound.{after_same}

-- the nodes without the acts that aren't kept
abbrev pub keeps : (Act → Bool) → Node → Bool
keeps keep (plain place a) = keep a
keeps keep (if_ place temp one other) = true
keeps keep (loop place body latch) = true
keeps keep (break_ place) = true
keeps keep (next_ place) = true
keeps keep (ret place temp) = true

abbrev mutual
  pub node_sifted : (Act → Bool) → Node → Node
  node_sifted keep (plain place a) = plain place a
  node_sifted keep (if_ place temp one other) = if_ place temp (sifted keep one) (sifted keep other)
  node_sifted keep (loop place body latch) = loop place (sifted keep body) (sifted keep latch)
  node_sifted keep (break_ place) = break_ place
  node_sifted keep (next_ place) = next_ place
  node_sifted keep (ret place temp) = ret place temp

  pub sifted : (Act → Bool) → Nodes → Nodes
  sifted keep no_nodes = no_nodes
  sifted keep (more_nodes n rest) = put (keeps keep n) (node_sifted keep n) (sifted keep rest)

-- a fact of either value of b
pub by_bool : (P : Bool → Type 0) (b : Bool) → (b ≡ true → P true) → (b ≡ false → P false) → P b
by_bool P true f g = f refl
by_bool P false f g = g refl

-- nodes that go alike, and rows behind them that do
pub also_same : (m : Mark) (n n' : Node) (rest rest' : Nodes) (t : AllPaths) → flow_node m n' t ≡ flow_node m n t → flow m rest' (flow_node m n t).on ≡ flow m rest (flow_node m n t).on
    → flow m (more_nodes n' rest') t ≡ flow m (more_nodes n rest) t
unfolding flow
also_same m n n' rest rest' t e g = ap (λ (o : Ways). in_turn o (flow m rest' o.on)) e ∙ ap (λ (o : Ways). in_turn (flow_node m n t) o) g

module _ (keep : Act → Bool) where
  -- a test that sees none of them
  module _ (f : Act → Bool) (blind : (a : Act) → keep a ≡ false → f a ≡ false) where
    mutual
      pub some_sifted : (ns : Nodes) → some_act f (sifted keep ns) ≡ some_act f ns
      some_sifted no_nodes = refl
      some_sifted (more_nodes (plain p a) rest) =
          by_bool (λ x. some_act f (put x (plain p a) (sifted keep rest)) ≡ (f a || some_act f rest)) (keep a)
          (λ e. ap (λ y. f a || y) (some_sifted rest))
          (λ e. rw (blind a e) (some_sifted rest))
      some_sifted (more_nodes (if_ p x one other) rest) = ap (λ y. y || some_act f (sifted keep rest)) (in_sifted (if_ p x one other)) ∙ ap (λ y. some_in f (if_ p x one other) || y) (some_sifted rest)
      some_sifted (more_nodes (loop p body latch) rest) = ap (λ y. y || some_act f (sifted keep rest)) (in_sifted (loop p body latch)) ∙ ap (λ y. some_in f (loop p body latch) || y) (some_sifted rest)
      some_sifted (more_nodes (break_ p) rest) = some_sifted rest
      some_sifted (more_nodes (next_ p) rest) = some_sifted rest
      some_sifted (more_nodes (ret p x) rest) = some_sifted rest

      in_sifted : (n : Node) → some_in f (node_sifted keep n) ≡ some_in f n
      in_sifted (plain p a) = refl
      in_sifted (if_ p x one other) = rw (some_sifted one, some_sifted other) refl
      in_sifted (loop p body latch) = rw (some_sifted body, some_sifted latch) refl
      in_sifted (break_ p) = refl
      in_sifted (next_ p) = refl
      in_sifted (ret p x) = refl

  -- loops need their Looks, where no other acts are gone
  module _ (b : ℕ) (looks : (a : Act) → keep a ≡ false → act_looks b a ≡ false) (assigns : (a : Act) → keep a ≡ false → act_assigns b a ≡ false) where
    mutual
      pub loops_sifted : (ns : Nodes) → loops_assign b (sifted keep ns) ≡ loops_assign b ns
      loops_sifted no_nodes = refl
      loops_sifted (more_nodes (plain p a) rest) =
          by_bool (λ x. loops_assign b (put x (plain p a) (sifted keep rest)) ≡ loops_assign b rest) (keep a) (λ e. loops_sifted rest) (λ e. loops_sifted rest)
      loops_sifted (more_nodes (if_ p x one other) rest) = rw (loops_sifted one, loops_sifted other, loops_sifted rest) refl
      loops_sifted (more_nodes (loop p body latch) rest) =
          rw (
            some_sifted (act_looks b) looks body,
            some_sifted (act_looks b) looks latch,
            some_sifted (act_assigns b) assigns body,
            some_sifted (act_assigns b) assigns latch,
            loops_sifted body,
            loops_sifted latch,
            loops_sifted rest,
          ) refl
      loops_sifted (more_nodes (break_ p) rest) = loops_sifted rest
      loops_sifted (more_nodes (next_ p) rest) = loops_sifted rest
      loops_sifted (more_nodes (ret p x) rest) = loops_sifted rest

  -- a mark that none of them changes
  module _ (m : Mark) (idle : (a : Act) → keep a ≡ false → (v : Bool) → m a v ≡ v) where
    pub idle_after : (a : Act) → keep a ≡ false → (t : AllPaths) → after (m a) t ≡ t
    idle_after a e t = (λ i. after (λ v. idle a e v i) t) ∙ after_same t

    mutual
      unfolding flow

      pub flow_sifted : (ns : Nodes) (t : AllPaths) → flow m (sifted keep ns) t ≡ flow m ns t
      flow_sifted no_nodes t = refl
      flow_sifted (more_nodes (plain p a) rest) t =
          by_bool (λ x. flow m (put x (plain p a) (sifted keep rest)) t ≡ flow m (more_nodes (plain p a) rest) t) (keep a)
          (λ e. rw (flow_sifted rest (after (m a) t)) refl)
          (λ e. rw (idle_after a e t) (flow_sifted rest t))
      flow_sifted (more_nodes (if_ p x one other) rest) t = also_same m (if_ p x one other) (node_sifted keep (if_ p x one other)) rest (sifted keep rest) t (node_same (if_ p x one other) t) (flow_sifted rest _)
      flow_sifted (more_nodes (loop p body latch) rest) t = also_same m (loop p body latch) (node_sifted keep (loop p body latch)) rest (sifted keep rest) t (node_same (loop p body latch) t) (flow_sifted rest _)
      flow_sifted (more_nodes (break_ p) rest) t = rw (flow_sifted rest unreached) refl
      flow_sifted (more_nodes (next_ p) rest) t = rw (flow_sifted rest unreached) refl
      flow_sifted (more_nodes (ret p x) rest) t = rw (flow_sifted rest unreached) refl

      pub node_same : (n : Node) (t : AllPaths) → flow_node m (node_sifted keep n) t ≡ flow_node m n t
      node_same (plain p a) t = refl
      node_same (if_ p x one other) t = rw (flow_sifted one t, flow_sifted other t) refl
      node_same (loop p body latch) t =
          let e : flow m (sifted keep body) ≡ flow m body = λ i u. flow_sifted body u i in
          let g : flow m (sifted keep latch) ≡ flow m latch = λ i u. flow_sifted latch u i in
          λ i. at (round_of (e i) (g i) (head_of (e i) (g i) t)).broken
      node_same (break_ p) t = refl
      node_same (next_ p) t = refl
      node_same (ret p x) t = refl

    module _ (Q : Act → AllPaths → Type 0) where
      mutual
        unfolding flow

        pub each_sifted : (ns : Nodes) (t : AllPaths) → Each Q m ns t → Each Q m (sifted keep ns) t
        each_sifted no_nodes t e = tt
        each_sifted (more_nodes (plain p a) rest) t e =
            by_bool (λ x. Each Q m (put x (plain p a) (sifted keep rest)) t) (keep a)
            (λ g. (e.0, each_sifted rest _ e.1))
            (λ g. each_sifted rest t (subst (λ (u : AllPaths). Each Q m rest u) (idle_after a g t) e.1))
        each_sifted (more_nodes (if_ p x one other) rest) t e = (in_each_sifted (if_ p x one other) t e.0, subst (λ (o : Ways). Each Q m (sifted keep rest) o.on) (sym (node_same (if_ p x one other) t)) (each_sifted rest _ e.1))
        each_sifted (more_nodes (loop p body latch) rest) t e = (in_each_sifted (loop p body latch) t e.0, subst (λ (o : Ways). Each Q m (sifted keep rest) o.on) (sym (node_same (loop p body latch) t)) (each_sifted rest _ e.1))
        each_sifted (more_nodes (break_ p) rest) t e = (tt, each_sifted rest _ e.1)
        each_sifted (more_nodes (next_ p) rest) t e = (tt, each_sifted rest _ e.1)
        each_sifted (more_nodes (ret p x) rest) t e = (tt, each_sifted rest _ e.1)

        in_each_sifted : (n : Node) (t : AllPaths) → EachIn Q m n t → EachIn Q m (node_sifted keep n) t
        in_each_sifted (plain p a) t e = e
        in_each_sifted (if_ p x one other) t e = (each_sifted one t e.0, each_sifted other t e.1)
        in_each_sifted (loop p body latch) t e =
            let f : flow m body ≡ flow m (sifted keep body) = λ i u. sym (flow_sifted body u) i in
            let g : flow m latch ≡ flow m (sifted keep latch) = λ i u. sym (flow_sifted latch u) i in (
              subst (λ (h : AllPaths). Each Q m (sifted keep body) h) (λ i. head_of (f i) (g i) t) (each_sifted body _ e.0),
              subst (λ (h : AllPaths). Each Q m (sifted keep latch) h) (λ i. end_state (f i (head_of (f i) (g i) t))) (each_sifted latch _ e.1),
            )
        in_each_sifted (break_ p) t e = tt
        in_each_sifted (next_ p) t e = tt
        in_each_sifted (ret p x) t e = tt

      -- and back, where Q holds of what is gone
      module _ (known : (a : Act) → keep a ≡ false → (t : AllPaths) → Q a t) where
        mutual
          unfolding flow

          pub each_back : (ns : Nodes) (t : AllPaths) → Each Q m (sifted keep ns) t → Each Q m ns t
          each_back no_nodes t e = tt
          each_back (more_nodes (plain p a) rest) t e =
              by_bool (λ x. Each Q m (put x (plain p a) (sifted keep rest)) t → Each Q m (more_nodes (plain p a) rest) t) (keep a)
              (λ g e. (e.0, each_back rest _ e.1))
              (λ g e. (known a g t, subst (λ (u : AllPaths). Each Q m rest u) (sym (idle_after a g t)) (each_back rest t e))) e
          each_back (more_nodes (if_ p x one other) rest) t e = (in_each_back (if_ p x one other) t e.0, each_back rest _ (subst (λ (o : Ways). Each Q m (sifted keep rest) o.on) (node_same (if_ p x one other) t) e.1))
          each_back (more_nodes (loop p body latch) rest) t e = (in_each_back (loop p body latch) t e.0, each_back rest _ (subst (λ (o : Ways). Each Q m (sifted keep rest) o.on) (node_same (loop p body latch) t) e.1))
          each_back (more_nodes (break_ p) rest) t e = (tt, each_back rest _ e.1)
          each_back (more_nodes (next_ p) rest) t e = (tt, each_back rest _ e.1)
          each_back (more_nodes (ret p x) rest) t e = (tt, each_back rest _ e.1)

          in_each_back : (n : Node) (t : AllPaths) → EachIn Q m (node_sifted keep n) t → EachIn Q m n t
          in_each_back (plain p a) t e = e
          in_each_back (if_ p x one other) t e = (each_back one t e.0, each_back other t e.1)
          in_each_back (loop p body latch) t e =
              let f : flow m (sifted keep body) ≡ flow m body = λ i u. flow_sifted body u i in
              let g : flow m (sifted keep latch) ≡ flow m latch = λ i u. flow_sifted latch u i in (
                each_back body _ (subst (λ (h : AllPaths). Each Q m (sifted keep body) h) (λ i. head_of (f i) (g i) t) e.0),
                each_back latch _ (subst (λ (h : AllPaths). Each Q m (sifted keep latch) h) (λ i. end_state (f i (head_of (f i) (g i) t))) e.1),
              )
          in_each_back (break_ p) t e = tt
          in_each_back (next_ p) t e = tt
          in_each_back (ret p x) t e = tt

  -- where only Looks and safepoints are gone, the code without those is the same
  module _ (fewer : (a : Act) → keep a ≡ false → is_kept a ≡ false) where
    pub erased_sifted : (ns : Nodes) → erased (sifted keep ns) ≡ erased ns
    erased_sifted no_nodes = refl
    erased_sifted (more_nodes (plain p a) rest) =
        by_bool (λ x. erased (put x (plain p a) (sifted keep rest)) ≡ put (is_kept a) (plain p (bare_act a)) (erased rest)) (keep a)
        (λ e. ap (put (is_kept a) (plain p (bare_act a))) (erased_sifted rest))
        (λ e. rw (fewer a e) (erased_sifted rest))
    erased_sifted (more_nodes (if_ p x one other) rest) = rw (erased_sifted one, erased_sifted other, erased_sifted rest) refl
    erased_sifted (more_nodes (loop p body latch) rest) = rw (erased_sifted body, erased_sifted latch, erased_sifted rest) refl
    erased_sifted (more_nodes (break_ p) rest) = ap (more_nodes (break_ p)) (erased_sifted rest)
    erased_sifted (more_nodes (next_ p) rest) = ap (more_nodes (next_ p)) (erased_sifted rest)
    erased_sifted (more_nodes (ret p x) rest) = ap (more_nodes (ret p x)) (erased_sifted rest)
