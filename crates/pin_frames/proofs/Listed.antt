-- Lists change nothing else.
use Rattle.std.proofs.Common.{◌≡◌, ℕ, List, Bool, true, false, ◌||◌, refl, sym, ap, subst, ◌∙◌}
use Rattle.struct_ir.specs.Nodes.{Act, set, call, step, look, safepoint, begin_object, end_object, Node, plain, if_, loop, break_, next_, ret, Nodes, no_nodes, more_nodes}
use Rattle.struct_ir.specs.Lists.{bare_act}
use Rattle.struct_ir.specs.Erased.{is_kept, put, erased}
use Rattle.pin_flow.specs.Marks.{Mark, AllPaths, after, at, Ways, either, round_of, head_of, end_state, flow, flow_node, Each, EachIn}
use Rattle.pin_flow.specs.Looks.{some_act, some_in}
use Rattle.pin_flow.specs.Live.{uses, Live, lives, live_act, live, live_node, body_lives, latch_lives}
use Rattle.pin_frames.specs.inner.Place.{act_listing, list_for, heads, turns, on_states, rest_lives, listed, listed_in}
use Rattle.pin_flow.proofs.Strip.{by_bool, also_same}

kept_listing : (a : Act) (l : List ℕ) → is_kept (act_listing a l) ≡ is_kept a
kept_listing (set to calc) l = refl
kept_listing (call c) l = refl
kept_listing (step x) l = refl
kept_listing (look slot base) l = refl
kept_listing (safepoint old) l = refl
kept_listing (begin_object i) l = refl
kept_listing (end_object i) l = refl

bare_listing : (a : Act) (l : List ℕ) → is_kept a ≡ true → bare_act (act_listing a l) ≡ bare_act a
bare_listing (set to calc) l e = refl
bare_listing (call c) l e = refl
bare_listing (step x) l e = refl
bare_listing (look slot base) l e = refl
bare_listing (safepoint old) l e = absurd cc
bare_listing (begin_object i) l e = refl
bare_listing (end_object i) l e = refl

pub uses_listing : (slot b : ℕ) (a : Act) (l : List ℕ) → uses slot b (act_listing a l) ≡ uses slot b a
uses_listing slot b (set to calc) l = refl
uses_listing slot b (call c) l = refl
uses_listing slot b (step x) l = refl
uses_listing slot b (look s base) l = refl
uses_listing slot b (safepoint old) l = refl
uses_listing slot b (begin_object i) l = refl
uses_listing slot b (end_object i) l = refl

pub live_listing : (slot b : ℕ) (a : Act) (l : List ℕ) (later : Bool) → live_act slot b (act_listing a l) later ≡ live_act slot b a later
live_listing slot b (set to calc) l later = refl
live_listing slot b (call c) l later = refl
live_listing slot b (step x) l later = refl
live_listing slot b (look s base) l later = refl
live_listing slot b (safepoint old) l later = refl
live_listing slot b (begin_object i) l later = refl
live_listing slot b (end_object i) l later = refl

erase_put : (p : ℕ) (a : Act) (l : List ℕ) (rest rest' : Nodes) → erased rest' ≡ erased rest → erased (more_nodes (plain p (act_listing a l)) rest') ≡ erased (more_nodes (plain p a) rest)
erase_put p a l rest rest' e =
    ap (λ x. put x (plain p (bare_act (act_listing a l))) (erased rest')) (kept_listing a l)
    ∙ by_bool (λ x. put x (plain p (bare_act (act_listing a l))) (erased rest') ≡ put x (plain p (bare_act a)) (erased rest)) (is_kept a)
    (λ g. (λ i. more_nodes (plain p (bare_listing a l g i)) (e i))) (λ g. e)

module _ (slot_of : ℕ → ℕ) (bs : List ℕ) where
  pub erase_listed : (ns : Nodes) (ts : ℕ → AllPaths) (ls : ℕ → Live) → erased (listed slot_of bs ns ts ls) ≡ erased ns
  erase_listed no_nodes ts ls = refl
  erase_listed (more_nodes (plain p a) rest) ts ls = erase_put p a _ rest (listed slot_of bs rest (on_states (plain p a) ts) ls) (erase_listed rest _ ls)
  erase_listed (more_nodes (if_ p x one other) rest) ts ls =
      λ i. more_nodes (if_ p x (erase_listed one ts (rest_lives slot_of rest ls) i) (erase_listed other ts (rest_lives slot_of rest ls) i)) (erase_listed rest (on_states (if_ p x one other) ts) ls i)
  erase_listed (more_nodes (loop p body latch) rest) ts ls =
      let l = rest_lives slot_of rest ls in
      λ i. more_nodes (loop p (erase_listed body (heads body latch ts) (λ b. body_lives (slot_of b) b body latch (l b).on) i) (erase_listed latch (turns body latch ts) (λ b. latch_lives (slot_of b) b body latch (l b).on) i))
      (erase_listed rest (on_states (loop p body latch) ts) ls i)
  erase_listed (more_nodes (break_ p) rest) ts ls = ap (more_nodes (break_ p)) (erase_listed rest _ ls)
  erase_listed (more_nodes (next_ p) rest) ts ls = ap (more_nodes (next_ p)) (erase_listed rest _ ls)
  erase_listed (more_nodes (ret p x) rest) ts ls = ap (more_nodes (ret p x)) (erase_listed rest _ ls)

  -- a test that doesn't see lists
  module _ (f : Act → Bool) (same : (a : Act) (l : List ℕ) → f (act_listing a l) ≡ f a) where
    mutual
      pub some_listed : (ns : Nodes) (ts : ℕ → AllPaths) (ls : ℕ → Live) → some_act f (listed slot_of bs ns ts ls) ≡ some_act f ns
      some_listed no_nodes ts ls = refl
      some_listed (more_nodes n rest) ts ls = λ i. some_in_listed n ts (rest_lives slot_of rest ls) i || some_listed rest (on_states n ts) ls i

      some_in_listed : (n : Node) (ts : ℕ → AllPaths) (ls : ℕ → Live) → some_in f (listed_in slot_of bs n ts ls) ≡ some_in f n
      some_in_listed (plain p a) ts ls = same a _
      some_in_listed (if_ p x one other) ts ls = λ i. some_listed one ts ls i || some_listed other ts ls i
      some_in_listed (loop p body latch) ts ls =
          λ i. some_listed body (heads body latch ts) (λ b. body_lives (slot_of b) b body latch (ls b).on) i || some_listed latch (turns body latch ts) (λ b. latch_lives (slot_of b) b body latch (ls b).on) i
      some_in_listed (break_ p) ts ls = refl
      some_in_listed (next_ p) ts ls = refl
      some_in_listed (ret p x) ts ls = refl

  module _ (m : Mark) (same : (a : Act) (l : List ℕ) (v : Bool) → m (act_listing a l) v ≡ m a v) where
    mutual
      unfolding flow

      pub flow_listed : (ns : Nodes) (ts : ℕ → AllPaths) (ls : ℕ → Live) (t : AllPaths) → flow m (listed slot_of bs ns ts ls) t ≡ flow m ns t
      flow_listed no_nodes ts ls t = refl
      flow_listed (more_nodes n rest) ts ls t =
          also_same m n (listed_in slot_of bs n ts (rest_lives slot_of rest ls)) rest (listed slot_of bs rest (on_states n ts) ls) t
          (node_listed n ts (rest_lives slot_of rest ls) t) (flow_listed rest (on_states n ts) ls (flow_node m n t).on)

      pub node_listed : (n : Node) (ts : ℕ → AllPaths) (ls : ℕ → Live) (t : AllPaths) → flow_node m (listed_in slot_of bs n ts ls) t ≡ flow_node m n t
      node_listed (plain p a) ts ls t = λ i. at (after (λ v. same a (list_for slot_of bs a ts (λ b. live_act (slot_of b) b a (ls b).on)) v i) t)
      node_listed (if_ p x one other) ts ls t = λ i. either (flow_listed one ts ls t i) (flow_listed other ts ls t i)
      node_listed (loop p body latch) ts ls t =
          let e : flow m (listed slot_of bs body (heads body latch ts) (λ b. body_lives (slot_of b) b body latch (ls b).on)) ≡ flow m body = λ i u. flow_listed body (heads body latch ts) (λ b. body_lives (slot_of b) b body latch (ls b).on) u i in
          let g : flow m (listed slot_of bs latch (turns body latch ts) (λ b. latch_lives (slot_of b) b body latch (ls b).on)) ≡ flow m latch = λ i u. flow_listed latch (turns body latch ts) (λ b. latch_lives (slot_of b) b body latch (ls b).on) u i in
          λ i. at (round_of (e i) (g i) (head_of (e i) (g i) t)).broken
      node_listed (break_ p) ts ls t = refl
      node_listed (next_ p) ts ls t = refl
      node_listed (ret p x) ts ls t = refl

    module _ (Q : Act → AllPaths → Type 0) (keeps : (a : Act) (l : List ℕ) (t : AllPaths) → Q a t → Q (act_listing a l) t) where
      mutual
        pub each_listed : (ns : Nodes) (ts : ℕ → AllPaths) (ls : ℕ → Live) (t : AllPaths) → Each Q m ns t → Each Q m (listed slot_of bs ns ts ls) t
        each_listed no_nodes ts ls t e = tt
        each_listed (more_nodes n rest) ts ls t e = (
          in_listed n ts (rest_lives slot_of rest ls) t e.0,
          subst (λ (o : Ways). Each Q m (listed slot_of bs rest (on_states n ts) ls) o.on) (sym (node_listed n ts (rest_lives slot_of rest ls) t)) (each_listed rest (on_states n ts) ls _ e.1),
        )

        in_listed : (n : Node) (ts : ℕ → AllPaths) (ls : ℕ → Live) (t : AllPaths) → EachIn Q m n t → EachIn Q m (listed_in slot_of bs n ts ls) t
        in_listed (plain p a) ts ls t e = keeps a _ t e
        in_listed (if_ p x one other) ts ls t e = (each_listed one ts ls t e.0, each_listed other ts ls t e.1)
        in_listed (loop p body latch) ts ls t e =
            let bl : ℕ → Live = λ b. body_lives (slot_of b) b body latch (ls b).on in
            let tl : ℕ → Live = λ b. latch_lives (slot_of b) b body latch (ls b).on in
            let f : flow m body ≡ flow m (listed slot_of bs body (heads body latch ts) bl) = λ i u. sym (flow_listed body (heads body latch ts) bl u) i in
            let g : flow m latch ≡ flow m (listed slot_of bs latch (turns body latch ts) tl) = λ i u. sym (flow_listed latch (turns body latch ts) tl u) i in (
              subst (λ (u : AllPaths). Each Q m (listed slot_of bs body (heads body latch ts) bl) u) (λ i. head_of (f i) (g i) t) (each_listed body _ _ _ e.0),
              subst (λ (u : AllPaths). Each Q m (listed slot_of bs latch (turns body latch ts) tl) u) (λ i. end_state (f i (head_of (f i) (g i) t))) (each_listed latch _ _ _ e.1),
            )
        in_listed (break_ p) ts ls t e = tt
        in_listed (next_ p) ts ls t e = tt
        in_listed (ret p x) ts ls t e = tt

  module _ (slot b : ℕ) where
    mutual
      unfolding live

      pub live_listed : (ns : Nodes) (ts : ℕ → AllPaths) (ls : ℕ → Live) (l : Live) → live slot b (listed slot_of bs ns ts ls) l ≡ live slot b ns l
      live_listed no_nodes ts ls l = refl
      live_listed (more_nodes n rest) ts ls l =
          live_in_listed n ts (rest_lives slot_of rest ls) _ ∙ ap (λ x. live_node slot b n (lives x l.out l.end)) (live_listed rest (on_states n ts) ls l)

      live_in_listed : (n : Node) (ts : ℕ → AllPaths) (ls : ℕ → Live) (l : Live) → live_node slot b (listed_in slot_of bs n ts ls) l ≡ live_node slot b n l
      live_in_listed (plain p a) ts ls l = live_listing slot b a _ l.on
      live_in_listed (if_ p x one other) ts ls l = λ i. live_listed one ts ls l i || live_listed other ts ls l i
      live_in_listed (loop p body latch) ts ls l =
          let bl : ℕ → Live = λ b. body_lives (slot_of b) b body latch (ls b).on in
          let tl : ℕ → Live = λ b. latch_lives (slot_of b) b body latch (ls b).on in
          let e : live slot b (listed slot_of bs latch (turns body latch ts) tl) (lives false l.on false) ≡ live slot b latch (lives false l.on false) = live_listed latch (turns body latch ts) tl _ in
          live_listed body (heads body latch ts) bl _ ∙ ap (λ x. live slot b body (lives x l.on x)) e
      live_in_listed (break_ p) ts ls l = refl
      live_in_listed (next_ p) ts ls l = refl
      live_in_listed (ret p x) ts ls l = refl
