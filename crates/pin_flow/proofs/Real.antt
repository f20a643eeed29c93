-- What a state says, some path shows. v: the answer before the code.
use Rattle.std.proofs.Common.{◌≡◌, ℕ, List, ◌∷◌, Bool, true, false, refl, ap, subst, ◌∙◌}
use Rattle.struct_ir.specs.Nodes.{Act, Node, plain, if_, loop, break_, next_, ret, Nodes, no_nodes, more_nodes}
use Rattle.struct_ir.specs.Flow.{Here, does, Stays, Path, on}
use Rattle.struct_ir.specs.Structured.{Position, then_, in_body, in_latch, out_of, end_of, here, next, structured}
use Rattle.pin_flow.specs.Marks.{Mark, IsFair, marked, answer_from, AllPaths, unreached, good, bad, join, state_of, after, Ways, at, either, in_turn, end_state, round_of, head_of, flow, flow_node, Each, EachIn, EveryAct, EveryActIn}
use Rattle.pin_flow.proofs.Sound.{after_same}

module _ (v : Bool) (m : Mark) (fair : IsFair m) (start : Position) where
  -- a path comes to k, and where the state is bad, one that says no
  abbrev pub Seen : Position → AllPaths → Type 0
  Seen k unreached = Unit {0}
  Seen k good = (w : List Position) × Path structured start w k
  Seen k bad = (w : List Position) × Path structured start w k × (answer_from structured m v w ≡ false)

  seen_join : (k : Position) (t u : AllPaths) → Seen k t → Seen k u → Seen k (join t u)
  seen_join k unreached u a b = b
  seen_join k good unreached a b = a
  seen_join k good good a b = a
  seen_join k good bad a b = b
  seen_join k bad u a b = a

  fair_here : (h : Here) → marked m h false ≡ true → marked m h true ≡ true
  fair_here (does p a) e = fair a e
  fair_here (Rattle.struct_ir.specs.Flow.tests p x) e = absurd cc
  fair_here Rattle.struct_ir.specs.Flow.passes e = absurd cc
  fair_here Rattle.struct_ir.specs.Flow.round e = absurd cc
  fair_here (Rattle.struct_ir.specs.Flow.returns x) e = absurd cc

  no_too : (f : Bool → Bool) → (f false ≡ true → f true ≡ true) → f true ≡ false → (x : Bool) → f x ≡ false
  no_too f h e true = e
  no_too f h e false = elim (f false) as (λ x. f false ≡ x → x ≡ false) [ true ↦ (λ g. absurd (let t = h g in cc)) | false ↦ (λ g. refl) ] refl

  seen_next : (k : Position) (c : Bool) → Stays (here k) → (t : AllPaths) → Seen k t → Seen (next k c) (after (marked m (here k)) t)
  seen_next k c st unreached s = tt
  seen_next k c st good s =
      let f = marked m (here k) in
      let p : Path structured start (k ∷ s.0) (next k c) = on s.0 k c st s.1 in
      elim (f true) as (λ x. f true ≡ x → Seen (next k c) (state_of x)) [
        | true ↦ (λ e. (k ∷ s.0, p))
        | false ↦ (λ e. (k ∷ s.0, p, no_too f (fair_here (here k)) e (answer_from structured m v s.0)))
      ] refl
  seen_next k c st bad s =
      let f = marked m (here k) in
      let p : Path structured start (k ∷ s.0) (next k c) = on s.0 k c st s.1 in
      elim (f false) as (λ x. f false ≡ x → Seen (next k c) (state_of x)) [
        | true ↦ (λ e. (k ∷ s.0, p))
        | false ↦ (λ e. (k ∷ s.0, p, ap f s.2 ∙ e))
      ] refl

  -- where nothing is done
  pub seen_on : (k : Position) (c : Bool) → Stays (here k) → ((x : Bool) → marked m (here k) x ≡ x) → (t : AllPaths) → Seen k t → Seen (next k c) t
  seen_on k c st e t s = subst (λ (u : AllPaths). Seen (next k c) u) ((λ i. after (λ x. e x i) t) ∙ after_same t) (seen_next k c st t s)

  pub record Out (k : Position) (o : Ways) : Type 0 where
    pub on : Seen k o.on
    pub broken : Seen (out_of k) o.broken
    pub next : Seen (end_of k) o.next

  out_at : (k : Position) (t : AllPaths) → Seen k t → Out k (at t)
  out_at k t s = record { on = s; broken = tt; next = tt }

  out_either : (k : Position) (o o' : Ways) → Out k o → Out k o' → Out k (either o o')
  out_either k o o' a b = record { on = seen_join _ _ _ a.on b.on; broken = seen_join _ _ _ a.broken b.broken; next = seen_join _ _ _ a.next b.next }

  out_turn : (rest : Nodes) (k : Position) (o o' : Ways) → Out (then_ rest k) o → Out k o' → Out k (in_turn o o')
  out_turn rest k o o' a b = record { on = b.on; broken = seen_join _ _ _ a.broken b.broken; next = seen_join _ _ _ a.next b.next }

  -- the start of each round, the end of the body, and behind the loop
  pub record Loops (body latch : Nodes) (k : Position) (t : AllPaths) : Type 0 where
    pub head : Seen (then_ body (in_body body latch k)) (head_of (flow m body) (flow m latch) t)
    pub end : Seen (then_ latch (in_latch body latch k)) (end_state (flow m body (head_of (flow m body) (flow m latch) t)))
    pub broken : Seen k (round_of (flow m body) (flow m latch) (head_of (flow m body) (flow m latch) t)).broken

  module _ (body latch : Nodes) (k : Position) (of_body : (t : AllPaths) → Seen (then_ body (in_body body latch k)) t → Out (in_body body latch k) (flow m body t))
      (of_turn : (t : AllPaths) → Seen (then_ latch (in_latch body latch k)) t → Out (in_latch body latch k) (flow m latch t)) where
    end_seen : (t : AllPaths) → Seen (then_ body (in_body body latch k)) t → Seen (then_ latch (in_latch body latch k)) (end_state (flow m body t))
    end_seen t s =
        let o = of_body t s in
        seen_on (in_body body latch k) true tt (λ x. refl) _ (seen_join _ _ _ o.on o.next)

    again_seen : (t : AllPaths) → Seen (then_ body (in_body body latch k)) t → Seen (then_ body (in_body body latch k)) (round_of (flow m body) (flow m latch) t).on
    unfolding round_of
    again_seen t s =
        let o = of_turn _ (end_seen t s) in
        seen_on (in_latch body latch k) true tt (λ x. refl) _ (seen_join _ _ _ o.on o.next)

    pub loop_seen : (t : AllPaths) → Seen (then_ body (in_body body latch k)) t → Loops body latch k t
    unfolding round_of head_of
    loop_seen t s =
        let h = seen_join _ t _ s (again_seen t s) in
        let e = end_seen _ h in
        record { head = h; end = e; broken = seen_join _ _ _ ((of_body _ h).broken) ((of_turn _ e).broken) }

  mutual
    unfolding flow

    pub row_seen : (ns : Nodes) (k : Position) (t : AllPaths) → Seen (then_ ns k) t → Out k (flow m ns t)
    row_seen no_nodes k t s = out_at k t (seen_on (then_ no_nodes k) true tt (λ x. refl) t s)
    row_seen (more_nodes n rest) k t s = let a = node_seen n rest k t s in out_turn rest k _ _ a (row_seen rest k _ a.on)

    pub node_seen : (n : Node) (rest : Nodes) (k : Position) (t : AllPaths) → Seen (then_ (more_nodes n rest) k) t → Out (then_ rest k) (flow_node m n t)
    node_seen (plain p a) rest k t s = out_at (then_ rest k) _ (seen_next (then_ (more_nodes (plain p a) rest) k) true tt t s)
    node_seen (if_ p x one other) rest k t s =
        let n = if_ p x one other in
        out_either (then_ rest k) _ _
        (row_seen one (then_ rest k) t (seen_on (then_ (more_nodes n rest) k) true tt (λ x. refl) t s))
        (row_seen other (then_ rest k) t (seen_on (then_ (more_nodes n rest) k) false tt (λ x. refl) t s))
    node_seen (loop p body latch) rest k t s = out_at (then_ rest k) _ (loop_seen body latch (then_ rest k) (row_seen body (in_body body latch (then_ rest k))) (row_seen latch (in_latch body latch (then_ rest k))) t (seen_on (then_ (more_nodes (loop p body latch) rest) k) true tt (λ x. refl) t s)).broken
    node_seen (break_ p) rest k t s = record { on = tt; broken = seen_on (then_ (more_nodes (break_ p) rest) k) true tt (λ x. refl) t s; next = tt }
    node_seen (next_ p) rest k t s = record { on = tt; broken = tt; next = seen_on (then_ (more_nodes (next_ p) rest) k) true tt (λ x. refl) t s }
    node_seen (ret p x) rest k t s = out_at (then_ rest k) unreached tt

  -- with what their acts' states say, R is shown of each act; Q is what is known of them
  module _ (Q : Act → AllPaths → Type 0) (R : Act → Position → Type 0) (shows : (p : ℕ) (a : Act) (t : AllPaths) (k : Position) → here k ≡ does p a → Seen k t → Q a t → R a k) where
    mutual
      pub every_shown : (ns : Nodes) (k : Position) (t : AllPaths) → Seen (then_ ns k) t → Each Q m ns t → EveryAct R ns k
      every_shown no_nodes k t s e = tt
      every_shown (more_nodes n rest) k t s e = (in_shown n rest k t s e.0, every_shown rest k _ ((node_seen n rest k t s).on) e.1)

      in_shown : (n : Node) (rest : Nodes) (k : Position) (t : AllPaths) → Seen (then_ (more_nodes n rest) k) t → EachIn Q m n t → EveryActIn R n rest k
      in_shown (plain p a) rest k t s e = shows p a t (then_ (more_nodes (plain p a) rest) k) refl s e
      in_shown (if_ p x one other) rest k t s e =
          let n = if_ p x one other in (
            every_shown one (then_ rest k) t (seen_on (then_ (more_nodes n rest) k) true tt (λ x. refl) t s) e.0,
            every_shown other (then_ rest k) t (seen_on (then_ (more_nodes n rest) k) false tt (λ x. refl) t s) e.1,
          )
      in_shown (loop p body latch) rest k t s e =
          let l = loop_seen body latch (then_ rest k) (row_seen body _) (row_seen latch _) t (seen_on (then_ (more_nodes (loop p body latch) rest) k) true tt (λ x. refl) t s) in
          (every_shown body _ _ l.head e.0, every_shown latch _ _ l.end e.1)
      in_shown (break_ p) rest k t s e = tt
      in_shown (next_ p) rest k t s e = tt
      in_shown (ret p x) rest k t s e = tt

  -- what every seen act has, each has with its state
  module _ (Q : Act → AllPaths → Type 0) (has : (p : ℕ) (a : Act) (t : AllPaths) (k : Position) → here k ≡ does p a → Seen k t → Q a t) where
    mutual
      pub each_seen : (ns : Nodes) (k : Position) (t : AllPaths) → Seen (then_ ns k) t → Each Q m ns t
      each_seen no_nodes k t s = tt
      each_seen (more_nodes n rest) k t s = (in_seen n rest k t s, each_seen rest k _ ((node_seen n rest k t s).on))

      in_seen : (n : Node) (rest : Nodes) (k : Position) (t : AllPaths) → Seen (then_ (more_nodes n rest) k) t → EachIn Q m n t
      in_seen (plain p a) rest k t s = has p a t (then_ (more_nodes (plain p a) rest) k) refl s
      in_seen (if_ p x one other) rest k t s =
          let n = if_ p x one other in (
            each_seen one (then_ rest k) t (seen_on (then_ (more_nodes n rest) k) true tt (λ x. refl) t s),
            each_seen other (then_ rest k) t (seen_on (then_ (more_nodes n rest) k) false tt (λ x. refl) t s),
          )
      in_seen (loop p body latch) rest k t s =
          let l = loop_seen body latch (then_ rest k) (row_seen body _) (row_seen latch _) t (seen_on (then_ (more_nodes (loop p body latch) rest) k) true tt (λ x. refl) t s) in
          (each_seen body _ _ l.head, each_seen latch _ _ l.end)
      in_seen (break_ p) rest k t s = tt
      in_seen (next_ p) rest k t s = tt
      in_seen (ret p x) rest k t s = tt
