-- What holds of acts at their positions.
use Rattle.std.proofs.Common.{◌≡◌, ℕ, inl, inr, Bool, true, false, refl, sym, subst}
use Rattle.std.proofs.lemmas.Bool.{or_parts, or_cases}
use Rattle.struct_ir.specs.Nodes.{Act, Node, plain, if_, loop, break_, next_, ret, Nodes, no_nodes, more_nodes}
use Rattle.struct_ir.specs.Flow.{does}
use Rattle.struct_ir.specs.Structured.{Position, then_, in_body, in_latch, here}
use Rattle.pin_flow.specs.Marks.{Mark, IsFair, AllPaths, Ways, head_of, end_state, flow, Each, EachIn, EveryAct, EveryActIn}
use Rattle.pin_flow.specs.Looks.{some_act, some_in}
use Rattle.pin_flow.proofs.Switch.{flow_agree, node_agree}
pub use Rattle.pin_flow.proofs.EachAt.{EachAt, EachAtIn}
use Rattle.pin_flow.proofs.Real.{Seen, row_seen, node_seen, seen_on, loop_seen}

module _ (E : Act → AllPaths → Position → Type 0) (m : Mark) where
  -- without the positions
  module _ (Q : Act → AllPaths → Type 0) (tells : (a : Act) (t : AllPaths) (k : Position) → E a t k → Q a t) where
    mutual
      pub each_of : (ns : Nodes) (k : Position) (t : AllPaths) → EachAt E m ns k t → Each Q m ns t
      each_of no_nodes k t e = tt
      each_of (more_nodes n rest) k t e = (in_of n rest k t e.0, each_of rest k _ e.1)

      in_of : (n : Node) (rest : Nodes) (k : Position) (t : AllPaths) → EachAtIn E m n rest k t → EachIn Q m n t
      in_of (plain p a) rest k t e = tells a t _ e
      in_of (if_ p x one other) rest k t e = (each_of one _ t e.0, each_of other _ t e.1)
      in_of (loop p body latch) rest k t e = (each_of body _ _ e.0, each_of latch _ _ e.1)
      in_of (break_ p) rest k t e = tt
      in_of (next_ p) rest k t e = tt
      in_of (ret p x) rest k t e = tt

  -- without the states, for what paths show
  module _ (fair : IsFair m) (start : Position) (R : Act → Position → Type 0) (shows : (p : ℕ) (a : Act) (t : AllPaths) (k : Position) → here k ≡ does p a → Seen false m fair start k t → E a t k → R a k) where
    mutual
      pub every_at : (ns : Nodes) (k : Position) (t : AllPaths) → Seen false m fair start (then_ ns k) t → EachAt E m ns k t → EveryAct R ns k
      every_at no_nodes k t s e = tt
      every_at (more_nodes n rest) k t s e = (in_at n rest k t s e.0, every_at rest k _ ((node_seen false m fair start n rest k t s).on) e.1)

      in_at : (n : Node) (rest : Nodes) (k : Position) (t : AllPaths) → Seen false m fair start (then_ (more_nodes n rest) k) t → EachAtIn E m n rest k t → EveryActIn R n rest k
      in_at (plain p a) rest k t s e = shows p a t (then_ (more_nodes (plain p a) rest) k) refl s e
      in_at (if_ p x one other) rest k t s e =
          let n = if_ p x one other in (
            every_at one (then_ rest k) t (seen_on false m fair start (then_ (more_nodes n rest) k) true tt (λ v. refl) t s) e.0,
            every_at other (then_ rest k) t (seen_on false m fair start (then_ (more_nodes n rest) k) false tt (λ v. refl) t s) e.1,
          )
      in_at (loop p body latch) rest k t s e =
          let l = loop_seen false m fair start body latch (then_ rest k) (row_seen false m fair start body _) (row_seen false m fair start latch _) t (seen_on false m fair start (then_ (more_nodes (loop p body latch) rest) k) true tt (λ v. refl) t s) in
          (every_at body _ _ l.head e.0, every_at latch _ _ l.end e.1)
      in_at (break_ p) rest k t s e = tt
      in_at (next_ p) rest k t s e = tt
      in_at (ret p x) rest k t s e = tt

-- both at once
module _ (R S T : Act → Position → Type 0) (both : (p : ℕ) (a : Act) (k : Position) → here k ≡ does p a → R a k → S a k → T a k) where
  mutual
    pub every_both : (ns : Nodes) (k : Position) → EveryAct R ns k → EveryAct S ns k → EveryAct T ns k
    every_both no_nodes k r s = tt
    every_both (more_nodes n rest) k r s = (in_both n rest k r.0 s.0, every_both rest k r.1 s.1)

    in_both : (n : Node) (rest : Nodes) (k : Position) → EveryActIn R n rest k → EveryActIn S n rest k → EveryActIn T n rest k
    in_both (plain p a) rest k r s = both p a _ refl r s
    in_both (if_ p x one other) rest k r s = (every_both one _ r.0 s.0, every_both other _ r.1 s.1)
    in_both (loop p body latch) rest k r s = (every_both body _ r.0 s.0, every_both latch _ r.1 s.1)
    in_both (break_ p) rest k r s = tt
    in_both (next_ p) rest k r s = tt
    in_both (ret p x) rest k r s = tt

-- for all at once
module _ (B : Type 0) (R : B → Act → Position → Type 0) where
  mutual
    pub every_all : (ns : Nodes) (k : Position) → ((b : B) → EveryAct (R b) ns k) → EveryAct (λ a k. (b : B) → R b a k) ns k
    every_all no_nodes k r = tt
    every_all (more_nodes n rest) k r = (in_all n rest k (λ b. (r b).0), every_all rest k (λ b. (r b).1))

    in_all : (n : Node) (rest : Nodes) (k : Position) → ((b : B) → EveryActIn (R b) n rest k) → EveryActIn (λ a k. (b : B) → R b a k) n rest k
    in_all (plain p a) rest k r = r
    in_all (if_ p x one other) rest k r = (every_all one _ (λ b. (r b).0), every_all other _ (λ b. (r b).1))
    in_all (loop p body latch) rest k r = (every_all body _ (λ b. (r b).0), every_all latch _ (λ b. (r b).1))
    in_all (break_ p) rest k r = tt
    in_all (next_ p) rest k r = tt
    in_all (ret p x) rest k r = tt

-- what no act is
module _ (f : Act → Bool) where
  mutual
    pub every_not : (ns : Nodes) (k : Position) → some_act f ns ≡ false → EveryAct (λ a k. f a ≡ false) ns k
    every_not no_nodes k e = tt
    every_not (more_nodes n rest) k e = let q = or_parts (some_in f n) (some_act f rest) e in (in_not n rest k q.0, every_not rest k q.1)

    in_not : (n : Node) (rest : Nodes) (k : Position) → some_in f n ≡ false → EveryActIn (λ a k. f a ≡ false) n rest k
    in_not (plain p a) rest k e = e
    in_not (if_ p x one other) rest k e = let q = or_parts (some_act f one) (some_act f other) e in (every_not one _ q.0, every_not other _ q.1)
    in_not (loop p body latch) rest k e = let q = or_parts (some_act f body) (some_act f latch) e in (every_not body _ q.0, every_not latch _ q.1)
    in_not (break_ p) rest k e = tt
    in_not (next_ p) rest k e = tt
    in_not (ret p x) rest k e = tt

-- some act is one, and no act is another
module _ (f g : Act → Bool) (X : Type 0) (found : (a : Act) → f a ≡ true → g a ≡ false → X) where
  mutual
    pub some_finds : (ns : Nodes) → some_act f ns ≡ true → some_act g ns ≡ false → X
    some_finds no_nodes e h = absurd (let x : false ≡ true = e in cc)
    some_finds (more_nodes n rest) e h =
        let q = or_parts (some_in g n) (some_act g rest) h in
        elim (or_cases (some_in f n) (some_act f rest) e) [ inl y ↦ in_finds n y q.0 | inr y ↦ some_finds rest y q.1 ]

    in_finds : (n : Node) → some_in f n ≡ true → some_in g n ≡ false → X
    in_finds (plain p a) e h = found a e h
    in_finds (if_ p x one other) e h =
        let q = or_parts (some_act g one) (some_act g other) h in
        elim (or_cases (some_act f one) (some_act f other) e) [ inl y ↦ some_finds one y q.0 | inr y ↦ some_finds other y q.1 ]
    in_finds (loop p body latch) e h =
        let q = or_parts (some_act g body) (some_act g latch) h in
        elim (or_cases (some_act f body) (some_act f latch) e) [ inl y ↦ some_finds body y q.0 | inr y ↦ some_finds latch y q.1 ]
    in_finds (break_ p) e h = absurd (let x : false ≡ true = e in cc)
    in_finds (next_ p) e h = absurd (let x : false ≡ true = e in cc)
    in_finds (ret p x) e h = absurd (let x : false ≡ true = e in cc)

-- marks that agree on the acts of code
module _ (m m' : Mark) (f : Act → Bool) (agree : (a : Act) → f a ≡ false → (v : Bool) → m' a v ≡ m a v) (E E' : Act → AllPaths → Position → Type 0) (tells : (a : Act) (t : AllPaths) (k : Position) → E a t k → E' a t k) where
  mutual
    pub at_agree : (ns : Nodes) (k : Position) (t : AllPaths) → some_act f ns ≡ false → EachAt E m ns k t → EachAt E' m' ns k t
    at_agree no_nodes k t e h = tt
    at_agree (more_nodes n rest) k t e h =
        let q = or_parts (some_in f n) (some_act f rest) e in
        (in_at_agree n rest k t q.0 h.0, subst (λ (o : Ways). EachAt E' m' rest k o.on) (sym (node_agree m m' f agree n q.0 t)) (at_agree rest k _ q.1 h.1))

    in_at_agree : (n : Node) (rest : Nodes) (k : Position) (t : AllPaths) → some_in f n ≡ false → EachAtIn E m n rest k t → EachAtIn E' m' n rest k t
    in_at_agree (plain p a) rest k t e h = tells a t _ h
    in_at_agree (if_ p x one other) rest k t e h = let q = or_parts (some_act f one) (some_act f other) e in (at_agree one _ t q.0 h.0, at_agree other _ t q.1 h.1)
    in_at_agree (loop p body latch) rest k t e h =
        let q = or_parts (some_act f body) (some_act f latch) e in
        let g : flow m body ≡ flow m' body = λ i u. sym (flow_agree m m' f agree body q.0 u) i in
        let j : flow m latch ≡ flow m' latch = λ i u. sym (flow_agree m m' f agree latch q.1 u) i in (
          subst (λ (u : AllPaths). EachAt E' m' body (in_body body latch (then_ rest k)) u) (λ i. head_of (g i) (j i) t) (at_agree body _ _ q.0 h.0),
          subst (λ (u : AllPaths). EachAt E' m' latch (in_latch body latch (then_ rest k)) u) (λ i. end_state (g i (head_of (g i) (j i) t))) (at_agree latch _ _ q.1 h.1),
        )
    in_at_agree (break_ p) rest k t e h = tt
    in_at_agree (next_ p) rest k t e h = tt
    in_at_agree (ret p x) rest k t e h = tt
