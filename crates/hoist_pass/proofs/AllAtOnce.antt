-- One walk for all registers makes what a walk for each of them makes, one after the other.
use Rattle.std.proofs.Common.{◌≡◌, ℕ, List, [], ◌∷◌, Bool, true, false, ◌==◌, ◌||◌, ◌&&◌, refl, sym, ap, subst, ◌∙◌}
use Rattle.std.proofs.lemmas.Bool.{eqb-true, eq-eqb, ne_eqb, both_ways}
use Rattle.std.specs.Prelude.{not}
use Rattle.struct_ir.specs.Nodes.{Act, set, call, step, look, safepoint, begin_object, end_object, Node, plain, if_, loop, break_, next_, ret, Nodes, no_nodes, more_nodes, node_place}
use Rattle.struct_ir.specs.Erased.{put}
use Rattle.pin_flow.specs.Marks.{AllPaths, bad, after, at, Ways, in_turn, either, round_of, head_of, end_state, flow, flow_node}
use Rattle.pin_flow.specs.Looks.{act_looks, act_assigns, some_act}
use Rattle.pin_flow.specs.Held.{held}
use Rattle.pin_flow.proofs.Strip.{by_bool, also_same, some_sifted, idle_after, flow_sifted}
use Rattle.hoist_pass.specs.inner.Hoist.{wants, lifted, lifted_in, is_bad, needs, dropped, dropped_in, hoisted_one, is_in, looks_for, lifted_all, lifted_all_in, stays, dropped_all, dropped_all_in, IsNotIn, AllAtOnce}
use Rattle.hoist_pass.proofs.Same.{no_look_of, strip_dropped, strip_lifted}
use Rattle.hoist_pass.proofs.Done.{look_assigns_none}
use Rattle.hoist_pass.proofs.Lift.{is_look}
use Rattle.hoist_pass.proofs.Hoisted.{other_looks, other_idle}
use Rattle.hoist_pass.proofs.Within.{place_lifted}

-- ---- lists without the same register twice

not_in : (bs : List ℕ) (b : ℕ) → IsNotIn bs b → is_in bs b ≡ false
not_in [] b absent = refl
not_in (c ∷ bs) b absent = (λ i. ne_eqb b c absent.0 i || is_in bs b) ∙ not_in bs b absent.1

-- ---- a Look of b, which others don't see

module _ (b c : ℕ) (apart : b ≡ c → ⊥) where
  -- what holds of c isn't changed by it
  look_idle : (s : ℕ) (t : AllPaths) → after (held c (look s b)) t ≡ t
  look_idle s t = idle_after (no_look_of b) (held c) (other_idle b c apart) (look s b) (ap not (is_look s b)) t

  flow_without : (ns : Nodes) (t u : AllPaths) → flow (held c) (dropped b ns t) u ≡ flow (held c) ns u
  flow_without ns t u =
      sym (flow_sifted (no_look_of b) (held c) (other_idle b c apart) (dropped b ns t) u)
      ∙ (ap (λ x. flow (held c) x u) (strip_dropped b ns t) ∙ flow_sifted (no_look_of b) (held c) (other_idle b c apart) ns u)

  rows_without : (ns : Nodes) (t : AllPaths) → flow (held c) (dropped b ns t) ≡ flow (held c) ns
  rows_without ns t = λ i u. flow_without ns t u i

  node_without : (n : Node) (t u : AllPaths) → flow_node (held c) (dropped_in b n t) u ≡ flow_node (held c) n u
  unfolding flow
  node_without (plain p a) t u = refl
  node_without (if_ p x one other) t u = λ i. either (flow_without one t u i) (flow_without other t u i)
  node_without (loop p body latch) t u =
      let h = head_of (flow (held b) body) (flow (held b) latch) t in
      let z = end_state (flow (held b) body h) in
      let e = rows_without body h in
      let g = rows_without latch z in
      λ i. at (round_of (e i) (g i) (head_of (e i) (g i) u)).broken
  node_without (break_ p) t u = refl
  node_without (next_ p) t u = refl
  node_without (ret p x) t u = refl

  -- loops want the same Looks of c
  wants_alike : (p p' : ℕ) (body body' latch latch' : Nodes) → some_act (act_looks c) body' ≡ some_act (act_looks c) body → some_act (act_looks c) latch' ≡ some_act (act_looks c) latch
      → some_act (act_assigns c) body' ≡ some_act (act_assigns c) body → some_act (act_assigns c) latch' ≡ some_act (act_assigns c) latch → wants c (loop p' body' latch') ≡ wants c (loop p body latch)
  wants_alike p p' body body' latch latch' e f g h = λ i. (e i || f i) && not (g i || h i)

  some_dropped : (f : Act → Bool) → ((a : Act) → no_look_of b a ≡ false → f a ≡ false) → (ns : Nodes) (t : AllPaths) → some_act f (dropped b ns t) ≡ some_act f ns
  some_dropped f blind ns t = sym (some_sifted (no_look_of b) f blind (dropped b ns t)) ∙ (ap (some_act f) (strip_dropped b ns t) ∙ some_sifted (no_look_of b) f blind ns)

  some_lifted : (slot : ℕ) (f : Act → Bool) → ((a : Act) → no_look_of b a ≡ false → f a ≡ false) → (ns : Nodes) → some_act f (lifted slot b ns) ≡ some_act f ns
  some_lifted slot f blind ns = sym (some_sifted (no_look_of b) f blind (lifted slot b ns)) ∙ (ap (some_act f) (strip_lifted b slot ns) ∙ some_sifted (no_look_of b) f blind ns)

  wants_dropped : (p : ℕ) (body latch : Nodes) (t u : AllPaths) → wants c (loop p (dropped b body t) (dropped b latch u)) ≡ wants c (loop p body latch)
  wants_dropped p body latch t u =
      wants_alike p p body (dropped b body t) latch (dropped b latch u) (some_dropped (act_looks c) (other_looks b c apart) body t) (some_dropped (act_looks c) (other_looks b c apart) latch u)
      (some_dropped (act_assigns c) (look_assigns_none b c) body t) (some_dropped (act_assigns c) (look_assigns_none b c) latch u)

  wants_lifted : (slot : ℕ) (n : Node) → wants c (lifted_in slot b n) ≡ wants c n
  wants_lifted slot (plain p a) = refl
  wants_lifted slot (if_ p x one other) = refl
  wants_lifted slot (loop p body latch) =
      wants_alike p p body (lifted slot b body) latch (lifted slot b latch) (some_lifted slot (act_looks c) (other_looks b c apart) body) (some_lifted slot (act_looks c) (other_looks b c apart) latch)
      (some_lifted slot (act_assigns c) (look_assigns_none b c) body) (some_lifted slot (act_assigns c) (look_assigns_none b c) latch)
  wants_lifted slot (break_ p) = refl
  wants_lifted slot (next_ p) = refl
  wants_lifted slot (ret p x) = refl

-- ---- Looks before a node

module _ (slot_of : ℕ → ℕ) where
  -- none where none is wanted
  pub looks_none : (n : Node) → ((c : ℕ) → wants c n ≡ false) → (bs : List ℕ) (rest : Nodes) → looks_for slot_of bs n rest ≡ rest
  looks_none n none [] rest = refl
  looks_none n none (c ∷ bs) rest = (λ i. put (none c i) (plain (node_place n) (look (slot_of c) c)) (looks_for slot_of bs n rest)) ∙ looks_none n none bs rest

  -- the same before nodes that want the same
  looks_alike : (b : ℕ) (n n' : Node) → node_place n' ≡ node_place n → ((c : ℕ) → (b ≡ c → ⊥) → wants c n' ≡ wants c n) → (bs : List ℕ) → IsNotIn bs b → (rest : Nodes)
      → looks_for slot_of bs n' rest ≡ looks_for slot_of bs n rest
  looks_alike b n n' place alike [] absent rest = refl
  looks_alike b n n' place alike (c ∷ bs) absent rest =
      let w = alike c absent.0 in
      let r = looks_alike b n n' place alike bs absent.1 rest in
      λ i. put (w i) (plain (place i) (look (slot_of c) c)) (r i)

  module _ (b : ℕ) where
    -- a Look of another register stays
    other_needed : (c p s : ℕ) (t : AllPaths) → (b ≡ c → ⊥) → needs b (plain p (look s c)) t ≡ true
    other_needed c p s t apart = ap (λ x. not x || is_bad t) (ne_eqb c b (λ h. apart (sym h)))

    looks_pass : (bs : List ℕ) → IsNotIn bs b → (n : Node) (rest : Nodes) (t : AllPaths) → dropped b (looks_for slot_of bs n rest) t ≡ looks_for slot_of bs n (dropped b rest t)
    unfolding flow
    looks_pass [] absent n rest t = refl
    looks_pass (c ∷ bs) absent n rest t =
        let l = plain (node_place n) (look (slot_of c) c) in
        let inner = looks_for slot_of bs n rest in
        let idle = look_idle c b (λ h. absent.0 (sym h)) (slot_of c) t in
        by_bool (λ x. dropped b (put x l inner) t ≡ put x l (looks_for slot_of bs n (dropped b rest t))) (wants c n)
        (λ e. (λ i. put (other_needed c (node_place n) (slot_of c) t absent.0 i) l (dropped b inner (idle i))) ∙ ap (more_nodes l) (looks_pass bs absent.1 n rest t))
        (λ e. looks_pass bs absent.1 n rest t)

    looks_quiet : (bs : List ℕ) → IsNotIn bs b → (n : Node) (rest : Nodes) (t : AllPaths) → flow (held b) (looks_for slot_of bs n rest) t ≡ flow (held b) rest t
    unfolding flow
    looks_quiet [] absent n rest t = refl
    looks_quiet (c ∷ bs) absent n rest t =
        let l = plain (node_place n) (look (slot_of c) c) in
        let inner = looks_for slot_of bs n rest in
        let idle = look_idle c b (λ h. absent.0 (sym h)) (slot_of c) t in
        by_bool (λ x. flow (held b) (put x l inner) t ≡ flow (held b) rest t) (wants c n)
        (λ e. (λ i. in_turn (at (idle i)) (flow (held b) inner (idle i))) ∙ looks_quiet bs absent.1 n rest t)
        (λ e. looks_quiet bs absent.1 n rest t)

  -- ---- Looks of other registers before loops change no state of b, and go past what is dropped of b

  module _ (b : ℕ) (bs : List ℕ) (absent : IsNotIn bs b) where
    abbrev all : Nodes → Nodes
    all ns = lifted_all slot_of bs ns

    mutual
      unfolding flow

      flow_all : (ns : Nodes) (t : AllPaths) → flow (held b) (all ns) t ≡ flow (held b) ns t
      flow_all no_nodes t = refl
      flow_all (more_nodes n rest) t =
          looks_quiet b bs absent n (more_nodes (lifted_all_in slot_of bs n) (all rest)) t
          ∙ also_same (held b) n (lifted_all_in slot_of bs n) rest (all rest) t (flow_all_in n t) (flow_all rest _)

      flow_all_in : (n : Node) (t : AllPaths) → flow_node (held b) (lifted_all_in slot_of bs n) t ≡ flow_node (held b) n t
      flow_all_in (plain p a) t = refl
      flow_all_in (if_ p x one other) t = λ i. either (flow_all one t i) (flow_all other t i)
      flow_all_in (loop p body latch) t =
          let e : flow (held b) (all body) ≡ flow (held b) body = λ i u. flow_all body u i in
          let g : flow (held b) (all latch) ≡ flow (held b) latch = λ i u. flow_all latch u i in
          λ i. at (round_of (e i) (g i) (head_of (e i) (g i) t)).broken
      flow_all_in (break_ p) t = refl
      flow_all_in (next_ p) t = refl
      flow_all_in (ret p x) t = refl

    -- what is behind a node
    behind : (n : Node) (rest : Nodes) (t : AllPaths) → ((u : AllPaths) → all (dropped b rest u) ≡ dropped b (all rest) u)
        → all (dropped b rest (flow_node (held b) n t).on) ≡ dropped b (all rest) (flow_node (held b) (lifted_all_in slot_of bs n) t).on
    behind n rest t known = known (flow_node (held b) n t).on ∙ ap (λ (o : Ways). dropped b (all rest) o.on) (sym (flow_all_in n t))

    past : (ns : Nodes) (t : AllPaths) → all (dropped b ns t) ≡ dropped b (all ns) t
    unfolding flow
    past no_nodes t = refl
    past (more_nodes (plain p a) rest) t =
        let u = after (held b a) t in
        by_bool (λ x. all (put x (plain p a) (dropped b rest u)) ≡ put x (plain p a) (dropped b (all rest) u)) (needs b (plain p a) t)
        (λ e. looks_none (plain p a) (λ c. refl) bs (more_nodes (plain p a) (all (dropped b rest u))) ∙ ap (more_nodes (plain p a)) (past rest u))
        (λ e. past rest u)
        ∙ sym (ap (λ x. dropped b x t) (looks_none (plain p a) (λ c. refl) bs (more_nodes (plain p a) (all rest))))
    past (more_nodes (if_ p x one other) rest) t =
        let n = if_ p x one other in
        let f = past one t in
        let g = past other t in
        let r = behind n rest t (past rest) in
        looks_none (if_ p x (dropped b one t) (dropped b other t)) (λ c. refl) bs (more_nodes (if_ p x (all (dropped b one t)) (all (dropped b other t))) (all (dropped b rest (flow_node (held b) n t).on)))
        ∙ ((λ i. more_nodes (if_ p x (f i) (g i)) (r i)) ∙ sym (ap (λ y. dropped b y t) (looks_none n (λ c. refl) bs (more_nodes (if_ p x (all one) (all other)) (all rest)))))
    past (more_nodes (loop p body latch) rest) t =
        let n = loop p body latch in
        let h = head_of (flow (held b) body) (flow (held b) latch) t in
        let z = end_state (flow (held b) body h) in
        let e : flow (held b) (all body) ≡ flow (held b) body = λ i u. flow_all body u i in
        let g : flow (held b) (all latch) ≡ flow (held b) latch = λ i u. flow_all latch u i in
        let first = past body h ∙ (λ i. dropped b (all body) (head_of (sym e i) (sym g i) t)) in
        let second = past latch z ∙ (λ i. dropped b (all latch) (end_state (sym e i (head_of (sym e i) (sym g i) t)))) in
        let r = behind n rest t (past rest) in
        looks_alike b n (loop p (dropped b body h) (dropped b latch z)) refl (λ c apart. wants_dropped b c apart p body latch h z) bs absent
        (more_nodes (loop p (all (dropped b body h)) (all (dropped b latch z))) (all (dropped b rest (flow_node (held b) n t).on)))
        ∙ ((λ i. looks_for slot_of bs n (more_nodes (loop p (first i) (second i)) (r i))) ∙ sym (looks_pass b bs absent n (more_nodes (loop p (all body) (all latch)) (all rest)) t))
    past (more_nodes (break_ p) rest) t =
        looks_none (break_ p) (λ c. refl) bs (more_nodes (break_ p) (all (dropped b rest (flow_node (held b) (break_ p) t).on)))
        ∙ (ap (more_nodes (break_ p)) (past rest _) ∙ sym (ap (λ y. dropped b y t) (looks_none (break_ p) (λ c. refl) bs (more_nodes (break_ p) (all rest)))))
    past (more_nodes (next_ p) rest) t =
        looks_none (next_ p) (λ c. refl) bs (more_nodes (next_ p) (all (dropped b rest (flow_node (held b) (next_ p) t).on)))
        ∙ (ap (more_nodes (next_ p)) (past rest _) ∙ sym (ap (λ y. dropped b y t) (looks_none (next_ p) (λ c. refl) bs (more_nodes (next_ p) (all rest)))))
    past (more_nodes (ret p x) rest) t =
        looks_none (ret p x) (λ c. refl) bs (more_nodes (ret p x) (all (dropped b rest (flow_node (held b) (ret p x) t).on)))
        ∙ (ap (more_nodes (ret p x)) (past rest _) ∙ sym (ap (λ y. dropped b y t) (looks_none (ret p x) (λ c. refl) bs (more_nodes (ret p x) (all rest)))))

    -- ---- the Looks of b come first

    mutual
      one_more : (ns : Nodes) → lifted_all slot_of (b ∷ bs) ns ≡ all (lifted (slot_of b) b ns)
      one_more no_nodes = refl
      one_more (more_nodes n rest) =
          let n' = lifted_in (slot_of b) b n in
          let l = plain (node_place n) (look (slot_of b) b) in
          let f = one_more_in n in
          let g = one_more rest in
          let inner : looks_for slot_of bs n (more_nodes (lifted_all_in slot_of (b ∷ bs) n) (lifted_all slot_of (b ∷ bs) rest)) ≡ all (more_nodes n' (lifted (slot_of b) b rest)) =
          (λ i. looks_for slot_of bs n (more_nodes (f i) (g i)))
          ∙ sym (looks_alike b n n' (place_lifted (slot_of b) b n) (λ c apart. wants_lifted b c apart (slot_of b) n) bs absent (more_nodes (lifted_all_in slot_of bs n') (all (lifted (slot_of b) b rest)))) in
          by_bool (λ x. put x l (looks_for slot_of bs n (more_nodes (lifted_all_in slot_of (b ∷ bs) n) (lifted_all slot_of (b ∷ bs) rest))) ≡ all (put x l (more_nodes n' (lifted (slot_of b) b rest)))) (wants b n)
          (λ e. ap (more_nodes l) inner ∙ sym (looks_none l (λ c. refl) bs (more_nodes l (all (more_nodes n' (lifted (slot_of b) b rest))))))
          (λ e. inner)

      one_more_in : (n : Node) → lifted_all_in slot_of (b ∷ bs) n ≡ lifted_all_in slot_of bs (lifted_in (slot_of b) b n)
      one_more_in (plain p a) = refl
      one_more_in (if_ p x one other) = let f = one_more one in let g = one_more other in λ i. if_ p x (f i) (g i)
      one_more_in (loop p body latch) = let f = one_more body in let g = one_more latch in λ i. loop p (f i) (g i)
      one_more_in (break_ p) = refl
      one_more_in (next_ p) = refl
      one_more_in (ret p x) = refl

-- ---- what is dropped of b and of the others

module _ (b : ℕ) (those : ℕ → Bool) (out : those b ≡ false) where
  abbrev more : ℕ → Bool
  more c = (c == b) || those c

  -- the same states of those
  abbrev Agree : (ℕ → AllPaths) → (ℕ → AllPaths) → Type 0
  Agree t u = (c : ℕ) → those c ≡ true → t c ≡ u c

  apart : (c : ℕ) → those c ≡ true → b ≡ c → ⊥
  apart c e h = both_ways (those c) (ap those (sym h) ∙ out) e

  same_stay : (c : ℕ) (t u : ℕ → AllPaths) → Agree t u → (not (those c) || is_bad (t c)) ≡ (not (those c) || is_bad (u c))
  same_stay c t u agree = by_bool (λ x. those c ≡ x → (not x || is_bad (t c)) ≡ (not x || is_bad (u c))) (those c) (λ e k. ap is_bad (agree c e)) (λ e k. refl) refl

  agree_on : (n n' : Node) (t u : ℕ → AllPaths) → ((c : ℕ) → (b ≡ c → ⊥) → (s : AllPaths) → flow_node (held c) n' s ≡ flow_node (held c) n s) → Agree t u
      → Agree (λ c. (flow_node (held c) n (t c)).on) (λ c. (flow_node (held c) n' (u c)).on)
  agree_on n n' t u same agree c e = ap (λ s. (flow_node (held c) n s).on) (agree c e) ∙ ap (λ (o : Ways). o.on) (sym (same c (apart c e) (u c)))

  -- what is so of the nodes behind
  abbrev Known : Nodes → Type 0
  Known rest = (t u : ℕ → AllPaths) → Agree t u → dropped_all more rest t ≡ dropped_all those (dropped b rest (t b)) u

  -- a Look of b
  own_look : (p s : ℕ) (rest : Nodes) → Known rest → (t u : ℕ → AllPaths) → Agree t u → dropped_all more (more_nodes (plain p (look s b)) rest) t ≡ dropped_all those (dropped b (more_nodes (plain p (look s b)) rest) (t b)) u
  unfolding flow
  own_look p s rest known t u agree =
      let n = plain p (look s b) in
      let same : (b == b) ≡ true = eq-eqb b b refl in
      let t' : ℕ → AllPaths = λ c. after (held c (look s b)) (t c) in
      let u' : ℕ → AllPaths = λ c. after (held c (look s b)) (u c) in
      let first : stays more (look s b) t ≡ is_bad (t b) = ap (λ x. not (x || those b) || is_bad (t b)) same in
      let second : needs b n (t b) ≡ is_bad (t b) = ap (λ x. not x || is_bad (t b)) same in
      let kept : stays those (look s b) u ≡ true = ap (λ x. not x || is_bad (u b)) out in
      (λ i. put (first i) n (dropped_all more rest t'))
      ∙ (by_bool (λ x. put x n (dropped_all more rest t') ≡ dropped_all those (put x n (dropped b rest (t' b))) u) (is_bad (t b))
      (λ e. ap (more_nodes n) (known t' u' (λ c d. ap (after (held c (look s b))) (agree c d))) ∙ sym (λ i. put (kept i) n (dropped_all those (dropped b rest (t' b)) u')))
      (λ e. known t' u (λ c d. look_idle b c (apart c d) s (t c) ∙ agree c d))
      ∙ sym (λ i. dropped_all those (put (second i) n (dropped b rest (t' b))) u))

  -- any other Look
  other_look : (p s c : ℕ) → (c == b) ≡ false → (rest : Nodes) → Known rest → (t u : ℕ → AllPaths) → Agree t u
      → dropped_all more (more_nodes (plain p (look s c)) rest) t ≡ dropped_all those (dropped b (more_nodes (plain p (look s c)) rest) (t b)) u
  unfolding flow
  other_look p s c ne rest known t u agree =
      let n = plain p (look s c) in
      let t' : ℕ → AllPaths = λ d. after (held d (look s c)) (t d) in
      let u' : ℕ → AllPaths = λ d. after (held d (look s c)) (u d) in
      let first : stays more (look s c) t ≡ stays those (look s c) u = ap (λ x. not (x || those c) || is_bad (t c)) ne ∙ same_stay c t u agree in
      let second : needs b n (t b) ≡ true = ap (λ x. not x || is_bad (t b)) ne in
      let r = known t' u' (λ d e. ap (after (held d (look s c))) (agree d e)) in
      (λ i. put (first i) n (r i)) ∙ sym (λ i. dropped_all those (put (second i) n (dropped b rest (t' b))) u)

  -- any other act
  other_act : (p : ℕ) (a : Act) (rest : Nodes) → Known rest → (t u : ℕ → AllPaths) → Agree t u → stays more a t ≡ true → stays those a u ≡ true → needs b (plain p a) (t b) ≡ true
      → dropped_all more (more_nodes (plain p a) rest) t ≡ dropped_all those (dropped b (more_nodes (plain p a) rest) (t b)) u
  unfolding flow
  other_act p a rest known t u agree x y z =
      let n = plain p a in
      let t' : ℕ → AllPaths = λ c. after (held c a) (t c) in
      let u' : ℕ → AllPaths = λ c. after (held c a) (u c) in
      let r = known t' u' (λ c e. ap (after (held c a)) (agree c e)) in
      (λ i. put (x i) n (r i)) ∙ (sym (λ i. put (y i) n (dropped_all those (dropped b rest (t' b)) u')) ∙ sym (λ i. dropped_all those (put (z i) n (dropped b rest (t' b))) u))

  mutual
    unfolding flow

    both_dropped : (ns : Nodes) (t u : ℕ → AllPaths) → Agree t u → dropped_all more ns t ≡ dropped_all those (dropped b ns (t b)) u
    both_dropped no_nodes t u agree = refl
    both_dropped (more_nodes (plain p (set to calc)) rest) t u agree = other_act p (set to calc) rest (both_dropped rest) t u agree refl refl refl
    both_dropped (more_nodes (plain p (call c)) rest) t u agree = other_act p (call c) rest (both_dropped rest) t u agree refl refl refl
    both_dropped (more_nodes (plain p (step x)) rest) t u agree = other_act p (step x) rest (both_dropped rest) t u agree refl refl refl
    both_dropped (more_nodes (plain p (look s c)) rest) t u agree =
        by_bool (λ x. (c == b) ≡ x → dropped_all more (more_nodes (plain p (look s c)) rest) t ≡ dropped_all those (dropped b (more_nodes (plain p (look s c)) rest) (t b)) u) (c == b)
        (λ e k. subst (λ d. dropped_all more (more_nodes (plain p (look s d)) rest) t ≡ dropped_all those (dropped b (more_nodes (plain p (look s d)) rest) (t b)) u) (sym (eqb-true c b e)) (own_look p s rest (both_dropped rest) t u agree))
        (λ e k. other_look p s c e rest (both_dropped rest) t u agree) refl
    both_dropped (more_nodes (plain p (safepoint slots)) rest) t u agree = other_act p (safepoint slots) rest (both_dropped rest) t u agree refl refl refl
    both_dropped (more_nodes (plain p (begin_object i)) rest) t u agree = other_act p (begin_object i) rest (both_dropped rest) t u agree refl refl refl
    both_dropped (more_nodes (plain p (end_object i)) rest) t u agree = other_act p (end_object i) rest (both_dropped rest) t u agree refl refl refl
    both_dropped (more_nodes (if_ p x one other) rest) t u agree =
        let n = if_ p x one other in
        let f = both_dropped one t u agree in
        let g = both_dropped other t u agree in
        let r = both_dropped rest (λ c. (flow_node (held c) n (t c)).on) (λ c. (flow_node (held c) (dropped_in b n (t b)) (u c)).on) (agree_on n (dropped_in b n (t b)) t u (λ c a s. node_without b c a n (t b) s) agree) in
        λ i. more_nodes (if_ p x (f i) (g i)) (r i)
    both_dropped (more_nodes (loop p body latch) rest) t u agree =
        let n = loop p body latch in
        let h : ℕ → AllPaths = λ c. head_of (flow (held c) body) (flow (held c) latch) (t c) in
        let z : ℕ → AllPaths = λ c. end_state (flow (held c) body (h c)) in
        let h' : ℕ → AllPaths = λ c. head_of (flow (held c) (dropped b body (h b))) (flow (held c) (dropped b latch (z b))) (u c) in
        let z' : ℕ → AllPaths = λ c. end_state (flow (held c) (dropped b body (h b)) (h' c)) in
        let heads : Agree h h' = λ c d i. head_of (sym (rows_without b c (apart c d) body (h b)) i) (sym (rows_without b c (apart c d) latch (z b)) i) (agree c d i) in
        let ends : Agree z z' = λ c d i. end_state (sym (rows_without b c (apart c d) body (h b)) i (heads c d i)) in
        let f = both_dropped body h h' heads in
        let g = both_dropped latch z z' ends in
        let r = both_dropped rest (λ c. (flow_node (held c) n (t c)).on) (λ c. (flow_node (held c) (dropped_in b n (t b)) (u c)).on) (agree_on n (dropped_in b n (t b)) t u (λ c a s. node_without b c a n (t b) s) agree) in
        λ i. more_nodes (loop p (f i) (g i)) (r i)
    both_dropped (more_nodes (break_ p) rest) t u agree = ap (more_nodes (break_ p)) (both_dropped rest _ _ (λ c d. refl))
    both_dropped (more_nodes (next_ p) rest) t u agree = ap (more_nodes (next_ p)) (both_dropped rest _ _ (λ c d. refl))
    both_dropped (more_nodes (ret p x) rest) t u agree = ap (more_nodes (ret p x)) (both_dropped rest _ _ (λ c d. refl))

-- ---- of no register

mutual
  none_lifted : (slot_of : ℕ → ℕ) (ns : Nodes) → lifted_all slot_of [] ns ≡ ns
  none_lifted slot_of no_nodes = refl
  none_lifted slot_of (more_nodes n rest) = let f = none_lifted_in slot_of n in let g = none_lifted slot_of rest in λ i. more_nodes (f i) (g i)

  none_lifted_in : (slot_of : ℕ → ℕ) (n : Node) → lifted_all_in slot_of [] n ≡ n
  none_lifted_in slot_of (plain p a) = refl
  none_lifted_in slot_of (if_ p x one other) = let f = none_lifted slot_of one in let g = none_lifted slot_of other in λ i. if_ p x (f i) (g i)
  none_lifted_in slot_of (loop p body latch) = let f = none_lifted slot_of body in let g = none_lifted slot_of latch in λ i. loop p (f i) (g i)
  none_lifted_in slot_of (break_ p) = refl
  none_lifted_in slot_of (next_ p) = refl
  none_lifted_in slot_of (ret p x) = refl

none_stay : (a : Act) (t : ℕ → AllPaths) → stays (is_in []) a t ≡ true
none_stay (set to calc) t = refl
none_stay (call c) t = refl
none_stay (step x) t = refl
none_stay (look s c) t = refl
none_stay (safepoint slots) t = refl
none_stay (begin_object i) t = refl
none_stay (end_object i) t = refl

mutual
  none_dropped : (ns : Nodes) (t : ℕ → AllPaths) → dropped_all (is_in []) ns t ≡ ns
  none_dropped no_nodes t = refl
  none_dropped (more_nodes (plain p a) rest) t =
      let s = none_stay a t in
      let g = none_dropped rest (λ b. (flow_node (held b) (plain p a) (t b)).on) in
      λ i. put (s i) (plain p a) (g i)
  none_dropped (more_nodes (if_ p x one other) rest) t =
      let f = none_dropped_in (if_ p x one other) t in
      let g = none_dropped rest (λ b. (flow_node (held b) (if_ p x one other) (t b)).on) in
      λ i. more_nodes (f i) (g i)
  none_dropped (more_nodes (loop p body latch) rest) t =
      let f = none_dropped_in (loop p body latch) t in
      let g = none_dropped rest (λ b. (flow_node (held b) (loop p body latch) (t b)).on) in
      λ i. more_nodes (f i) (g i)
  none_dropped (more_nodes (break_ p) rest) t = ap (more_nodes (break_ p)) (none_dropped rest _)
  none_dropped (more_nodes (next_ p) rest) t = ap (more_nodes (next_ p)) (none_dropped rest _)
  none_dropped (more_nodes (ret p x) rest) t = ap (more_nodes (ret p x)) (none_dropped rest _)

  none_dropped_in : (n : Node) (t : ℕ → AllPaths) → dropped_all_in (is_in []) n t ≡ n
  none_dropped_in (plain p a) t = refl
  none_dropped_in (if_ p x one other) t = let f = none_dropped one t in let g = none_dropped other t in λ i. if_ p x (f i) (g i)
  none_dropped_in (loop p body latch) t =
      let h : ℕ → AllPaths = λ b. head_of (flow (held b) body) (flow (held b) latch) (t b) in
      let f = none_dropped body h in
      let g = none_dropped latch (λ b. end_state (flow (held b) body (h b))) in
      λ i. loop p (f i) (g i)
  none_dropped_in (break_ p) t = refl
  none_dropped_in (next_ p) t = refl
  none_dropped_in (ret p x) t = refl

-- ---- all of them

-- one walk that lifts, and one that drops
pub at_once : AllAtOnce
at_once slot_of [] d ns = sym (none_lifted slot_of ns) ∙ sym (none_dropped (lifted_all slot_of [] ns) (λ b. bad))
at_once slot_of (b ∷ bs) d ns =
    let one = lifted (slot_of b) b ns in
    at_once slot_of bs d.1 (hoisted_one (slot_of b) b ns)
    ∙ (ap (λ x. dropped_all (is_in bs) x (λ c. bad)) (past slot_of b bs d.0 one bad ∙ ap (λ x. dropped b x bad) (sym (one_more slot_of b bs d.0 ns)))
    ∙ sym (both_dropped b (is_in bs) (not_in bs b d.0) (lifted_all slot_of (b ∷ bs) ns) (λ c. bad) (λ c. bad) (λ c e. refl)))
