-- The lists are exact.
use Rattle.std.proofs.Common.{◌≡◌, inl, inr, ℕ, List, [], ◌∷◌, Some, None, Bool, true, false, ◌==◌, ◌||◌, ◌&&◌, if◌then◌else◌, refl, sym, ap, subst, ◌∙◌}
use Rattle.std.proofs.lemmas.Bool.{eqb-true, eq-eqb, ne_eqb, both_ways}
use Rattle.std.specs.Prelude.{not}
use Rattle.struct_ir.specs.Nodes.{Act, set, call, step, look, safepoint, begin_object, end_object, Node, plain, if_, loop, break_, next_, ret, Nodes, no_nodes, more_nodes, may_wait, list_of}
use Rattle.struct_ir.specs.Structured.{Position, then_, in_body, in_latch}
use Rattle.struct_ir.specs.Pins.{lacks}
use Rattle.pin_flow.specs.Marks.{Mark, AllPaths, Ways, head_of, end_state, flow, EveryAct, EveryActIn}
use Rattle.pin_flow.specs.Held.{held}
use Rattle.pin_flow.specs.Slots.{IsIn, AreApart}
use Rattle.pin_flow.specs.Live.{uses, Live, lives, live_act, live, head_live, latch_live, body_lives, latch_lives, live_at}
use Rattle.pin_frames.specs.inner.Place.{is_bad, wanted, act_listing, list_for, heads, turns, on_states, rest_lives, listed, listed_in}
use Rattle.pin_flow.proofs.Strip.{by_bool}
use Rattle.pin_frames.proofs.Listed.{uses_listing, live_listing, flow_listed, node_listed, live_listed}
use Rattle.pin_flow.proofs.At.{EachAt, EachAtIn}

pub held_listing : (b : ℕ) (a : Act) (l : List ℕ) (v : Bool) → held b (act_listing a l) v ≡ held b a v
held_listing b (set to calc) l v = refl
held_listing b (call c) l v = refl
held_listing b (step x) l v = refl
held_listing b (look s base) l v = refl
held_listing b (safepoint old) l v = refl
held_listing b (begin_object i) l v = refl
held_listing b (end_object i) l v = refl

pub list_is : (a : Act) (l list : List ℕ) → list_of (act_listing a l) ≡ Some list → l ≡ list
list_is (set to calc) l list e = absurd cc
list_is (call c) l list e = cc
list_is (step x) l list e =
    by_bool (λ y. (if y then Some (if y then l else []) else None) ≡ Some list → l ≡ list) (may_wait x.action) (λ g e. cc) (λ g e. absurd cc) e
list_is (look s base) l list e = absurd cc
list_is (safepoint old) l list e = cc
list_is (begin_object i) l list e = absurd cc
list_is (end_object i) l list e = absurd cc

has_more : (s x : ℕ) (list : List ℕ) → lacks s list ≡ false → lacks s (x ∷ list) ≡ false
has_more s x list e = by_bool (λ y. not (y || Rattle.std.specs.List.list_any (λ z. z == s) list) ≡ false) (x == s) (λ g. refl) (λ g. e)

module _ (slot_of : ℕ → ℕ) (a : Act) (ts : ℕ → AllPaths) (later : ℕ → Bool) where
  list_no : AreApart slot_of → (b : ℕ) → wanted slot_of b a (ts b) (later b) ≡ false → (bs : List ℕ) → lacks (slot_of b) (list_for slot_of bs a ts later) ≡ true
  list_no apart b e [] = refl
  list_no apart b e (c ∷ bs) =
      let l = list_for slot_of bs a ts later in
      by_bool (λ x. lacks (slot_of b) (if x then slot_of c ∷ l else l) ≡ true) (wanted slot_of c a (ts c) (later c))
      (λ g.
      let other : (slot_of c == slot_of b) ≡ false = ne_eqb (slot_of c) (slot_of b) (λ h.
      both_ways (wanted slot_of b a (ts b) (later b)) e (subst (λ x. wanted slot_of x a (ts x) (later x) ≡ true) (apart c b h) g)) in
      rw other (list_no apart b e bs))
      (λ g. list_no apart b e bs)

  list_yes : (b : ℕ) → wanted slot_of b a (ts b) (later b) ≡ true → (bs : List ℕ) → IsIn bs b → lacks (slot_of b) (list_for slot_of bs a ts later) ≡ false
  list_yes b e [] i = absurd i
  list_yes b e (c ∷ bs) (inl h) =
      let w : wanted slot_of c a (ts c) (later c) ≡ true = subst (λ x. wanted slot_of x a (ts x) (later x) ≡ true) h e in
      let same : (slot_of c == slot_of b) ≡ true = eq-eqb (slot_of c) (slot_of b) (ap slot_of (sym h)) in
      rw (w, same) refl
  list_yes b e (c ∷ bs) (inr i) =
      let l = list_for slot_of bs a ts later in
      by_bool (λ x. lacks (slot_of b) (if x then slot_of c ∷ l else l) ≡ false) (wanted slot_of c a (ts c) (later c))
      (λ g. has_more (slot_of b) (slot_of c) l (list_yes b e bs i))
      (λ g. list_yes b e bs i)

  pub list_exact : AreApart slot_of → (b : ℕ) (bs : List ℕ) → IsIn bs b → lacks (slot_of b) (list_for slot_of bs a ts later) ≡ not (wanted slot_of b a (ts b) (later b))
  list_exact apart b bs i = by_bool (λ x. wanted slot_of b a (ts b) (later b) ≡ x → lacks (slot_of b) (list_for slot_of bs a ts later) ≡ not x) (wanted slot_of b a (ts b) (later b))
      (λ e g. list_yes b e bs i) (λ e g. list_no apart b e bs) refl

  pub list_only : (s : ℕ) (bs : List ℕ) → lacks s (list_for slot_of bs a ts later) ≡ false → (b : ℕ) × IsIn bs b × (s ≡ slot_of b)
  list_only s [] e = absurd (let x : true ≡ false = e in cc)
  list_only s (c ∷ bs) e =
      let l = list_for slot_of bs a ts later in
      let rest : lacks s l ≡ false → (b : ℕ) × IsIn (c ∷ bs) b × (s ≡ slot_of b) = λ h. (let r = list_only s bs h in (r.0, inr r.1, r.2)) in
      by_bool (λ x. lacks s (if x then slot_of c ∷ l else l) ≡ false → (b : ℕ) × IsIn (c ∷ bs) b × (s ≡ slot_of b)) (wanted slot_of c a (ts c) (later c))
      (λ g h. by_bool (λ y. not (y || Rattle.std.specs.List.list_any (λ z. z == s) l) ≡ false → (b : ℕ) × IsIn (c ∷ bs) b × (s ≡ slot_of b)) (slot_of c == s)
      (λ k h. (c, inl refl, sym (eqb-true (slot_of c) s k))) (λ k h. rest h) h)
      (λ g h. rest h) e

-- loops alike in what is live
pub head_same : (slot b : ℕ) (body latch body' latch' : Nodes) → ((l : Live) → live slot b body' l ≡ live slot b body l) → ((l : Live) → live slot b latch' l ≡ live slot b latch l) → (o : Bool) → head_live slot b body' latch' o ≡ head_live slot b body latch o
unfolding head_live
head_same slot b body latch body' latch' f g o = f _ ∙ ap (λ x. live slot b body (lives x o x)) (g (lives false o false))

pub latch_same : (slot b : ℕ) (body latch body' latch' : Nodes) → ((l : Live) → live slot b body' l ≡ live slot b body l) → ((l : Live) → live slot b latch' l ≡ live slot b latch l) → (o : Bool) → latch_live slot b body' latch' o ≡ latch_live slot b body latch o
unfolding latch_live
latch_same slot b body latch body' latch' f g o = g _ ∙ ap (λ x. live slot b latch (lives x o x)) (head_same slot b body latch body' latch' f g o)

module _ (slot_of : ℕ → ℕ) (apart : AreApart slot_of) (bs : List ℕ) (b : ℕ) (among : IsIn bs b) where
  abbrev m : Mark
  m = held b

  abbrev s : ℕ
  s = slot_of b

  abbrev pub IsListed : Act → AllPaths → Position → Type 0
  IsListed a t k = (list : List ℕ) → list_of a ≡ Some list → lacks s list ≡ not (wanted slot_of b a t (live_at s b k).on)

  act_exact : (p : ℕ) (a : Act) (rest : Nodes) (k : Position) (ts : ℕ → AllPaths) (ls : ℕ → Live) → ls b ≡ live_at s b (then_ rest k)
      → let l = list_for slot_of bs a ts (λ b. live_act (slot_of b) b a (ls b).on) in IsListed (act_listing a l) (ts b) (then_ (more_nodes (plain p (act_listing a l)) rest) k)
  unfolding live
  act_exact p a rest k ts ls e =
      let later : ℕ → Bool = λ b. live_act (slot_of b) b a (ls b).on in
      let l = list_for slot_of bs a ts later in
      λ list h.
      let one : lacks s list ≡ not (wanted slot_of b a (ts b) (later b)) = ap (lacks s) (sym (list_is a l list h)) ∙ list_exact slot_of a ts later apart b bs among in
      let two : later b ≡ live_act s b (act_listing a l) (live s b rest (live_at s b k)) = ap (λ (x : Live). live_act s b a x.on) e ∙ sym (live_listing s b a l (live s b rest (live_at s b k))) in
      let three : uses s b a ≡ uses s b (act_listing a l) = sym (uses_listing s b a l) in
      one ∙ (λ i. not ((not (is_bad (ts b)) && two i) || three i))

  mutual
    unfolding live

    pub each_exact : (ns : Nodes) (k : Position) (ts : ℕ → AllPaths) (ls : ℕ → Live) → ls b ≡ live_at s b k → EachAt IsListed m (listed slot_of bs ns ts ls) k (ts b)
    each_exact no_nodes k ts ls e = tt
    each_exact (more_nodes n rest) k ts ls e =
        let rest' = listed slot_of bs rest (on_states n ts) ls in
        let rl = rest_lives slot_of rest ls in
        let same : rl b ≡ live_at s b (then_ rest' k) =
        (λ i. lives (sym (live_listed slot_of bs s b rest (on_states n ts) ls (ls b)) i) (ls b).out (ls b).end) ∙ ap (λ (x : Live). lives (live s b rest' x) x.out x.end) e in (
          in_exact n rest' k ts rl same,
          subst (λ (o : Ways). EachAt IsListed m rest' k o.on) (sym (node_listed slot_of bs m (held_listing b) n ts rl (ts b))) (each_exact rest k (on_states n ts) ls e),
        )

    in_exact : (n : Node) (rest : Nodes) (k : Position) (ts : ℕ → AllPaths) (ls : ℕ → Live) → ls b ≡ live_at s b (then_ rest k) → EachAtIn IsListed m (listed_in slot_of bs n ts ls) rest k (ts b)
    in_exact (plain p a) rest k ts ls e = act_exact p a rest k ts ls e
    in_exact (if_ p x one other) rest k ts ls e = (each_exact one (then_ rest k) ts ls e, each_exact other (then_ rest k) ts ls e)
    in_exact (loop p body latch) rest k ts ls e =
        let bl : ℕ → Live = λ b. body_lives (slot_of b) b body latch (ls b).on in
        let tl : ℕ → Live = λ b. latch_lives (slot_of b) b body latch (ls b).on in
        let hs = heads body latch ts in
        let us = turns body latch ts in
        let body' = listed slot_of bs body hs bl in
        let latch' = listed slot_of bs latch us tl in
        let lb : (l : Live) → live s b body' l ≡ live s b body l = live_listed slot_of bs s b body hs bl in
        let lt : (l : Live) → live s b latch' l ≡ live s b latch l = live_listed slot_of bs s b latch us tl in
        let o : (ls b).on ≡ live s b rest (live_at s b k) = ap (λ (x : Live). x.on) e in
        let h : head_live s b body latch (ls b).on ≡ head_live s b body' latch' (live s b rest (live_at s b k)) = ap (head_live s b body latch) o ∙ sym (head_same s b body latch body' latch' lb lt _) in
        let u : latch_live s b body latch (ls b).on ≡ latch_live s b body' latch' (live s b rest (live_at s b k)) = ap (latch_live s b body latch) o ∙ sym (latch_same s b body latch body' latch' lb lt _) in
        let f : flow m body ≡ flow m body' = λ i v. sym (flow_listed slot_of bs m (held_listing b) body hs bl v) i in
        let g : flow m latch ≡ flow m latch' = λ i v. sym (flow_listed slot_of bs m (held_listing b) latch us tl v) i in (
          subst (λ (v : AllPaths). EachAt IsListed m body' (in_body body' latch' (then_ rest k)) v) (λ i. head_of (f i) (g i) (ts b)) (each_exact body (in_body body' latch' (then_ rest k)) hs bl (λ i. lives (u i) (o i) (u i))),
          subst (λ (v : AllPaths). EachAt IsListed m latch' (in_latch body' latch' (then_ rest k)) v) (λ i. end_state (f i (head_of (f i) (g i) (ts b)))) (each_exact latch (in_latch body' latch' (then_ rest k)) us tl (λ i. lives (h i) (o i) (h i))),
        )
    in_exact (break_ p) rest k ts ls e = tt
    in_exact (next_ p) rest k ts ls e = tt
    in_exact (ret p x) rest k ts ls e = tt

module _ (slot_of : ℕ → ℕ) (bs : List ℕ) where
  -- each slot that is listed is one of theirs
  abbrev pub IsTheirs : Act → Position → Type 0
  IsTheirs a k = (list : List ℕ) → list_of a ≡ Some list → (s : ℕ) → lacks s list ≡ false → (b : ℕ) × IsIn bs b × (s ≡ slot_of b)

  mutual
    pub every_theirs : (ns : Nodes) (k : Position) (ts : ℕ → AllPaths) (ls : ℕ → Live) → EveryAct IsTheirs (listed slot_of bs ns ts ls) k
    every_theirs no_nodes k ts ls = tt
    every_theirs (more_nodes n rest) k ts ls = (in_theirs n _ k ts (rest_lives slot_of rest ls), every_theirs rest k (on_states n ts) ls)

    in_theirs : (n : Node) (rest : Nodes) (k : Position) (ts : ℕ → AllPaths) (ls : ℕ → Live) → EveryActIn IsTheirs (listed_in slot_of bs n ts ls) rest k
    in_theirs (plain p a) rest k ts ls = λ list e s h.
        let later : ℕ → Bool = λ b. live_act (slot_of b) b a (ls b).on in
        list_only slot_of a ts later s bs (ap (lacks s) (list_is a (list_for slot_of bs a ts later) list e) ∙ h)
    in_theirs (if_ p x one other) rest k ts ls = (every_theirs one _ ts ls, every_theirs other _ ts ls)
    in_theirs (loop p body latch) rest k ts ls = (every_theirs body _ _ _, every_theirs latch _ _ _)
    in_theirs (break_ p) rest k ts ls = tt
    in_theirs (next_ p) rest k ts ls = tt
    in_theirs (ret p x) rest k ts ls = tt
