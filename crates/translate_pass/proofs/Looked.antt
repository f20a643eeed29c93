-- Inserting is right.
use Rattle.std.proofs.Common.{◌≡◌, ◌≢◌, ℕ, List, [], ◌∷◌, map, Option, Some, None, Bool, true, false, ◌==◌, ◌||◌, ◌⊎◌, inl, inr, if◌then◌else◌, refl, sym, ap, ◌∙◌}
use Rattle.std.proofs.lemmas.Bool.{eqb-true, eq-eqb, not-false, or_parts, or_from, or_left, or_right, or_cases}
use Rattle.std.specs.Prelude.{not}
use Rattle.struct_ir.specs.Nodes.{Place, Act, set, call, step, look, safepoint, begin_object, end_object, Node, plain, if_, loop, break_, next_, ret, Nodes, no_nodes, more_nodes, places_of, node_place}
use Rattle.struct_ir.specs.Structured.{done, then_, structured}
use Rattle.struct_ir.specs.Lists.{bare_place, bare_act}
use Rattle.struct_ir.specs.Erased.{is_kept, put, erased}
use Rattle.struct_ir.specs.Pins.{Among}
use Rattle.pin_flow.specs.Marks.{AllPaths, unreached, good, bad, state_of, after, flow, Each, EachIn}
use Rattle.pin_flow.specs.Looks.{some_act, some_in, act_looks, Covered, Uses}
use Rattle.pin_flow.specs.Held.{held, fresh}
use Rattle.pin_flow.specs.Slots.{has_base, accesses, slot_in, slot_if, one_more, IsIn, own, all_own, IsOwn, AreApart}
use Rattle.pin_flow.proofs.Strip.{by_bool}
use Rattle.pin_flow.proofs.Switch.{each_agree}
use Rattle.pin_flow.proofs.Fresh.{own_agrees}
use Rattle.pin_flow.proofs.Covers.{Serves, each_covered}
use Rattle.pin_flow.proofs.Bases.{slot_known}
use Rattle.translate_pass.specs.inner.Insert.{place_through, act_through, with_look, with_looks, places_in, inserted, inserted_in}

-- ---- what is erased is the same

module _ (s : ℕ → Option ℕ) where
  bare_places : (list : List Place) → map bare_place (map (place_through s) list) ≡ map bare_place list
  bare_places [] = refl
  bare_places (a ∷ rest) = ap (λ x. bare_place a ∷ x) (bare_places rest)

  bare_through : (a : Act) → bare_act (act_through s a) ≡ bare_act a
  bare_through (set to calc) = refl
  bare_through (call c) = refl
  bare_through (step x) = λ i. step (record { action = x.action; places = bare_places x.places i; to = x.to; temps = x.temps; slots = [] })
  bare_through (look slot base) = refl
  bare_through (safepoint slots) = refl
  bare_through (begin_object i) = refl
  bare_through (end_object i) = refl

  kept_through : (a : Act) → is_kept (act_through s a) ≡ is_kept a
  kept_through (set to calc) = refl
  kept_through (call c) = refl
  kept_through (step x) = refl
  kept_through (look slot base) = refl
  kept_through (safepoint slots) = refl
  kept_through (begin_object i) = refl
  kept_through (end_object i) = refl

  erase_look : (o : Option ℕ) (p base : ℕ) (rest : Nodes) → erased (with_look o p base rest) ≡ erased rest
  erase_look None p base rest = refl
  erase_look (Some slot) p base rest = refl

  erase_looks : (p : ℕ) (list : List Place) (rest : Nodes) → erased (with_looks s p list rest) ≡ erased rest
  erase_looks p [] rest = refl
  erase_looks p (a ∷ others) rest = erase_look (s a.base) p a.base (with_looks s p others rest) ∙ erase_looks p others rest

  mutual
    pub erase_inserted : (ns : Nodes) → erased (inserted s ns) ≡ erased ns
    erase_inserted no_nodes = refl
    erase_inserted (more_nodes (plain p a) rest) =
        erase_looks p (places_of a) (more_nodes (plain p (act_through s a)) (inserted s rest))
        ∙ (λ i. put (kept_through a i) (plain p (bare_through a i)) (erase_inserted rest i))
    erase_inserted (more_nodes (if_ p x one other) rest) = λ i. more_nodes (if_ p x (erase_inserted one i) (erase_inserted other i)) (erase_inserted rest i)
    erase_inserted (more_nodes (loop p body latch) rest) = λ i. more_nodes (loop p (erase_inserted body i) (erase_inserted latch i)) (erase_inserted rest i)
    erase_inserted (more_nodes (break_ p) rest) = ap (more_nodes (break_ p)) (erase_inserted rest)
    erase_inserted (more_nodes (next_ p) rest) = ap (more_nodes (next_ p)) (erase_inserted rest)
    erase_inserted (more_nodes (ret p x) rest) = ap (more_nodes (ret p x)) (erase_inserted rest)

-- ---- code without Looks

abbrev pub any_look : Act → Bool
any_look (set to calc) = false
any_look (call c) = false
any_look (step x) = false
any_look (look slot base) = true
any_look (safepoint slots) = false
any_look (begin_object i) = false
any_look (end_object i) = false

kept_is_no_look : (a : Act) → is_kept a ≡ true → any_look (bare_act a) ≡ false
kept_is_no_look (set to calc) e = refl
kept_is_no_look (call c) e = refl
kept_is_no_look (step x) e = refl
kept_is_no_look (look slot base) e = absurd cc
kept_is_no_look (safepoint slots) e = refl
kept_is_no_look (begin_object i) e = refl
kept_is_no_look (end_object i) e = refl

mutual
  pub no_look_erased : (ns : Nodes) → some_act any_look (erased ns) ≡ false
  no_look_erased no_nodes = refl
  no_look_erased (more_nodes (plain p a) rest) =
      by_bool (λ x. some_act any_look (put x (plain p (bare_act a)) (erased rest)) ≡ false) (is_kept a)
      (λ e. or_from _ _ (kept_is_no_look a e) (no_look_erased rest)) (λ e. no_look_erased rest)
  no_look_erased (more_nodes (if_ p x one other) rest) = or_from _ _ (or_from _ _ (no_look_erased one) (no_look_erased other)) (no_look_erased rest)
  no_look_erased (more_nodes (loop p body latch) rest) = or_from _ _ (or_from _ _ (no_look_erased body) (no_look_erased latch)) (no_look_erased rest)
  no_look_erased (more_nodes (break_ p) rest) = no_look_erased rest
  no_look_erased (more_nodes (next_ p) rest) = no_look_erased rest
  no_look_erased (more_nodes (ret p x) rest) = no_look_erased rest

-- ---- Looks are of registers that have a slot

module _ (s : ℕ → Option ℕ) (b : ℕ) (no : s b ≡ None) where
  not_of : (o : Option ℕ) (p base : ℕ) (rest : Nodes) → s base ≡ o → some_act (act_looks b) rest ≡ false → some_act (act_looks b) (with_look o p base rest) ≡ false
  not_of None p base rest e h = h
  not_of (Some slot) p base rest e h =
      by_bool (λ x. (base == b) ≡ x → (x || some_act (act_looks b) rest) ≡ false) (base == b)
      (λ g _. absurd (let same : base ≡ b = eqb-true base b g in let z : Some slot ≡ None = sym e ∙ (ap s same ∙ no) in cc)) (λ g _. h) refl

  looks_not : (p : ℕ) (list : List Place) (rest : Nodes) → some_act (act_looks b) rest ≡ false → some_act (act_looks b) (with_looks s p list rest) ≡ false
  looks_not p [] rest h = h
  looks_not p (a ∷ others) rest h = not_of (s a.base) p a.base (with_looks s p others rest) refl (looks_not p others rest h)

  through_not : (a : Act) → any_look a ≡ false → act_looks b (act_through s a) ≡ false
  through_not (set to calc) e = refl
  through_not (call c) e = refl
  through_not (step x) e = refl
  through_not (look slot base) e = absurd cc
  through_not (safepoint slots) e = refl
  through_not (begin_object i) e = refl
  through_not (end_object i) e = refl

  mutual
    pub not_looked : (ns : Nodes) → some_act any_look ns ≡ false → some_act (act_looks b) (inserted s ns) ≡ false
    not_looked no_nodes e = refl
    not_looked (more_nodes n rest) e =
        let q = or_parts (some_in any_look n) (some_act any_look rest) e in
        looks_not (node_place n) (places_in n) (more_nodes (inserted_in s n) (inserted s rest)) (or_from _ _ (not_looked_in n q.0) (not_looked rest q.1))

    not_looked_in : (n : Node) → some_in any_look n ≡ false → some_in (act_looks b) (inserted_in s n) ≡ false
    not_looked_in (plain p a) e = through_not a e
    not_looked_in (if_ p x one other) e = let q = or_parts (some_act any_look one) (some_act any_look other) e in or_from _ _ (not_looked one q.0) (not_looked other q.1)
    not_looked_in (loop p body latch) e = let q = or_parts (some_act any_look body) (some_act any_look latch) e in or_from _ _ (not_looked body q.0) (not_looked latch q.1)
    not_looked_in (break_ p) e = refl
    not_looked_in (next_ p) e = refl
    not_looked_in (ret p x) e = refl

pub slot_or : (bs : List ℕ) (b : ℕ) → IsIn bs b ⊎ (slot_if bs b ≡ None)
slot_or [] b = inr refl
slot_or (c ∷ rest) b = by_bool (λ x. (b == c) ≡ x → IsIn (c ∷ rest) b ⊎ ((if x then Some 0 else one_more (slot_if rest b)) ≡ None)) (b == c)
    (λ e _. inl (inl (eqb-true b c e)))
    (λ e _. elim (slot_or rest b) [ inl i ↦ inl (inr i) | inr n ↦ inr (ap one_more n) ]) refl

-- ---- where each base has a slot

module _ (bs : List ℕ) where
  abbrev S : ℕ → Option ℕ
  S b = Some (slot_in bs b)

  places_known : (list : List Place) → ((b : ℕ) → has_base b list ≡ true → IsIn bs b) → map (place_through (slot_if bs)) list ≡ map (place_through S) list
  places_known [] h = refl
  places_known (a ∷ rest) h =
      let e : slot_if bs a.base ≡ S a.base = slot_known bs a.base (h a.base (or_left _ _ (eq-eqb a.base a.base refl))) in
      let r = places_known rest (λ b g. h b (or_right (a.base == b) _ g)) in
      λ i. record { base = a.base; index = a.index; scale = a.scale; offset = a.offset; slot = e i } ∷ r i

  act_known : (a : Act) → ((b : ℕ) → accesses b a ≡ true → IsIn bs b) → act_through (slot_if bs) a ≡ act_through S a
  act_known (set to calc) h = refl
  act_known (call c) h = refl
  act_known (step x) h = let e = places_known x.places h in λ i. step (record { action = x.action; places = e i; to = x.to; temps = x.temps; slots = x.slots })
  act_known (look slot base) h = refl
  act_known (safepoint slots) h = refl
  act_known (begin_object i) h = refl
  act_known (end_object i) h = refl

  looks_known : (p : ℕ) (list : List Place) (rest : Nodes) → ((b : ℕ) → has_base b list ≡ true → IsIn bs b) → with_looks (slot_if bs) p list rest ≡ with_looks S p list rest
  looks_known p [] rest h = refl
  looks_known p (a ∷ others) rest h =
      let e : slot_if bs a.base ≡ S a.base = slot_known bs a.base (h a.base (or_left _ _ (eq-eqb a.base a.base refl))) in
      let r = looks_known p others rest (λ b g. h b (or_right (a.base == b) _ g)) in
      λ i. with_look (e i) p a.base (r i)

  mutual
    pub inserted_known : (ns : Nodes) → ((b : ℕ) → some_act (accesses b) ns ≡ true → IsIn bs b) → inserted (slot_if bs) ns ≡ inserted S ns
    inserted_known no_nodes h = refl
    inserted_known (more_nodes n rest) h =
        let x = in_known n (λ b g. h b (or_left _ _ g)) in
        let y = inserted_known rest (λ b g. h b (or_right (some_in (accesses b) n) _ g)) in
        looks_known (node_place n) (places_in n) (more_nodes (inserted_in (slot_if bs) n) (inserted (slot_if bs) rest)) (own_known n (λ b g. h b (or_left _ _ g)))
        ∙ (λ i. with_looks S (node_place n) (places_in n) (more_nodes (x i) (y i)))

    own_known : (n : Node) → ((b : ℕ) → some_in (accesses b) n ≡ true → IsIn bs b) → (b : ℕ) → has_base b (places_in n) ≡ true → IsIn bs b
    own_known (plain p a) h b e = h b e
    own_known (if_ p x one other) h b e = absurd cc
    own_known (loop p body latch) h b e = absurd cc
    own_known (break_ p) h b e = absurd cc
    own_known (next_ p) h b e = absurd cc
    own_known (ret p x) h b e = absurd cc

    in_known : (n : Node) → ((b : ℕ) → some_in (accesses b) n ≡ true → IsIn bs b) → inserted_in (slot_if bs) n ≡ inserted_in S n
    in_known (plain p a) h = ap (plain p) (act_known a h)
    in_known (if_ p x one other) h = let c = inserted_known one (λ b g. h b (or_left _ _ g)) in let d = inserted_known other (λ b g. h b (or_right (some_act (accesses b) one) _ g)) in λ i. if_ p x (c i) (d i)
    in_known (loop p body latch) h = let c = inserted_known body (λ b g. h b (or_left _ _ g)) in let d = inserted_known latch (λ b g. h b (or_right (some_act (accesses b) body) _ g)) in λ i. loop p (c i) (d i)
    in_known (break_ p) h = refl
    in_known (next_ p) h = refl
    in_known (ret p x) h = refl

-- ---- slots are own

module _ (slot_of : ℕ → ℕ) where
  abbrev T : ℕ → Option ℕ
  T b = Some (slot_of b)

  abbrev lost : Act → Bool
  lost a = not (own slot_of a)

  all_through : (list : List Place) → all_own slot_of (map (place_through T) list) ≡ true
  all_through [] = refl
  all_through (a ∷ rest) = let x = eq-eqb (slot_of a.base) (slot_of a.base) refl in rw (x, all_through rest) refl

  act_own : (a : Act) → any_look a ≡ false → lost (act_through T a) ≡ false
  act_own (set to calc) e = refl
  act_own (call c) e = refl
  act_own (step x) e = rw (all_through x.places) refl
  act_own (look s base) e = absurd cc
  act_own (safepoint slots) e = refl
  act_own (begin_object i) e = refl
  act_own (end_object i) e = refl

  looks_own : (p : ℕ) (list : List Place) (rest : Nodes) → some_act lost rest ≡ false → some_act lost (with_looks T p list rest) ≡ false
  looks_own p [] rest e = e
  looks_own p (a ∷ others) rest e = or_from _ _ (let x = eq-eqb (slot_of a.base) (slot_of a.base) refl in rw x refl) (looks_own p others rest e)

  mutual
    pub inserted_own : (ns : Nodes) → some_act any_look ns ≡ false → IsOwn slot_of (inserted T ns)
    inserted_own no_nodes e = refl
    inserted_own (more_nodes n rest) e =
        let q = or_parts (some_in any_look n) (some_act any_look rest) e in
        looks_own (node_place n) (places_in n) (more_nodes (inserted_in T n) (inserted T rest)) (or_from _ _ (in_own n q.0) (inserted_own rest q.1))

    in_own : (n : Node) → some_in any_look n ≡ false → some_in lost (inserted_in T n) ≡ false
    in_own (plain p a) e = act_own a e
    in_own (if_ p x one other) e = let q = or_parts (some_act any_look one) (some_act any_look other) e in or_from _ _ (inserted_own one q.0) (inserted_own other q.1)
    in_own (loop p body latch) e = let q = or_parts (some_act any_look body) (some_act any_look latch) e in or_from _ _ (inserted_own body q.0) (inserted_own latch q.1)
    in_own (break_ p) e = refl
    in_own (next_ p) e = refl
    in_own (ret p x) e = refl

  -- ---- each access has its Look

  module _ (c : ℕ) where
    abbrev Q : Act → AllPaths → Type 0
    Q a t = Serves (slot_of c) c a t

    fine_look : (s base : ℕ) (t : AllPaths) → t ≢ bad → after (held c (look s base)) t ≢ bad
    fine_look s base unreached h = λ e. absurd cc
    fine_look s base good h = by_bool (λ x. state_of (x || true) ≢ bad) (base == c) (λ g e. absurd cc) (λ g e. absurd cc)
    fine_look s base bad h = absurd (h refl)

    own_look : (s base : ℕ) (t : AllPaths) → (base == c) ≡ true → after (held c (look s base)) t ≢ bad
    own_look s base unreached x = λ e. absurd cc
    own_look s base good x = rw x (λ e. absurd cc)
    own_look s base bad x = rw x (λ e. absurd cc)

    served : (p : ℕ) (list : List Place) (rest : Nodes) (t : AllPaths) → ((u : AllPaths) → (has_base c list ≡ true → u ≢ bad) → (t ≢ bad → u ≢ bad) → Each Q (held c) rest u) → Each Q (held c) (with_looks T p list rest) t
    unfolding flow
    served p [] rest t f = f t (λ i. absurd (let x : false ≡ true = i in cc)) (λ h. h)
    served p (a ∷ others) rest t f = (
      λ u. absurd u.1,
      served p others rest (after (held c (look (slot_of a.base) a.base)) t) (λ u h k. f u
          (λ i. elim (or_cases (a.base == c) (has_base c others) i) [ inl e ↦ k (own_look (slot_of a.base) a.base t e) | inr e ↦ h e ])
          (λ g. k (fine_look (slot_of a.base) a.base t g))),
    )

    among_base : (list : List Place) (x : Place) → Among (map (place_through T) list) x → x.base ≡ c → has_base c list ≡ true
    among_base [] x i e = absurd i
    among_base (a ∷ rest) x (inl h) e = or_left _ _ (eq-eqb a.base c (ap (λ (y : Place). y.base) (sym h) ∙ e))
    among_base (a ∷ rest) x (inr h) e = or_right _ _ (among_base rest x h e)

    act_base : (a : Act) → Uses (slot_of c) c (act_through T a) → has_base c (places_of a) ≡ true
    act_base (set to calc) u = absurd u.1
    act_base (call x) u = absurd u.1
    act_base (step x) u = among_base x.places u.0 u.1 u.2
    act_base (look s base) u = absurd u.1
    act_base (safepoint slots) u = absurd u.1
    act_base (begin_object i) u = absurd u.1
    act_base (end_object i) u = absurd u.1

    mutual
      each_inserted : (ns : Nodes) (t : AllPaths) → Each Q (held c) (inserted T ns) t
      each_inserted no_nodes t = tt
      each_inserted (more_nodes n rest) t =
          served (node_place n) (places_in n) (more_nodes (inserted_in T n) (inserted T rest)) t (λ u h k. (in_inserted n u h, each_inserted rest _))

      in_inserted : (n : Node) (t : AllPaths) → (has_base c (places_in n) ≡ true → t ≢ bad) → EachIn Q (held c) (inserted_in T n) t
      in_inserted (plain p a) t h = λ i. h (act_base a i)
      in_inserted (if_ p x one other) t h = (each_inserted one t, each_inserted other t)
      in_inserted (loop p body latch) t h = (each_inserted body _, each_inserted latch _)
      in_inserted (break_ p) t h = tt
      in_inserted (next_ p) t h = tt
      in_inserted (ret p x) t h = tt

  pub inserted_covered : AreApart slot_of → (ns : Nodes) → some_act any_look ns ≡ false → Covered structured (then_ (inserted T ns) done)
  inserted_covered apart ns e =
      let out = inserted T ns in
      let o = inserted_own ns e in
      each_covered slot_of out o (λ c. each_agree (held c) (fresh (slot_of c) c) lost (λ a e v. own_agrees slot_of apart c a (not-false _ e) v) (Serves (slot_of c) c) out o bad (each_inserted c ns bad))
