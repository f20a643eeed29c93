-- What is live is used, and what is used is live.
use Rattle.std.proofs.Common.{◌≡◌, ℕ, List, [], ◌∷◌, ◌++◌, Option, Some, None, Bool, true, false, ◌==◌, ◌||◌, ◌&&◌, inl, inr, refl, sym, ap, subst, ◌∙◌}
use Rattle.std.proofs.lemmas.Bool.{or_cases, or_left, or_right, and_parts, and_from, eqb-true, eq-eqb, not-true}
use Rattle.std.specs.Prelude.{not}
use Rattle.struct_ir.specs.Nodes.{Place, Act, Node, plain, if_, loop, break_, next_, ret, Nodes, no_nodes, more_nodes, places_of}
use Rattle.struct_ir.specs.Flow.{Flow, does, Stays, Path, entry, on}
use Rattle.struct_ir.specs.Structured.{Position, done, then_, in_body, in_latch, out_of, end_of, kind, leads, here, next, structured}
use Rattle.struct_ir.specs.Pins.{Among}
use Rattle.pin_flow.specs.Marks.{EveryAct, EveryActIn}
use Rattle.pin_flow.specs.Looks.{looks_into, looks_here, looks_none, Uses, IsUsed, some_act, some_in}
use Rattle.pin_flow.specs.Live.{is_slot, has, uses, Live, lives, live, live_node, head_live, latch_live, body_lives, latch_lives, live_at, LiveIsUsed}
use Rattle.pin_flow.proofs.Strip.{by_bool}

pub slot_is : (slot : ℕ) (o : Option ℕ) → is_slot slot o ≡ true → o ≡ Some slot
slot_is slot None e = absurd cc
slot_is slot (Some s) e = ap Some (eqb-true s slot e)

pub is_the_slot : (slot : ℕ) (o : Option ℕ) → o ≡ Some slot → is_slot slot o ≡ true
is_the_slot slot o e = rw e (eq-eqb slot slot refl)

-- an access of the list, with this base and slot
abbrev Has : (slot b : ℕ) → List Place → Type 0
Has slot b list = (a : Place) × Among list a × (a.base ≡ b) × (a.slot ≡ Some slot)

has_one : (slot b : ℕ) (list : List Place) → has slot b list ≡ true → Has slot b list
has_one slot b [] e = absurd cc
has_one slot b (a ∷ rest) e = elim (or_cases ((a.base == b) && is_slot slot a.slot) (has slot b rest) e) [
  | inl h ↦ (let p = and_parts (a.base == b) (is_slot slot a.slot) h in (a, inl refl, eqb-true a.base b p.0, slot_is slot a.slot p.1))
  | inr h ↦ (let x = has_one slot b rest h in (x.0, inr x.1, x.2, x.3))
]

one_has : (slot b : ℕ) (list : List Place) → Has slot b list → has slot b list ≡ true
one_has slot b [] (a, i, e, g) = absurd i
one_has slot b (c ∷ rest) (a, inl h, e, g) =
    or_left _ _ (and_from _ _ (eq-eqb c.base b (ap (λ (x : Place). x.base) (sym h) ∙ e)) (is_the_slot slot c.slot (ap (λ (x : Place). x.slot) (sym h) ∙ g)))
one_has slot b (c ∷ rest) (a, inr h, e, g) = or_right _ _ (one_has slot b rest (a, h, e, g))

pub has_among : (slot b : ℕ) (act : Act) → uses slot b act ≡ true → Uses slot b act
has_among slot b act e = has_one slot b (places_of act) e

pub among_has : (slot b : ℕ) (act : Act) → Uses slot b act → uses slot b act ≡ true
among_has slot b act u = one_has slot b (places_of act) u

-- ---- a step before a path

before : {P : Type 0} (C : Flow P) (k : P) (c : Bool) → Stays (C.here k) → (w : List P) (j : P) → Path C (C.next k c) w j → Path C k (w ++ (k ∷ [])) j
before C k c s _ _ entry = on [] k c s entry
before C k c s _ _ (on w j d s' path) = on (w ++ (k ∷ [])) j d s' (before C k c s w j path)

clear_behind : {P : Type 0} (C : Flow P) (slot : ℕ) (k : P) (w : List P) → looks_here slot (C.here k) ≡ false → looks_none C slot w ≡ true → looks_none C slot (w ++ (k ∷ [])) ≡ true
clear_behind C slot k [] e f = rw e refl
clear_behind C slot k (j ∷ w) e f =
    let p = and_parts (not (looks_here slot (C.here j))) (looks_none C slot w) f in
    and_from _ _ p.0 (clear_behind C slot k w e p.1)

module _ (slot b : ℕ) where
  used_before : (k : Position) (c : Bool) → Stays (here k) → looks_here slot (here k) ≡ false → IsUsed structured slot b (next k c) → IsUsed structured slot b k
  used_before k c s e u = record {
    way = u.way ++ (k ∷ []);
    at = u.at;
    path = before structured k c s u.way u.at u.path;
    clear = clear_behind structured slot k u.way e u.clear;
    place = u.place;
    act = u.act;
    here = u.here;
    uses = u.uses;
  }

  -- ---- what is live is used

  record Ahead (k : Position) (l : Live) : Type 0 where
    on : l.on ≡ true → IsUsed structured slot b k
    out : l.out ≡ true → IsUsed structured slot b (out_of k)
    end : l.end ≡ true → IsUsed structured slot b (end_of k)

  act_used : (p : ℕ) (a : Act) (rest : Nodes) (k : Position) → uses slot b a ≡ true → IsUsed structured slot b (then_ (more_nodes (plain p a) rest) k)
  act_used p a rest k e = record { way = []; at = then_ (more_nodes (plain p a) rest) k; path = entry; clear = refl; place = p; act = a; here = refl; uses = has_among slot b a e }

  turn_used : (body latch : Nodes) (k : Position) (l : Live) → ((l : Live) → Ahead (in_latch body latch k) l → live slot b latch l ≡ true → IsUsed structured slot b (then_ latch (in_latch body latch k)))
      → Ahead k l → live slot b latch (lives false l.on false) ≡ true → IsUsed structured slot b (in_body body latch k)
  turn_used body latch k l f a e = used_before (in_body body latch k) true tt refl (f (lives false l.on false) (record { on = λ e. absurd cc; out = a.on; end = λ e. absurd cc }) e)

  mutual
    unfolding live

    live_used : (ns : Nodes) (k : Position) (l : Live) → Ahead k l → live slot b ns l ≡ true → IsUsed structured slot b (then_ ns k)
    live_used no_nodes k l a e = used_before (then_ no_nodes k) true tt refl (a.on e)
    live_used (more_nodes n rest) k l a e =
        node_used n rest k (lives (live slot b rest l) l.out l.end) (record { on = λ e. live_used rest k l a e; out = a.out; end = a.end }) e

    node_used : (n : Node) (rest : Nodes) (k : Position) (l : Live) → Ahead (then_ rest k) l → live_node slot b n l ≡ true → IsUsed structured slot b (then_ (more_nodes n rest) k)
    node_used (plain p x) rest k l a e = elim (or_cases (uses slot b x) (not (looks_into slot x) && l.on) e) [
      | inl h ↦ act_used p x rest k h
      | inr h ↦ (let q = and_parts (not (looks_into slot x)) l.on h in used_before (then_ (more_nodes (plain p x) rest) k) true tt (not-true _ q.0) (a.on q.1))
    ]
    node_used (if_ p x one other) rest k l a e = elim (or_cases (live slot b one l) (live slot b other l) e) [
      | inl h ↦ used_before (then_ (more_nodes (if_ p x one other) rest) k) true tt refl (live_used one (then_ rest k) l a h)
      | inr h ↦ used_before (then_ (more_nodes (if_ p x one other) rest) k) false tt refl (live_used other (then_ rest k) l a h)
    ]
    node_used (loop p body latch) rest k l a e =
        let t = turn_used body latch (then_ rest k) l (live_used latch (in_latch body latch (then_ rest k))) a in
        let u = live slot b latch (lives false l.on false) in
        used_before (then_ (more_nodes (loop p body latch) rest) k) true tt refl
        (live_used body (in_body body latch (then_ rest k)) (lives u l.on u) (record { on = t; out = a.on; end = t }) e)
    node_used (break_ p) rest k l a e = used_before (then_ (more_nodes (break_ p) rest) k) true tt refl (a.out e)
    node_used (next_ p) rest k l a e = used_before (then_ (more_nodes (next_ p) rest) k) true tt refl (a.end e)
    node_used (ret p x) rest k l a e = absurd cc

  -- ---- a loop's lives stand for all rounds

  pub or_map : (x y x' y' : Bool) → (x ≡ true → x' ≡ true) → (y ≡ true → y' ≡ true) → (x || y) ≡ true → (x' || y') ≡ true
  or_map x y x' y' f g e = elim (or_cases x y e) [ inl h ↦ or_left x' y' (f h) | inr h ↦ or_right x' y' (g h) ]

  record Under (l l' : Live) : Type 0 where
    on : l.on ≡ true → l'.on ≡ true
    out : l.out ≡ true → l'.out ≡ true
    end : l.end ≡ true → l'.end ≡ true

  mutual
    unfolding live

    live_mono : (ns : Nodes) (l l' : Live) → Under l l' → live slot b ns l ≡ true → live slot b ns l' ≡ true
    live_mono no_nodes l l' u e = u.on e
    live_mono (more_nodes n rest) l l' u e =
        node_mono n (lives (live slot b rest l) l.out l.end) (lives (live slot b rest l') l'.out l'.end) (record { on = live_mono rest l l' u; out = u.out; end = u.end }) e

    node_mono : (n : Node) (l l' : Live) → Under l l' → live_node slot b n l ≡ true → live_node slot b n l' ≡ true
    node_mono (plain p a) l l' u e =
        or_map (uses slot b a) (not (looks_into slot a) && l.on) (uses slot b a) (not (looks_into slot a) && l'.on) (λ h. h)
        (λ h. let q = and_parts (not (looks_into slot a)) l.on h in and_from _ _ q.0 (u.on q.1)) e
    node_mono (if_ p x one other) l l' u e =
        or_map (live slot b one l) (live slot b other l) (live slot b one l') (live slot b other l') (live_mono one l l' u) (live_mono other l l' u) e
    node_mono (loop p body latch) l l' u e =
        let t = live_mono latch (lives false l.on false) (lives false l'.on false) (record { on = λ h. h; out = u.on; end = λ h. h }) in
        live_mono body _ _ (record { on = t; out = u.on; end = t }) e
    node_mono (break_ p) l l' u e = u.out e
    node_mono (next_ p) l l' u e = u.end e
    node_mono (ret p x) l l' u e = e

  -- the end of a round, and the start of the next
  pub head_closed : (body latch : Nodes) (o : Bool) → live slot b body (body_lives slot b body latch o) ≡ head_live slot b body latch o
  unfolding head_live latch_live
  head_closed body latch o =
      let u = live slot b latch (lives false o false) in
      let h = live slot b body (lives u o u) in
      by_bool (λ x. h ≡ x → live slot b body (lives (live slot b latch (lives x o x)) o (live slot b latch (lives x o x))) ≡ x) h
      (λ e g.
      let more = live_mono latch (lives false o false) (lives true o true) (record { on = λ x. refl; out = λ x. x; end = λ x. refl }) in
      live_mono body (lives u o u) _ (record { on = more; out = λ x. x; end = more }) g)
      (λ e g. g) refl

  pub loop_live : (p : ℕ) (body latch : Nodes) (l : Live) → live_node slot b (loop p body latch) l ≡ head_live slot b body latch l.on
  unfolding live head_live
  loop_live p body latch l = refl

  -- ---- what is used is live

  live_out : (k : Position) → (live_at slot b (out_of k)).on ≡ (live_at slot b k).out
  live_out done = refl
  live_out (then_ ns k) = live_out k
  live_out (in_body body latch k) = refl
  live_out (in_latch body latch k) = refl

  live_end : (k : Position) → (live_at slot b (end_of k)).on ≡ (live_at slot b k).end
  live_end done = refl
  live_end (then_ ns k) = live_end k
  live_end (in_body body latch k) = refl
  live_end (in_latch body latch k) = refl

  leads_live : (n : Node) (rest : Nodes) (k : Position) (c : Bool) → Stays (kind n) → looks_here slot (kind n) ≡ false → (live_at slot b (leads n (then_ rest k) c)).on ≡ true → (live_at slot b (then_ (more_nodes n rest) k)).on ≡ true
  unfolding live
  leads_live (plain p a) rest k c s e h = or_right _ _ (let x : not (looks_into slot a) ≡ true = rw e refl in and_from _ _ x h)
  leads_live (if_ p x one other) rest k true s e h = or_left _ _ h
  leads_live (if_ p x one other) rest k false s e h = or_right _ _ h
  leads_live (loop p body latch) rest k c s e h =
      let o = live slot b rest (live_at slot b k) in
      loop_live p body latch (lives o (live_at slot b k).out (live_at slot b k).end) ∙ (sym (head_closed body latch o) ∙ h)
  leads_live (break_ p) rest k c s e h = sym (live_out k) ∙ h
  leads_live (next_ p) rest k c s e h = sym (live_end k) ∙ h
  leads_live (ret p x) rest k c s e h = absurd s

  next_live : (k : Position) (c : Bool) → Stays (here k) → looks_here slot (here k) ≡ false → (live_at slot b (next k c)).on ≡ true → (live_at slot b k).on ≡ true
  unfolding live latch_live
  next_live done c s e h = absurd s
  next_live (then_ no_nodes k) c s e h = h
  next_live (then_ (more_nodes n rest) k) c s e h = leads_live n rest k c s e h
  next_live (in_body body latch k) c s e h = h
  next_live (in_latch body latch k) c s e h = sym (head_closed body latch (live_at slot b k).on) ∙ h

  path_live : (k : Position) (w : List Position) (j : Position) → Path structured k w j → looks_none structured slot w ≡ true → (live_at slot b j).on ≡ true → (live_at slot b k).on ≡ true
  path_live k _ _ entry e h = h
  path_live k _ _ (on w j c s path) e h =
      let p = and_parts (not (looks_here slot (here j))) (looks_none structured slot w) e in
      path_live k w j path p.1 (next_live j c s (not-true _ p.0) h)

  here_live : (k : Position) (place : ℕ) (act : Act) → here k ≡ does place act → uses slot b act ≡ true → (live_at slot b k).on ≡ true
  unfolding live
  here_live done q act e u = absurd cc
  here_live (then_ no_nodes k) q act e u = absurd cc
  here_live (then_ (more_nodes (plain p a) rest) k) q act e u = let same : a ≡ act = cc in or_left _ _ (subst (λ (x : Act). uses slot b x ≡ true) (sym same) u)
  here_live (then_ (more_nodes (if_ p x one other) rest) k) q act e u = absurd cc
  here_live (then_ (more_nodes (loop p body latch) rest) k) q act e u = absurd cc
  here_live (then_ (more_nodes (break_ p) rest) k) q act e u = absurd cc
  here_live (then_ (more_nodes (next_ p) rest) k) q act e u = absurd cc
  here_live (then_ (more_nodes (ret p x) rest) k) q act e u = absurd cc
  here_live (in_body body latch k) q act e u = absurd cc
  here_live (in_latch body latch k) q act e u = absurd cc

  pub used_is_live : (k : Position) → IsUsed structured slot b k → (live_at slot b k).on ≡ true
  used_is_live k u = path_live k u.way u.at u.path u.clear (here_live u.at u.place u.act u.here (among_has slot b u.act u.uses))

  -- ---- at each position

  -- the end of a step leads to the start of a round, and the end of a body to the step
  step_used : (body latch : Nodes) (k : Position) → Ahead k (live_at slot b k) → head_live slot b body latch (live_at slot b k).on ≡ true → IsUsed structured slot b (in_latch body latch k)
  unfolding head_live
  step_used body latch k a e =
      let o = (live_at slot b k).on in
      let u = live slot b latch (lives false o false) in
      let t = turn_used body latch k (live_at slot b k) (live_used latch (in_latch body latch k)) a in
      used_before (in_latch body latch k) true tt refl (live_used body (in_body body latch k) (lives u o u) (record { on = t; out = a.on; end = t }) e)

  body_used : (body latch : Nodes) (k : Position) → Ahead k (live_at slot b k) → latch_live slot b body latch (live_at slot b k).on ≡ true → IsUsed structured slot b (in_body body latch k)
  unfolding latch_live
  body_used body latch k a e =
      let s = step_used body latch k a in
      used_before (in_body body latch k) true tt refl (live_used latch (in_latch body latch k) (latch_lives slot b body latch (live_at slot b k).on) (record { on = s; out = a.on; end = s }) e)

  ahead_at : (k : Position) → Ahead k (live_at slot b k)
  unfolding head_live latch_live
  ahead_at done = record { on = λ e. absurd cc; out = λ e. absurd cc; end = λ e. absurd cc }
  ahead_at (then_ ns k) = let a = ahead_at k in record { on = live_used ns k (live_at slot b k) a; out = a.out; end = a.end }
  ahead_at (in_body body latch k) =
      let t = body_used body latch k (ahead_at k) in
      record { on = t; out = (ahead_at k).on; end = t }
  ahead_at (in_latch body latch k) =
      let t = step_used body latch k (ahead_at k) in
      record { on = t; out = (ahead_at k).on; end = t }

  pub live_is_used : (k : Position) → (live_at slot b k).on ≡ true → IsUsed structured slot b k
  live_is_used k e = (ahead_at k).on e

pub live_is_used_both : LiveIsUsed
live_is_used_both slot b k = (live_is_used slot b k, used_is_live slot b k)

-- what is live is used by some act of the code
module _ (slot b : ℕ) (X : Type 0) where
  pub record Told (l : Live) : Type 0 where
    pub on : l.on ≡ true → X
    pub out : l.out ≡ true → X
    pub end : l.end ≡ true → X

  mutual
    unfolding live

    live_tells : (ns : Nodes) → (some_act (uses slot b) ns ≡ true → X) → (l : Live) → Told l → live slot b ns l ≡ true → X
    live_tells no_nodes f l t e = t.on e
    live_tells (more_nodes n rest) f l t e =
        node_tells n (λ h. f (or_left _ _ h)) (lives (live slot b rest l) l.out l.end) (record { on = live_tells rest (λ h. f (or_right (some_in (uses slot b) n) _ h)) l t; out = t.out; end = t.end }) e

    node_tells : (n : Node) → (some_in (uses slot b) n ≡ true → X) → (l : Live) → Told l → live_node slot b n l ≡ true → X
    node_tells (plain p a) f l t e = elim (or_cases (uses slot b a) (not (looks_into slot a) && l.on) e) [ inl h ↦ f h | inr h ↦ t.on ((and_parts (not (looks_into slot a)) l.on h).1) ]
    node_tells (if_ p x one other) f l t e = elim (or_cases (live slot b one l) (live slot b other l) e) [
      | inl h ↦ live_tells one (λ h. f (or_left _ _ h)) l t h
      | inr h ↦ live_tells other (λ h. f (or_right (some_act (uses slot b) one) _ h)) l t h
    ]
    node_tells (loop p body latch) f l t e =
        let u : live slot b latch (lives false l.on false) ≡ true → X = live_tells latch (λ h. f (or_right (some_act (uses slot b) body) _ h)) (lives false l.on false) (record { on = λ e. absurd cc; out = t.on; end = λ e. absurd cc }) in
        live_tells body (λ h. f (or_left _ _ h)) _ (record { on = u; out = t.on; end = u }) e
    node_tells (break_ p) f l t e = t.out e
    node_tells (next_ p) f l t e = t.end e
    node_tells (ret p x) f l t e = absurd cc

  abbrev pub Tells : Act → Position → Type 0
  Tells a k = (live_at slot b k).on ≡ true → X

  told_body : (body latch : Nodes) (o : Bool) → (some_act (uses slot b) body ≡ true → X) → (some_act (uses slot b) latch ≡ true → X) → (o ≡ true → X) → (head_live slot b body latch o ≡ true → X) × (latch_live slot b body latch o ≡ true → X)
  unfolding head_live latch_live
  told_body body latch o f g h =
      let u : live slot b latch (lives false o false) ≡ true → X = live_tells latch g (lives false o false) (record { on = λ e. absurd cc; out = h; end = λ e. absurd cc }) in
      let hd : head_live slot b body latch o ≡ true → X = live_tells body f _ (record { on = u; out = h; end = u }) in
      (hd, live_tells latch g _ (record { on = hd; out = h; end = hd }))

  mutual
    unfolding live

    pub every_tells : (ns : Nodes) (k : Position) → (some_act (uses slot b) ns ≡ true → X) → Told (live_at slot b k) → EveryAct Tells ns k
    every_tells no_nodes k f t = tt
    every_tells (more_nodes n rest) k f t =
        let g : some_act (uses slot b) rest ≡ true → X = λ h. f (or_right (some_in (uses slot b) n) _ h) in
        (in_tells n rest k (λ h. f (or_left _ _ h)) (record { on = live_tells rest g (live_at slot b k) t; out = t.out; end = t.end }), every_tells rest k g t)

    in_tells : (n : Node) (rest : Nodes) (k : Position) → (some_in (uses slot b) n ≡ true → X) → Told (live_at slot b (then_ rest k)) → EveryActIn Tells n rest k
    in_tells (plain p a) rest k f t = node_tells (plain p a) f (live_at slot b (then_ rest k)) t
    in_tells (if_ p x one other) rest k f t = (every_tells one _ (λ h. f (or_left _ _ h)) t, every_tells other _ (λ h. f (or_right (some_act (uses slot b) one) _ h)) t)
    in_tells (loop p body latch) rest k f t =
        let fb : some_act (uses slot b) body ≡ true → X = λ h. f (or_left _ _ h) in
        let ft : some_act (uses slot b) latch ≡ true → X = λ h. f (or_right (some_act (uses slot b) body) _ h) in
        let c = told_body body latch (live slot b rest (live_at slot b k)) fb ft t.on in
        (every_tells body _ fb (record { on = c.1; out = t.on; end = c.1 }), every_tells latch _ ft (record { on = c.0; out = t.on; end = c.0 }))
    in_tells (break_ p) rest k f t = tt
    in_tells (next_ p) rest k f t = tt
    in_tells (ret p x) rest k f t = tt

  pub all_told : (ns : Nodes) → (some_act (uses slot b) ns ≡ true → X) → EveryAct Tells ns done
  all_told ns f = every_tells ns done f (record { on = λ e. absurd cc; out = λ e. absurd cc; end = λ e. absurd cc })
