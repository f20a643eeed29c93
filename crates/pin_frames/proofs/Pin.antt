-- What a path says of lists too, as a mark, against what it says of Looks and assignments alone.
use Rattle.std.proofs.Common.{◌≡◌, ◌≢◌, inl, inr, ℕ, ◌≤◌, Bool, true, false, ◌==◌, ◌||◌, ◌&&◌, if◌then◌else◌, refl, sym, ap, subst, ◌∙◌, arith}
use Rattle.std.proofs.lemmas.Bool.{or_left, or_right, both_ways, cases_lt}
use Rattle.std.specs.Prelude.{not, max}
use Rattle.struct_ir.specs.Nodes.{Act, set, call, step, look, safepoint, begin_object, end_object, Node, plain, if_, loop, break_, next_, ret, Nodes, no_nodes, more_nodes, own_list, list_of}
use Rattle.struct_ir.specs.Structured.{Position, then_, in_body, in_latch}
use Rattle.struct_ir.specs.Pins.{lacks, lacks_if}
use Rattle.pin_flow.specs.Marks.{Mark, AllPaths, unreached, good, bad, join, state_of, after, at, Ways, round_of, head_of, end_state, flow, flow_node, Each, EachIn}
use Rattle.pin_flow.specs.Looks.{is_to, looks_into}
use Rattle.pin_flow.specs.Held.{fresh, pinned}
use Rattle.pin_flow.specs.Live.{uses, Live, live_act, live, live_node, head_live, latch_live, live_at}
use Rattle.pin_flow.proofs.Order.{rank, rank_join, low, flow_idle, head_closed, head_covers}
use Rattle.pin_flow.proofs.Strip.{by_bool}
use Rattle.pin_flow.proofs.Covers.{Serves}
use Rattle.pin_flow.proofs.Live.{among_has, loop_live}
use Rattle.pin_flow.proofs.Live as lively
use Rattle.pin_flow.proofs.At.{EachAt, EachAtIn}

-- ---- where an access comes later, lists take nothing away

pub record Rel (l : Bool) (t' t : AllPaths) : Type 0 where
  pub idle : rank t ≤ 0 → rank t' ≤ 0
  pub le : l ≡ true → rank t' ≤ rank t

pub record RelWays (l : Live) (o' o : Ways) : Type 0 where
  pub on : Rel l.on o'.on o.on
  pub broken : Rel l.out o'.broken o.broken
  pub next : Rel l.end o'.next o.next

rel_join : (l : Bool) (t' t u' u : AllPaths) → Rel l t' t → Rel l u' u → Rel l (join t' u') (join t u)
rel_join l t' t u' u r q = record {
  idle = λ h. (let a = r.idle (omega (arith, rank_join t u)) in let b = q.idle (omega (arith, rank_join t u)) in omega (arith, rank_join t' u'));
  le = λ e. (let a = r.le e in let b = q.le e in omega (arith, rank_join t u, rank_join t' u'));
}

rel_idle : (l : Bool) (t : AllPaths) → Rel l unreached t
rel_idle l t = record { idle = λ h. omega arith; le = λ e. omega arith }

rel_weaker : (l l' : Bool) (t' t : AllPaths) → (l' ≡ true → l ≡ true) → Rel l t' t → Rel l' t' t
rel_weaker l l' t' t f r = record { idle = r.idle; le = λ e. r.le (f e) }

after_idle : (f : Bool → Bool) (t : AllPaths) → rank t ≤ 0 → rank (after f t) ≤ 0
after_idle f unreached h = omega arith
after_idle f good h = absurd (omega arith)
after_idle f bad h = absurd (omega arith)

state_ranks : (v : Bool) → 1 ≤ rank (state_of v)
state_ranks true = omega arith
state_ranks false = omega arith

idle_after : (f : Bool → Bool) (t : AllPaths) → rank (after f t) ≤ 0 → rank t ≤ 0
idle_after f unreached h = omega arith
idle_after f good h = absurd (let x = state_ranks (f true) in omega arith)
idle_after f bad h = absurd (let x = state_ranks (f false) in omega arith)

-- an act that is no Look: x says that it assigns b, y that its list lacks the slot
other_after : (x y : Bool) (t' t : AllPaths) → rank t' ≤ rank t → (y ≡ true → t ≢ bad → ⊥) → rank (after (λ v. not x && (not y && v)) t') ≤ rank (after (λ v. not x && v) t)
other_after x y unreached t h f = omega arith
other_after true y good good h f = omega arith
other_after false false good good h f = omega arith
other_after false true good good h f = absurd (f refl (λ e. cc))
other_after x y good unreached h f = absurd (omega arith)
other_after x y good bad h f = omega (arith, by_bool (λ z. 2 ≤ rank (state_of (not z && false))) x (λ e. omega arith) (λ e. omega arith), low (state_of (not x && (not y && true))))
other_after x y bad unreached h f = absurd (omega arith)
other_after x y bad good h f = absurd (omega arith)
other_after x y bad bad h f = omega (arith, by_bool (λ z. 2 ≤ rank (state_of (not z && false))) x (λ e. omega arith) (λ e. omega arith), low (state_of (not x && (not y && false))))

same_after : (v : Bool) (t' t : AllPaths) → (rank t ≤ 0 → rank t' ≤ 0) → rank (after (λ x. v) t') ≤ rank (after (λ x. v) t)
same_after v unreached t f = omega arith
same_after v good unreached f = absurd (let h = f (omega arith) in omega arith)
same_after v good good f = omega arith
same_after v good bad f = omega arith
same_after v bad unreached f = absurd (let h = f (omega arith) in omega arith)
same_after v bad good f = omega arith
same_after v bad bad f = omega arith

module _ (slot b : ℕ) where
  -- where the act's list lacks the slot, no path is left on which b is fresh, or no access comes later
  abbrev pub Lists : Act → AllPaths → Position → Type 0
  Lists a t k = lacks_if slot (list_of a) ≡ true → t ≢ bad → (live_at slot b k).on ≡ false

  -- an act that is no Look
  rel_other : (x y u later l : Bool) (t' t : AllPaths) → (later ≡ true → l ≡ true) → Rel l t' t → (y ≡ true → t ≢ bad → l ≡ false) → Rel later (after (λ v. not x && (not y && v)) t') (after (λ v. not x && v) t)
  rel_other x y u later l t' t f r lists = record {
    idle = λ h. after_idle (λ v. not x && (not y && v)) t' (r.idle (idle_after (λ v. not x && v) t h));
    le = λ e. other_after x y t' t (r.le (f e)) (λ g h. both_ways l (lists g h) (f e));
  }

  later_too : (u later : Bool) → later ≡ true → (u || (true && later)) ≡ true
  later_too u later e = or_right u (true && later) e

  rel_act : (a : Act) (later : Bool) (t' t : AllPaths) → Rel (live_act slot b a later) t' t → (lacks_if slot (list_of a) ≡ true → t ≢ bad → live_act slot b a later ≡ false) → Rel later (after (pinned slot b a) t') (after (fresh slot b a) t)
  rel_act (set to calc) later t' t r h = rel_other (b == to) false false later later t' t (λ e. e) r (λ e. absurd (let x : false ≡ true = e in cc))
  rel_act (call c) later t' t r h = rel_other (is_to b c.to) (lacks slot c.slots) false later later t' t (λ e. e) r h
  rel_act (step x) later t' t r h =
      let u = uses slot b (step x) in
      rel_other (is_to b x.to) (lacks_if slot (own_list x)) u later (u || (true && later)) t' t (later_too u later) r h
  rel_act (look s base) later t' t r h =
      by_bool (λ x. Rel (false || (not x && later)) t' t → Rel later (after (λ v. if x then base == b else v) t') (after (λ v. if x then base == b else v) t)) (s == slot)
      (λ e r. record {
        idle = λ h. after_idle (λ v. base == b) t' (r.idle (idle_after (λ v. base == b) t h));
        le = λ e. same_after (base == b) t' t r.idle;
      })
      (λ e r. subst (λ (f : AllPaths → AllPaths). Rel later (f t') (f t)) (λ i u. sym (Rattle.pin_flow.proofs.Sound.after_same u) i) r) r
  rel_act (safepoint slots) later t' t r h = rel_other false (lacks slot slots) false later later t' t (λ e. e) r h
  rel_act (begin_object i) later t' t r h = rel_other false false false later later t' t (λ e. e) r (λ e. absurd (let x : false ≡ true = e in cc))
  rel_act (end_object i) later t' t r h = rel_other false false false later later t' t (λ e. e) r (λ e. absurd (let x : false ≡ true = e in cc))

  abbrev F : Nodes → AllPaths → Ways
  F ns t = flow (fresh slot b) ns t

  abbrev G : Nodes → AllPaths → Ways
  G ns t = flow (pinned slot b) ns t

  abbrev at_k : Position → Live
  at_k k = live_at slot b k

  rel_at : (l : Live) (t' t : AllPaths) → Rel l.on t' t → RelWays l (at t') (at t)
  rel_at l t' t r = record { on = r; broken = rel_idle l.out unreached; next = rel_idle l.end unreached }

  module _ (body latch : Nodes) (k : Position) (h : AllPaths)
      (of_body : (v : AllPaths) → Rel (live slot b body (at_k (in_body body latch k))) v h → RelWays (at_k (in_body body latch k)) (G body v) (F body h))
      (of_turn : (v : AllPaths) → Rel (live slot b latch (at_k (in_latch body latch k))) v (end_state (F body h)) → RelWays (at_k (in_latch body latch k)) (G latch v) (F latch (end_state (F body h)))) where
    abbrev hl : Bool
    hl = head_live slot b body latch (at_k k).on

    abbrev tl : Bool
    tl = latch_live slot b body latch (at_k k).on

    at_body : (v : AllPaths) → Rel hl v h → RelWays (at_k (in_body body latch k)) (G body v) (F body h)
    at_body v r = of_body v (rel_weaker hl _ v h (λ e. sym (lively.head_closed slot b body latch (at_k k).on) ∙ e) r)

    at_turn : (v : AllPaths) → Rel tl v (end_state (F body h)) → RelWays (at_k (in_latch body latch k)) (G latch v) (F latch (end_state (F body h)))
    unfolding latch_live
    at_turn v r = of_turn v r

    record Round (v : AllPaths) : Type 0 where
      end : Rel tl (end_state (G body v)) (end_state (F body h))
      on : Rel hl (round_of (flow (pinned slot b) body) (flow (pinned slot b) latch) v).on (round_of (flow (fresh slot b) body) (flow (fresh slot b) latch) h).on
      broken : Rel (at_k k).on (round_of (flow (pinned slot b) body) (flow (pinned slot b) latch) v).broken (round_of (flow (fresh slot b) body) (flow (fresh slot b) latch) h).broken

    rel_round : (v : AllPaths) → Rel hl v h → Round v
    unfolding round_of
    rel_round v r =
        let x = at_body v r in
        let e = rel_join tl _ _ _ _ x.on x.next in
        let y = at_turn (end_state (G body v)) e in
        record { end = e; on = rel_join hl _ _ _ _ y.on y.next; broken = rel_join (at_k k).on _ _ _ _ x.broken y.broken }

  head_idle : (m : Mark) (body latch : Nodes) (t : AllPaths) → rank t ≤ 0 → rank (head_of (flow m body) (flow m latch) t) ≤ 0
  unfolding head_of round_of
  head_idle m body latch unreached h = rw (flow_idle m body, flow_idle m latch) (omega arith)
  head_idle m body latch good h = absurd (omega arith)
  head_idle m body latch bad h = absurd (omega arith)

  same_rank : (t h : AllPaths) → rank t ≡ 1 → rank h ≡ 1 → t ≡ h
  same_rank unreached h e g = absurd (omega arith)
  same_rank good unreached e g = absurd (omega arith)
  same_rank good good e g = refl
  same_rank good bad e g = absurd (omega arith)
  same_rank bad h e g = absurd (omega arith)

  abbrev head_f : Nodes → Nodes → AllPaths → AllPaths
  head_f body latch t = head_of (flow (fresh slot b) body) (flow (fresh slot b) latch) t

  abbrev head_g : Nodes → Nodes → AllPaths → AllPaths
  head_g body latch t = head_of (flow (pinned slot b) body) (flow (pinned slot b) latch) t

  -- the rounds of both start alike
  module _ (body latch : Nodes) (l : Bool) (t' t : AllPaths) (r : Rel l t' t)
      (f : (v : AllPaths) → Rel l v (head_f body latch t) → Rel l (round_of (flow (pinned slot b) body) (flow (pinned slot b) latch) v).on (round_of (flow (fresh slot b) body) (flow (fresh slot b) latch) (head_f body latch t)).on) where
    head_is : rank (head_g body latch t') ≡ max (rank t') (rank (round_of (flow (pinned slot b) body) (flow (pinned slot b) latch) t').on)
    unfolding head_of
    head_is = rank_join t' _

    when_good : l ≡ true → rank t ≡ 1 → rank (head_f body latch t) ≡ 1 → rank (head_g body latch t') ≤ rank (head_f body latch t)
    when_good e g k =
        let same : t ≡ head_f body latch t = same_rank t (head_f body latch t) g k in
        let a = (f t' (subst (λ (x : AllPaths). Rel l t' x) same r)).le e in
        let c = head_closed (flow (fresh slot b) body) (flow (fresh slot b) latch) (flow_idle (fresh slot b) body) (flow_idle (fresh slot b) latch) t in
        let d = r.le e in
        omega (arith, head_is)

    head_le : l ≡ true → rank (head_g body latch t') ≤ rank (head_f body latch t)
    head_le e =
        let c = head_covers (flow (fresh slot b) body) (flow (fresh slot b) latch) t in
        let top = low (head_g body latch t') in
        elim (cases_lt (rank t) 1) [
          | inl x ↦ (let d = head_idle (pinned slot b) body latch t' (r.idle (omega arith)) in omega arith)
          | inr x ↦ elim (cases_lt (rank (head_f body latch t)) 2) [
            | inl y ↦ when_good e (omega arith) (omega arith)
            | inr y ↦ omega arith
          ]
        ]

    rel_head : Rel l (head_g body latch t') (head_f body latch t)
    rel_head = record {
      idle = λ h. head_idle (pinned slot b) body latch t' (r.idle (let c = head_covers (flow (fresh slot b) body) (flow (fresh slot b) latch) t in omega arith));
      le = head_le;
    }

  -- ---- all code

  step_rel : (body latch : Nodes) (k : Position) (t' t : AllPaths) → Rel (latch_live slot b body latch (at_k k).on) t' t → Rel (live slot b latch (at_k (in_latch body latch k))) t' t
  unfolding latch_live
  step_rel body latch k t' t r = r

  or_one : (x y : Bool) → x ≡ true → (x || y) ≡ true
  or_one x y e = or_left x y e

  mutual
    unfolding live flow

    pub rel_row : (ns : Nodes) (k : Position) (t' t : AllPaths) → EachAt Lists (fresh slot b) ns k t → Rel (live slot b ns (at_k k)) t' t → RelWays (at_k k) (G ns t') (F ns t)
    rel_row no_nodes k t' t e r = rel_at (at_k k) t' t r
    rel_row (more_nodes n rest) k t' t e r =
        let x = rel_node n rest k t' t e.0 r in
        let y = rel_row rest k _ _ e.1 x.on in
        record { on = y.on; broken = rel_join _ _ _ _ _ x.broken y.broken; next = rel_join _ _ _ _ _ x.next y.next }

    rel_node : (n : Node) (rest : Nodes) (k : Position) (t' t : AllPaths) → EachAtIn Lists (fresh slot b) n rest k t → Rel (live slot b (more_nodes n rest) (at_k k)) t' t → RelWays (at_k (then_ rest k)) (flow_node (pinned slot b) n t') (flow_node (fresh slot b) n t)
    rel_node (plain p a) rest k t' t e r = rel_at (at_k (then_ rest k)) _ _ (rel_act a (live slot b rest (at_k k)) t' t r e)
    rel_node (if_ p x one other) rest k t' t e r =
        let l1 = live slot b one (at_k (then_ rest k)) in
        let l2 = live slot b other (at_k (then_ rest k)) in
        let c = rel_row one (then_ rest k) t' t e.0 (rel_weaker (l1 || l2) l1 t' t (or_left l1 l2) r) in
        let d = rel_row other (then_ rest k) t' t e.1 (rel_weaker (l1 || l2) l2 t' t (or_right l1 l2) r) in
        record { on = rel_join _ _ _ _ _ c.on d.on; broken = rel_join _ _ _ _ _ c.broken d.broken; next = rel_join _ _ _ _ _ c.next d.next }
    rel_node (loop p body latch) rest k t' t e r =
        let kk = then_ rest k in
        let h = head_f body latch t in
        let o = live slot b rest (at_k k) in
        let hl = head_live slot b body latch o in
        let start : Rel hl t' t = rel_weaker (live_node slot b (loop p body latch) (at_k kk)) hl t' t (λ e. loop_live slot b p body latch (at_k kk) ∙ e) r in
        let rounds = rel_round body latch kk h (λ v. rel_row body (in_body body latch kk) v h e.0) (λ v. rel_row latch (in_latch body latch kk) v (end_state (F body h)) e.1) in
        let heads = rel_head body latch hl t' t start (λ v q. (rounds v q).on) in
        rel_at (at_k kk) _ _ ((rounds (head_g body latch t') heads).broken)
    rel_node (break_ p) rest k t' t e r = record { on = rel_idle _ unreached; broken = r; next = rel_idle _ unreached }
    rel_node (next_ p) rest k t' t e r = record { on = rel_idle _ unreached; broken = rel_idle _ unreached; next = r }
    rel_node (ret p x) rest k t' t e r = rel_at (at_k (then_ rest k)) _ _ (rel_idle _ unreached)

  serves_too : (a : Act) (later : Bool) (t' t : AllPaths) → Rel (live_act slot b a later) t' t → Serves slot b a t → Serves slot b a t'
  serves_too a later t' t r f i e =
      let u : uses slot b a ≡ true = among_has slot b a i in
      let le = r.le (or_left (uses slot b a) (not (looks_into slot a) && later) u) in
      f i (is_bad_too t (let x : 2 ≤ rank t' = (let y : rank t' ≡ 2 = ap rank e in omega arith) in omega arith))
    where
      is_bad_too : (t : AllPaths) → 2 ≤ rank t → t ≡ bad
      is_bad_too unreached h = absurd (omega arith)
      is_bad_too good h = absurd (omega arith)
      is_bad_too bad h = refl

  mutual
    unfolding live flow

    pub each_pin : (ns : Nodes) (k : Position) (t' t : AllPaths) → EachAt Lists (fresh slot b) ns k t → Rel (live slot b ns (at_k k)) t' t → Each (Serves slot b) (fresh slot b) ns t → Each (Serves slot b) (pinned slot b) ns t'
    each_pin no_nodes k t' t e r s = tt
    each_pin (more_nodes n rest) k t' t e r s = (in_pin n rest k t' t e.0 r s.0, each_pin rest k _ _ e.1 ((rel_node n rest k t' t e.0 r).on) s.1)

    in_pin : (n : Node) (rest : Nodes) (k : Position) (t' t : AllPaths) → EachAtIn Lists (fresh slot b) n rest k t → Rel (live slot b (more_nodes n rest) (at_k k)) t' t → EachIn (Serves slot b) (fresh slot b) n t → EachIn (Serves slot b) (pinned slot b) n t'
    in_pin (plain p a) rest k t' t e r s = serves_too a (live slot b rest (at_k k)) t' t r s
    in_pin (if_ p x one other) rest k t' t e r s =
        let l1 = live slot b one (at_k (then_ rest k)) in
        let l2 = live slot b other (at_k (then_ rest k)) in (
          each_pin one (then_ rest k) t' t e.0 (rel_weaker (l1 || l2) l1 t' t (or_left l1 l2) r) s.0,
          each_pin other (then_ rest k) t' t e.1 (rel_weaker (l1 || l2) l2 t' t (or_right l1 l2) r) s.1,
        )
    in_pin (loop p body latch) rest k t' t e r s =
        let kk = then_ rest k in
        let h = head_f body latch t in
        let hl = head_live slot b body latch (live slot b rest (at_k k)) in
        let start : Rel hl t' t = rel_weaker (live_node slot b (loop p body latch) (at_k kk)) hl t' t (λ e. loop_live slot b p body latch (at_k kk) ∙ e) r in
        let rounds = rel_round body latch kk h (λ v. rel_row body (in_body body latch kk) v h e.0) (λ v. rel_row latch (in_latch body latch kk) v (end_state (F body h)) e.1) in
        let heads = rel_head body latch hl t' t start (λ v q. (rounds v q).on) in (
          each_pin body (in_body body latch kk) (head_g body latch t') h e.0 (rel_weaker hl _ _ h (λ e. sym (lively.head_closed slot b body latch (at_k kk).on) ∙ e) heads) s.0,
          each_pin latch (in_latch body latch kk) _ (end_state (F body h)) e.1 (step_rel body latch kk _ _ ((rounds (head_g body latch t') heads).end)) s.1,
        )
    in_pin (break_ p) rest k t' t e r s = tt
    in_pin (next_ p) rest k t' t e r s = tt
    in_pin (ret p x) rest k t' t e r s = tt
