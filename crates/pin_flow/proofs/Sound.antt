-- What holds of each act with its state holds on each path.
use Rattle.std.proofs.Common.{◌≡◌, ℕ, ◌≤◌, List, Bool, true, false, refl, sym, subst, arith}
use Rattle.struct_ir.specs.Nodes.{Act, Node, plain, if_, loop, break_, next_, ret, Nodes, no_nodes, more_nodes}
use Rattle.struct_ir.specs.Flow.{does, Path, entry, on}
use Rattle.struct_ir.specs.Structured.{Position, done, then_, in_body, in_latch, out_of, end_of, kind, leads, here, next, structured}
use Rattle.pin_flow.specs.Marks.{Mark, IsFair, marked, answer, answer_from, AllPaths, unreached, good, bad, join, state_of, after, Ways, ways, at, either, in_turn, end_state, round_of, head_of, flow, flow_node, Each, EachIn}
use Rattle.pin_flow.proofs.EachAt.{EachAt, EachAtIn}
use Rattle.pin_flow.proofs.Order.{rank, rank_join, Below, join_mono, in_turn_mono, at_mono, end_mono, head_mono, flow_mono, node_mono, flow_idle, head_closed, head_covers}

-- less of a state keeps it
abbrev pub IsDown : (Act → AllPaths → Type 0) → Type 0
IsDown Q = (a : Act) (t u : AllPaths) → rank t ≤ rank u → Q a u → Q a t

-- at each position
abbrev pub IsDownAt : (Act → AllPaths → Position → Type 0) → Type 0
IsDownAt E = (a : Act) (k : Position) (t u : AllPaths) → rank t ≤ rank u → E a u k → E a t k

pub after_same : (t : AllPaths) → after (λ v. v) t ≡ t
after_same unreached = refl
after_same good = refl
after_same bad = refl

module _ (E : Act → AllPaths → Position → Type 0) (m : Mark) (fair : IsFair m) (down : IsDownAt E) where
  mutual
    at_down : (ns : Nodes) (k : Position) (t u : AllPaths) → rank t ≤ rank u → EachAt E m ns k u → EachAt E m ns k t
    at_down no_nodes k t u h e = tt
    at_down (more_nodes n rest) k t u h e = (in_down n rest k t u h e.0, at_down rest k _ _ ((node_mono m fair n t u h).on) e.1)

    in_down : (n : Node) (rest : Nodes) (k : Position) (t u : AllPaths) → rank t ≤ rank u → EachAtIn E m n rest k u → EachAtIn E m n rest k t
    in_down (plain p a) rest k t u h e = down a _ t u h e
    in_down (if_ p x one other) rest k t u h e = (at_down one _ t u h e.0, at_down other _ t u h e.1)
    in_down (loop p body latch) rest k t u h e =
        let mf = flow_mono m fair body in
        let g = head_mono _ _ mf (flow_mono m fair latch) t u h in
        (at_down body _ _ _ g e.0, at_down latch _ _ _ (end_mono _ _ (mf _ _ g)) e.1)
    in_down (break_ p) rest k t u h e = tt
    in_down (next_ p) rest k t u h e = tt
    in_down (ret p x) rest k t u h e = tt

  -- a loop whose rounds start with h at most
  record Rounds (body latch : Nodes) (k : Position) (h : AllPaths) : Type 0 where
    in_body : EachAt E m body (in_body body latch k) h
    in_turn : EachAt E m latch (in_latch body latch k) (end_state (flow m body h))
    closed : rank (round_of (flow m body) (flow m latch) h).on ≤ rank h

  abbrev rounds : Nodes → Nodes → AllPaths → Ways
  rounds body latch h = round_of (flow m body) (flow m latch) h

  -- all is well where control goes on, breaks and goes to the next round with these
  abbrev Fine : Position → Ways → Type 0
  Fine done o = Unit {0}
  Fine (then_ ns k) o = EachAt E m ns k o.on × Fine k (in_turn o (flow m ns o.on))
  Fine (in_body body latch k) o =
      (h : AllPaths) × Rounds body latch k h × (rank (end_state o) ≤ rank (end_state (flow m body h))) × Fine k (at (join o.broken (rounds body latch h).broken))
  Fine (in_latch body latch k) o =
      (h : AllPaths) × Rounds body latch k h × (rank (end_state o) ≤ rank h) × Fine k (at (join o.broken (rounds body latch h).broken))

  fine_down : (k : Position) (o o' : Ways) → Below o o' → Fine k o' → Fine k o
  fine_down done o o' b f = tt
  fine_down (then_ ns k) o o' b f =
      (at_down ns k _ _ b.on f.0, fine_down k _ _ (in_turn_mono _ _ _ _ b (flow_mono m fair ns _ _ b.on)) f.1)
  fine_down (in_body body latch k) o o' b f =
      let e = end_mono _ _ b in
      (f.0, f.1, omega (arith, e, f.2), fine_down k _ _ (at_mono _ _ (join_mono _ _ _ _ b.broken (omega arith))) f.3)
  fine_down (in_latch body latch k) o o' b f =
      let e = end_mono _ _ b in
      (f.0, f.1, omega (arith, e, f.2), fine_down k _ _ (at_mono _ _ (join_mono _ _ _ _ b.broken (omega arith))) f.3)

  fine_out : (k : Position) (o : Ways) → Fine k o → Fine (out_of k) (at o.broken)
  fine_out done o f = tt
  fine_out (then_ ns k) o f =
      let o' = in_turn o (flow m ns o.on) in
      let le : rank o.broken ≤ rank o'.broken = omega (arith, rank_join o.broken (flow m ns o.on).broken) in
      fine_down (out_of k) _ _ (at_mono _ _ le) (fine_out k o' f.1)
  fine_out (in_body body latch k) o f =
      fine_down k _ _ (at_mono _ _ (omega (arith, rank_join o.broken (rounds body latch f.0).broken))) f.3
  fine_out (in_latch body latch k) o f =
      fine_down k _ _ (at_mono _ _ (omega (arith, rank_join o.broken (rounds body latch f.0).broken))) f.3

  fine_end : (k : Position) (o : Ways) → Fine k o → Fine (end_of k) (at o.next)
  fine_end done o f = tt
  fine_end (then_ ns k) o f =
      let o' = in_turn o (flow m ns o.on) in
      let le : rank o.next ≤ rank o'.next = omega (arith, rank_join o.next (flow m ns o.on).next) in
      fine_down (end_of k) _ _ (at_mono _ _ le) (fine_end k o' f.1)
  fine_end (in_body body latch k) o f =
      let le : rank (end_state (at o.next)) ≤ rank (end_state o) = omega (arith, rank_join o.on o.next, rank_join o.next unreached) in
      (f.0, f.1, omega (arith, le, f.2), fine_down k _ _ (at_mono _ _ (omega (arith, rank_join o.broken (rounds body latch f.0).broken))) f.3)
  fine_end (in_latch body latch k) o f =
      let le : rank (end_state (at o.next)) ≤ rank (end_state o) = omega (arith, rank_join o.on o.next, rank_join o.next unreached) in
      (f.0, f.1, omega (arith, le, f.2), fine_down k _ _ (at_mono _ _ (omega (arith, rank_join o.broken (rounds body latch f.0).broken))) f.3)

  -- behind the first node of a row
  fine_rest : (n : Node) (rest : Nodes) (k : Position) (o : Ways) → Fine (then_ (more_nodes n rest) k) o → Fine (then_ rest k) (in_turn o (flow_node m n o.on))
  unfolding flow
  fine_rest n rest k o f =
      let x = flow_node m n o.on in
      let y = flow m rest x.on in (
        f.0.1,
        fine_down k (in_turn (in_turn o x) y) (in_turn o (in_turn x y)) (record {
          on = omega arith;
          broken = omega (arith, rank_join o.broken x.broken, rank_join (join o.broken x.broken) y.broken, rank_join x.broken y.broken, rank_join o.broken (join x.broken y.broken));
          next = omega (arith, rank_join o.next x.next, rank_join (join o.next x.next) y.next, rank_join x.next y.next, rank_join o.next (join x.next y.next));
        }) f.1,
      )

  -- a row whose ways are no more than these
  fine_row : (ns : Nodes) (k : Position) (t : AllPaths) (o : Ways) → EachAt E m ns k t → Below (flow m ns t) o → Fine k o → Fine (then_ ns k) (at t)
  fine_row ns k t o e b f = (e, fine_down k _ _ b f)

  fine_loop : (body latch : Nodes) (k : Position) (h t : AllPaths) → Rounds body latch k h → rank t ≤ rank h → Fine k (at (rounds body latch h).broken) → Fine (then_ body (in_body body latch k)) (at t)
  unfolding round_of
  fine_loop body latch k h t r le f =
      let b = flow_mono m fair body t h le in
      let o = flow m body t in
      let o' = flow m body h in
      let o2 = flow m latch (end_state o') in (
        at_down body _ t h le r.in_body,
        (
          h,
          r,
          end_mono o o' b,
          fine_down k _ _ (at_mono _ _ (let c : rank o.broken ≤ rank o'.broken = b.broken in omega (arith, rank_join o.broken (rounds body latch h).broken, rank_join o'.broken o2.broken))) f,
        ),
      )

  fine_turn : (body latch : Nodes) (k : Position) (t : AllPaths) → Fine (in_body body latch k) (at t) → Fine (then_ latch (in_latch body latch k)) (at t)
  unfolding round_of
  fine_turn body latch k t f =
      let h = f.0 in
      let o' = flow m body h in
      let le : rank t ≤ rank (end_state o') = omega (arith, f.2, rank_join t unreached) in
      let b = flow_mono m fair latch t (end_state o') le in
      let o = flow m latch t in
      let o2 = flow m latch (end_state o') in (
        at_down latch _ t _ le f.1.in_turn,
        (
          h,
          f.1,
          (let c = end_mono o o2 b in let d = f.1.closed in omega arith),
          fine_down k _ _ (at_mono _ _ (let c : rank o.broken ≤ rank o2.broken = b.broken in omega (arith, rank_join o.broken (rounds body latch h).broken, rank_join o'.broken o2.broken))) f.3,
        ),
      )

  fork_row : (p x : ℕ) (one other rest : Nodes) (k : Position) (t : AllPaths) → Fine (then_ (more_nodes (if_ p x one other) rest) k) (at t) → (c : Bool) → Fine (leads (if_ p x one other) (then_ rest k) c) (at t)
  unfolding flow
  fork_row p x one other rest k t f true =
      let a = flow m one t in
      let b = flow m other t in
      fine_row one (then_ rest k) t (in_turn (at t) (either a b)) f.0.0.0 (record {
        on = omega (arith, rank_join a.on b.on);
        broken = omega (arith, rank_join a.broken b.broken);
        next = omega (arith, rank_join a.next b.next);
      }) (fine_rest (if_ p x one other) rest k (at t) f)
  fork_row p x one other rest k t f false =
      let a = flow m one t in
      let b = flow m other t in
      fine_row other (then_ rest k) t (in_turn (at t) (either a b)) f.0.0.1 (record {
        on = omega (arith, rank_join a.on b.on);
        broken = omega (arith, rank_join a.broken b.broken);
        next = omega (arith, rank_join a.next b.next);
      }) (fine_rest (if_ p x one other) rest k (at t) f)

  fine_leads : (n : Node) (rest : Nodes) (k : Position) (c : Bool) (t : AllPaths) → Fine (then_ (more_nodes n rest) k) (at t) → Fine (leads n (then_ rest k) c) (at (after (marked m (kind n)) t))
  unfolding flow
  fine_leads (plain p a) rest k c t f = fine_rest (plain p a) rest k (at t) f
  fine_leads (if_ p x one other) rest k c t f = subst (λ (u : AllPaths). Fine (leads (if_ p x one other) (then_ rest k) c) (at u)) (sym (after_same t)) (fork_row p x one other rest k t f c)
  fine_leads (loop p body latch) rest k c t f =
      let b = flow m body in
      let u = flow m latch in
      let h = head_of b u t in
      let r : Rounds body latch (then_ rest k) h = record { in_body = f.0.0.0; in_turn = f.0.0.1; closed = head_closed b u (flow_idle m body) (flow_idle m latch) t } in
      subst (λ (u : AllPaths). Fine (then_ body (in_body body latch (then_ rest k))) (at u)) (sym (after_same t))
      (fine_loop body latch (then_ rest k) h t r (head_covers b u t) (fine_rest (loop p body latch) rest k (at t) f))
  fine_leads (break_ p) rest k c t f = subst (λ (u : AllPaths). Fine (out_of k) (at u)) (sym (after_same t)) (fine_out (then_ rest k) (ways unreached t unreached) (fine_rest (break_ p) rest k (at t) f))
  fine_leads (next_ p) rest k c t f = subst (λ (u : AllPaths). Fine (end_of k) (at u)) (sym (after_same t)) (fine_end (then_ rest k) (ways unreached unreached t) (fine_rest (next_ p) rest k (at t) f))
  fine_leads (ret p x) rest k c t f = tt

  fine_next : (k : Position) (c : Bool) (t : AllPaths) → Fine k (at t) → Fine (next k c) (at (after (marked m (here k)) t))
  unfolding flow
  fine_next done c t f = tt
  fine_next (then_ no_nodes k) c t f = subst (λ (u : AllPaths). Fine k (at u)) (sym (after_same t)) f.1
  fine_next (then_ (more_nodes n rest) k) c t f = fine_leads n rest k c t f
  fine_next (in_body body latch k) c t f = subst (λ (u : AllPaths). Fine (then_ latch (in_latch body latch k)) (at u)) (sym (after_same t)) (fine_turn body latch k t f)
  fine_next (in_latch body latch k) c t f =
      subst (λ (u : AllPaths). Fine (then_ body (in_body body latch k)) (at u)) (sym (after_same t))
      (fine_loop body latch k f.0 t f.1 (omega (arith, f.2, rank_join t unreached)) f.3)

  of_state : (v : Bool) (f : Bool → Bool) → after f (state_of v) ≡ state_of (f v)
  of_state true f = refl
  of_state false f = refl

  fine_path : (v : Bool) (all : Nodes) → EachAt E m all done (state_of v) → (w : List Position) (k : Position) → Path structured (then_ all done) w k → Fine k (at (state_of (answer_from structured m v w)))
  fine_path v all e _ _ entry = (e, tt)
  fine_path v all e _ _ (on w k c stays before) =
      subst (λ (u : AllPaths). Fine (next k c) (at u)) (of_state (answer_from structured m v w) (marked m (here k))) (fine_next k c (state_of (answer_from structured m v w)) (fine_path v all e w k before))

  at_act : (k : Position) (t : AllPaths) → Fine k (at t) → (p : ℕ) (a : Act) → here k ≡ does p a → E a t k
  at_act done t f p' a e = absurd cc
  at_act (then_ no_nodes k) t f p' a e = absurd cc
  at_act (then_ (more_nodes (plain p b) rest) k) t f p' a e = let same : b ≡ a = cc in subst (λ (x : Act). E x t (then_ (more_nodes (plain p b) rest) k)) same f.0.0
  at_act (then_ (more_nodes (if_ p x one other) rest) k) t f p' a e = absurd cc
  at_act (then_ (more_nodes (loop p body latch) rest) k) t f p' a e = absurd cc
  at_act (then_ (more_nodes (break_ p) rest) k) t f p' a e = absurd cc
  at_act (then_ (more_nodes (next_ p) rest) k) t f p' a e = absurd cc
  at_act (then_ (more_nodes (ret p x) rest) k) t f p' a e = absurd cc
  at_act (in_body body latch k) t f p' a e = absurd cc
  at_act (in_latch body latch k) t f p' a e = absurd cc

  -- what holds of each act with its state at its position, holds on each path; v: the answer before the code
  pub each_holds_at : (v : Bool) (all : Nodes) → EachAt E m all done (state_of v) → (w : List Position) (k : Position) → Path structured (then_ all done) w k → (p : ℕ) (a : Act) → here k ≡ does p a → E a (state_of (answer_from structured m v w)) k
  each_holds_at v all e w k path p a h = at_act k (state_of (answer_from structured m v w)) (fine_path v all e w k path) p a h

-- what holds wherever it stands
mutual
  pub at_each : (Q : Act → AllPaths → Type 0) (m : Mark) (ns : Nodes) (k : Position) (t : AllPaths) → Each Q m ns t → EachAt (λ a u j. Q a u) m ns k t
  at_each Q m no_nodes k t e = tt
  at_each Q m (more_nodes n rest) k t e = (at_each_in Q m n rest k t e.0, at_each Q m rest k _ e.1)

  at_each_in : (Q : Act → AllPaths → Type 0) (m : Mark) (n : Node) (rest : Nodes) (k : Position) (t : AllPaths) → EachIn Q m n t → EachAtIn (λ a u j. Q a u) m n rest k t
  at_each_in Q m (plain p a) rest k t e = e
  at_each_in Q m (if_ p x one other) rest k t e = (at_each Q m one _ t e.0, at_each Q m other _ t e.1)
  at_each_in Q m (loop p body latch) rest k t e = (at_each Q m body _ _ e.0, at_each Q m latch _ _ e.1)
  at_each_in Q m (break_ p) rest k t e = tt
  at_each_in Q m (next_ p) rest k t e = tt
  at_each_in Q m (ret p x) rest k t e = tt

module _ (Q : Act → AllPaths → Type 0) (m : Mark) (fair : IsFair m) (down : IsDown Q) where
  -- what holds of each act with its state, holds on each path
  pub each_holds : (all : Nodes) → Each Q m all bad → (w : List Position) (k : Position) → Path structured (then_ all done) w k → (p : ℕ) (a : Act) → here k ≡ does p a → Q a (state_of (answer structured m w))
  each_holds all e w k path p a h = each_holds_at (λ b t j. Q b t) m fair (λ b j t u. down b t u) false all (at_each Q m all done bad e) w k path p a h
