-- States and their order: unreached, good, bad.
use Rattle.std.proofs.Common.{◌≡◌, ℕ, ◌≤◌, Bool, true, false, refl, ap, arith}
use Rattle.std.specs.Prelude.{max}
use Rattle.struct_ir.specs.Nodes.{Node, plain, if_, loop, break_, next_, ret, Nodes, no_nodes, more_nodes}
use Rattle.pin_flow.specs.Marks.{Mark, IsFair, AllPaths, unreached, good, bad, join, state_of, after, Ways, at, either, in_turn, end_state, turned, round_of, head_of, flow, flow_node}

abbrev pub rank : AllPaths → ℕ
rank unreached = 0
rank good = 1
rank bad = 2

pub rank_join : (t u : AllPaths) → rank (join t u) ≡ max (rank t) (rank u)
rank_join unreached u = omega arith
rank_join good unreached = omega arith
rank_join good good = omega arith
rank_join good bad = omega arith
rank_join bad unreached = omega arith
rank_join bad good = omega arith
rank_join bad bad = omega arith

pub low : (t : AllPaths) → rank t ≤ 2
low unreached = omega arith
low good = omega arith
low bad = omega arith

pub record Below (o o' : Ways) : Type 0 where
  pub on : rank o.on ≤ rank o'.on
  pub broken : rank o.broken ≤ rank o'.broken
  pub next : rank o.next ≤ rank o'.next

pub of_mono : (v w : Bool) → (v ≡ true → w ≡ true) → rank (state_of w) ≤ rank (state_of v)
of_mono true true h = omega arith
of_mono true false h = absurd (let e : false ≡ true = h refl in cc)
of_mono false true h = omega arith
of_mono false false h = omega arith

pub after_mono : (f : Bool → Bool) → (f false ≡ true → f true ≡ true) → (t u : AllPaths) → rank t ≤ rank u → rank (after f t) ≤ rank (after f u)
after_mono f h unreached u le = omega arith
after_mono f h good unreached le = absurd (omega arith)
after_mono f h good good le = omega arith
after_mono f h good bad le = of_mono (f false) (f true) h
after_mono f h bad unreached le = absurd (omega arith)
after_mono f h bad good le = absurd (omega arith)
after_mono f h bad bad le = omega arith

pub join_mono : (t u t' u' : AllPaths) → rank t ≤ rank t' → rank u ≤ rank u' → rank (join t u) ≤ rank (join t' u')
join_mono t u t' u' h g = omega (arith, rank_join t u, rank_join t' u')

pub either_mono : (o p o' p' : Ways) → Below o o' → Below p p' → Below (either o p) (either o' p')
either_mono o p o' p' b c = record { on = join_mono _ _ _ _ b.on c.on; broken = join_mono _ _ _ _ b.broken c.broken; next = join_mono _ _ _ _ b.next c.next }

pub in_turn_mono : (o p o' p' : Ways) → Below o o' → Below p p' → Below (in_turn o p) (in_turn o' p')
in_turn_mono o p o' p' b c = record { on = c.on; broken = join_mono _ _ _ _ b.broken c.broken; next = join_mono _ _ _ _ b.next c.next }

pub turned_mono : (o p o' p' : Ways) → Below o o' → Below p p' → Below (turned o p) (turned o' p')
turned_mono o p o' p' b c = record { on = join_mono _ _ _ _ c.on c.next; broken = join_mono _ _ _ _ b.broken c.broken; next = omega arith }

abbrev pub IsMono : (AllPaths → Ways) → Type 0
IsMono f = (t u : AllPaths) → rank t ≤ rank u → Below (f t) (f u)

pub at_mono : (t u : AllPaths) → rank t ≤ rank u → Below (at t) (at u)
at_mono t u h = record { on = h; broken = omega arith; next = omega arith }

pub end_mono : (o o' : Ways) → Below o o' → rank (end_state o) ≤ rank (end_state o')
end_mono o o' b = join_mono _ _ _ _ b.on b.next

pub round_mono : (f g : AllPaths → Ways) → IsMono f → IsMono g → IsMono (round_of f g)
unfolding round_of
round_mono f g mf mg t u h = turned_mono _ _ _ _ (mf t u h) (mg _ _ (end_mono _ _ (mf t u h)))

pub head_mono : (f g : AllPaths → Ways) → IsMono f → IsMono g → (t u : AllPaths) → rank t ≤ rank u → rank (head_of f g t) ≤ rank (head_of f g u)
unfolding head_of
head_mono f g mf mg t u h = join_mono _ _ _ _ h ((round_mono f g mf mg t u h).on)

mutual
  unfolding flow

  pub flow_mono : (m : Mark) → IsFair m → (ns : Nodes) → IsMono (flow m ns)
  flow_mono m fair no_nodes t u h = at_mono t u h
  flow_mono m fair (more_nodes n rest) t u h = let b = node_mono m fair n t u h in in_turn_mono _ _ _ _ b (flow_mono m fair rest _ _ b.on)

  pub node_mono : (m : Mark) → IsFair m → (n : Node) → IsMono (flow_node m n)
  node_mono m fair (plain place a) t u h = at_mono _ _ (after_mono (m a) (fair a) t u h)
  node_mono m fair (if_ place temp one other) t u h = either_mono _ _ _ _ (flow_mono m fair one t u h) (flow_mono m fair other t u h)
  node_mono m fair (loop place body latch) t u h =
      let mf = flow_mono m fair body in
      let mg = flow_mono m fair latch in
      at_mono _ _ ((round_mono _ _ mf mg _ _ (head_mono _ _ mf mg t u h)).broken)
  node_mono m fair (break_ place) t u h = record { on = omega arith; broken = h; next = omega arith }
  node_mono m fair (next_ place) t u h = record { on = omega arith; broken = omega arith; next = h }
  node_mono m fair (ret place temp) t u h = at_mono _ _ (omega arith)

-- ---- one round is enough

round_idle : (f g : AllPaths → Ways) → f unreached ≡ at unreached → g unreached ≡ at unreached → round_of f g unreached ≡ at unreached
unfolding round_of
round_idle f g e e' = rw (e, e') refl

loop_idle : (m : Mark) (body latch : Nodes) → flow m body unreached ≡ at unreached → flow m latch unreached ≡ at unreached
    → round_of (flow m body) (flow m latch) (head_of (flow m body) (flow m latch) unreached) ≡ at unreached
unfolding head_of
loop_idle m body latch e e' = let r = round_idle (flow m body) (flow m latch) e e' in rw (r, r) refl

-- a state, and what one round makes of it: a round more makes no more of it
by_state : (f : AllPaths → AllPaths) → f unreached ≡ unreached → (t : AllPaths) → rank (f (join t (f t))) ≤ rank (join t (f t))
by_state f e unreached = rw (e, e) (omega arith)
by_state f e good = elim (f good) as (λ x. f good ≡ x → rank (f (join good x)) ≤ rank (join good x)) [
  | unreached ↦ (λ h. rw h (omega arith))
  | good ↦ (λ h. rw h (omega arith))
  | bad ↦ (λ h. low (f bad))
] refl
by_state f e bad = low (f bad)

pub head_closed : (f g : AllPaths → Ways) → f unreached ≡ at unreached → g unreached ≡ at unreached → (t : AllPaths) → rank (round_of f g (head_of f g t)).on ≤ rank (head_of f g t)
unfolding head_of
head_closed f g e e' t = by_state (λ t. (round_of f g t).on) (ap (λ (o : Ways). o.on) (round_idle f g e e')) t

pub head_covers : (f g : AllPaths → Ways) (t : AllPaths) → rank t ≤ rank (head_of f g t)
unfolding head_of
head_covers f g t = omega (arith, rank_join t (round_of f g t).on)

mutual
  unfolding flow

  pub flow_idle : (m : Mark) (ns : Nodes) → flow m ns unreached ≡ at unreached
  flow_idle m no_nodes = refl
  flow_idle m (more_nodes n rest) = let e = node_idle m n in rw (e, flow_idle m rest) refl

  pub node_idle : (m : Mark) (n : Node) → flow_node m n unreached ≡ at unreached
  node_idle m (plain place a) = refl
  node_idle m (if_ place temp one other) = rw (flow_idle m one, flow_idle m other) refl
  node_idle m (loop place body latch) = rw (loop_idle m body latch (flow_idle m body) (flow_idle m latch)) refl
  node_idle m (break_ place) = refl
  node_idle m (next_ place) = refl
  node_idle m (ret place temp) = refl
