-- A yes or no that acts change along a path, and on which points each path says yes.
use Rattle.std.specs.Prelude.{◌≡◌, List, [], ◌∷◌, Bool, true, false}
use Rattle.struct_ir.specs.Nodes.{Act, Node, plain, if_, loop, break_, next_, ret, Nodes, no_nodes, more_nodes}
use Rattle.struct_ir.specs.Structured.{Position, then_, in_body, in_latch}
use Rattle.struct_ir.specs.Flow.{Flow, Here, does, tests, passes, round, returns}

-- what an act makes of the answer so far
abbrev pub Mark : Type 0
Mark = Act → Bool → Bool

-- a yes is never worse than a no
abbrev pub IsFair : Mark → Type 0
IsFair m = (a : Act) → m a false ≡ true → m a true ≡ true

-- the answer behind what stands at a position: acts alone change it
abbrev pub marked : Mark → Here → Bool → Bool
marked m (does place a) v = m a v
marked m (tests place temp) v = v
marked m passes v = v
marked m round v = v
marked m (returns temp) v = v

-- the answer of a path, by the positions passed, the last one first; v: the answer before the code
abbrev pub answer_from : {P : Type 0} → Flow P → Mark → (v : Bool) → List P → Bool
answer_from C m v [] = v
answer_from C m v (k ∷ w) = marked m (C.here k) (answer_from C m v w)

-- from a no
abbrev pub answer : {P : Type 0} → Flow P → Mark → List P → Bool
answer C m w = answer_from C m false w

-- ---- all paths to a point: none comes there, each says yes, or some says no
pub data AllPaths : Type 0 where
  unreached : AllPaths
  good : AllPaths
  bad : AllPaths

-- of two ways that meet: no, where one of them says no
abbrev pub join : AllPaths → AllPaths → AllPaths
join unreached u = u
join good unreached = good
join good good = good
join good bad = bad
join bad u = bad

-- the state where each path has this answer
abbrev pub state_of : Bool → AllPaths
state_of true = good
state_of false = bad

-- the state behind an act that changes the answer so
abbrev pub after : (Bool → Bool) → AllPaths → AllPaths
after f unreached = unreached
after f good = state_of (f true)
after f bad = state_of (f false)

-- where control leaves a row of nodes: at its end, by a Break, by a Next
pub record Ways : Type 0 where
  pub on : AllPaths
  pub broken : AllPaths
  pub next : AllPaths

-- the three states together
abbrev pub ways : AllPaths → AllPaths → AllPaths → Ways
ways on broken next = record { on = on; broken = broken; next = next }

-- on at the end, and nowhere else
abbrev pub at : AllPaths → Ways
at t = ways t unreached unreached

-- of two branches
abbrev pub either : Ways → Ways → Ways
either o o' = ways (join o.on o'.on) (join o.broken o'.broken) (join o.next o'.next)

-- a node, and what is behind it
abbrev pub in_turn : Ways → Ways → Ways
in_turn o o' = ways o'.on (join o.broken o'.broken) (join o.next o'.next)

-- the end of a body, or of a step: by itself or by a Next
abbrev pub end_state : Ways → AllPaths
end_state o = join o.on o.next

-- a loop's round: o its body, o' its step
abbrev pub turned : Ways → Ways → Ways
turned o o' = ways (end_state o') (join o.broken o'.broken) unreached

-- one round of a loop: its body, and then its step from wherever the body leaves to it
unfoldable pub round_of : (AllPaths → Ways) → (AllPaths → Ways) → AllPaths → Ways
round_of body latch t = turned (body t) (latch (end_state (body t)))

-- the start of each round
unfoldable pub head_of : (AllPaths → Ways) → (AllPaths → Ways) → AllPaths → AllPaths
head_of body latch t = join t (round_of body latch t).on

unfoldable mutual
  pub flow : Mark → Nodes → AllPaths → Ways
  flow m no_nodes t = at t
  flow m (more_nodes n rest) t = in_turn (flow_node m n t) (flow m rest (flow_node m n t).on)

  pub flow_node : Mark → Node → AllPaths → Ways
  flow_node m (plain place a) t = at (after (m a) t)
  flow_node m (if_ place temp one other) t = either (flow m one t) (flow m other t)
  flow_node m (loop place body latch) t = at (round_of (flow m body) (flow m latch) (head_of (flow m body) (flow m latch) t)).broken
  flow_node m (break_ place) t = ways unreached t unreached
  flow_node m (next_ place) t = ways unreached unreached t
  flow_node m (ret place temp) t = at unreached

-- Q holds of each act, with the state of its point
abbrev mutual
  pub Each : (Act → AllPaths → Type 0) → Mark → Nodes → AllPaths → Type 0
  Each Q m no_nodes t = Unit {0}
  Each Q m (more_nodes n rest) t = EachIn Q m n t × Each Q m rest (flow_node m n t).on

  pub EachIn : (Act → AllPaths → Type 0) → Mark → Node → AllPaths → Type 0
  EachIn Q m (plain place a) t = Q a t
  EachIn Q m (if_ place temp one other) t = Each Q m one t × Each Q m other t
  EachIn Q m (loop place body latch) t =
      Each Q m body (head_of (flow m body) (flow m latch) t) × Each Q m latch (end_state (flow m body (head_of (flow m body) (flow m latch) t)))
  EachIn Q m (break_ place) t = Unit {0}
  EachIn Q m (next_ place) t = Unit {0}
  EachIn Q m (ret place temp) t = Unit {0}

-- R holds of each act of the code at its position; k: what is behind the row
abbrev mutual
  pub EveryAct : (Act → Position → Type 0) → Nodes → Position → Type 0
  EveryAct R no_nodes k = Unit {0}
  EveryAct R (more_nodes n rest) k = EveryActIn R n rest k × EveryAct R rest k

  pub EveryActIn : (Act → Position → Type 0) → Node → Nodes → Position → Type 0
  EveryActIn R (plain place a) rest k = R a (then_ (more_nodes (plain place a) rest) k)
  EveryActIn R (if_ place temp one other) rest k = EveryAct R one (then_ rest k) × EveryAct R other (then_ rest k)
  EveryActIn R (loop place body latch) rest k = EveryAct R body (in_body body latch (then_ rest k)) × EveryAct R latch (in_latch body latch (then_ rest k))
  EveryActIn R (break_ place) rest k = Unit {0}
  EveryActIn R (next_ place) rest k = Unit {0}
  EveryActIn R (ret place temp) rest k = Unit {0}
