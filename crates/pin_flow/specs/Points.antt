-- The points of code. A position is what is left to do there, and at two points that may be the same, as where two branches end alike. In code whose
-- nodes are numbered it never is, so there a position is a point.
use Rattle.std.specs.Prelude.{◌≤◌, ℕ, suc, ◌+◌, List, [], ◌∷◌, ◌++◌}
use Rattle.struct_ir.specs.Nodes.{Node, plain, if_, loop, break_, next_, ret, Nodes, no_nodes, more_nodes}
use Rattle.struct_ir.specs.Structured.{node_size, row_size}
use Rattle.pin_flow.specs.Looks.{Hoisted, PinsExact}

-- the code with a number for each node's place, from i on
abbrev mutual
  pub numbered : (i : ℕ) → Nodes → Nodes
  numbered i no_nodes = no_nodes
  numbered i (more_nodes n rest) = more_nodes (numbered_in i n) (numbered (i + node_size n) rest)

  pub numbered_in : (i : ℕ) → Node → Node
  numbered_in i (plain place a) = plain i a
  numbered_in i (if_ place temp one other) = if_ i temp (numbered (suc i) one) (numbered (suc i + row_size one) other)
  numbered_in i (loop place body latch) = loop i (numbered (suc i) body) (numbered (suc i + row_size body) latch)
  numbered_in i (break_ place) = break_ i
  numbered_in i (next_ place) = next_ i
  numbered_in i (ret place temp) = ret i temp

-- no Look in a loop is of a register that the loop doesn't assign, and none is of a register for which a slot is available at that point
abbrev pub HoistedAtPoints : Nodes → Type 0
HoistedAtPoints all = Hoisted (numbered 0 all)

-- each list has just the slots that are available at that point for some register that is used later through them, and those that its act
-- uses itself
abbrev pub PinsExactAtPoints : Nodes → Type 0
PinsExactAtPoints all = PinsExact (numbered 0 all)

-- ---- no two nodes have the same number

-- the nodes' places, in the order of the text
abbrev mutual
  pub places_in : Nodes → List ℕ
  places_in no_nodes = []
  places_in (more_nodes n rest) = node_places n ++ places_in rest

  pub node_places : Node → List ℕ
  node_places (plain place a) = place ∷ []
  node_places (if_ place temp one other) = place ∷ (places_in one ++ places_in other)
  node_places (loop place body latch) = place ∷ (places_in body ++ places_in latch)
  node_places (break_ place) = place ∷ []
  node_places (next_ place) = place ∷ []
  node_places (ret place temp) = place ∷ []

-- they rise, from i on, and are below j
abbrev pub RiseWithin : (i j : ℕ) → List ℕ → Type 0
RiseWithin i j [] = i ≤ j
RiseWithin i j (x ∷ rest) = (i ≤ x) × RiseWithin (suc x) j rest

-- so do those of numbered code
abbrev pub NumbersRise : Type 0
NumbersRise = (i : ℕ) (ns : Nodes) → RiseWithin i (i + row_size ns) (places_in (numbered i ns))
