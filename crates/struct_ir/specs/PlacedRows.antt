-- Rows of nodes in which each safepoint is due, and rows with one that isn't.
use Rattle.std.specs.Prelude.{◌≡◌, List, [], ◌∷◌, None, Bool, true, false}
use Rattle.struct_ir.specs.Nodes.{call, safepoint, Node, plain, if_, loop, Nodes, no_nodes, more_nodes}
use Rattle.struct_ir.specs.Placed.{are_due}

-- these nodes
abbrev pub row : List Node → Nodes
row [] = no_nodes
row (n ∷ rest) = more_nodes n (row rest)

-- a safepoint
abbrev pub stop : Node
stop = plain 1 (safepoint [])

-- a call
abbrev pub a_call : Node
a_call = plain 2 (call (record { to = None; function = 0; temps = []; slots = [] }))

-- a loop with this body and this latch
abbrev pub a_loop : (body latch : List Node) → Node
a_loop body latch = loop 3 (row body) (row latch)

-- they are judged so
abbrev pub judged : List Node → Bool
judged nodes = are_due false false (row nodes)

-- the rows hold
pub record DueRowsHold : Type 0 where
  pub around_a_call : judged (stop ∷ a_call ∷ stop ∷ []) ≡ true
  pub one_between_calls : judged (stop ∷ a_call ∷ stop ∷ a_call ∷ stop ∷ []) ≡ true
  pub two_between_calls : judged (stop ∷ a_call ∷ stop ∷ stop ∷ a_call ∷ stop ∷ []) ≡ true
  pub three_between_calls : judged (stop ∷ a_call ∷ stop ∷ stop ∷ stop ∷ a_call ∷ stop ∷ []) ≡ false
  pub by_itself : judged (stop ∷ []) ≡ false
  pub behind_an_if : judged (if_ 4 0 (row (stop ∷ a_call ∷ [])) no_nodes ∷ stop ∷ []) ≡ false
  pub last_in_a_latch : judged (a_loop [] (stop ∷ []) ∷ []) ≡ true
  pub last_in_a_body : judged (a_loop (stop ∷ []) (stop ∷ []) ∷ []) ≡ false
  pub twice_in_a_latch : judged (a_loop [] (stop ∷ stop ∷ []) ∷ []) ≡ false
  pub behind_a_call_in_a_latch : judged (a_loop [] (stop ∷ a_call ∷ stop ∷ stop ∷ []) ∷ []) ≡ true
  pub last_in_a_branch_of_a_latch : judged (a_loop [] (if_ 4 0 (row (stop ∷ [])) no_nodes ∷ stop ∷ []) ∷ []) ≡ false
