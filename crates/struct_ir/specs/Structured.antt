-- Where a call stands in structured code.
use Rattle.std.specs.Prelude.{ℕ, ◌+◌, List, Option, Some, None, Bool, true, false, slice_get}
use Rattle.struct_ir.specs.Nodes.{Node, plain, if_, loop, break_, next_, ret, Nodes, no_nodes, more_nodes, Func}
use Rattle.struct_ir.specs.Flow.{Here, does, tests, passes, round, returns, Flow}

-- what is still to do: nodes and then the rest; a loop whose body, or whose latch, is under way, and then the rest
pub data Position : Type 0 where
  done : Position
  then_ : (nodes : Nodes) (k : Position) → Position
  in_body : (body latch : Nodes) (k : Position) → Position
  in_latch : (body latch : Nodes) (k : Position) → Position

-- behind the loop around
abbrev pub out_of : Position → Position
out_of done = done
out_of (then_ nodes k) = out_of k
out_of (in_body body latch k) = k
out_of (in_latch body latch k) = k

-- at the end of the body around, or of the latch around
abbrev pub end_of : Position → Position
end_of done = done
end_of (then_ nodes k) = end_of k
end_of (in_body body latch k) = in_body body latch k
end_of (in_latch body latch k) = in_latch body latch k

-- what a node is for control
abbrev pub kind : Node → Here
kind (plain place a) = does place a
kind (if_ place temp one other) = tests place temp
kind (loop place body latch) = passes
kind (break_ place) = passes
kind (next_ place) = passes
kind (ret place temp) = returns temp

-- where a node leads; k: behind the node
abbrev pub leads : Node → (k : Position) → Bool → Position
leads (plain place a) k c = k
leads (if_ place temp one other) k true = then_ one k
leads (if_ place temp one other) k false = then_ other k
leads (loop place body latch) k c = then_ body (in_body body latch k)
leads (break_ place) k c = out_of k
leads (next_ place) k c = end_of k
leads (ret place temp) k c = done

-- what stands at a position
abbrev pub here : Position → Here
here done = returns None
here (then_ no_nodes k) = passes
here (then_ (more_nodes n rest) k) = kind n
here (in_body body latch k) = passes
here (in_latch body latch k) = round

-- where control goes on from a position
abbrev pub next : Position → Bool → Position
next done c = done
next (then_ no_nodes k) c = k
next (then_ (more_nodes n rest) k) c = leads n (then_ rest k) c
next (in_body body latch k) c = then_ latch (in_latch body latch k)
next (in_latch body latch k) c = then_ body (in_body body latch k)

-- ---- sizes: only to see that turns end

-- how many nodes there are, and what stands between them
abbrev mutual
  pub node_size : Node → ℕ
  node_size (plain place a) = 1
  node_size (if_ place temp one other) = row_size one + row_size other + 1
  node_size (loop place body latch) = row_size body + row_size latch + 4
  node_size (break_ place) = 1
  node_size (next_ place) = 1
  node_size (ret place temp) = 1

  pub row_size : Nodes → ℕ
  row_size no_nodes = 0
  row_size (more_nodes n rest) = node_size n + row_size rest + 1

-- what is left to do up to the end of a round
abbrev pub size : Position → ℕ
size done = 0
size (then_ nodes k) = row_size nodes + size k + 1
size (in_body body latch k) = row_size latch + size k + 3
size (in_latch body latch k) = size k + 1

-- structured code, as control goes through it
abbrev pub structured : Flow Position
structured = record { here = here; next = next; size = size }

-- the nodes of a function, if there is one
abbrev pub nodes_of : Option Func → Nodes
nodes_of (Some f) = f.nodes
nodes_of None = no_nodes

-- where the function of this number begins
abbrev pub start_of : List Func → ℕ → Position
start_of funcs f = then_ (nodes_of (slice_get funcs f)) done
