-- What holds of each act with its state, at its position.
use Rattle.struct_ir.specs.Nodes.{Act, Node, plain, if_, loop, break_, next_, ret, Nodes, no_nodes, more_nodes}
use Rattle.struct_ir.specs.Structured.{Position, then_, in_body, in_latch}
use Rattle.pin_flow.specs.Marks.{Mark, AllPaths, head_of, end_state, flow, flow_node}

-- E holds of each act with its state at its position
abbrev mutual
  pub EachAt : (Act → AllPaths → Position → Type 0) → Mark → Nodes → Position → AllPaths → Type 0
  EachAt E m no_nodes k t = Unit {0}
  EachAt E m (more_nodes n rest) k t = EachAtIn E m n rest k t × EachAt E m rest k (flow_node m n t).on

  pub EachAtIn : (Act → AllPaths → Position → Type 0) → Mark → Node → Nodes → Position → AllPaths → Type 0
  EachAtIn E m (plain p a) rest k t = E a t (then_ (more_nodes (plain p a) rest) k)
  EachAtIn E m (if_ p x one other) rest k t = EachAt E m one (then_ rest k) t × EachAt E m other (then_ rest k) t
  EachAtIn E m (loop p body latch) rest k t =
      EachAt E m body (in_body body latch (then_ rest k)) (head_of (flow m body) (flow m latch) t)
      × EachAt E m latch (in_latch body latch (then_ rest k)) (end_state (flow m body (head_of (flow m body) (flow m latch) t)))
  EachAtIn E m (break_ p) rest k t = Unit {0}
  EachAtIn E m (next_ p) rest k t = Unit {0}
  EachAtIn E m (ret p x) rest k t = Unit {0}
