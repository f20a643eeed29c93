-- The list of a call isn't in a code file: it is that of the safepoint directly before the call, as in each code that was placed.
use Rattle.std.specs.Prelude.{ℕ, List, [], Option, None, Some, map}
use Rattle.struct_ir.specs.Nodes.{Act, set, call, step, look, safepoint, begin_object, end_object, Node, plain, if_, loop, break_, next_, ret, Nodes, no_nodes, more_nodes, Func, Ir}
use Rattle.struct_ir.specs.Valid.{list_at}

-- the slots of the safepoint directly before, or none where there is no such safepoint
abbrev pub slots_in : Option (List ℕ) → List ℕ
slots_in None = []
slots_in (Some slots) = slots

-- the act; a call with this list in place of its own
abbrev pub act_with : List ℕ → Act → Act
act_with slots (set to calc) = set to calc
act_with slots (call c) = call (record { to = c.to; function = c.function; temps = c.temps; slots = slots })
act_with slots (step s) = step s
act_with slots (look slot base) = look slot base
act_with slots (safepoint list) = safepoint list
act_with slots (begin_object i) = begin_object i
act_with slots (end_object i) = end_object i

-- ---- each call with the list of the safepoint before it

abbrev mutual
  -- before: the list of a safepoint directly before the node
  pub node_filled : (before : Option (List ℕ)) → Node → Node
  node_filled before (plain place a) = plain place (act_with (slots_in before) a)
  node_filled before (if_ place temp one other) = if_ place temp (filled None one) (filled None other)
  node_filled before (loop place body latch) = loop place (filled None body) (filled None latch)
  node_filled before (break_ place) = break_ place
  node_filled before (next_ place) = next_ place
  node_filled before (ret place temp) = ret place temp

  -- before: the list of a safepoint directly before the row
  pub filled : (before : Option (List ℕ)) → Nodes → Nodes
  filled before no_nodes = no_nodes
  filled before (more_nodes n rest) = more_nodes (node_filled before n) (filled (list_at n) rest)

-- so in a function
abbrev pub func_filled : Func → Func
func_filled f = record { params = f.params; temps = f.temps; slots = f.slots; objects = f.objects; nodes = filled None f.nodes }

-- and in a program
abbrev pub ir_filled : Ir → Ir
ir_filled p = record { globals = p.globals; literals = p.literals; funcs = map func_filled p.funcs; main = p.main }

-- ---- each call without its list

abbrev mutual
  pub node_bare : Node → Node
  node_bare (plain place a) = plain place (act_with [] a)
  node_bare (if_ place temp one other) = if_ place temp (bare one) (bare other)
  node_bare (loop place body latch) = loop place (bare body) (bare latch)
  node_bare (break_ place) = break_ place
  node_bare (next_ place) = next_ place
  node_bare (ret place temp) = ret place temp

  pub bare : Nodes → Nodes
  bare no_nodes = no_nodes
  bare (more_nodes n rest) = more_nodes (node_bare n) (bare rest)

-- so in a function
abbrev pub func_bare : Func → Func
func_bare f = record { params = f.params; temps = f.temps; slots = f.slots; objects = f.objects; nodes = bare f.nodes }

-- and in a program
abbrev pub ir_bare : Ir → Ir
ir_bare p = record { globals = p.globals; literals = p.literals; funcs = map func_bare p.funcs; main = p.main }
