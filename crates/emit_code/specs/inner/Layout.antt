-- The instructions of nodes, and where they stand.
use Rattle.std.specs.Prelude.{ℕ, ◌+◌, List, [], ◌∷◌, ◌++◌, map, None, if◌then◌else◌}
use Rattle.struct_ir.specs.Nodes.{Node, plain, if_, loop, break_, next_, ret, Nodes, no_nodes, more_nodes, Func, Ir}
use Rattle.struct_ir.specs.Instrs.{Instr, acts, unless, jump, round_to, leave, LinearFunc, LinearCode}
use Rattle.struct_ir.specs.Marks.{is_lifetime_mark}

-- how many instructions nodes take: two for an If, none for the beginning and the end of a stack object, and one for each other node
abbrev mutual
  pub node_long : Node → ℕ
  node_long (plain place a) = if is_lifetime_mark a then 0 else 1
  node_long (if_ place temp one other) = 1 + long one + 1 + long other
  node_long (loop place body latch) = long body + long latch + 1
  node_long (break_ place) = 1
  node_long (next_ place) = 1
  node_long (ret place temp) = 1

  pub long : Nodes → ℕ
  long no_nodes = 0
  long (more_nodes n rest) = node_long n + long rest

-- the instructions of nodes that stand from an index on, where Break goes on at out, and Next at next
abbrev mutual
  pub emit_node : (at out next : ℕ) → Node → List Instr
  emit_node at out next (plain place a) = if is_lifetime_mark a then [] else (acts place a ∷ [])
  emit_node at out next (if_ place temp one other) =
      let other_at = at + 1 + long one + 1 in
      unless place temp other_at ∷ (emit (at + 1) out next one ++ jump place (other_at + long other) ∷ emit other_at out next other)
  emit_node at out next (loop place body latch) =
      let latch_at = at + long body in
      let round_at = latch_at + long latch in
      emit at (round_at + 1) latch_at body ++ (emit latch_at (round_at + 1) round_at latch ++ round_to place at ∷ [])
  emit_node at out next (break_ place) = jump place out ∷ []
  emit_node at out next (next_ place) = jump place next ∷ []
  emit_node at out next (ret place temp) = leave place temp ∷ []

  pub emit : (at out next : ℕ) → Nodes → List Instr
  emit at out next no_nodes = []
  emit at out next (more_nodes n rest) = emit_node at out next n ++ emit (at + node_long n) out next rest

-- the instructions of a function: its nodes', and a return at the end
abbrev pub instrs_for : Nodes → List Instr
instrs_for nodes = emit 0 (long nodes) (long nodes) nodes ++ leave 0 None ∷ []

-- a function
abbrev pub func_linear : Func → LinearFunc
func_linear f = record { params = f.params; temps = f.temps; slots = f.slots; objects = f.objects; instrs = instrs_for f.nodes }

-- a program
abbrev pub linear_of : Ir → LinearCode
linear_of p = record { globals = p.globals; literals = p.literals; funcs = map func_linear p.funcs; main = p.main }
