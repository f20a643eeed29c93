-- How many Looks and steps code has, structured and linear.
use Rattle.std.specs.Prelude.{ℕ, ◌+◌, Bool, true, false, if◌then◌else◌, List, count_by, sum_by}
use Rattle.struct_ir.specs.Nodes.{Act, set, call, step, look, safepoint, begin_object, end_object, Node, plain, if_, loop, break_, next_, ret, Nodes, no_nodes, more_nodes, Func}
use Rattle.struct_ir.specs.Instrs.{Instr, acts, unless, jump, round_to, leave, LinearFunc}

-- an act that a thread doesn't do alone, but by a turn of its own
abbrev pub is_look_or_step : Act → Bool
is_look_or_step (set to calc) = false
is_look_or_step (call c) = false
is_look_or_step (step s) = true
is_look_or_step (look slot base) = true
is_look_or_step (safepoint slots) = false
is_look_or_step (begin_object i) = false
is_look_or_step (end_object i) = false

-- ---- structured code

-- in a node, with those inside it
abbrev mutual
  pub node_looks : Node → ℕ
  node_looks (plain place a) = if is_look_or_step a then 1 else 0
  node_looks (if_ place temp one other) = row_looks one + row_looks other
  node_looks (loop place body latch) = row_looks body + row_looks latch
  node_looks (break_ place) = 0
  node_looks (next_ place) = 0
  node_looks (ret place temp) = 0

  pub row_looks : Nodes → ℕ
  row_looks no_nodes = 0
  row_looks (more_nodes n rest) = node_looks n + row_looks rest

-- in all functions
abbrev pub looks_of_nodes : List Func → ℕ
looks_of_nodes funcs = sum_by (λ f. row_looks f.nodes) funcs

-- ---- linear code

-- an instruction that is such an act
abbrev pub looks_or_steps : Instr → Bool
looks_or_steps (acts place a) = is_look_or_step a
looks_or_steps (unless place temp to) = false
looks_or_steps (jump place to) = false
looks_or_steps (round_to place to) = false
looks_or_steps (leave place temp) = false

-- in a function
abbrev pub looks_in : List Instr → ℕ
looks_in code = count_by looks_or_steps code

-- in all functions
abbrev pub look_count : List LinearFunc → ℕ
look_count funcs = sum_by (λ f. looks_in f.instrs) funcs
