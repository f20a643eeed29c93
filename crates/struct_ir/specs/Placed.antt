-- Where safepoints stand in a whole program, and that none stands elsewhere.
use Rattle.std.specs.Prelude.{Bool, true, false, ◌&&◌, ◌||◌, None}
use Rattle.std.specs.List.{list_all}
use Rattle.struct_ir.specs.Nodes.{Act, set, call, step, look, safepoint, begin_object, end_object, act_is_call, Node, plain, if_, loop, break_, next_, ret, Nodes, no_nodes, more_nodes, Ir}
use Rattle.struct_ir.specs.Valid.{are_placed}

-- in each function each call stands directly behind a safepoint, whose list it carries, and directly before another, and each loop's
-- latch ends in a safepoint
abbrev pub all_placed : Ir → Bool
all_placed p = list_all (λ f. are_placed None f.nodes) p.funcs

-- ---- no others

-- the node is a call
abbrev pub node_is_call : Node → Bool
node_is_call (plain place a) = act_is_call a
node_is_call (if_ place temp one other) = false
node_is_call (loop place body latch) = false
node_is_call (break_ place) = false
node_is_call (next_ place) = false
node_is_call (ret place temp) = false

-- the row begins with a call
abbrev pub begins_with_call : Nodes → Bool
begins_with_call no_nodes = false
begins_with_call (more_nodes n rest) = node_is_call n

-- there is no node
abbrev pub is_end : Nodes → Bool
is_end no_nodes = true
is_end (more_nodes n rest) = false

-- a safepoint stands directly before a call, directly behind one, or last in a loop's latch; behind: a call stands directly before the
-- act; closing: the row is a loop's latch; rest: what is behind the act in the row
abbrev pub act_is_due : (behind closing : Bool) → Act → (rest : Nodes) → Bool
act_is_due behind closing (set to calc) rest = true
act_is_due behind closing (call c) rest = true
act_is_due behind closing (step s) rest = true
act_is_due behind closing (look slot base) rest = true
act_is_due behind closing (safepoint slots) rest = begins_with_call rest || (behind || (closing && is_end rest))
act_is_due behind closing (begin_object i) rest = true
act_is_due behind closing (end_object i) rest = true

abbrev mutual
  -- so does each safepoint in the node
  pub node_is_due : (behind closing : Bool) → Node → (rest : Nodes) → Bool
  node_is_due behind closing (plain place a) rest = act_is_due behind closing a rest
  node_is_due behind closing (if_ place temp one other) rest = are_due false false one && are_due false false other
  node_is_due behind closing (loop place body latch) rest = are_due false false body && are_due false true latch
  node_is_due behind closing (break_ place) rest = true
  node_is_due behind closing (next_ place) rest = true
  node_is_due behind closing (ret place temp) rest = true

  -- and in the row
  pub are_due : (behind closing : Bool) → Nodes → Bool
  are_due behind closing no_nodes = true
  are_due behind closing (more_nodes n rest) = node_is_due behind closing n rest && are_due (node_is_call n) closing rest

-- in each function
abbrev pub all_due : Ir → Bool
all_due p = list_all (λ f. are_due false false f.nodes) p.funcs
