-- Which parts of code have a spelling, where their numbers are those of four bytes and lists are not too long.
use Rattle.std.specs.Prelude.{ℕ, zero, suc, Bool, true, false, not, ◌&&◌, ◌||◌, nat_lt, Option, Some, None, is_some}
use Rattle.std.specs.List.{list_all}
use Rattle.struct_ir.specs.Nodes.{Action, print, Place, Step, Act, set, call, step, look, safepoint, begin_object, end_object, Node, plain, if_, loop, break_, next_, ret, Nodes, no_nodes, more_nodes, Func}
use Rattle.struct_ir.specs.Valid.{is_piece}

-- no number, or one that isn't that of none
abbrev pub option_fits : Option ℕ → Bool
option_fits None = true
option_fits (Some n) = nat_lt n 4294967295

-- a place that has its slot
abbrev pub place_fits : Place → Bool
place_fits p = option_fits p.index && is_some p.slot

-- pieces whose numbers have 32 or 64 bits
abbrev pub action_fits : Action → Bool
action_fits (print pieces) = list_all is_piece pieces
action_fits a = true

-- an action, its places and its result
abbrev pub step_fits : Step → Bool
step_fits s = action_fits s.action && (list_all place_fits s.places && option_fits s.to)

-- the parts of an act
abbrev pub act_fits : Act → Bool
act_fits (set to calc) = true
act_fits (call c) = option_fits c.to
act_fits (step s) = step_fits s
act_fits (look slot base) = true
act_fits (safepoint slots) = true
act_fits (begin_object i) = true
act_fits (end_object i) = true

abbrev mutual
  -- a node, within which rows are nested at most so deep
  pub node_fits : (levels : ℕ) → Node → Bool
  node_fits levels (plain place a) = act_fits a
  node_fits levels (if_ place temp one other) = fits levels one && fits levels other
  node_fits levels (loop place body latch) = fits levels body && fits levels latch
  node_fits levels (break_ place) = true
  node_fits levels (next_ place) = true
  node_fits levels (ret place temp) = option_fits temp

  -- a row of nodes that is nested at most so deep
  pub fits : (levels : ℕ) → Nodes → Bool
  fits levels no_nodes = true
  fits zero (more_nodes n rest) = false
  fits (suc levels) (more_nodes n rest) = node_fits levels n && fits (suc levels) rest

-- a function, if it has so many registers as four bytes can say
abbrev pub func_fits : (levels : ℕ) → Func → Bool
func_fits levels f = not (nat_lt f.temps 4294967296) || fits levels f.nodes
