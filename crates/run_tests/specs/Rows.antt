-- Small codes that are written by hand, and what is said of them.
use Rattle.std.specs.Prelude.{◌≡◌, ℕ, Bool, true, false, List, [], ◌∷◌, Option, Some, None}
use Rattle.ak_words.specs.declared.operation.Op.TheVariants.{Add}
use Rattle.ak_words.specs.IntType.{char, int}
use Rattle.block_store.specs.declared.values.Access.TheVariants.{Number}
use Rattle.struct_ir.specs.Nodes.{Act, null, copy, apply, load, set, call, step, look, safepoint, begin_object, Node, plain, if_, loop, break_, next_, ret, Nodes, no_nodes, more_nodes, Func, Ir}
use Rattle.struct_ir.specs.Erased.{erased}
use Rattle.struct_ir.specs.Placed.{all_placed}
use Rattle.struct_ir.specs.Valid.{is_valid}
use Rattle.pin_flow.specs.Held.{held}
use Rattle.pin_flow.specs.Marks.{AllPaths, unreached, good, bad, flow}
use Rattle.pin_flow.specs.Slots.{bases_of, slot_if}

-- a row of these nodes
abbrev pub row : List Node → Nodes
row [] = no_nodes
row (n ∷ rest) = more_nodes n (row rest)

-- acts, at place 0
abbrev pub does : Act → Node
does a = plain 0 a

-- a call of the function without an argument, with these registers all the same
abbrev pub calls : (temps slots : List ℕ) → Node
calls temps slots = does (call (record { to = None; function = 0; temps = temps; slots = slots }))

-- a read through a slot, or through none, by a step with this list
abbrev pub reads : (slot : Option ℕ) (slots : List ℕ) → Node
reads slot slots =
    does (step (record { action = load (Number int); places = record { base = 1; index = Some 2; scale = 4; offset = 8; slot = slot } ∷ []; to = Some 3; temps = []; slots = slots }))

-- a loop of a body of one node, and of a step of one
abbrev pub rounds : (body latch : Node) → Node
rounds body latch = loop 0 (row (body ∷ [])) (row (latch ∷ []))

-- a function without parameters, with four registers and two slots, of these nodes
abbrev pub func : List Node → Func
func nodes = record { params = 0; temps = 4; slots = 2; objects = []; nodes = row nodes }

-- the program of it alone
abbrev pub program : List Node → Ir
program nodes = record { globals = []; literals = []; funcs = func nodes ∷ []; main = 0 }

-- whether the node alone is valid
abbrev pub is_fine : Node → Bool
is_fine n = is_valid (program (n ∷ []))

-- what the paths to the end of the nodes say of a register: whether a slot has its word
abbrev pub held_behind : (b : ℕ) → List Node → AllPaths
held_behind b nodes = (flow (held b) (row nodes) bad).on

-- a Look of register 1, and a loop that may be left before each step
abbrev pub looked_then_loop : Node → List Node
looked_then_loop latch = does (look 0 1) ∷ rounds (if_ 0 0 (row (break_ 0 ∷ [])) no_nodes) latch ∷ []

-- which slot a register of two reads has
abbrev pub slot_of : (b : ℕ) → Option ℕ
slot_of b = slot_if (bases_of (func (does (set 3 null) ∷ reads None [] ∷ reads None [] ∷ []))) b

-- a Look, a loop that reads and whose step ends in a safepoint, and a return
abbrev pub looking : List Node
looking = does (look 0 1) ∷ rounds (reads (Some 0) []) (does (safepoint (0 ∷ []))) ∷ ret 0 (Some 3) ∷ []

-- the same, without what moves need
abbrev pub bare : List Node
bare = loop 0 (row (reads None [] ∷ [])) no_nodes ∷ ret 0 (Some 3) ∷ []

-- a call with a list, between these nodes
abbrev pub around_call : (before behind : List Node) → Bool
around_call (n ∷ before) behind = all_placed (program (n ∷ calls [] (0 ∷ []) ∷ behind))
around_call [] behind = all_placed (program (calls [] (0 ∷ []) ∷ behind))

-- which nodes are valid, where safepoints stand as they should, what is bare, what paths say of a register, and which registers have slots
pub record RowsHold : Type 0 where
  -- numbers in range
  pub set_in_range : is_fine (does (set 3 (copy 0))) ≡ true
  pub set_past : is_fine (does (set 4 (copy 0))) ≡ false
  pub copy_past : is_fine (does (set 0 (copy 4))) ≡ false
  pub look_past : is_fine (does (look 2 0)) ≡ false
  pub object_past : is_fine (does (begin_object 0)) ≡ false
  -- operations are on promoted numbers
  pub sum_of_chars : is_fine (does (set 0 (apply Add char 0 1))) ≡ false
  pub sum_of_ints : is_fine (does (set 0 (apply Add int 0 1))) ≡ true
  -- a Break stands in a loop, and a Next in its body
  pub break_outside : is_fine (break_ 0) ≡ false
  pub break_inside : is_fine (rounds (break_ 0) (break_ 0)) ≡ true
  pub next_in_body : is_fine (rounds (next_ 0) (ret 0 None)) ≡ true
  pub next_in_step : is_fine (rounds (break_ 0) (next_ 0)) ≡ false
  -- a call has as many arguments as its function has parameters
  pub call_of_none : is_fine (calls [] []) ≡ true
  pub call_of_more : is_fine (calls (0 ∷ []) []) ≡ false
  -- a step that doesn't wait has no list, and a list names each slot once
  pub read_by_slot : is_fine (reads (Some 0) []) ≡ true
  pub read_with_list : is_fine (reads (Some 0) (0 ∷ [])) ≡ false
  pub list_of_two : is_fine (does (safepoint (0 ∷ 1 ∷ []))) ≡ true
  pub list_of_one_twice : is_fine (does (safepoint (1 ∷ 1 ∷ []))) ≡ false
  -- a call stands between safepoints, of which the one before has its list, and a loop's step ends in one
  pub placed : around_call (does (safepoint (0 ∷ [])) ∷ []) (does (safepoint (1 ∷ [])) ∷ []) ≡ true
  pub none_before : around_call [] (does (safepoint (0 ∷ [])) ∷ []) ≡ false
  pub none_behind : around_call (does (safepoint (0 ∷ [])) ∷ []) [] ≡ false
  pub another_list : around_call (does (safepoint (1 ∷ [])) ∷ []) (does (safepoint (0 ∷ [])) ∷ []) ≡ false
  pub none_in_step : all_placed (program (rounds (does (set 1 null)) (does (set 2 null)) ∷ [])) ≡ false
  -- what is left without Looks, safepoints, slots and lists
  pub without_looks : erased (row looking) ≡ row bare
  -- a register is held behind a loop that doesn't assign it
  pub held_at_end : held_behind 1 (looked_then_loop (does (set 2 null))) ≡ good
  pub another : held_behind 2 (looked_then_loop (does (set 2 null))) ≡ bad
  pub assigned : held_behind 1 (looked_then_loop (does (set 1 null))) ≡ bad
  pub ended : held_behind 1 (ret 0 None ∷ does (look 0 1) ∷ []) ≡ unreached
  -- a base of an access has a slot, and nothing else has
  pub a_base : slot_of 1 ≡ Some 0
  pub no_base : slot_of 2 ≡ None
