-- A Look before each access, and the slot of its base in each place.
use Rattle.std.specs.Prelude.{ℕ, List, [], ◌∷◌, map, length, Option, Some, None}
use Rattle.struct_ir.specs.Nodes.{Place, Step, Act, set, call, step, look, safepoint, begin_object, end_object, Node, plain, if_, loop, break_, next_, ret, Nodes, no_nodes, more_nodes, places_of, Func, Ir, node_place}
use Rattle.pin_flow.specs.Slots.{slot_if, bases_of}

-- the place through the slot of its base
abbrev pub place_through : (ℕ → Option ℕ) → Place → Place
place_through slot_of a = record { base = a.base; index = a.index; scale = a.scale; offset = a.offset; slot = slot_of a.base }

-- the step with its places through their slots
abbrev pub step_through : (ℕ → Option ℕ) → Step → Step
step_through slot_of s = record { action = s.action; places = map (place_through slot_of) s.places; to = s.to; temps = s.temps; slots = s.slots }

-- the act with its places through their slots
abbrev pub act_through : (ℕ → Option ℕ) → Act → Act
act_through slot_of (set to calc) = set to calc
act_through slot_of (call c) = call c
act_through slot_of (step x) = step (step_through slot_of x)
act_through slot_of (look slot base) = look slot base
act_through slot_of (safepoint slots) = safepoint slots
act_through slot_of (begin_object i) = begin_object i
act_through slot_of (end_object i) = end_object i

-- a Look of a register that has a slot, at this place in the text, and then the rest
abbrev pub with_look : Option ℕ → (place base : ℕ) → Nodes → Nodes
with_look None place base rest = rest
with_look (Some slot) place base rest = more_nodes (plain place (look slot base)) rest

-- a Look of each base, and then the rest
abbrev pub with_looks : (ℕ → Option ℕ) → (place : ℕ) → List Place → Nodes → Nodes
with_looks slot_of place [] rest = rest
with_looks slot_of place (a ∷ others) rest = with_look (slot_of a.base) place a.base (with_looks slot_of place others rest)

-- the accesses that a node makes itself
abbrev pub places_in : Node → List Place
places_in (plain place a) = places_of a
places_in (if_ place temp one other) = []
places_in (loop place body latch) = []
places_in (break_ place) = []
places_in (next_ place) = []
places_in (ret place temp) = []

-- the code with its Looks and slots
abbrev mutual
  pub inserted : (ℕ → Option ℕ) → Nodes → Nodes
  inserted slot_of no_nodes = no_nodes
  inserted slot_of (more_nodes n rest) = with_looks slot_of (node_place n) (places_in n) (more_nodes (inserted_in slot_of n) (inserted slot_of rest))

  pub inserted_in : (ℕ → Option ℕ) → Node → Node
  inserted_in slot_of (plain place a) = plain place (act_through slot_of a)
  inserted_in slot_of (if_ place temp one other) = if_ place temp (inserted slot_of one) (inserted slot_of other)
  inserted_in slot_of (loop place body latch) = loop place (inserted slot_of body) (inserted slot_of latch)
  inserted_in slot_of (break_ place) = break_ place
  inserted_in slot_of (next_ place) = next_ place
  inserted_in slot_of (ret place temp) = ret place temp

-- a node behind its Looks, and then the rest
abbrev pub with_node : (ℕ → Option ℕ) → Node → Nodes → Nodes
with_node slot_of n rest = with_looks slot_of (node_place n) (places_in n) (more_nodes (inserted_in slot_of n) rest)

-- a function with its Looks and slots
abbrev pub func_inserted : Func → Func
func_inserted f = record { params = f.params; temps = f.temps; slots = length (bases_of f); objects = f.objects; nodes = inserted (slot_if (bases_of f)) f.nodes }

-- a program with its Looks and slots
abbrev pub ir_inserted : Ir → Ir
ir_inserted x = record { globals = x.globals; literals = x.literals; funcs = map func_inserted x.funcs; main = x.main }
