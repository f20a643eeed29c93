-- Safepoints, and the lists of slots.
use Rattle.std.specs.Prelude.{◌≡◌, not, ℕ, List, [], ◌∷◌, ◌++◌, map, Option, Some, None, Bool, true, false, ◌||◌, ◌&&◌, if◌then◌else◌}
use Rattle.struct_ir.specs.Nodes.{Step, Act, set, call, step, look, safepoint, begin_object, end_object, may_wait, Node, plain, if_, loop, break_, next_, ret, Nodes, no_nodes, more_nodes, Func, Ir}
use Rattle.struct_ir.specs.Structured.{done, then_, structured}
use Rattle.struct_ir.specs.Pins.{PinSafe}
use Rattle.struct_ir.specs.Erased.{erased}
use Rattle.struct_ir.specs.Valid.{are_placed}
use Rattle.pin_flow.specs.Marks.{AllPaths, unreached, good, bad, end_state, head_of, flow, flow_node}
use Rattle.pin_flow.specs.Looks.{some_act, Covered, PinsExact}
use Rattle.pin_flow.specs.Held.{held}
use Rattle.pin_flow.specs.Points.{PinsExactAtPoints}
use Rattle.pin_flow.specs.Slots.{bases_of, slot_in, slot_if, IsOwn, IsIn, AreApart}
use Rattle.pin_flow.specs.Views.{act_is, looks_slot}
use Rattle.pin_flow.specs.Live.{uses, Live, lives, live_act, live, body_lives, latch_lives}

-- ---- first: safepoints before and after each call, and at the end of each step

-- a safepoint with an empty list, at this place in the text
abbrev pub stop : (place : ℕ) → Node
stop place = plain place (safepoint [])

-- an act, a call between safepoints, and then the rest; a safepoint that stood there is left out
abbrev pub act_seats : (place : ℕ) → Act → (rest : Nodes) → Nodes
act_seats place (set to calc) rest = more_nodes (plain place (set to calc)) rest
act_seats place (call c) rest = more_nodes (stop place) (more_nodes (plain place (call c)) (more_nodes (stop place) rest))
act_seats place (step x) rest = more_nodes (plain place (step x)) rest
act_seats place (look slot base) rest = more_nodes (plain place (look slot base)) rest
act_seats place (safepoint slots) rest = rest
act_seats place (begin_object i) rest = more_nodes (plain place (begin_object i)) rest
act_seats place (end_object i) rest = more_nodes (plain place (end_object i)) rest

-- the node, and then the rest
abbrev pub seats : Node → (rest : Nodes) → Nodes
seats (plain place a) rest = act_seats place a rest
seats (if_ place temp one other) rest = more_nodes (if_ place temp one other) rest
seats (loop place body latch) rest = more_nodes (loop place body latch) rest
seats (break_ place) rest = more_nodes (break_ place) rest
seats (next_ place) rest = more_nodes (next_ place) rest
seats (ret place temp) rest = more_nodes (ret place temp) rest

-- the row with its safepoints, and then the rest
abbrev mutual
  pub seated : Nodes → (rest : Nodes) → Nodes
  seated no_nodes tail = tail
  seated (more_nodes n rest) tail = seats (seated_in n) (seated rest tail)

  pub seated_in : Node → Node
  seated_in (plain place a) = plain place a
  seated_in (if_ place temp one other) = if_ place temp (seated one no_nodes) (seated other no_nodes)
  seated_in (loop place body latch) = loop place (seated body no_nodes) (seated latch (more_nodes (stop place) no_nodes))
  seated_in (break_ place) = break_ place
  seated_in (next_ place) = next_ place
  seated_in (ret place temp) = ret place temp

-- ---- then: the lists, by what is held and what is used later

-- the step with this list, where it may wait
abbrev pub step_listing : Step → List ℕ → Step
step_listing x list = record { action = x.action; places = x.places; to = x.to; temps = x.temps; slots = if may_wait x.action then list else [] }

-- the act with this list, where it has one
abbrev pub act_listing : Act → List ℕ → Act
act_listing (set to calc) list = set to calc
act_listing (call c) list = call (record { to = c.to; function = c.function; temps = c.temps; slots = list })
act_listing (step x) list = step (step_listing x list)
act_listing (look slot base) list = look slot base
act_listing (safepoint old) list = safepoint list
act_listing (begin_object i) list = begin_object i
act_listing (end_object i) list = end_object i

-- some path says no
abbrev pub is_bad : AllPaths → Bool
is_bad unreached = false
is_bad good = false
is_bad bad = true

-- in the state, and with its accesses used later or not, the slot of b is listed
abbrev pub wanted : (ℕ → ℕ) → (b : ℕ) → Act → AllPaths → Bool → Bool
wanted slot_of b a t later = (not (is_bad t) && later) || uses (slot_of b) b a

-- the slots that the list has, of all registers
abbrev pub list_for : (ℕ → ℕ) → List ℕ → Act → (ℕ → AllPaths) → (ℕ → Bool) → List ℕ
list_for slot_of [] a ts later = []
list_for slot_of (b ∷ bs) a ts later =
    if wanted slot_of b a (ts b) (later b) then slot_of b ∷ list_for slot_of bs a ts later else list_for slot_of bs a ts later

-- what the registers' states and lives are in a loop's body, and in its step
abbrev pub heads : Nodes → Nodes → (ℕ → AllPaths) → ℕ → AllPaths
heads body latch ts b = head_of (flow (held b) body) (flow (held b) latch) (ts b)

-- the states at the start of a loop's step
abbrev pub turns : Nodes → Nodes → (ℕ → AllPaths) → ℕ → AllPaths
turns body latch ts b = end_state (flow (held b) body (heads body latch ts b))

-- the states behind a node
abbrev pub on_states : Node → (ℕ → AllPaths) → ℕ → AllPaths
on_states n ts b = (flow_node (held b) n (ts b)).on

-- what comes later at the start of the rest of a row
abbrev pub rest_lives : (ℕ → ℕ) → Nodes → (ℕ → Live) → ℕ → Live
rest_lives slot_of rest ls b = lives (live (slot_of b) b rest (ls b)) (ls b).out (ls b).end

abbrev mutual
  pub listed : (ℕ → ℕ) → List ℕ → Nodes → (ℕ → AllPaths) → (ℕ → Live) → Nodes
  listed slot_of bs no_nodes ts ls = no_nodes
  listed slot_of bs (more_nodes n rest) ts ls = more_nodes (listed_in slot_of bs n ts (rest_lives slot_of rest ls)) (listed slot_of bs rest (on_states n ts) ls)

  pub listed_in : (ℕ → ℕ) → List ℕ → Node → (ℕ → AllPaths) → (ℕ → Live) → Node
  listed_in slot_of bs (plain place a) ts ls = plain place (act_listing a (list_for slot_of bs a ts (λ b. live_act (slot_of b) b a (ls b).on)))
  listed_in slot_of bs (if_ place temp one other) ts ls = if_ place temp (listed slot_of bs one ts ls) (listed slot_of bs other ts ls)
  listed_in slot_of bs (loop place body latch) ts ls =
      loop place (listed slot_of bs body (heads body latch ts) (λ b. body_lives (slot_of b) b body latch (ls b).on))
      (listed slot_of bs latch (turns body latch ts) (λ b. latch_lives (slot_of b) b body latch (ls b).on))
  listed_in slot_of bs (break_ place) ts ls = break_ place
  listed_in slot_of bs (next_ place) ts ls = next_ place
  listed_in slot_of bs (ret place temp) ts ls = ret place temp

-- at the start no register is held, and at the end no slot is used
abbrev pub none_held : ℕ → AllPaths
none_held b = bad

-- nothing comes behind a function's end
abbrev pub none_later : ℕ → Live
none_later b = lives false false false

-- with safepoints and their lists
abbrev pub placed : (ℕ → ℕ) → List ℕ → Nodes → Nodes
placed slot_of bs ns = listed slot_of bs (seated ns no_nodes) none_held none_later

-- ---- what placing gives, for code with one slot for each register, whose accesses are of these registers

-- erased it is the same, safepoints stand where they have to, lists are exact, and covered code is safe for moves
pub record PlaceIsRight (slot_of : ℕ → ℕ) (bs : List ℕ) (ns : Nodes) : Type 0 where
  pub erased : erased (placed slot_of bs ns) ≡ erased ns
  pub stand : are_placed None (placed slot_of bs ns) ≡ true
  pub exact : PinsExact (placed slot_of bs ns)
  pub exact_at_points : PinsExactAtPoints (placed slot_of bs ns)
  pub safe : Covered structured (then_ ns done) → PinSafe structured (then_ (placed slot_of bs ns) done)

-- where each register has a slot of its own and the list has each register that is a base
abbrev pub PlacingIsRight : Type 0
PlacingIsRight = (slot_of : ℕ → ℕ) → AreApart slot_of → (bs : List ℕ) (ns : Nodes) → IsOwn slot_of ns
    → ((b : ℕ) → some_act (uses (slot_of b) b) ns ≡ true → IsIn bs b) → PlaceIsRight slot_of bs ns

-- ---- the same, for one register after the other, as the program does it

-- the code with empty lists
abbrev mutual
  pub cleared : Nodes → Nodes
  cleared no_nodes = no_nodes
  cleared (more_nodes n rest) = more_nodes (cleared_in n) (cleared rest)

  pub cleared_in : Node → Node
  cleared_in (plain place a) = plain place (act_listing a [])
  cleared_in (if_ place temp one other) = if_ place temp (cleared one) (cleared other)
  cleared_in (loop place body latch) = loop place (cleared body) (cleared latch)
  cleared_in (break_ place) = break_ place
  cleared_in (next_ place) = next_ place
  cleared_in (ret place temp) = ret place temp

-- the list with one slot more, or as it is
abbrev pub added : (slot : ℕ) → Bool → List ℕ → List ℕ
added slot y list = if y then list ++ (slot ∷ []) else list

-- the act with the slot in its list too
abbrev pub act_adding : (slot : ℕ) → Bool → Act → Act
act_adding slot y (set to calc) = set to calc
act_adding slot y (call c) = call (record { to = c.to; function = c.function; temps = c.temps; slots = added slot y c.slots })
act_adding slot y (step x) = step (record { action = x.action; places = x.places; to = x.to; temps = x.temps; slots = added slot (y && may_wait x.action) x.slots })
act_adding slot y (look s base) = look s base
act_adding slot y (safepoint slots) = safepoint (added slot y slots)
act_adding slot y (begin_object i) = begin_object i
act_adding slot y (end_object i) = end_object i

-- it has a list
abbrev pub has_list : Act → Bool
has_list (set to calc) = false
has_list (call c) = true
has_list (step x) = may_wait x.action
has_list (look slot base) = false
has_list (safepoint slots) = true
has_list (begin_object i) = false
has_list (end_object i) = false

-- the slot of b is listed there
abbrev pub wants : (slot b : ℕ) → Act → AllPaths → Bool → Bool
wants slot b a t later = (not (is_bad t) && live_act slot b a later) || uses slot b a

-- at a node that is an act
abbrev pub node_wants : (slot b : ℕ) → Node → AllPaths → Bool → Bool
node_wants slot b n t later = (not (is_bad t) && (act_is (uses slot b) n || (not (looks_slot slot n) && later))) || act_is (uses slot b) n

-- with the slot in the node's own list too, if it has one
abbrev pub listed_own : (slot : ℕ) → Bool → Node → Node
listed_own slot y (plain place a) = plain place (act_adding slot y a)
listed_own slot y (if_ place temp one other) = if_ place temp one other
listed_own slot y (loop place body latch) = loop place body latch
listed_own slot y (break_ place) = break_ place
listed_own slot y (next_ place) = next_ place
listed_own slot y (ret place temp) = ret place temp

abbrev mutual
  pub listed_one : (slot b : ℕ) → Nodes → AllPaths → Live → Nodes
  listed_one slot b no_nodes t l = no_nodes
  listed_one slot b (more_nodes n rest) t l = more_nodes (listed_one_in slot b n t (lives (live slot b rest l) l.out l.end)) (listed_one slot b rest (flow_node (held b) n t).on l)

  pub listed_one_in : (slot b : ℕ) → Node → AllPaths → Live → Node
  listed_one_in slot b (plain place a) t l = plain place (act_adding slot (wants slot b a t l.on) a)
  listed_one_in slot b (if_ place temp one other) t l = if_ place temp (listed_one slot b one t l) (listed_one slot b other t l)
  listed_one_in slot b (loop place body latch) t l =
      let h = head_of (flow (held b) body) (flow (held b) latch) t in
      loop place (listed_one slot b body h (body_lives slot b body latch l.on)) (listed_one slot b latch (end_state (flow (held b) body h)) (latch_lives slot b body latch l.on))
  listed_one_in slot b (break_ place) t l = break_ place
  listed_one_in slot b (next_ place) t l = next_ place
  listed_one_in slot b (ret place temp) t l = ret place temp

-- the last of these
abbrev pub last_in : List Bool → Bool
last_in [] = false
last_in (x ∷ []) = x
last_in (x ∷ y ∷ rest) = last_in (y ∷ rest)

-- whether an access comes later behind each node of the row, the last node first, and at the row's start
abbrev pub behind : (slot b : ℕ) → Nodes → Live → List Bool
behind slot b no_nodes l = l.on ∷ []
behind slot b (more_nodes n rest) l = behind slot b rest l ++ (live slot b (more_nodes n rest) l ∷ [])

-- for a register that has this slot, if it has one
abbrev pub listed_for : (slot : Option ℕ) → (b : ℕ) → Nodes → Nodes
listed_for None b ns = ns
listed_for (Some slot) b ns = listed_one slot b ns bad (lives false false false)

-- for each of these
abbrev pub listed_each : (ℕ → Option ℕ) → List ℕ → Nodes → Nodes
listed_each s [] ns = ns
listed_each s (b ∷ bs) ns = listed_each s bs (listed_for (s b) b ns)

-- a function with its safepoints and lists
abbrev pub func_placed : Func → Func
func_placed f = record { params = f.params; temps = f.temps; slots = f.slots; objects = f.objects; nodes = listed_each (slot_if (bases_of f)) (bases_of f) (seated (cleared f.nodes) no_nodes) }

-- a program with its safepoints and lists
abbrev pub ir_placed : Ir → Ir
ir_placed x = record { globals = x.globals; literals = x.literals; funcs = map func_placed x.funcs; main = x.main }

-- placing one register after the other, in code with empty lists, places them all
abbrev pub EachIsPlaced : Type 0
EachIsPlaced = (bs : List ℕ) (ns : Nodes) → listed_each (slot_if bs) bs (seated (cleared ns) no_nodes) ≡ placed (slot_in bs) bs (cleared ns)
