-- Looks go before the outermost loop that doesn't assign their register, and none stands where a slot is available.
use Rattle.std.specs.Prelude.{◌≡◌, ◌==◌, not, ℕ, List, [], ◌∷◌, map, Option, Some, None, Bool, true, false, ◌||◌, ◌&&◌}
use Rattle.struct_ir.specs.Nodes.{Act, set, call, step, look, safepoint, begin_object, end_object, Node, plain, if_, loop, break_, next_, ret, Nodes, no_nodes, more_nodes, Func, Ir, node_place}
use Rattle.struct_ir.specs.Structured.{done, then_, structured}
use Rattle.struct_ir.specs.Erased.{put, erased}
use Rattle.pin_flow.specs.Marks.{AllPaths, unreached, good, bad, end_state, head_of, flow, flow_node}
use Rattle.pin_flow.specs.Looks.{act_looks, act_assigns, some_act, Covered, Hoisted}
use Rattle.pin_flow.specs.Held.{held, HoistedThroughout}
use Rattle.pin_flow.specs.Slots.{slot_if, bases_of, IsOwn, IsIn, AreApart}

-- ---- first: a Look before each loop that has one and doesn't assign its register

-- the node is such a loop
abbrev pub wants : (b : ℕ) → Node → Bool
wants b (plain place a) = false
wants b (if_ place temp one other) = false
wants b (loop place body latch) = (some_act (act_looks b) body || some_act (act_looks b) latch) && not (some_act (act_assigns b) body || some_act (act_assigns b) latch)
wants b (break_ place) = false
wants b (next_ place) = false
wants b (ret place temp) = false

abbrev mutual
  pub lifted : (slot b : ℕ) → Nodes → Nodes
  lifted slot b no_nodes = no_nodes
  lifted slot b (more_nodes n rest) = put (wants b n) (plain (node_place n) (look slot b)) (more_nodes (lifted_in slot b n) (lifted slot b rest))

  pub lifted_in : (slot b : ℕ) → Node → Node
  lifted_in slot b (plain place a) = plain place a
  lifted_in slot b (if_ place temp one other) = if_ place temp (lifted slot b one) (lifted slot b other)
  lifted_in slot b (loop place body latch) = loop place (lifted slot b body) (lifted slot b latch)
  lifted_in slot b (break_ place) = break_ place
  lifted_in slot b (next_ place) = next_ place
  lifted_in slot b (ret place temp) = ret place temp

-- ---- then: no Look where its register is held, or where no path comes

-- some path says no
abbrev pub is_bad : AllPaths → Bool
is_bad unreached = false
is_bad good = false
is_bad bad = true

-- the node stays: it is no Look of b, or it is needed
abbrev pub needs : (b : ℕ) → Node → AllPaths → Bool
needs b (plain place a) t = not (act_looks b a) || is_bad t
needs b (if_ place temp one other) t = true
needs b (loop place body latch) t = true
needs b (break_ place) t = true
needs b (next_ place) t = true
needs b (ret place temp) t = true

abbrev mutual
  pub dropped : (b : ℕ) → Nodes → AllPaths → Nodes
  dropped b no_nodes t = no_nodes
  dropped b (more_nodes n rest) t = put (needs b n t) (dropped_in b n t) (dropped b rest (flow_node (held b) n t).on)

  pub dropped_in : (b : ℕ) → Node → AllPaths → Node
  dropped_in b (plain place a) t = plain place a
  dropped_in b (if_ place temp one other) t = if_ place temp (dropped b one t) (dropped b other t)
  dropped_in b (loop place body latch) t =
      let h = head_of (flow (held b) body) (flow (held b) latch) t in
      loop place (dropped b body h) (dropped b latch (end_state (flow (held b) body h)))
  dropped_in b (break_ place) t = break_ place
  dropped_in b (next_ place) t = next_ place
  dropped_in b (ret place temp) t = ret place temp

-- ---- both, for one register after the other

-- for one register: each Look before its loops, and then without those for which a slot is available
abbrev pub hoisted_one : (slot b : ℕ) → Nodes → Nodes
hoisted_one slot b ns = dropped b (lifted slot b ns) bad

-- for each register of the list
abbrev pub hoisted : (slot_of : ℕ → ℕ) → List ℕ → Nodes → Nodes
hoisted slot_of [] ns = ns
hoisted slot_of (b ∷ bs) ns = hoisted slot_of bs (hoisted_one (slot_of b) b ns)

-- for a register that has this slot, if it has one
abbrev pub hoisted_for : (slot : Option ℕ) → (b : ℕ) → Nodes → Nodes
hoisted_for None b ns = ns
hoisted_for (Some slot) b ns = hoisted_one slot b ns

-- for each of these
abbrev pub hoisted_each : (ℕ → Option ℕ) → List ℕ → Nodes → Nodes
hoisted_each s [] ns = ns
hoisted_each s (b ∷ bs) ns = hoisted_each s bs (hoisted_for (s b) b ns)

-- a function with its Looks hoisted
abbrev pub func_hoisted : Func → Func
func_hoisted f = record { params = f.params; temps = f.temps; slots = f.slots; objects = f.objects; nodes = hoisted_each (slot_if (bases_of f)) (bases_of f) f.nodes }

-- a program with its Looks hoisted
abbrev pub ir_hoisted : Ir → Ir
ir_hoisted x = record { globals = x.globals; literals = x.literals; funcs = map func_hoisted x.funcs; main = x.main }

-- ---- the same for all registers at once

-- one of these
abbrev pub is_in : List ℕ → (b : ℕ) → Bool
is_in [] b = false
is_in (c ∷ cs) b = (b == c) || is_in cs b

-- before the node a Look of each of these registers that wants one there
abbrev pub looks_for : (slot_of : ℕ → ℕ) → List ℕ → Node → Nodes → Nodes
looks_for slot_of [] n rest = rest
looks_for slot_of (b ∷ bs) n rest = put (wants b n) (plain (node_place n) (look (slot_of b) b)) (looks_for slot_of bs n rest)

abbrev mutual
  pub lifted_all : (slot_of : ℕ → ℕ) → List ℕ → Nodes → Nodes
  lifted_all slot_of bs no_nodes = no_nodes
  lifted_all slot_of bs (more_nodes n rest) = looks_for slot_of bs n (more_nodes (lifted_all_in slot_of bs n) (lifted_all slot_of bs rest))

  pub lifted_all_in : (slot_of : ℕ → ℕ) → List ℕ → Node → Node
  lifted_all_in slot_of bs (plain place a) = plain place a
  lifted_all_in slot_of bs (if_ place temp one other) = if_ place temp (lifted_all slot_of bs one) (lifted_all slot_of bs other)
  lifted_all_in slot_of bs (loop place body latch) = loop place (lifted_all slot_of bs body) (lifted_all slot_of bs latch)
  lifted_all_in slot_of bs (break_ place) = break_ place
  lifted_all_in slot_of bs (next_ place) = next_ place
  lifted_all_in slot_of bs (ret place temp) = ret place temp

-- the act stays: it is no Look of such a register, or some path comes that doesn't hold it
abbrev pub stays : (those : ℕ → Bool) → Act → (ℕ → AllPaths) → Bool
stays those (set to calc) t = true
stays those (call c) t = true
stays those (step x) t = true
stays those (look slot b) t = not (those b) || is_bad (t b)
stays those (safepoint slots) t = true
stays those (begin_object i) t = true
stays those (end_object i) t = true

-- so does the node, if it is an act
abbrev pub node_stays : (those : ℕ → Bool) → Node → (ℕ → AllPaths) → Bool
node_stays those (plain place a) t = stays those a t
node_stays those (if_ place temp one other) t = true
node_stays those (loop place body latch) t = true
node_stays those (break_ place) t = true
node_stays those (next_ place) t = true
node_stays those (ret place temp) t = true

-- what stays of a row, where these are the states of registers before it
abbrev mutual
  pub dropped_all : (those : ℕ → Bool) → Nodes → (ℕ → AllPaths) → Nodes
  dropped_all those no_nodes t = no_nodes
  dropped_all those (more_nodes n rest) t = put (node_stays those n t) (dropped_all_in those n t) (dropped_all those rest (λ b. (flow_node (held b) n (t b)).on))

  pub dropped_all_in : (those : ℕ → Bool) → Node → (ℕ → AllPaths) → Node
  dropped_all_in those (plain place a) t = plain place a
  dropped_all_in those (if_ place temp one other) t = if_ place temp (dropped_all those one t) (dropped_all those other t)
  dropped_all_in those (loop place body latch) t =
      let h : ℕ → AllPaths = λ b. head_of (flow (held b) body) (flow (held b) latch) (t b) in
      loop place (dropped_all those body h) (dropped_all those latch (λ b. end_state (flow (held b) body (h b))))
  dropped_all_in those (break_ place) t = break_ place
  dropped_all_in those (next_ place) t = next_ place
  dropped_all_in those (ret place temp) t = ret place temp

-- it is none of these
abbrev pub IsNotIn : List ℕ → (b : ℕ) → Type 0
IsNotIn [] b = Unit {0}
IsNotIn (c ∷ bs) b = (b ≡ c → ⊥) × IsNotIn bs b

-- no register is there twice
abbrev pub AreDistinct : List ℕ → Type 0
AreDistinct [] = Unit {0}
AreDistinct (b ∷ bs) = IsNotIn bs b × AreDistinct bs

-- one walk that lifts for all of them and one that drops make what one register's turn after the other makes
abbrev pub AllAtOnce : Type 0
AllAtOnce = (slot_of : ℕ → ℕ) (bs : List ℕ) → AreDistinct bs → (ns : Nodes) → hoisted slot_of bs ns ≡ dropped_all (is_in bs) (lifted_all slot_of bs ns) (λ b. bad)

-- ---- what hoisting keeps and gives, for code with one slot for each register

-- erased it is the same, each register keeps its own slot, no Look is of another register, and the code is covered and hoisted
pub record HoistIsRight (slot_of : ℕ → ℕ) (bs : List ℕ) (ns out : Nodes) : Type 0 where
  pub erased : erased out ≡ erased ns
  pub own : IsOwn slot_of out
  pub looks : (b : ℕ) → some_act (act_looks b) out ≡ true → IsIn bs b
  pub covered : Covered structured (then_ ns done) → Covered structured (then_ out done)
  pub hoisted : Hoisted out
  pub throughout : HoistedThroughout out

-- ... whose Looks are of these registers
abbrev pub HoistingIsRight : Type 0
HoistingIsRight = (slot_of : ℕ → ℕ) → AreApart slot_of → (bs : List ℕ) (ns : Nodes) → IsOwn slot_of ns
    → ((b : ℕ) → some_act (act_looks b) ns ≡ true → IsIn bs b) → HoistIsRight slot_of bs ns (hoisted slot_of bs ns)
