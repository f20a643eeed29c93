-- What sets tell of registers, each by its own bit.
use Rattle.std.specs.Prelude.{◌≡◌, ◌<◌, ◌^◌, ◌||◌, ℕ, suc, length, List, [], ◌∷◌, Option, Some, None, Bool, true, false, is_some}
use Rattle.struct_ir.specs.Nodes.{Node, plain, if_, loop, break_, next_, ret, look, Nodes}
use Rattle.struct_ir.specs.Erased.{put}
use Rattle.pin_flow.specs.declared.mark.Mark.TheVariants as kinds
use Rattle.pin_flow.specs.Marks.{AllPaths, unreached, Ways, ways, in_turn, flow_node}
use Rattle.pin_flow.specs.Held.{held}
use Rattle.pin_flow.specs.Slots.{slot_if}
use Rattle.mark_sets.specs.declared.marks.Marks.{Marks}
use Rattle.mark_sets.specs.Sets.{Sets, state_at, AllWays}
use Rattle.mark_sets.specs.Words.{has}
use Rattle.mark_sets.specs.Views.{bit_of, HaveOwnBits}
use Rattle.hoist_pass.specs.inner.Hoist.{AreDistinct}

-- the bit of a register, if it has one
abbrev pub bit : Marks → (b : ℕ) → Option ℕ
bit x b = bit_of x (kinds.Held b)

-- the register has a bit
abbrev pub has_bit : Marks → (b : ℕ) → Bool
has_bit x b = is_some (bit x b)

-- the state of the mark of this bit; without a bit, that no path comes
abbrev pub state_by : Option ℕ → Sets ℕ → AllPaths
state_by None t = unreached
state_by (Some i) t = state_at i t

-- the state of each register
abbrev pub states : Marks → Sets ℕ → (b : ℕ) → AllPaths
states x t b = state_by (bit x b) t

-- where control leaves a row, for the mark of this bit
abbrev pub ways_by : Option ℕ → AllWays ℕ → Ways
ways_by o w = ways (state_by o w.on) (state_by o w.broken) (state_by o w.next)

-- for each register control that leaves a row so goes on through the node
abbrev pub GoesThrough : Marks → AllWays ℕ → Node → AllWays ℕ → Type 0
GoesThrough x a n o = (b : ℕ) → ways_by (bit x b) o ≡ in_turn (ways_by (bit x b) a) (flow_node (held b) n (states x a.on b))

-- of each register with a bit the set tells whether this is so
abbrev pub Tells : Marks → List ℕ → (ℕ → Bool) → Type 0
Tells x set f = (b i : ℕ) → bit x b ≡ Some i → has set i ≡ f b

-- ... or was told before
abbrev pub TellsMore : Marks → (old new : List ℕ) → (ℕ → Bool) → Type 0
TellsMore x old new f = (b i : ℕ) → bit x b ≡ Some i → has new i ≡ (has old i || f b)

-- the bits are the places of these registers, none of which is there twice
pub record HaveBits (x : Marks) (bases : List ℕ) : Type 0 where
  pub own : HaveOwnBits x
  pub bits : (b : ℕ) → bit x b ≡ slot_if bases b
  pub distinct : AreDistinct bases
  pub few : length bases < 2 ^ 32

-- before a row a Look of each of these registers whose number, counted from this one, is wanted
abbrev pub looks_from : (wanted : ℕ → Bool) → (place i : ℕ) → List ℕ → Nodes → Nodes
looks_from wanted place i [] rest = rest
looks_from wanted place i (b ∷ bs) rest = put (wanted i) (plain place (look i b)) (looks_from wanted place (suc i) bs rest)

-- the node holds no others
abbrev pub is_leaf : Node → Bool
is_leaf (plain place a) = true
is_leaf (if_ place temp one other) = false
is_leaf (loop place body latch) = false
is_leaf (break_ place) = true
is_leaf (next_ place) = true
is_leaf (ret place temp) = true
