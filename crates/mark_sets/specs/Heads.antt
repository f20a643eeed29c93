-- What is used later at the start of each round, of loop after loop, in the order in which a walk from behind comes to them.
use Rattle.std.specs.Prelude.{◌≡◌, ◌<◌, ◌+◌, ℕ, zero, suc, length, List, [], ◌∷◌, Some, Bool, false, if◌then◌else◌}
use Rattle.struct_ir.specs.Nodes.{Node, plain, if_, loop, break_, next_, ret, Nodes, no_nodes, more_nodes}
use Rattle.pin_flow.specs.Live.{Live, lives, head_live}
use Rattle.pin_flow.specs.Slots.{slot_if}
use Rattle.mark_sets.specs.declared.heads.Later.{Later}
use Rattle.mark_sets.specs.Added.{loops, loops_in}
use Rattle.mark_sets.specs.Words.{has}

-- ---- by what is used behind the loop around

-- whether the slot is used later; all: every slot is used behind the loop around, and else none
abbrev pub later_in : Later → (all : Bool) → (i : ℕ) → Bool
later_in l all i = if all then has l.all.items i else has l.none.items i

-- of each of the registers it says whether its slot is used later
abbrev pub TellsBy : List ℕ → Later → (ℕ → ℕ → Bool → Bool) → Type 0
TellsBy bs l used = (b i : ℕ) (all : Bool) → slot_if bs b ≡ Some i → later_in l all i ≡ used i b all

-- what these three say of a slot
abbrev pub lives_by : (on out end : Later) → (i : ℕ) → (all : Bool) → Live
lives_by on out end i all = lives (later_in on all i) (later_in out all i) (later_in end all i)

-- ---- heads of loops

-- what the head of this number says
abbrev pub head_at : List Later → ℕ → (all : Bool) → (i : ℕ) → Bool
head_at [] at all i = false
head_at (l ∷ rest) zero all i = later_in l all i
head_at (l ∷ rest) (suc at) all i = head_at rest at all i

-- this is what is used at the start of each round
abbrev pub IsHead : List ℕ → (Bool → ℕ → Bool) → (body latch : Nodes) → Type 0
IsHead bs says body latch = (b i : ℕ) (on : Bool) → slot_if bs b ≡ Some i → says on i ≡ head_live i b body latch on

-- from this number on the heads are those of the row's loops, from behind
abbrev mutual
  pub AreHeads : List ℕ → List Later → ℕ → Nodes → Type 0
  AreHeads bs heads at no_nodes = Unit {0}
  AreHeads bs heads at (more_nodes n rest) = AreHeads bs heads at rest × AreHeadsIn bs heads (at + loops rest) n

  pub AreHeadsIn : List ℕ → List Later → ℕ → Node → Type 0
  AreHeadsIn bs heads at (plain place a) = Unit {0}
  AreHeadsIn bs heads at (if_ place temp one other) = AreHeads bs heads at one × AreHeads bs heads (at + loops one) other
  AreHeadsIn bs heads at (loop place body latch) =
      IsHead bs (head_at heads at) body latch × AreHeads bs heads (suc at) latch × AreHeads bs heads (suc at + loops latch) body
  AreHeadsIn bs heads at (break_ place) = Unit {0}
  AreHeadsIn bs heads at (next_ place) = Unit {0}
  AreHeadsIn bs heads at (ret place temp) = Unit {0}

-- the same of a loop, by its body and its step
abbrev pub AreHeadsWithin : List ℕ → List Later → ℕ → (body latch : Nodes) → Type 0
AreHeadsWithin bs heads at body latch = IsHead bs (head_at heads at) body latch × AreHeads bs heads (suc at) latch × AreHeads bs heads (suc at + loops latch) body

-- behind those that were there, which stay, are now those of the row's loops
pub record HasHeads (bs : List ℕ) (old new : List Later) (ns : Nodes) : Type 0 where
  pub long : length new ≡ length old + loops ns
  pub before : (at : ℕ) (on : Bool) (i : ℕ) → at < length old → head_at new at on i ≡ head_at old at on i
  pub heads : AreHeads bs new (length old) ns

-- the same of a node's loops
pub record HasHeadsIn (bs : List ℕ) (old new : List Later) (n : Node) : Type 0 where
  pub long : length new ≡ length old + loops_in n
  pub before : (at : ℕ) (on : Bool) (i : ℕ) → at < length old → head_at new at on i ≡ head_at old at on i
  pub heads : AreHeadsIn bs new (length old) n

-- the same of the loops in a loop, those of its step first
pub record HasHeadsWithin (bs : List ℕ) (old new : List Later) (body latch : Nodes) : Type 0 where
  pub long : length new ≡ length old + loops latch + loops body
  pub before : (at : ℕ) (on : Bool) (i : ℕ) → at < length old → head_at new at on i ≡ head_at old at on i
  pub in_latch : AreHeads bs new (length old) latch
  pub in_body : AreHeads bs new (length old + loops latch) body
