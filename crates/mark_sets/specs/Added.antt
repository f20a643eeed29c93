-- What the rounds of loops add, loop after loop in the order in which they begin.
use Rattle.std.specs.Prelude.{◌≡◌, ◌<◌, ◌+◌, ℕ, zero, suc, length, List, [], ◌∷◌, Some, Bool}
use Rattle.std.specs.Global.{Vec}
use Rattle.struct_ir.specs.Nodes.{Node, plain, if_, loop, break_, next_, ret, Nodes, no_nodes, more_nodes}
use Rattle.pin_flow.specs.declared.mark.Mark.{Mark as CodeMark}
use Rattle.pin_flow.specs.Marks.{Mark, good, flow, round_of}
use Rattle.pin_flow.specs.Views.{mark_view}
use Rattle.mark_sets.specs.declared.marks.Marks.{Marks}
use Rattle.mark_sets.specs.Words.{has}
use Rattle.mark_sets.specs.Views.{bit_of, is_bad}

-- how many loops there are, those within loops too
abbrev mutual
  pub loops : Nodes → ℕ
  loops no_nodes = 0
  loops (more_nodes n rest) = loops_in n + loops rest

  pub loops_in : Node → ℕ
  loops_in (plain place a) = 0
  loops_in (if_ place temp one other) = loops one + loops other
  loops_in (loop place body latch) = suc (loops body + loops latch)
  loops_in (break_ place) = 0
  loops_in (next_ place) = 0
  loops_in (ret place temp) = 0

-- some path through one round says no, where each says yes before it
abbrev pub adds : Mark → (body latch : Nodes) → Bool
adds m body latch = is_bad (round_of (flow m body) (flow m latch) good).on

-- of each mark with a bit the set says whether a round adds it
abbrev pub IsAdded : Marks → List ℕ → (body latch : Nodes) → Type 0
IsAdded x words body latch = (k : CodeMark) (i : ℕ) → bit_of x k ≡ Some i → has words i ≡ adds (mark_view k) body latch

-- the set of this number, or none
abbrev pub set_at : List (Vec ℕ) → ℕ → List ℕ
set_at [] at = []
set_at (s ∷ rest) zero = s.items
set_at (s ∷ rest) (suc at) = set_at rest at

-- from this number on the sets are those of the row's loops
abbrev mutual
  pub AreAdded : Marks → List (Vec ℕ) → ℕ → Nodes → Type 0
  AreAdded x sets at no_nodes = Unit {0}
  AreAdded x sets at (more_nodes n rest) = AreAddedIn x sets at n × AreAdded x sets (at + loops_in n) rest

  pub AreAddedIn : Marks → List (Vec ℕ) → ℕ → Node → Type 0
  AreAddedIn x sets at (plain place a) = Unit {0}
  AreAddedIn x sets at (if_ place temp one other) = AreAdded x sets at one × AreAdded x sets (at + loops one) other
  AreAddedIn x sets at (loop place body latch) =
      IsAdded x (set_at sets at) body latch × AreAdded x sets (suc at) body × AreAdded x sets (suc at + loops body) latch
  AreAddedIn x sets at (break_ place) = Unit {0}
  AreAddedIn x sets at (next_ place) = Unit {0}
  AreAddedIn x sets at (ret place temp) = Unit {0}

-- behind those that were there, which stay, are now those of the row's loops
pub record Gathers (x : Marks) (old new : List (Vec ℕ)) (ns : Nodes) : Type 0 where
  pub long : length new ≡ length old + loops ns
  pub before : (at : ℕ) → at < length old → set_at new at ≡ set_at old at
  pub added : AreAdded x new (length old) ns

-- the same of a node's loops
pub record GathersIn (x : Marks) (old new : List (Vec ℕ)) (n : Node) : Type 0 where
  pub long : length new ≡ length old + loops_in n
  pub before : (at : ℕ) → at < length old → set_at new at ≡ set_at old at
  pub added : AreAddedIn x new (length old) n
