-- What the code's sets are, and which bit of a set is whose.
use Rattle.std.specs.Prelude.{◌≡◌, ◌<◌, ℕ, Option, Some, None, get_or, Bool, true, false, not, cond}
use Rattle.struct_ir.specs.Nodes.{Nodes}
use Rattle.pin_flow.specs.declared.mark.Mark.{Mark as CodeMark}
use Rattle.pin_flow.specs.declared.mark.Mark.TheVariants as kinds
use Rattle.pin_flow.specs.Marks.{Mark, AllPaths, Ways, unreached, good, bad, state_of, in_turn, flow}
use Rattle.pin_flow.specs.Views.{mark_view}
use Rattle.mark_sets.specs.declared.marks.Marks.{Marks}
use Rattle.mark_sets.specs.declared.sets.Sets.{Sets as CodeSets}
use Rattle.mark_sets.specs.declared.sets.Sets.TheVariants as sets
use Rattle.mark_sets.specs.declared.sets.SetWays.{SetWays}
use Rattle.mark_sets.specs.declared.pairs.Pair.{Pair}
use Rattle.mark_sets.specs.declared.pairs.Pairs.{Pairs as CodePairs}
use Rattle.mark_sets.specs.declared.pairs.Pairs.TheVariants as pairs
use Rattle.mark_sets.specs.declared.pairs.PairWays.{PairWays}
use Rattle.mark_sets.specs.Sets.{Sets, nowhere, bads, state_at, AllWays, all_ways, ways_at, Both}
use Rattle.mark_sets.specs.Words.{has}

-- what all paths to a point say
abbrev pub sets_view : CodeSets → Sets ℕ
sets_view sets.Nowhere = nowhere
sets_view (sets.Bads words) = bads (has words.items)

-- where control leaves a row
abbrev pub ways_view : SetWays → AllWays ℕ
ways_view o = all_ways (sets_view o.on) (sets_view o.broken) (sets_view o.next)

-- those to which some path says no, of the paths that began with this answer
abbrev pub pair_has : Pair → Both ℕ → Bool
pair_has p i = cond i.1 (has p.yes.items i.0) (has p.no.items i.0)

-- what all paths to a point say, by what they began with
abbrev pub pairs_view : CodePairs → Sets (Both ℕ)
pairs_view pairs.Nowhere = nowhere
pairs_view (pairs.Bads p) = bads (pair_has p)

-- where control leaves a row, by what its paths began with
abbrev pub pair_ways_view : PairWays → AllWays (Both ℕ)
pair_ways_view o = all_ways (pairs_view o.on) (pairs_view o.broken) (pairs_view o.next)

-- ---- bits

-- the bit of a mark, if it has one
abbrev pub bit_of : Marks → CodeMark → Option ℕ
bit_of x (kinds.Held b) = get_or x.held.items b None
bit_of x (kinds.Filled slot) = None
bit_of x (kinds.FilledFor slot b) = None
bit_of x (kinds.Fresh slot b) = None
bit_of x (kinds.Pinned slot b) = None

-- no two marks have the same bit, and each bit is below the count
pub record OwnBits (x : Marks) : Type 0 where
  pub apart : (k l : CodeMark) (i : ℕ) → bit_of x k ≡ Some i → bit_of x l ≡ Some i → k ≡ l
  pub few : (k : CodeMark) (i : ℕ) → bit_of x k ≡ Some i → i < x.count

-- so it is with these
unfoldable pub HaveOwnBits : Marks → Type 0
HaveOwnBits x = OwnBits x

-- the first one, if there is one
abbrev pub first_of : Option ℕ → Option ℕ → Option ℕ
first_of None other = other
first_of (Some i) other = Some i

-- ---- states

-- some path says no
abbrev pub is_bad : AllPaths → Bool
is_bad unreached = false
is_bad good = false
is_bad bad = true

-- with a no of its own, if there is one, wherever a path comes
abbrev pub with_bad : Bool → AllPaths → AllPaths
with_bad x unreached = unreached
with_bad x good = state_of (not x)
with_bad x bad = bad

-- the one where each path says yes, the other where some path says no
abbrev pub led : AllPaths → AllPaths → AllPaths → AllPaths
led first second unreached = unreached
led first second good = first
led first second bad = second

-- what a row makes of a state, by what it makes of a yes and of a no
abbrev pub led_by : Sets (Both ℕ) → ℕ → AllPaths → AllPaths
led_by s i t = led (state_at (i, true) s) (state_at (i, false) s) t

-- ---- what the first walk finds

-- of each mark with a bit: control leaves so where the row begins so
abbrev pub FlowsFrom : Marks → Sets (Both ℕ) → Nodes → AllWays (Both ℕ) → Type 0
FlowsFrom x t ns o = (k : CodeMark) (i : ℕ) (v : Bool) → bit_of x k ≡ Some i → ways_at (i, v) o ≡ flow (mark_view k) ns (state_at (i, v) t)

-- ... and control that leaves a row so goes on as this says
abbrev pub GoesOn : Marks → AllWays (Both ℕ) → (Mark → AllPaths → Ways) → AllWays (Both ℕ) → Type 0
GoesOn x a f o = (k : CodeMark) (i : ℕ) (v : Bool) → bit_of x k ≡ Some i → ways_at (i, v) o ≡ in_turn (ways_at (i, v) a) (f (mark_view k) (state_at (i, v) a.on))
