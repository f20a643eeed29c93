-- When all pairs are clean, told by what is used later: each act keeps what comes later, and nothing comes before its Look.
use Rattle.std.specs.Prelude.{◌≡◌, ℕ, List, Option, Some, Bool, true, false, ◌||◌, ◌&&◌, not}
use Rattle.struct_ir.specs.Nodes.{Act, Node, plain, if_, loop, break_, next_, ret, Nodes, no_nodes, more_nodes, list_of}
use Rattle.struct_ir.specs.Pins.{lacks_if}
use Rattle.pin_flow.specs.Looks.{act_looks, act_assigns, looks_into}
use Rattle.pin_flow.specs.Live.{uses, Live, lives, live, body_lives, latch_lives}
use Rattle.pin_flow.specs.Slots.{slot_if}
use Rattle.mark_sets.specs.Words.{has}
use Rattle.mark_sets.specs.Homes.{lives_in}
use Rattle.pin_checker.specs.declared.fault.Fault.{Fault}
use Rattle.pin_checker.specs.declared.pair.Pair.{Pair}
use Rattle.pin_checker.specs.inner.Reports.{has_pair, report_pairs}

-- the act doesn't assign b, its list has the slot, and it looks into the slot for b alone
abbrev pub keeps : (slot b : ℕ) → Act → Bool
keeps slot b a = not (act_assigns b a) && (not (lacks_if slot (list_of a)) && (not (looks_into slot a) || act_looks b a))

-- an act behind which an access of the pair comes keeps it, and one with an access of it has the slot in its list
abbrev pub KeepsAct : (slot b : ℕ) → Act → (later : Bool) → Type 0
KeepsAct slot b a later = (later ≡ true → keeps slot b a ≡ true) × (uses slot b a ≡ true → lacks_if slot (list_of a) ≡ false)

-- the same of a node that is an act
abbrev pub NodeKeeps : (slot b : ℕ) → Node → (later : Bool) → Type 0
NodeKeeps slot b (plain place a) later = KeepsAct slot b a later
NodeKeeps slot b (if_ place temp one other) later = Unit {0}
NodeKeeps slot b (loop place body latch) later = Unit {0}
NodeKeeps slot b (break_ place) later = Unit {0}
NodeKeeps slot b (next_ place) later = Unit {0}
NodeKeeps slot b (ret place temp) later = Unit {0}

-- so does each act of the code
unfoldable mutual
  pub Kept : (slot b : ℕ) → Nodes → Live → Type 0
  Kept slot b no_nodes l = Unit {0}
  Kept slot b (more_nodes n rest) l = KeptIn slot b n (lives (live slot b rest l) l.out l.end) × Kept slot b rest l

  pub KeptIn : (slot b : ℕ) → Node → Live → Type 0
  KeptIn slot b (plain place a) l = KeepsAct slot b a l.on
  KeptIn slot b (if_ place temp one other) l = Kept slot b one l × Kept slot b other l
  KeptIn slot b (loop place body latch) l = Kept slot b body (body_lives slot b body latch l.on) × Kept slot b latch (latch_lives slot b body latch l.on)
  KeptIn slot b (break_ place) l = Unit {0}
  KeptIn slot b (next_ place) l = Unit {0}
  KeptIn slot b (ret place temp) l = Unit {0}

-- of each register and its slot, by what these sets say of the slot
abbrev pub AreKept : List ℕ → Nodes → (on out end : List ℕ) → Type 0
AreKept bs ns on out end = (b i : ℕ) → slot_if bs b ≡ Some i → Kept i b ns (lives_in on out end i)

-- the same of a node
abbrev pub AreKeptIn : List ℕ → Node → (on out end : List ℕ) → Type 0
AreKeptIn bs n on out end = (b i : ℕ) → slot_if bs b ≡ Some i → KeptIn i b n (lives_in on out end i)

-- within a loop, by what is used behind it
abbrev pub AreKeptLoop : List ℕ → (body latch : Nodes) → (on : List ℕ) → Type 0
AreKeptLoop bs body latch on = (b i : ℕ) → slot_if bs b ≡ Some i → Kept i b body (body_lives i b body latch (has on i)) × Kept i b latch (latch_lives i b body latch (has on i))

-- the pair's slot is its register's
abbrev pub HasHome : List ℕ → Pair → Type 0
HasHome bs q = slot_if bs q.base ≡ Some q.slot

-- of a function's code: nothing comes behind it, and nothing comes at its start
pub record IsKept (ns : Nodes) (q : Pair) : Type 0 where
  pub kept : Kept q.slot q.base ns (lives false false false)
  pub start : live q.slot q.base ns (lives false false false) ≡ false

-- where each pair is kept no search finds anything
abbrev pub KeptPairsAreClean : Type 0
KeptPairsAreClean = (ns : Nodes) (pairs : List Pair) (best : Option Fault) → ((q : Pair) → has_pair q pairs ≡ true → IsKept ns q) → report_pairs ns pairs best ≡ best
