-- What contracts see of clocks, and of what was seen at a cell.
use Rattle.std.specs.Prelude.{ℕ, Bool, max, min, ◌==◌, ◌&&◌, nat_le, nat_lt, List, [], Option, Some, None, slice_index, Vec}
use Rattle.std.specs.Global.{Global}
use Rattle.smallvec.specs.SmallVec.{SmallVec}
use Rattle.race_rules.specs.declared.touch.Seen.{Seen}
use Rattle.race_rules.specs.declared.touch.Touch.{Touch}
use Rattle.race_rules.specs.declared.touch.TouchKind.{TouchKind}
use Rattle.race_rules.specs.Kinds.{clash}
use Rattle.race_rules.specs.Turns.{Turn}
use Rattle.race_rules.specs.Clocks.{Clock}

-- a turn as calls are told it
abbrev pub this_turn : (thread : ℕ) → List Touch → Turn
this_turn thread touches = record { thread = thread; touches = touches }

-- whether two touches clash
abbrev pub clash_test : Touch → Touch → Bool
clash_test a b = (clash a.kind b.kind && (a.block == b.block)) && nat_lt (max a.from b.from) (min a.to b.to)

-- the clock that a list of numbers is
abbrev pub told_by : List ℕ → Clock
told_by all t = slice_index all t

-- it clashes with a touch of this kind, and the clock doesn't know it
abbrev pub clashes : Clock → TouchKind → Seen → Bool
clashes v kind s = clash s.kind kind && nat_le (v s.thread) s.turn

-- the numbers of a row, none where there is no row
abbrev pub row_of : Option (Vec ℕ Global) → List ℕ
row_of None = []
row_of (Some v) = v.items

-- what is kept of a cell, nothing where there is no such cell
abbrev pub cell_of : Option (SmallVec Seen) → List Seen
cell_of None = []
cell_of (Some v) = v.items
