-- What states by marks say of all paths.
use Rattle.std.specs.Prelude.{◌≡◌, ◌≢◌, ◌<◌, ℕ, true, List, length}
use Rattle.struct_ir.specs.Nodes.{Nodes}
use Rattle.struct_ir.specs.Structured.{done, then_, structured}
use Rattle.struct_ir.specs.Pins.{Available}
use Rattle.pin_flow.specs.Marks.{bad, Each, EveryAct}
use Rattle.pin_flow.specs.Looks.{act_looks, Uses, Covered}
use Rattle.pin_flow.specs.Held.{held, fresh, IsDue, HoistedThroughout}
use Rattle.pin_flow.specs.Points.{HoistedAtPoints}
use Rattle.struct_ir.specs.Erased.{erased}
use Rattle.pin_flow.specs.Slots.{IsOwn, bases_below, slot_in, IsIn, AreApart}

-- in covered code no access stands where its slot isn't fresh
abbrev pub CoveredIsFresh : Type 0
CoveredIsFresh = (ns : Nodes) → Covered structured (then_ ns done) → (slot b : ℕ) → Each (λ a t. Uses slot b a → t ≢ bad) (fresh slot b) ns bad

-- and code with own slots in which none stands so is covered
abbrev pub FreshIsCovered : Type 0
FreshIsCovered = (slot_of : ℕ → ℕ) (ns : Nodes) → IsOwn slot_of ns → ((b : ℕ) → Each (λ a t. Uses (slot_of b) b a → t ≢ bad) (fresh (slot_of b) b) ns bad) → Covered structured (then_ ns done)

-- where b isn't held on each path, no slot is available for it
abbrev pub UnheldIsUnavailable : Type 0
UnheldIsUnavailable =
    (ns : Nodes) (b : ℕ) → Each (IsDue b) (held b) ns bad
    → EveryAct (λ act k. act_looks b act ≡ true → (slot : ℕ) → Available structured (then_ ns done) slot b k → ⊥) ns done

-- code that is hoisted by its states is so at each point
abbrev pub ThroughoutIsAtPoints : Type 0
ThroughoutIsAtPoints = (ns : Nodes) → HoistedThroughout ns → HoistedAtPoints ns

-- code that is the same without Looks, safepoints, slots and lists has the same bases
abbrev pub BasesAreKept : Type 0
BasesAreKept = (n : ℕ) (ns out : Nodes) → erased out ≡ erased ns → bases_below n out ≡ bases_below n ns

-- each base has a slot of its own, and there are no more slots than bases
abbrev pub SlotsAreOwn : Type 0
SlotsAreOwn = (bases : List ℕ) → AreApart (slot_in bases) × ((b : ℕ) → IsIn bases b → slot_in bases b < length bases)
