-- The marks of Looks: what a path says of a pin slot and of a register, as a yes or no that acts change.
use Rattle.std.specs.Prelude.{◌≡◌, ℕ, true, ◌||◌, ◌&&◌, not, if◌then◌else◌}
use Rattle.struct_ir.specs.Nodes.{Act, Nodes, list_of}
use Rattle.struct_ir.specs.Pins.{lacks_if}
use Rattle.pin_flow.specs.Marks.{Mark, AllPaths, bad, Each}
use Rattle.pin_flow.specs.Looks.{act_looks, act_assigns, looks_into, loops_assign}

-- b was looked up, into whichever slot, and not assigned since
abbrev pub held : (b : ℕ) → Mark
held b a v = act_looks b a || (not (act_assigns b a) && v)

-- a Look into the slot came
abbrev pub filled : (slot : ℕ) → Mark
filled slot a v = looks_into slot a || v

-- a Look into the slot came, and the last one was of b
abbrev pub filled_for : (slot b : ℕ) → Mark
filled_for slot b a v = if looks_into slot a then act_looks b a else v

-- the last Look into the slot is of b, and b wasn't assigned since
abbrev pub fresh : (slot b : ℕ) → Mark
fresh slot b a v = if looks_into slot a then act_looks b a else (not (act_assigns b a) && v)

-- the last Look into the slot is of b, b wasn't assigned since, and each list since has the slot
abbrev pub pinned : (slot b : ℕ) → Mark
pinned slot b a v = if looks_into slot a then act_looks b a else (not (act_assigns b a) && (not (lacks_if slot (list_of a)) && v))

-- ---- hoisted, told by states

-- where the act is a Look of b, some path that comes there doesn't hold b
abbrev pub IsDue : (b : ℕ) → Act → AllPaths → Type 0
IsDue b a t = act_looks b a ≡ true → t ≡ bad

-- no Look in a loop is of a register that the loop doesn't assign, and each Look is due by the paths that come to it in its own place, also
-- where the same stands behind two branches
pub record HoistedThroughout (all : Nodes) : Type 0 where
  pub out_of_loops : (b : ℕ) → loops_assign b all ≡ true
  pub due : (b : ℕ) → Each (IsDue b) (held b) all bad
