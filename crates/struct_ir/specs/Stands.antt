-- Where structured code stands in linear code.
use Rattle.std.specs.Prelude.{◌≡◌, ℕ, ◌+◌, List, Bool, true, false, Some, None, slice_get, ◌⊎◌}
use Rattle.struct_ir.specs.Nodes.{Act, Node, plain, if_, loop, break_, next_, ret, Nodes, no_nodes, more_nodes}
use Rattle.struct_ir.specs.Flow.{returns}
use Rattle.struct_ir.specs.Structured.{Position, done, then_, in_body, in_latch}
use Rattle.struct_ir.specs.Instrs.{Instr, acts, unless, jump, round_to, leave, LinearFunc, instrs_of}
use Rattle.struct_ir.specs.Linear.{Spot, here_in}
use Rattle.struct_ir.specs.Marks.{is_lifetime_mark}

-- an act has one instruction; the beginning and the end of a stack object have none
abbrev pub ActLies : (mark : Bool) → List Instr → (place : ℕ) → Act → (at end : ℕ) → Type 0
ActLies true code place a at end = end ≡ at
ActLies false code place a at end = (slice_get code at ≡ Some (acts place a)) × (end ≡ at + 1)

-- the instructions of a node stand from at up to end, and those of nodes in a row one after the other; Break goes on at out, and Next at next.
-- An If goes on behind its first row, or else with its second, behind which it ends. A loop is its body and then its step, to which Next
-- leads and behind which the round goes back; Break leads behind the round.
abbrev mutual
  pub NodeLies : List Instr → Node → (at end out next : ℕ) → Type 0
  NodeLies code (plain place a) at end out next = ActLies (is_lifetime_mark a) code place a at end
  NodeLies code (if_ place temp one other) at end out next =
      (other_at : ℕ) × (slice_get code at ≡ Some (unless place temp (other_at + 1))) × Lies code one (at + 1) other_at out next
      × (slice_get code other_at ≡ Some (jump place end)) × Lies code other (other_at + 1) end out next
  NodeLies code (loop place body latch) at end out next =
      (latch_at round_at : ℕ) × Lies code body at latch_at (round_at + 1) latch_at × Lies code latch latch_at round_at (round_at + 1) round_at
      × (slice_get code round_at ≡ Some (round_to place at)) × (end ≡ round_at + 1)
  NodeLies code (break_ place) at end out next = (slice_get code at ≡ Some (jump place out)) × (end ≡ at + 1)
  NodeLies code (next_ place) at end out next = (slice_get code at ≡ Some (jump place next)) × (end ≡ at + 1)
  NodeLies code (ret place temp) at end out next = (slice_get code at ≡ Some (leave place temp)) × (end ≡ at + 1)

  pub Lies : List Instr → Nodes → (at end out next : ℕ) → Type 0
  Lies code no_nodes at end out next = end ≡ at
  Lies code (more_nodes n rest) at end out next = (behind : ℕ) × NodeLies code n at behind out next × Lies code rest behind end out next

-- one index is the other, or a jump to it stands there
abbrev pub Joins : List Instr → ℕ → ℕ → Type 0
Joins code at to = (at ≡ to) ⊎ ((place : ℕ) × (slice_get code at ≡ Some (jump place to)))

-- the position stands at this index; Break goes on at out from there, and Next at next
abbrev pub Stands : List Instr → Position → (at out next : ℕ) → Type 0
Stands code done at out next = (here_in code at ≡ returns None) × (out ≡ at) × (next ≡ at)
Stands code (then_ nodes k) at out next = (end behind : ℕ) × Lies code nodes at end out next × Joins code end behind × Stands code k behind out next
Stands code (in_body body latch k) at out next =
    (place start round_at out' next' : ℕ) × Lies code body start at (round_at + 1) at × Lies code latch at round_at (round_at + 1) round_at
    × (slice_get code round_at ≡ Some (round_to place start)) × (next ≡ at) × (out ≡ round_at + 1) × Stands code k (round_at + 1) out' next'
Stands code (in_latch body latch k) at out next =
    (place start latch_at out' next' : ℕ) × Lies code body start latch_at (at + 1) latch_at × Lies code latch latch_at at (at + 1) at
    × (slice_get code at ≡ Some (round_to place start)) × (next ≡ at) × (out ≡ at + 1) × Stands code k (at + 1) out' next'

-- it stands there, wherever Break and Next go on
pub record StandsAt (code : List Instr) (at : ℕ) (k : Position) : Type 0 where
  pub out : ℕ
  pub next : ℕ
  pub stands : Stands code k at out next

-- the position stands at this index of this function
abbrev pub StandsIn : List LinearFunc → Position → Spot → Type 0
StandsIn funcs k p = StandsAt (instrs_of funcs p.function) p.index k
