-- What the instructions of each function keep.
use Rattle.std.specs.Prelude.{◌≡◌, ℕ, ◌+◌, ◌-◌, ◌<◌, ◌≤◌, List, length, Option, Some, None, Bool, true, false, slice_get, is_some}
use Rattle.std.specs.List.{AllByRecursion}
use Rattle.struct_ir.specs.Nodes.{Call, Act, set, call, step, look, safepoint, begin_object, end_object, act_is_call}
use Rattle.struct_ir.specs.Flow.{Shrinks}
use Rattle.struct_ir.specs.Instrs.{Instr, acts, unless, jump, round_to, leave, LinearFunc}
use Rattle.struct_ir.specs.Linear.{linear}
use Rattle.struct_ir.specs.Valid.{is_the_list}

-- a later index of the instructions
abbrev pub IsLater : List Instr → ℕ → ℕ → Type 0
IsLater code at to = (at < to) × (to < length code)

-- the list of an act that is a safepoint
abbrev pub safepoint_list : Act → Option (List ℕ)
safepoint_list (set to calc) = None
safepoint_list (call c) = None
safepoint_list (step s) = None
safepoint_list (look slot base) = None
safepoint_list (safepoint slots) = Some slots
safepoint_list (begin_object i) = None
safepoint_list (end_object i) = None

-- the list of an instruction that is a safepoint
abbrev pub safe_list : Option Instr → Option (List ℕ)
safe_list None = None
safe_list (Some (acts place a)) = safepoint_list a
safe_list (Some (unless place temp to)) = None
safe_list (Some (jump place to)) = None
safe_list (Some (round_to place to)) = None
safe_list (Some (leave place temp)) = None

-- the instruction returns
abbrev pub is_leave : Option Instr → Bool
is_leave None = false
is_leave (Some (acts place a)) = false
is_leave (Some (unless place temp to)) = false
is_leave (Some (jump place to)) = false
is_leave (Some (round_to place to)) = false
is_leave (Some (leave place temp)) = true

-- the list of a safepoint at an index
abbrev pub list_at_index : List Instr → ℕ → Option (List ℕ)
list_at_index code at = safe_list (slice_get code at)

-- a safepoint stands directly before the index
abbrev pub IsBehindSafepoint : List Instr → ℕ → Type 0
IsBehindSafepoint code at = (0 < at) × (is_some (list_at_index code (at - 1)) ≡ true)

-- a safepoint of this list stands directly before the index, and a safepoint directly behind it
abbrev pub IsBetweenSafepoints : List Instr → ℕ → List ℕ → Type 0
IsBetweenSafepoints code at slots = (0 < at) × (is_the_list (list_at_index code (at - 1)) slots ≡ true) × (is_some (list_at_index code (at + 1)) ≡ true)

-- a round goes back there, or a call is entered: lawful code comes to such an instruction over the safepoint before it alone
abbrev pub is_guarded : Option Instr → Bool
is_guarded None = false
is_guarded (Some (acts place a)) = act_is_call a
is_guarded (Some (unless place temp to)) = false
is_guarded (Some (jump place to)) = false
is_guarded (Some (round_to place to)) = true
is_guarded (Some (leave place temp)) = false

-- no jump, test or round leads to such an instruction, past the safepoint before it
pub record PassesSafepoints (code : List Instr) : Type 0 where
  pub jumps : (at place to : ℕ) → slice_get code at ≡ Some (jump place to) → is_guarded (slice_get code to) ≡ false
  pub tests : (at place temp to : ℕ) → slice_get code at ≡ Some (unless place temp to) → is_guarded (slice_get code to) ≡ false
  pub rounds : (at place to : ℕ) → slice_get code at ≡ Some (round_to place to) → is_guarded (slice_get code to) ≡ false

-- jumps, tests and acts go on at later instructions; a round goes back from directly behind a safepoint; a call stands directly behind
-- a safepoint, whose list it carries, and directly before another; nothing leads past those safepoints; the last instruction returns
pub record IsLawful (code : List Instr) : Type 0 where
  pub jumps : (at place to : ℕ) → slice_get code at ≡ Some (jump place to) → IsLater code at to
  pub tests : (at place temp to : ℕ) → slice_get code at ≡ Some (unless place temp to) → IsLater code at to × IsLater code at (at + 1)
  pub behind_acts : (at place : ℕ) (a : Act) → slice_get code at ≡ Some (acts place a) → IsLater code at (at + 1)
  pub calls : (at place : ℕ) (c : Call) → slice_get code at ≡ Some (acts place (call c)) → IsBetweenSafepoints code at c.slots
  pub rounds : (at place to : ℕ) → slice_get code at ≡ Some (round_to place to) → (to ≤ at) × IsBehindSafepoint code at
  pub safepoints : PassesSafepoints code
  pub last : (0 < length code) × (is_leave (slice_get code (length code - 1)) ≡ true)

-- so does each function
abbrev pub AllLawful : List LinearFunc → Type 0
AllLawful funcs = AllByRecursion (λ (f : LinearFunc). IsLawful f.instrs) funcs

-- in lawful code what is left to do gets less
abbrev pub LawfulCodeShrinks : Type 0
LawfulCodeShrinks = (funcs : List LinearFunc) → AllLawful funcs → Shrinks (linear funcs)
