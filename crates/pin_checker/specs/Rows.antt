-- Small codes, and for which reasons their accesses fail.
use Rattle.std.specs.Prelude.{◌≡◌, ℕ, List, [], ◌∷◌, map, Some, None, Bool, true, false}
use Rattle.block_store.specs.declared.values.Access.TheVariants.{Pointer}
use Rattle.struct_ir.specs.Nodes.{Place, Act, set, null, step, look, safepoint, call, load, Node, plain, loop, Nodes, no_nodes, more_nodes}
use Rattle.struct_ir.specs.Structured.{Position, done, then_, structured}
use Rattle.pin_checker.specs.declared.fault.Why.{Why}
use Rattle.pin_checker.specs.declared.fault.Why.TheVariants.{BadTemp, NoLook, StaleLook, NotPinned}
use Rattle.pin_checker.specs.Faults.{fails_through, is_guarded}

-- behind acts, the last one first
abbrev pub behind : List Act → List Position
behind acts = map (λ a. then_ (more_nodes (plain 0 a) no_nodes) done) acts

-- through slot 0, with register 1 as its base
abbrev pub access : Place
access = record { base = 1; index = None; scale = 1; offset = 0; slot = Some 0 }

-- an access that doesn't wait
abbrev pub reads : Act
reads = step (record { action = load Pointer; places = access ∷ []; to = Some 2; temps = []; slots = [] })

-- one whose step has a list
abbrev pub waits : List ℕ → Act
waits slots = step (record { action = Rattle.struct_ir.specs.Nodes.join; places = access ∷ []; to = None; temps = 0 ∷ []; slots = slots })

-- the reading act fails behind these
abbrev pub read_fails : List Act → Why → Bool
read_fails acts why = fails_through structured (behind acts) reads 1 (Some 0) why

-- a call that lists these slots
abbrev pub calls : List ℕ → Act
calls slots = call (record { to = Some 1; function = 0; temps = []; slots = slots })

-- a row of one node
abbrev pub one : Node → Nodes
one n = more_nodes n no_nodes

-- for which reasons a read fails behind these acts, and loops and calls with their lists
pub record RowsHold : Type 0 where
  -- without a Look
  pub no_look : read_fails [] NoLook ≡ true
  -- behind a Look of the base, for no reason
  pub not_other : read_fails (look 0 1 ∷ []) BadTemp ≡ false
  pub not_none : read_fails (look 0 1 ∷ []) NoLook ≡ false
  pub not_stale : read_fails (look 0 1 ∷ []) StaleLook ≡ false
  pub not_lacking : read_fails (look 0 1 ∷ []) NotPinned ≡ false
  -- behind one of another register
  pub other : read_fails (look 0 2 ∷ look 0 1 ∷ []) BadTemp ≡ true
  -- and one into another slot is none
  pub another_slot : read_fails (look 1 1 ∷ []) NoLook ≡ true
  -- behind an assignment, by a register's setting or by a call, and not behind that of another register
  pub stale : read_fails (set 1 null ∷ look 0 1 ∷ []) StaleLook ≡ true
  pub stale_by_call : read_fails (calls (0 ∷ []) ∷ look 0 1 ∷ []) StaleLook ≡ true
  pub fresh : read_fails (set 2 null ∷ look 0 1 ∷ []) StaleLook ≡ false
  pub fresh_again : read_fails (look 0 1 ∷ set 1 null ∷ []) StaleLook ≡ false
  -- behind a list that lacks the slot, and not behind one that has it
  pub lacking : read_fails (safepoint (1 ∷ []) ∷ look 0 1 ∷ []) NotPinned ≡ true
  pub listed : read_fails (safepoint (1 ∷ 0 ∷ []) ∷ look 0 1 ∷ []) NotPinned ≡ false
  pub lacking_in_call : read_fails (calls [] ∷ look 0 1 ∷ []) NotPinned ≡ true
  -- with a list of its own
  pub lacking_itself : fails_through structured (behind (look 0 1 ∷ [])) (waits []) 1 (Some 0) NotPinned ≡ true
  pub listed_itself : fails_through structured (behind (look 0 1 ∷ [])) (waits (0 ∷ [])) 1 (Some 0) NotPinned ≡ false
  -- without a slot
  pub bare : fails_through structured (behind (look 0 1 ∷ [])) reads 1 None NoLook ≡ true
  -- a call needs a safepoint before it, with its list, and one behind it
  pub guarded : is_guarded (Some (0 ∷ [])) (plain 0 (calls (0 ∷ []))) (one (plain 0 (safepoint []))) ≡ true
  pub unguarded_before : is_guarded None (plain 0 (calls (0 ∷ []))) (one (plain 0 (safepoint []))) ≡ false
  pub unguarded_behind : is_guarded (Some (0 ∷ [])) (plain 0 (calls (0 ∷ []))) no_nodes ≡ false
  -- a loop's latch ends in one
  pub guarded_loop : is_guarded None (loop 0 no_nodes (one (plain 0 (safepoint [])))) no_nodes ≡ true
  pub unguarded_loop : is_guarded None (loop 0 (one (plain 0 (safepoint []))) no_nodes) no_nodes ≡ false
