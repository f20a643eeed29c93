-- What contracts see of a lock and its passes.
use Rattle.std.specs.Prelude.{◌≡◌, ℕ, ◌<◌, ◌≤◌, List, [], ◌++◌, slice_get, Some}
use Rattle.crossbeam_utils.specs.Padded.{padded_value}
use Rattle.ak_trace.specs.declared.entry.Entry.{Entry}
use Rattle.turn_lock.specs.declared.lock.Pass.{Pass}
use Rattle.turn_lock.specs.declared.lock.TurnLock.{TurnLock}
use Rattle.ak_words.specs.Prefix.{IsPrefix}
use Rattle.turn_lock.specs.Histories.{of_worker}

module _ {O : Type 0} where
  -- the history as the pass last saw it, at the end of its last call
  abbrev pub seen_of : Pass O → List Entry
  seen_of p = p.place.me.0.seen

  -- the entries of the pass's own calls
  abbrev pub own_of : Pass O → List Entry
  own_of p = p.place.me.0.own

  -- the pass's number, which is its worker's
  abbrev pub worker_of : Pass O → ℕ
  worker_of p = padded_value p.number

  -- no call of these passes was made
  abbrev pub AllNew : List (Pass O) → Type 0
  AllNew passes = (k : ℕ) (p : Pass O) → slice_get passes k ≡ Some p → (seen_of p ≡ []) × (own_of p ≡ [])

  -- for each pass, the log has just the pass's own entries of its number, and begins with what the pass had seen
  abbrev pub Accounts : List Entry → List (Pass O) → Type 0
  Accounts log passes = (k : ℕ) (p : Pass O) → slice_get passes k ≡ Some p → (of_worker k log ≡ own_of p) × IsPrefix (seen_of p) log

module _ {O Call Reply : Type 0} where
  -- the object as the lock was made with it
  abbrev pub first_of : TurnLock O Call Reply → O
  first_of lock = lock.board.shared.key.value

  -- how many passes the lock has
  abbrev pub passes_of : TurnLock O Call Reply → ℕ
  passes_of lock = lock.count

  -- it is a pass of this lock
  abbrev pub IsPassOf : TurnLock O Call Reply → Pass O → Type 0
  IsPassOf lock p = (p.place.table_id ≡ lock.board.shared.table_id) × (worker_of p < lock.count) × (worker_of p ≡ 0 → p.place.me.0.made ≡ lock.count)

  -- they are passes of this lock, each at its number
  abbrev pub AllPasses : TurnLock O Call Reply → List (Pass O) → Type 0
  AllPasses lock passes = (k : ℕ) (p : Pass O) → slice_get passes k ≡ Some p → IsPassOf lock p × (worker_of p ≡ k)

-- One call in the history. Before it stands all that the pass had seen, and then entries of others; these lead to the state, in which the call answers the reply.
-- The pass then has seen all of that and the call's entries, which alone are new among its own
pub record MakesCall {O Call Reply : Type 0} (replays : List Entry → O → Type 0) (reply_of : O → ℕ → Call → Reply) (entries_of : O → ℕ → Call → List Entry) (before : Pass O) (call : Call) (reply : Reply) (after : Pass O) : Type 0 where
  pub state : O
  pub others : List Entry
  pub of_others : of_worker (worker_of before) others ≡ []
  pub leads : replays (seen_of before ++ others) state
  pub answers : reply ≡ reply_of state (worker_of before) call
  pub seen : seen_of after ≡ (seen_of before ++ others) ++ entries_of state (worker_of before) call
  pub own : own_of after ≡ own_of before ++ entries_of state (worker_of before) call

-- The whole history of a lock with so many passes: it leads to the object, begins with what each pass had seen, and has just the passes' own entries
pub record ClosesAs {O : Type 0} (replays : List Entry → O → Type 0) (count : ℕ) (passes : List (Pass O)) (object : O) : Type 0 where
  pub log : List Entry
  pub leads : replays log object
  pub accounts : Accounts log passes
  pub no_others : (k : ℕ) → count ≤ k → of_worker k log ≡ []
