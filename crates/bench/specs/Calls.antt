-- A journal of calls, which the program puts under a lock.
use Rattle.std.specs.Prelude.{◌≡◌, ℕ, Bool, nat_lt, if◌then◌else◌, List, [], ◌∷◌, length}
use Rattle.ak_trace.specs.declared.entry.Entry.{Entry}
use Rattle.ak_trace.specs.Log.{Log}
use Rattle.ak_trace.specs.Kinds.{out}
use Rattle.turn_lock.specs.Histories.{of_worker}
use Rattle.turn_lock.specs.inner.Own.{own_if}

-- the journal has just these entries and this limit
abbrev pub IsJournal : (limit : ℕ) → List Entry → Log → Type 0
IsJournal limit log journal = (journal.entries ≡ log) × (journal.limit ≡ limit)

-- the entry of a worker's call
abbrev pub call_entry : ℕ → Entry
call_entry worker = record { kind = out; worker = worker; thread = 0; how = 0; local = 0; zero = 0; id = 0; place = 0 }

-- the journal is not full
abbrev pub has_room : Log → Bool
has_room journal = nat_lt (length journal.entries) journal.limit

-- the entry of the call, if the journal has room for it
abbrev pub entries_left : Log → ℕ → List Entry
entries_left journal worker = if has_room journal then call_entry worker ∷ [] else []

-- which is the worker's own
pub left_own : (journal : Log) (worker : ℕ) → of_worker worker (entries_left journal worker) ≡ entries_left journal worker
left_own journal worker = own_if (has_room journal) (call_entry worker)
